-- The lines of a plan, and their texts.
use Rattle.std.specs.Prelude.{◌≡◌, ℕ, List, [], ◌∷◌, codes, decimal}
use Rattle.quorum_rules.specs.Limits.{Numbers}
use Rattle.text_lines.specs.Lines.{line_of_fields}
use Rattle.text_lines.specs.Fields.{value_text}
use Rattle.wire_forms.specs.declared.op.Op.{Op}
use Rattle.wire_forms.specs.declared.op.Op.TheVariants.{Read, Write}
use Rattle.wire_forms.specs.declared.device.DeviceOp.{DeviceOp}
use Rattle.wire_forms.specs.declared.device.DeviceOp.TheVariants.{Get, Put}
use Rattle.event_lines.specs.Lines.{rule_text}
use Rattle.plan_words.specs.declared.fault.Fault.{Fault}
use Rattle.plan_words.specs.declared.fault.Fault.TheVariants.{LiarNode, LiarSound, LiarMix, LiarFlood, CrashNode, CrashClient, Lose, Hold}
use Rattle.plan_words.specs.declared.job.Job.{Job}
use Rattle.plan_words.specs.declared.job.Job.TheVariants.{Block, Device, Phase}
use Rattle.plan_words.specs.Plans.{IsFault, IsJob}
use Rattle.plan_words.specs.declared.line.PlanLine.{PlanLine}
use Rattle.plan_words.specs.declared.line.PlanLine.TheVariants.{Rule, Work}

-- a line that may stand in a plan for such a cluster, whatever other lines say
abbrev pub IsPlanLine : Numbers → PlanLine → Type 0
IsPlanLine c (Rule fault) = IsFault c fault
IsPlanLine c (Work job) = IsJob c job

abbrev pub rule_fields : Fault → List (List ℕ)
rule_fields (LiarNode node rule) = codes "liar" ∷ codes "node" ∷ decimal node ∷ rule_text rule ∷ []
rule_fields (LiarSound client block time value count) = codes "liar" ∷ codes "client" ∷ decimal client ∷ codes "sound" ∷ decimal block ∷ decimal time ∷ value_text value ∷ decimal count ∷ []
rule_fields (LiarMix client block time value other count) = codes "liar" ∷ codes "client" ∷ decimal client ∷ codes "mix" ∷ decimal block ∷ decimal time ∷ value_text value ∷ value_text other ∷ decimal count ∷ []
rule_fields (LiarFlood client block time value other count) = codes "liar" ∷ codes "client" ∷ decimal client ∷ codes "flood" ∷ decimal block ∷ decimal time ∷ value_text value ∷ value_text other ∷ decimal count ∷ []
rule_fields (CrashNode node count) = codes "crash" ∷ codes "node" ∷ decimal node ∷ decimal count ∷ []
rule_fields (CrashClient client count) = codes "crash" ∷ codes "client" ∷ decimal client ∷ decimal count ∷ []
rule_fields (Lose client node count) = codes "drop" ∷ decimal client ∷ decimal node ∷ decimal count ∷ []
rule_fields (Hold client node count) = codes "hold" ∷ decimal client ∷ decimal node ∷ decimal count ∷ []

abbrev pub op_fields : ℕ → Op → List (List ℕ)
op_fields client (Read block) = codes "read" ∷ decimal client ∷ decimal block ∷ []
op_fields client (Write block value) = codes "write" ∷ decimal client ∷ decimal block ∷ value_text value ∷ []

abbrev pub command_fields : ℕ → DeviceOp → List (List ℕ)
command_fields client (Get offset length) = codes "get" ∷ decimal client ∷ decimal offset ∷ decimal length ∷ []
command_fields client (Put offset bytes) = codes "put" ∷ decimal client ∷ decimal offset ∷ value_text bytes ∷ []

abbrev pub job_fields : Job → List (List ℕ)
job_fields (Block client op) = op_fields client op
job_fields (Device client op) = command_fields client op
job_fields Phase = codes "phase" ∷ []

abbrev pub line_fields : PlanLine → List (List ℕ)
line_fields (Rule fault) = rule_fields fault
line_fields (Work job) = job_fields job

-- the text of a line, its newline aside
abbrev pub line_text : PlanLine → List ℕ
line_text line = line_of_fields (line_fields line)

-- a line that has these fields
abbrev pub IsSpelled : Numbers → List (List ℕ) → PlanLine → Type 0
IsSpelled c fields line = IsPlanLine c line × (line_fields line ≡ fields)
