-- What a plan asks of each client and of each node.
use Rattle.std.specs.Prelude.{ℕ, zero, suc, ◌-◌, ◌==◌, ◌&&◌, if◌then◌else◌, List, [], ◌∷◌, map, sum_by, Option, slice_get}
use Rattle.std.specs.declared.option.Option.TheVariants.{None, Some}
use Rattle.std.specs.List.{filter_map, flat_map, range_with_len}
use Rattle.quorum_rules.specs.Limits.{Numbers}
use Rattle.wire_forms.specs.declared.rule.Rule.{Rule}
use Rattle.block_device.specs.declared.steps.BlockStep.{BlockStep}
use Rattle.block_device.specs.Ops.{step_of}
use Rattle.block_device.specs.Steps.{steps_of}
use Rattle.protocol.specs.Messages.{Message}
use Rattle.protocol.specs.Instance.{setting}
use Rattle.protocol.specs.Lines.{sound_ask, mix_ask}
use Rattle.plan_words.specs.declared.fault.Fault.{Fault}
use Rattle.plan_words.specs.declared.fault.Fault.TheVariants.{LiarNode, LiarSound, LiarMix, LiarFlood, CrashNode, CrashClient, Lose, Hold}
use Rattle.plan_words.specs.declared.job.Job.{Job}
use Rattle.plan_words.specs.declared.job.Job.TheVariants.{Block, Device, Phase}
use Rattle.journals.specs.declared.node.Nature.{Nature}
use Rattle.journals.specs.declared.node.Nature.TheVariants.{Honest, Lying}
use Rattle.journals.specs.Steps.{Conduct}

-- ---- what a client does

-- a client's steps of a job: an operation is one, and a command has those of its blocks
abbrev pub steps_in : Numbers → ℕ → Job → List BlockStep
steps_in config c (Block client op) = if c == client then step_of op ∷ [] else []
steps_in config c (Device client op) = if c == client then steps_of config op else []
steps_in config c Phase = []

-- all steps of a client, in order
abbrev pub steps_for : Numbers → ℕ → List Job → List BlockStep
steps_for config c work = flat_map (steps_in config c) work

-- the jobs of the first k phases
abbrev pub first_phases : ℕ → List Job → List Job
first_phases zero work = []
first_phases (suc k) [] = []
first_phases (suc k) (Phase ∷ work) = first_phases k work
first_phases (suc k) (Block client op ∷ work) = Block client op ∷ first_phases (suc k) work
first_phases (suc k) (Device client op ∷ work) = Device client op ∷ first_phases (suc k) work

-- ---- what goes wrong between clients and nodes

-- how many of the client's asks to the node are dropped
abbrev pub drops_by : ℕ → ℕ → Fault → ℕ
drops_by c i (Lose client node count) = if (c == client) && (i == node) then count else 0
drops_by c i _ = 0

abbrev pub drops : List Fault → ℕ → ℕ → ℕ
drops rules c i = sum_by (drops_by c i) rules

-- how many are held back
abbrev pub holds_by : ℕ → ℕ → Fault → ℕ
holds_by c i (Hold client node count) = if (c == client) && (i == node) then count else 0
holds_by c i _ = 0

abbrev pub holds : List Fault → ℕ → ℕ → ℕ
holds rules c i = sum_by (holds_by c i) rules

-- the first of these, if there is one
abbrev pub first_of : {A : Type 0} → List A → Option A
first_of xs = slice_get xs 0

-- after how many asks the client crashes, if it is to crash
abbrev pub crash_by : ℕ → Fault → Option ℕ
crash_by c (CrashClient client count) = if c == client then Some count else None
crash_by c _ = None

abbrev pub client_crash : List Fault → ℕ → Option ℕ
client_crash rules c = first_of (filter_map (crash_by c) rules)

-- ---- what lying clients send

-- the messages of a rule, if it is the client's
abbrev pub messages_by : Numbers → ℕ → Fault → List Message
messages_by config c (LiarSound client block time value count) =
    if c == client then map (λ i. sound_ask (setting config) c i block time value) (range_with_len 0 count) else []
messages_by config c (LiarMix client block time value other count) =
    if c == client then map (λ i. mix_ask (setting config) c i block time value other) (range_with_len 0 count) else []
messages_by config c (LiarFlood client block time value other count) =
    if c == client then flat_map (λ k. map (λ i. mix_ask (setting config) c i block (time - k) value other) (range_with_len 0 config.n)) (range_with_len 0 count) else []
messages_by config c _ = []

-- all messages of a lying client, in order
abbrev pub messages : Numbers → List Fault → ℕ → List Message
messages config rules c = flat_map (messages_by config c) rules

-- ---- how nodes behave

-- by which rule the node lies, if it does
abbrev pub rule_by : ℕ → Fault → Option Rule
rule_by i (LiarNode node rule) = if i == node then Some rule else None
rule_by i _ = None

abbrev pub nature_by : Option Rule → Nature
nature_by None = Honest
nature_by (Some rule) = Lying rule

abbrev pub nature : List Fault → ℕ → Nature
nature rules i = nature_by (first_of (filter_map (rule_by i) rules))

-- after how many asks the node crashes, if it is to crash
abbrev pub crash_after_by : ℕ → Fault → Option ℕ
crash_after_by i (CrashNode node count) = if i == node then Some count else None
crash_after_by i _ = None

abbrev pub crash_after : List Fault → ℕ → Option ℕ
crash_after rules i = first_of (filter_map (crash_after_by i) rules)

-- who lies by which rule, and who crashes when
abbrev pub conduct_of : List Fault → Conduct
conduct_of rules = record { nature = nature rules; crash_after = crash_after rules }
