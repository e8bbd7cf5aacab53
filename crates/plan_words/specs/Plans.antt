-- Which plans there are.
use Rattle.std.specs.Prelude.{◌≡◌, ℕ, ◌+◌, ◌*◌, ◌/◌, ◌^◌, ◌≤◌, ◌<◌, true, false, min, List, length, count_by, sum_by, nat_eq, Option, Some, None}
use Rattle.std.specs.List.{AllByRecursion, IsDistinct}
use Rattle.std.specs.Set.{is_member, distinct_count}
use Rattle.quorum_rules.specs.Limits.{Numbers, IsValid}
use Rattle.text_lines.specs.Fields.{IsBytes}
use Rattle.wire_forms.specs.declared.op.Op.{Op}
use Rattle.wire_forms.specs.declared.op.Op.TheVariants.{Read, Write}
use Rattle.wire_forms.specs.declared.device.DeviceOp.{DeviceOp}
use Rattle.wire_forms.specs.declared.device.DeviceOp.TheVariants.{Get, Put}
use Rattle.line_forms.specs.declared.cause.DeviceFault.{DeviceFault}
use Rattle.wire_forms.specs.Liars.{IsClientNumber}
use Rattle.event_lines.specs.Lines.{IsNode, IsBlock, IsValue}
use Rattle.block_device.specs.Ranges.{fault_of}
use Rattle.block_device.specs.Steps.{steps_of}
use Rattle.plan_words.specs.declared.fault.Fault.{Fault}
use Rattle.plan_words.specs.declared.fault.Fault.TheVariants.{LiarNode, LiarSound, LiarMix, LiarFlood, CrashNode, CrashClient, Lose, Hold}
use Rattle.plan_words.specs.declared.job.Job.{Job}
use Rattle.plan_words.specs.declared.job.Job.TheVariants.{Block, Device, Phase}
use Rattle.plan_words.specs.declared.plan.Plan.{Plan}
use Rattle.plan_words.specs.Named.{lying_nodes, faulty_nodes, lying_clients, crashing_clients, asking_clients, clients, dropped_pairs, held_pairs, pair_eq, liars_of, is_flood, is_phase}

-- ---- rules and jobs one by one: their numbers are in their ranges, and their values have the length of a block

abbrev pub IsFault : Numbers → Fault → Type 0
IsFault c (LiarNode node rule) = IsNode c node
IsFault c (LiarSound client block time value count) = IsClientNumber client × IsBlock c block × (time < 2 ^ 64) × IsValue c value × (count ≤ c.n)
IsFault c (LiarMix client block time value other count) = IsClientNumber client × IsBlock c block × (time < 2 ^ 64) × IsValue c value × IsValue c other × (count ≤ c.n)
IsFault c (LiarFlood client block time value other count) = IsClientNumber client × IsBlock c block × (time < 2 ^ 64) × IsValue c value × IsValue c other × (count ≤ 250) × (count ≤ time)
IsFault c (CrashNode node count) = IsNode c node × (count ≤ 1000)
IsFault c (CrashClient client count) = IsClientNumber client × (count ≤ 1000)
IsFault c (Lose client node count) = IsClientNumber client × IsNode c node × (count ≤ 1000)
IsFault c (Hold client node count) = IsClientNumber client × IsNode c node × (count ≤ 1000)

abbrev pub IsOp : Numbers → Op → Type 0
IsOp c (Read block) = IsBlock c block
IsOp c (Write block value) = IsBlock c block × IsValue c value

-- whether the device has the range is another question
abbrev pub IsCommand : DeviceOp → Type 0
IsCommand (Get offset length) = (offset < 2 ^ 64) × (length < 2 ^ 64)
IsCommand (Put offset bytes) = (offset < 2 ^ 64) × IsBytes bytes

abbrev pub IsJob : Numbers → Job → Type 0
IsJob c (Block client op) = IsClientNumber client × IsOp c op
IsJob c (Device client op) = IsClientNumber client × IsCommand op
IsJob c Phase = Unit {0}

-- why the device refuses a job's command, if it does
abbrev pub device_fault : Numbers → Job → Option DeviceFault
device_fault c (Device client op) = fault_of c op
device_fault c _ = None

abbrev pub steps_unless : Numbers → DeviceOp → Option DeviceFault → ℕ
steps_unless c op None = length (steps_of c op)
steps_unless c op (Some fault) = 0

-- how many block operations a job is; a command that the device refuses is none
abbrev pub step_count : Numbers → Job → ℕ
step_count c (Block client op) = 1
step_count c (Device client op) = steps_unless c op (fault_of c op)
step_count c Phase = 0

-- ---- plans

-- how many block operations a plan may have
abbrev pub step_limit : Numbers → ℕ
step_limit c = min 4000 (500000000 / (c.n * (c.size + 32 * c.n + 128)))

-- no node lies or crashes by two rules, no client crashes by two, and no two drop, or hold, asks between the same two
pub record NameOnce (rules : List Fault) : Type 0 where
  pub nodes : IsDistinct nat_eq (faulty_nodes rules)
  pub clients : IsDistinct nat_eq (crashing_clients rules)
  pub drops : IsDistinct pair_eq (dropped_pairs rules)
  pub holds : IsDistinct pair_eq (held_pairs rules)

-- there are no more of anything than there may be
pub record AreFew (c : Numbers) (rules : List Fault) (work : List Job) : Type 0 where
  pub lying : length (lying_nodes rules) ≤ c.b
  pub faulty : length (faulty_nodes rules) ≤ c.t
  pub clients : distinct_count nat_eq (clients rules work) ≤ 64
  pub floods : count_by is_flood rules ≤ 8
  pub phases : count_by is_phase work ≤ 64
  pub steps : sum_by (step_count c) work ≤ step_limit c

-- no client that lies makes asks
abbrev pub AreApart : List Fault → List Job → Type 0
AreApart rules work = (k : ℕ) → is_member nat_eq (lying_clients rules) k ≡ true → is_member nat_eq (asking_clients rules work) k ≡ false

-- these rules and this work may stand in one plan
pub record AreFitting (c : Numbers) (rules : List Fault) (work : List Job) : Type 0 where
  pub each_rule : AllByRecursion (IsFault c) rules
  pub each_job : AllByRecursion (IsJob c) work
  pub in_device : AllByRecursion (λ job. device_fault c job ≡ None) work
  pub once : NameOnce rules
  pub few : AreFew c rules work
  pub apart : AreApart rules work

-- the plan is one that can be run: its liars are those that its rules declare
pub record Fits (plan : Plan) : Type 0 where
  pub valid : IsValid plan.config
  pub fitting : AreFitting plan.config plan.rules plan.work
  pub liars : plan.liars ≡ liars_of plan.rules
