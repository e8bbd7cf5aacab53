-- What a plan asks of each client, as data.
use Rattle.std.specs.Prelude.{◌≡◌, ℕ, ◌+◌, ◌<◌, ◌≤◌, true, false, List, length, map, take, count_by, All}
use Rattle.std.specs.List.{range_with_len}
use Rattle.quorum_rules.specs.Limits.{Numbers}
use Rattle.wire_forms.specs.Liars.{has_number}
use Rattle.protocol.specs.Messages.{Message, IsFormedBody, IsAsk}
use Rattle.block_device.specs.Steps.{Fits}
use Rattle.plan_words.specs.declared.fault.Fault.{Fault}
use Rattle.plan_words.specs.declared.plan.Plan.{Plan}
use Rattle.plan_words.specs.Named.{is_phase}
use Rattle.plan_followed.specs.Asked.{steps_for, first_phases, drops, holds, client_crash, messages}
use Rattle.client_duties.specs.Phases.{all_steps}
use Rattle.client_duties.specs.declared.task.Ways.{Ways}
use Rattle.client_duties.specs.declared.task.ClientTask.{ClientTask}
use Rattle.client_duties.specs.declared.task.Task.{Task}
use Rattle.client_duties.specs.declared.task.Task.TheVariants.{Client, Liar}

-- the client that a task is for
abbrev pub client_of : Task → ℕ
client_of (Client task) = task.client
client_of (Liar client mail) = client

-- what goes wrong with a client's asks to a node
abbrev pub ways_of : List Fault → ℕ → ℕ → Ways
ways_of rules c i = record { drops = drops rules c i; holds = holds rules c i }

-- the task of a correct client: its steps phase by phase, each of which fits the cluster, and what goes wrong with it
pub record IsClientTask (plan : Plan) (t : ClientTask) : Type 0 where
  pub correct : has_number plan.liars.clients t.client ≡ false
  pub count : length t.phases ≡ count_by is_phase plan.work + 1
  pub steps : (k : ℕ) → all_steps (take k t.phases) ≡ steps_for plan.config t.client (first_phases k plan.work)
  pub all : all_steps t.phases ≡ steps_for plan.config t.client plan.work
  pub few : length (all_steps t.phases) ≤ 4000
  pub fit : All (All (Fits plan.config)) t.phases
  pub ways : t.ways ≡ map (ways_of plan.rules t.client) (range_with_len 0 plan.config.n)
  pub crash : t.crash_after ≡ client_crash plan.rules t.client

-- an ask of the client to one of the nodes, well formed
pub record IsSendable (config : Numbers) (c : ℕ) (m : Message) : Type 0 where
  pub own : m.client ≡ c
  pub node : m.node < config.n
  pub asks : IsAsk m.body
  pub formed : IsFormedBody m.body

-- the task of a lying client: its messages, in order
pub record IsLiarTask (plan : Plan) (c : ℕ) (mail : List Message) : Type 0 where
  pub lying : has_number plan.liars.clients c ≡ true
  pub sends : mail ≡ messages plan.config plan.rules c
  pub each : All (IsSendable plan.config c) mail

-- the task is one that the plan has
abbrev pub IsTaskOf : Plan → Task → Type 0
IsTaskOf plan (Client task) = IsClientTask plan task
IsTaskOf plan (Liar client mail) = IsLiarTask plan client mail
