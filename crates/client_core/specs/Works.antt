-- What a client does: the operation under way, and what an answer does to it.
use Rattle.std.specs.Prelude.{◌≡◌, ℕ, ◌<◌, ◌^◌, Option, IsSome}
use Rattle.std.specs.declared.option.Option.TheVariants.{None, Some}
use Rattle.quorum_rules.specs.Limits.{Numbers}
use Rattle.stamp_order.specs.declared.Stamp.{Stamp}
use Rattle.wire_forms.specs.Firsts.{first_of}
use Rattle.protocol.specs.Seen.{SeenTask, SeenOperation}
use Rattle.client_core.specs.declared.client.Work.{Work}
use Rattle.client_core.specs.declared.client.Work.TheVariants.{Idle, Writing, Reading}

-- the operation under way, or none
abbrev pub task_of : Work → Option SeenTask
task_of Idle = None
task_of (Writing o) = o.task
task_of (Reading r) = r.operation.task

-- an operation of this client, which isn't over
pub record IsOwn (config : Numbers) (id : ℕ) (o : SeenOperation) : Type 0 where
  pub cluster : o.config ≡ config
  pub client : o.client ≡ id
  pub under_way : IsSome o.task

-- nothing, a write or a read of this client
abbrev pub IsWork : Numbers → ℕ → Work → Type 0
IsWork config id Idle = Unit {0}
IsWork config id (Writing o) = IsOwn config id o
IsWork config id (Reading r) = IsOwn config id r.operation

-- the stamp is that of the cluster's first version, the lives and operations are numbers of 32 bits, and the operation under way is
-- the client's own
pub record IsClient (config : Numbers) (first : Stamp) (id life started : ℕ) (work : Work) : Type 0 where
  pub first_stamp : first ≡ (first_of config).stamp
  pub lives : life < 2 ^ 32
  pub starts : started < 2 ^ 32
  pub own : IsWork config id work

-- this operation of the client has begun
pub record HasBegun (config : Numbers) (id : ℕ) (t : SeenTask) (work : Work) : Type 0 where
  pub own : IsWork config id work
  pub task : task_of work ≡ Some t
