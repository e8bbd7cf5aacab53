-- What holds in every world of a run, fact by fact.
use Rattle.std.specs.Prelude.{Option, List, ◌++◌, ◌≡◌, ◌⊎◌, ◌↔◌, ℕ, ◌<◌, ◌≤◌, true, false, Bool, slice_get}
use Rattle.std.specs.declared.option.Option.TheVariants.{None, Some}
use Rattle.std.specs.List.{Contains}
use Rattle.stamp_order.specs.declared.Stamp.{Stamp}
use Rattle.stamp_order.specs.declared.Bound.{Bound}
use Rattle.stamp_order.specs.Stamps.{has, ◌≼◌}
use Rattle.protocol.specs.Messages.{Version, Ask, Reply, Message}
use Rattle.wire_forms.specs.declared.Request.TheVariants.{Time, Read, Write}
use Rattle.wire_forms.specs.declared.Reply.TheVariants.{TimeIs, Found, Nothing, Ack, Refused}
use Rattle.wire_forms.specs.declared.Body.TheVariants.{Ask as Asks}
use Rattle.protocol.specs.Count.{count}
use Rattle.protocol.specs.Setting.{Setting, first_stamp}
use Rattle.protocol.specs.Operations.{Task, Work, Outcome, outstanding}
use Rattle.protocol.specs.Operations.Work.{Reads, Writes}
use Rattle.run_words.specs.declared.outcome.Outcome.TheVariants.{Wrote, Spent, Gave}
use Rattle.protocol.specs.World.{Record, World, open_record, IsClient, given_of}
use Rattle.protocol.specs.History.{HasWrite, HasLie}

module _ (s : Setting) where
  -- a node of the cluster that isn't declared lying
  abbrev pub IsHonest : ℕ → Type 0
  IsHonest i = (i < s.n) × (s.lying_node i ≡ false)

  -- the stamp is the block's first, or the node accepted it there
  abbrev pub HasAccepted : World → ℕ → ℕ → Stamp → Type 0
  HasAccepted w i block stamp = (stamp ≡ first_stamp s) ⊎ Contains w.accepted (record { node = i; block = block; stamp = stamp })

  -- node i's reply is of the kind that was asked, and the time that it told, the version that it found or the write that it acknowledged goes back to a stamp that it accepted
  abbrev pub IsGrounded : World → ℕ → Ask → Reply → Type 0
  IsGrounded w i ask (TimeIs time) = (ask.request ≡ Time) × (stamp : Stamp) × HasAccepted w i ask.block stamp × (time ≡ stamp.time)
  IsGrounded w i ask (Found v) = (bound : Bound) × (ask.request ≡ Read bound) × (has bound v.stamp ≡ true) × HasAccepted w i ask.block v.stamp
  IsGrounded w i ask Nothing = (bound : Bound) × (ask.request ≡ Read bound)
  IsGrounded w i ask Ack = (v : Version) × (ask.request ≡ Write v) × HasAccepted w i ask.block v.stamp
  IsGrounded w i ask (Refused reason) = Unit {0}

  -- message k of the pool, a node's answer, was made from an ask that was sent before it, with its client, node and tag
  pub record IsHosted (w : World) (k : ℕ) (m : Message) (reply : Reply) : Type 0 where
    pub asked : ℕ
    pub earlier : asked < k
    pub message : Message
    pub there : slice_get w.pool asked ≡ Some message
    pub client : message.client ≡ m.client
    pub node : message.node ≡ m.node
    pub tag : message.tag ≡ m.tag
    pub ask : Ask
    pub asks : message.body ≡ Asks ask
    pub grounded : IsGrounded w m.node ask reply

  -- the stamp is the block's first, or a correct client's write chose it there, or a lying client sent a Write of it there
  abbrev pub IsKnown : World → ℕ → Stamp → Type 0
  IsKnown w block stamp = (stamp ≡ first_stamp s) ⊎ HasWrite w.records block stamp ⊎ HasLie s w block stamp

  -- at least qc honest nodes have accepted the stamp
  pub record IsComplete (w : World) (block : ℕ) (stamp : Stamp) : Type 0 where
    pub nodes : ℕ → Bool
    pub enough : s.qc ≤ count s.n nodes
    pub honest : (i : ℕ) → nodes i ≡ true → s.lying_node i ≡ false
    pub accepted : (i : ℕ) → i < s.n → nodes i ≡ true → Contains w.accepted (record { node = i; block = block; stamp = stamp })

  -- the client is correct, what its present phase asks was sent, and the one record of its operation is open
  pub record IsWorking (w : World) (client : ℕ) (task : Task) : Type 0 where
    pub correct : s.lying_client client ≡ false
    pub numbered : IsClient s client
    pub block : task.block < s.blocks
    pub asked : (i : ℕ) → i < s.n → Contains w.pool (outstanding s client task i)
    pub recorded : Contains w.records (open_record client task)
    pub only : (x : Record) → Contains w.records x → x.client ≡ client → x.start ≡ task.start → x ≡ open_record client task

-- an operation on the block ended with this stamp before the place start
pub record HasEnded (w : World) (block : ℕ) (stamp : Stamp) (start : ℕ) : Type 0 where
  pub past : Record
  pub there : Contains w.records past
  pub of_block : past.block ≡ block
  pub stamped : past.stamp ≡ Some stamp
  pub end : ℕ
  pub ended : past.end ≡ Some end
  pub earlier : end < start

-- the first list, and then more
abbrev pub Extends : {A : Type 0} → List A → List A → Type 0
Extends {A} xs longer = (more : List A) × (longer ≡ xs ++ more)

-- two records of one operation: one client's, begun at one place
abbrev pub IsSameOperation : Record → Record → Type 0
IsSameOperation x r = (x.client ≡ r.client) × (x.start ≡ r.start)

-- one of the records is of r's operation
abbrev pub HasOperation : List Record → Record → Type 0
HasOperation records r = (old : Record) × Contains records old × IsSameOperation old r

-- a read of the block among these records gave the stamp
abbrev pub HasGave : List Record → ℕ → Stamp → Type 0
HasGave records block stamp = (r : Record) × Contains records r × (given_of block r ≡ Some stamp)

-- it did, and none of them gave a greater one
abbrev pub IsGreatestGiven : List Record → ℕ → Stamp → Type 0
IsGreatestGiven records block stamp = HasGave records block stamp × ((other : Stamp) → HasGave records block other → other ≼ stamp)

-- how an operation can have ended so far, and which stamp its record has then: a read as given, a write as written or spent
abbrev pub IsOutcomeOf : Work → Option Stamp → Option Outcome → Type 0
IsOutcomeOf Reads stamp None = stamp ≡ None
IsOutcomeOf Reads stamp (Some (Gave given value how rounds)) = stamp ≡ Some given
IsOutcomeOf (Writes value) stamp None = Unit {0}
IsOutcomeOf (Writes value) stamp (Some (Wrote wrote)) = stamp ≡ Some wrote
IsOutcomeOf (Writes value) stamp (Some Spent) = stamp ≡ None
IsOutcomeOf _ _ _ = ⊥

-- what every record tells: it starts and ends by now, in this order, has an outcome exactly where it has ended, and one of its kind
pub record IsTold (w : World) (r : Record) : Type 0 where
  pub start : r.start ≤ w.place
  pub end : (end : ℕ) → r.end ≡ Some end → (r.start ≤ end) × (end ≤ w.place)
  pub ended : (r.end ≡ None) ↔ (r.outcome ≡ None)
  pub outcome : IsOutcomeOf r.work r.stamp r.outcome
