-- What holds in every world of a run.
use Rattle.std.proofs.Common.{◌≡◌, ◌⊎◌, ℕ, ◌<◌, ◌≤◌, ◌^◌, Bool, true, false, List, Option}
use Rattle.std.specs.declared.option.Option.TheVariants.{None, Some}
use Rattle.std.specs.List.{Contains}
use Rattle.protocol.specs.Count.{count}
use Rattle.stamp_order.specs.declared.Stamp.{Stamp}
use Rattle.stamp_order.specs.Stamps.{has, ◌≼◌}
use Rattle.protocol.specs.Messages.{Bound, IsFormed, IsFormedBody, Version, Ask, Reply, Body, Message}
use Rattle.wire_forms.specs.declared.Reply.TheVariants.{TimeIs, Found, Ack}
use Rattle.wire_forms.specs.declared.Body.TheVariants.{Ask as Asks, Answer as Answers}
use Rattle.protocol.specs.Setting.{Setting, IsBlock, Sound, zeros, first_stamp}
use Rattle.protocol.specs.Nodes.{keeps}
use Rattle.protocol.specs.Operations.{Task, Work, Stage, Outcome, is_whole, is_valid, request_of, outstanding, is_of_kind}
use Rattle.protocol.specs.Operations.Work.{Reads, Writes}
use Rattle.protocol.specs.Operations.Stage.{Times, Versions, Storing}
use Rattle.run_words.specs.declared.outcome.Outcome.TheVariants.{Wrote, Spent, Gave}
use Rattle.protocol.specs.World.{Record, World, open_record, under_way, last_op, IsClient}
use Rattle.protocol.specs.History.{NoClash}
pub use Rattle.protocol.specs.Facts.{HasAccepted as Accepts}

module _ (s : Setting) where
  -- the message is of the phase that its client's operation is in now
  pub record AtWork (w : World) (m : Message) (task : Task) : Type 0 where
    pub client : under_way w m.client ≡ Some task
    pub op : m.tag.op ≡ task.op
    pub phase : m.tag.phase ≡ task.phase

  -- the bound has the stamp of each operation on the block that ended before this place
  abbrev pub IsOpen : World → ℕ → ℕ → Bound → Type 0
  IsOpen w block start bound = (x : Record) (end : ℕ) (stamp : Stamp) → Contains w.records x → x.block ≡ block → x.end ≡ Some end → x.stamp ≡ Some stamp → end < start → has bound stamp ≡ true

  -- its sender doesn't lie
  abbrev pub IsOwned : Body → Message → Type 0
  IsOwned (Asks ask) m = s.lying_client m.client ≡ false
  IsOwned (Answers reply) m = s.lying_node m.node ≡ false

  -- it is no newer than what its client does now
  pub record IsTagged (w : World) (m : Message) : Type 0 where
    pub begun : m.tag.op ≤ last_op w m.client
    pub phase : (task : Task) → under_way w m.client ≡ Some task → m.tag.op ≡ task.op → m.tag.phase ≤ task.phase

  -- what an honest node's answer to a stage's request says
  abbrev pub Fits : World → ℕ → ℕ → Stage → Reply → Type 0
  Fits w i block Times (TimeIs time) = (stamp : Stamp) × Accepts s w i block stamp × (time ≡ stamp.time)
  Fits w i block (Versions bound) (Found v) = (is_valid s i bound v ≡ true) × Accepts s w i block v.stamp
  Fits w i block (Versions bound) _ = ⊥
  Fits w i block (Storing stamp value) Ack = Accepts s w i block stamp
  Fits w i block _ _ = Unit {0}

  -- the answer of a node that had accepted the stamp doesn't fall behind it
  abbrev pub IsFresh : World → ℕ → ℕ → Stamp → Stage → Reply → Type 0
  IsFresh w block start stamp Times (TimeIs time) = stamp.time ≤ time
  IsFresh w block start stamp (Versions bound) (Found v) = has bound stamp ≡ true → IsOpen w block start bound → stamp ≼ v.stamp
  IsFresh w block start stamp _ _ = Unit {0}

  -- enough honest nodes have accepted the stamp, and answered nothing behind it to what began after this place
  pub record Quorum (w : World) (block : ℕ) (stamp : Stamp) (end : ℕ) : Type 0 where
    pub members : ℕ → Bool
    pub enough : s.qc ≤ count s.n members
    pub are_honest : (i : ℕ) → members i ≡ true → s.lying_node i ≡ false
    pub kept : (i : ℕ) → i < s.n → members i ≡ true → Accepts s w i block stamp
    pub fresh : (m : Message) (reply : Reply) (task : Task) → Contains w.pool m → m.body ≡ Answers reply → m.node < s.n → members m.node ≡ true
        → s.lying_client m.client ≡ false → AtWork w m task → task.block ≡ block → end < task.start → IsFresh w block task.start stamp task.stage reply

  -- a completed operation of the block reached the stamp before all that is under way there
  pub record IsPassed (w : World) (block : ℕ) (stamp : Stamp) : Type 0 where
    pub past : Record
    pub there : Contains w.records past
    pub of_block : past.block ≡ block
    pub end : ℕ
    pub ended : past.end ≡ Some end
    pub reached : Stamp
    pub stamped : past.stamp ≡ Some reached
    pub up_to_it : stamp ≼ reached
    pub before_all : (c : ℕ) (task : Task) → under_way w c ≡ Some task → task.block ≡ block → end < task.start

  -- a kept version stands for the accepted stamp: it has it, or a greater one of which P holds
  pub record IsCoveredBy (P : Stamp → Type 0) (w : World) (i block : ℕ) (stamp : Stamp) : Type 0 where
    pub version : Version
    pub there : Contains (w.versions i block) version
    pub above : stamp ≼ version.stamp
    pub how : (version.stamp ≡ stamp) ⊎ P version.stamp

  -- a greater one only where it was passed
  abbrev pub IsCovered : World → ℕ → ℕ → Stamp → Type 0
  IsCovered w i block stamp = IsCoveredBy (IsPassed w block) w i block stamp

  -- what a node keeps of a block
  pub record IsStored (w : World) (i block : ℕ) : Type 0 where
    pub first : keeps (w.versions i block) (first_stamp s) ≡ true
    pub whole : (v : Version) → Contains (w.versions i block) v → is_whole s i v ≡ true
    pub formed : (v : Version) → Contains (w.versions i block) v → IsFormed v
    pub kept : (v : Version) → Contains (w.versions i block) v → Accepts s w i block v.stamp
    pub covered : (stamp : Stamp) → Accepts s w i block stamp → IsCovered w i block stamp

  -- a value that the stamp is for, and no zeros
  pub record IsGood (stamp : Stamp) (value : List ℕ) : Type 0 where
    pub sound : Sound s stamp value
    pub later : 0 < stamp.time
    pub whole : IsBlock s value

  abbrev pub IsStage : Work → Stage → Type 0
  IsStage Reads Times = ⊥
  IsStage Reads (Versions bound) = has bound (first_stamp s) ≡ true
  IsStage Reads (Storing stamp value) = IsGood stamp value
  IsStage (Writes written) Times = IsBlock s written
  IsStage (Writes written) (Versions bound) = ⊥
  IsStage (Writes written) (Storing stamp value) = (value ≡ written) × IsGood stamp value

  pub record IsTask (w : World) (c : ℕ) (task : Task) : Type 0 where
    pub correct : s.lying_client c ≡ false
    pub numbered : IsClient s c
    pub newest : last_op w c ≡ task.op
    pub start : task.start ≤ w.place
    pub block : task.block < s.blocks
    pub stage : IsStage task.work task.stage
    -- what it asks was sent, and what it counted
    pub mailed : (i : ℕ) → i < s.n → Contains w.pool (outstanding s c task i)
    pub heard : (i : ℕ) (reply : Reply) → task.answers i ≡ Some reply
        → Contains w.pool (record { client = c; node = i; tag = record { op = task.op; phase = task.phase }; body = Answers reply }) × (is_of_kind task.stage reply ≡ true)

  -- what a completed read gave
  abbrev pub IsGiven : Stamp → List ℕ → Type 0
  IsGiven stamp value = ((stamp ≡ first_stamp s) × (value ≡ zeros s)) ⊎ IsGood stamp value

  -- what a write that hasn't ended has chosen
  abbrev pub IsChosen : List ℕ → Option Stamp → Type 0
  IsChosen value None = Unit {0}
  IsChosen value (Some stamp) = IsGood stamp value

  -- the outcome of an operation, with the stamp of its record
  abbrev pub IsOutcome : Work → Option Stamp → Option Outcome → Type 0
  IsOutcome Reads stamp None = stamp ≡ None
  IsOutcome (Writes value) stamp None = IsChosen value stamp
  IsOutcome Reads stamp (Some (Gave given value how rounds)) = (stamp ≡ Some given) × IsGiven given value
  IsOutcome (Writes value) stamp (Some (Wrote wrote)) = (stamp ≡ Some wrote) × IsGood wrote value
  IsOutcome (Writes value) stamp (Some Spent) = stamp ≡ None
  IsOutcome _ _ _ = ⊥

  pub record IsRecord (w : World) (r : Record) : Type 0 where
    pub start : r.start ≤ w.place
    pub ended : (end : ℕ) → r.end ≡ Some end → end ≤ w.place
    pub in_order : (end : ℕ) → r.end ≡ Some end → r.start ≤ end
    pub outcome : IsOutcome r.work r.stamp r.outcome
    pub open_end : r.end ≡ None → r.outcome ≡ None
    pub closed_end : (end : ℕ) → r.end ≡ Some end → (outcome : Outcome) × (r.outcome ≡ Some outcome)
    pub running : (task : Task) → under_way w r.client ≡ Some task → r.start ≡ task.start → r ≡ open_record r.client task
    pub completed : (end : ℕ) (stamp : Stamp) → r.end ≡ Some end → r.stamp ≡ Some stamp → Quorum w r.block stamp end

  -- an operation that began after the stamp was completed doesn't fall behind it
  abbrev pub IsAimed : Stamp → Work → Stage → Type 0
  IsAimed stamp work Times = Unit {0}
  IsAimed stamp work (Versions bound) = has bound stamp ≡ true
  IsAimed stamp Reads (Storing chosen value) = stamp ≼ chosen
  IsAimed stamp (Writes written) (Storing chosen value) = stamp.time < chosen.time

  abbrev pub IsAfter : Stamp → Work → Stamp → Type 0
  IsAfter stamp Reads later = stamp ≼ later
  IsAfter stamp (Writes written) later = stamp.time < later.time

  -- what an operation that reads needs of digests; one that writes needs nothing
  abbrev pub NoClashFor : World → Work → Type 0
  NoClashFor w Reads = NoClash s w
  NoClashFor w (Writes value) = Unit {0}

  pub record IsSafe (w : World) : Type 0 where
    -- a life has few operations, so that those of the next have greater numbers
    pub lives : (c : ℕ) → w.started c < 2 ^ 32
    -- what the types of the code say of each message
    pub formed : (m : Message) → Contains w.pool m → IsFormedBody m.body
    pub stored : (i block : ℕ) → i < s.n → s.lying_node i ≡ false → IsStored w i block
    pub tagged : (m : Message) → Contains w.pool m → IsOwned m.body m → s.lying_client m.client ≡ false → IsTagged w m
    pub asked : (m : Message) (task : Task) (ask : Ask) → Contains w.pool m → m.body ≡ Asks ask → s.lying_client m.client ≡ false → AtWork w m task
        → (ask.block ≡ task.block) × (ask.request ≡ request_of s task.stage m.node)
    pub answered : (m : Message) (task : Task) (reply : Reply) → Contains w.pool m → m.body ≡ Answers reply → s.lying_client m.client ≡ false → m.node < s.n → s.lying_node m.node ≡ false
        → AtWork w m task → Fits w m.node task.block task.stage reply
    pub tasks : (c : ℕ) (task : Task) → under_way w c ≡ Some task → IsTask w c task
    pub records : (r : Record) → Contains w.records r → IsRecord w r
    pub aimed : (c : ℕ) (task : Task) → NoClashFor w task.work → (x : Record) (end : ℕ) (stamp : Stamp) → Contains w.records x → x.end ≡ Some end → x.stamp ≡ Some stamp
        → under_way w c ≡ Some task → task.block ≡ x.block → end < task.start → IsAimed stamp task.work task.stage
    pub ordered : (x y : Record) → NoClashFor w y.work → (end : ℕ) (stamp later : Stamp) → Contains w.records x → Contains w.records y → x.end ≡ Some end → x.stamp ≡ Some stamp
        → y.stamp ≡ Some later → y.block ≡ x.block → end < y.start → IsAfter stamp y.work later
