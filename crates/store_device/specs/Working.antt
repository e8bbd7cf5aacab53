-- What a node does that is handed asks, and what its seat has then.
use Rattle.std.specs.Prelude.{◌≡◌, ◌≤◌, ◌<◌, ◌⊎◌, ℕ, true, false, cond, List, length, Option, Some, None, slice_get}
use Rattle.std.specs.List.{AllByRecursion}
use Rattle.quorum_rules.specs.Limits.{Numbers}
use Rattle.protocol.specs.Messages.{Ask, Reply, IsFormedReply}
use Rattle.disk_model.specs.Crash.{Pending, LeavesOnly, settled}
use Rattle.version_disk.specs.Held.{held}
use Rattle.version_disk.specs.Deeds.{answering, after_asks, replies_of, AreDoneInPart}
use Rattle.version_disk.specs.Stored.{Stored}
use Rattle.store_device.specs.Stores.{SeenStore, IsSound, is_up, seat_at}

module _ {D : Type 0} (pending : D → Pending) (seen : D → List ℕ) where
  -- it answered all the asks, and its disk has what it keeps now, safe from a crash
  pub record HasAnswered (asks : List Ask) (told : List Reply) (was is : Stored D) : Type 0 where
    pub replies : told ≡ replies_of was.node asks
    pub formed : AllByRecursion IsFormedReply told
    pub state : is.node ≡ after_asks was.node asks
    pub held : held was.node.config was.node.number (seen is.disk) ≡ is.node
    pub durable : pending is.disk ≡ settled (seen is.disk)
    pub whole : is.broken ≡ false

  -- it answered, or gives no answer: then it is as it was, or its disk failed
  abbrev pub HasDone : List Ask → Option (List Reply) → (was is : Stored D) → Type 0
  HasDone asks None was is = (is ≡ was) ⊎ (is.broken ≡ true)
  HasDone asks (Some replies) was is = HasAnswered asks replies was is

  module _ (moment : D → ℕ) (left_since : D → ℕ → List ℕ → Type 0) where
    -- a node that was up was handed the asks, and this is its answer; a crash at any moment leaves it with the first few of them done
    pub record HasWorked (asks : List Ask) (answer : Option (List Reply)) (was is : Stored D) : Type 0 where
      pub done : HasDone asks answer was is
      pub any_moment : LeavesOnly moment left_since was.disk is.disk
          (AreDoneInPart was.node.config was.node.number was.node (answering asks) (seen was.disk))

    -- what sits in a seat was handed the asks: a node that isn't up stays as it is, and gives no answer
    abbrev pub WorksIn : List Ask → Option (List Reply) → (old new : Option (Stored D)) → Type 0
    WorksIn asks answer None new = (new ≡ None) × (answer ≡ None)
    WorksIn asks answer (Some was) new =
        cond was.broken ((new ≡ Some was) × (answer ≡ None)) ((is : Stored D) × (new ≡ Some is) × HasWorked asks answer was is)

    -- what sits in a seat, of the node of this number, since a call began: a node that wasn't up stays, and one that was has lived on
    pub record HasGoneOn (c : Numbers) (i : ℕ) (start now : Option (Stored D)) : Type 0 where
      pub down : is_up start ≡ false → now ≡ start
      pub up : (was : Stored D) → start ≡ Some was → was.broken ≡ false
          → (is : Stored D) × (now ≡ Some is) × (moment was.disk ≤ moment is.disk)
      pub sound : (is : Stored D) → now ≡ Some is → is.broken ≡ false → IsSound pending seen c i is

    -- each node was handed its asks, and these are their answers
    pub record AreHanded (asks : ℕ → List Ask) (answers : List (Option (List Reply))) (old new : SeenStore D) : Type 0 where
      pub config : new.config ≡ old.config
      pub count : length answers ≡ old.config.n
      pub each : (i : ℕ) → i < old.config.n
          → (answer : Option (List Reply)) × (slice_get answers i ≡ Some answer) × WorksIn (asks i) answer (seat_at old i) (seat_at new i)
