-- What is counted of the blocks that a node holds.
use Rattle.std.specs.Prelude.{◌≡◌, ℕ, zero, suc, ◌+◌, ◌-◌, ◌^◌, ◌≤◌, ◌<◌, ◌||◌, ◌&&◌, Bool, true, false, List, length, slice_index_or, min, nat_lt, Option, is_none}
use Rattle.std.specs.declared.option.Option.TheVariants.{None, Some}
use Rattle.quorum_rules.specs.Limits.{Numbers}
use Rattle.stamp_order.specs.declared.Stamp.{Stamp}
use Rattle.wire_forms.specs.declared.op.Op.{Op}
use Rattle.protocol.specs.Messages.{Version}
use Rattle.protocol.specs.Nodes.{carries}
use Rattle.protocol.specs.Operations.{Outcome}
use Rattle.store_device.specs.Stores.{SeenStore}
use Rattle.store_care.specs.Given.{Given, given, written_by, outcome_at, block_at}
use Rattle.store_care.specs.Holdings.{newest_at, holding_at}
use Rattle.store_care.specs.declared.holding.Holding.{Holding}
use Rattle.store_care.specs.declared.holding.Holding.TheVariants.{Sound, Older, Newer, False}
use Rattle.store_care.specs.declared.tally.NodeTally.{NodeTally}

-- one more, as far as a word goes
abbrev pub one_more : ℕ → ℕ
one_more n = min (n + 1) (2 ^ 64 - 1)

-- one more where this is so
abbrev pub one_more_if : Bool → ℕ → ℕ
one_more_if false n = n
one_more_if true n = one_more n

-- the tally when one block more was counted
abbrev pub counted : Holding → NodeTally → NodeTally
counted Sound t = record t { sound = one_more t.sound }
counted Older t = record t { older = one_more t.older }
counted Newer t = record t { newer = one_more t.newer }
counted False t = record t { wrong = one_more t.wrong }

-- a block was counted that wasn't sound
abbrev pub is_lacking : NodeTally → Bool
is_lacking t = nat_lt 0 t.older || nat_lt 0 t.newer || nat_lt 0 t.wrong

-- ---- a block

-- the node is up and holds what the read gave
abbrev pub is_sound : Option Holding → Bool
is_sound (Some Sound) = true
is_sound _ = false

-- the node is up and holds something else
abbrev pub lacks : Option Holding → Bool
lacks None = false
lacks (Some Sound) = false
lacks (Some _) = true

-- what a node held is counted, if it was up
abbrev pub with_holding : Option Holding → NodeTally → NodeTally
with_holding None t = t
with_holding (Some holding) t = counted holding t

-- a node that holds the block again is counted, where this is one
abbrev pub with_restored : Bool → NodeTally → NodeTally
with_restored again t = record t { restored = one_more_if again t.restored }

-- ---- blocks that were read

-- what the read gave that is told of at a place
abbrev pub given_at : ℕ → List (Option Outcome) → ℕ → Option Given
given_at size outcomes k = given size (outcome_at outcomes k)

-- how many of this many reads gave nothing, counted on
abbrev pub failed_reads : ℕ → List (Option Outcome) → ℕ → ℕ → ℕ
failed_reads size outcomes zero failed = failed
failed_reads size outcomes (suc k) failed = one_more_if (is_none (given_at size outcomes k)) (failed_reads size outcomes k failed)

-- of the node of a seat, what it held of a block before a read that gave this, and what it holds since
module _ (c : Numbers) (seat : ℕ) where
  -- what that adds to its tally: what it held before, and whether it lacked what the read gave and holds that since
  abbrev pub with_block : Option Given → (was is : Option Version) → NodeTally → NodeTally
  with_block None was is t = t
  with_block (Some g) was is t =
      with_restored (lacks (holding_at c g seat was) && is_sound (holding_at c g seat is)) (with_holding (holding_at c g seat was) t)

  -- whether it lacked that, and lacks it still
  abbrev pub lacks_still : Option Given → (was is : Option Version) → Bool
  lacks_still None was is = false
  lacks_still (Some g) was is = lacks (holding_at c g seat was) && lacks (holding_at c g seat is)

-- the same of blocks from this one on, whose reads ended so, by the stores before and after them
module _ {D : Type 0} (before after : SeenStore D) (first : ℕ) (outcomes : List (Option Outcome)) (seat : ℕ) where
  -- the tally after this many of them
  abbrev pub with_blocks : ℕ → NodeTally → NodeTally
  with_blocks zero t = t
  with_blocks (suc k) t =
      with_block before.config seat (given_at before.config.size outcomes k) (newest_at before (first + k) seat) (newest_at after (first + k) seat)
      (with_blocks k t)

  -- the node lacked what the read of this block gave, and lacks it still
  abbrev pub still_lacks : ℕ → Bool
  still_lacks block =
      lacks_still before.config seat (given_at before.config.size outcomes (block - first)) (newest_at before block seat) (newest_at after block seat)

-- ---- blocks that were written again

-- how many of this many writes weren't told of, counted on
abbrev pub failed_writes : List (Option Outcome) → ℕ → ℕ → ℕ
failed_writes told zero failed = failed
failed_writes told (suc j) failed = one_more_if (is_none (written_by (outcome_at told j))) (failed_writes told j failed)

-- a block was written with this stamp, if that was told of, and a node that lacked it, if it did, keeps this version of it since
abbrev pub holds_again : Bool → Option Stamp → Option Version → Bool
holds_again lacked None newest = false
holds_again lacked (Some stamp) newest = lacked && carries stamp newest

-- blocks were written, which ended so, and the store was this then; the test tells by seat and block whether the node lacked it
module _ {D : Type 0} (test : ℕ → ℕ → Bool) (last : SeenStore D) (ops : List Op) (told : List (Option Outcome)) (seat : ℕ) where
  -- the tally after this many writes
  abbrev pub with_writes : ℕ → NodeTally → NodeTally
  with_writes zero t = t
  with_writes (suc j) t =
      with_restored (holds_again (test seat (block_at ops j)) (written_by (outcome_at told j)) (newest_at last (block_at ops j) seat)) (with_writes j t)

-- ---- all tallies

-- The first so many of a list were changed so, each by its place, and the others weren't.
pub record AreChanged {X : Type 0} (change : ℕ → X → X) (count : ℕ) (old new : List X) : Type 0 where
  pub same_length : length new ≡ length old
  pub below : (i : ℕ) (x : X) → i < count → i < length old → slice_index_or new i x ≡ change i (slice_index_or old i x)
  pub others : (i : ℕ) (x : X) → count ≤ i → slice_index_or new i x ≡ slice_index_or old i x
