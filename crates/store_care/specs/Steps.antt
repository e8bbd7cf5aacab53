-- What the parts of a look do and count.
use Rattle.std.specs.Prelude.{◌≡◌, ◌≢◌, ◌⊎◌, ℕ, ◌+◌, ◌≤◌, ◌<◌, Bool, List, [], ◌∷◌, ◌++◌, map, length, slice_index_or, Option, is_none}
use Rattle.std.specs.declared.option.Option.TheVariants.{None, Some}
use Rattle.std.specs.List.{All, range_with_len}
use Rattle.std.specs.Option.{option_map}
use Rattle.quorum_rules.specs.Limits.{Numbers}
use Rattle.stamp_order.specs.declared.Stamp.{Stamp}
use Rattle.frag_check.specs.declared.summed.Summed.{Summed}
use Rattle.wire_forms.specs.declared.op.Op.TheVariants.{Write}
use Rattle.protocol.specs.Messages.{Version}
use Rattle.protocol.specs.Operations.{Outcome}
use Rattle.protocol.specs.Seen.{block_of}
use Rattle.store_device.specs.Stores.{SeenStore}
use Rattle.store_care.specs.Batches.{AreBelow}
use Rattle.store_care.specs.Given.{Given, IsWrittenBack, reads_from}
use Rattle.store_care.specs.Holdings.{holding_of, newest_at}
use Rattle.store_care.specs.Tallies.{AreChanged, one_more_if, with_block, with_blocks, failed_reads, with_writes, failed_writes, lacks_still, still_lacks}
use Rattle.store_care.specs.declared.care.Care.{Care}
use Rattle.store_care.specs.declared.care.Lacking.{Lacking}
use Rattle.store_care.specs.declared.holding.Holding.{Holding}

-- what the node of a seat is beside this, of the newest versions at all seats
abbrev pub holding_in : Stamp → Option Summed → List (Option Version) → ℕ → Option Holding
holding_in stamp made newest seat = option_map (holding_of seat stamp made) (slice_index_or newest seat None)

-- One place of a list was changed so, if it is there, and the others weren't.
pub record IsChangedAt {X : Type 0} (place : ℕ) (change : X → X) (old new : List X) : Type 0 where
  pub same_length : length new ≡ length old
  pub here : (x : X) → place < length old → slice_index_or new place x ≡ change (slice_index_or old place x)
  pub others : (i : ℕ) (x : X) → i ≢ place → slice_index_or new i x ≡ slice_index_or old i x

-- of the reads of so many blocks so many were looked at, and what is to be written again is what some of them gave
pub record AreLacking (c : Numbers) (first count : ℕ) (outcomes : List (Option Outcome)) (done : ℕ) (lacking : Lacking) : Type 0 where
  pub batch : AreBelow c (first + done) lacking.again.items
  pub few : length lacking.again.items ≤ done
  pub paired : length lacking.seats.items ≡ length lacking.again.items
  pub written_back : All (IsWrittenBack (reads_from first count) outcomes) lacking.again.items

-- by seat, as the one says
abbrev pub by_seat : ℕ → (ℕ → Bool) → List Bool
by_seat n test = map test (range_with_len 0 n)

-- by seat for each write, as the one says of a seat and a block
abbrev pub AreSeats : ℕ → (ℕ → ℕ → Bool) → Lacking → Type 0
AreSeats n test lacking = map (λ s. s.items) lacking.seats.items ≡ map (λ op. by_seat n (λ seat. test seat (block_of op))) lacking.again.items

-- the block isn't to be written again, or it is with what was given, and these seats are noted
abbrev pub IsNoted : ℕ → Option Given → List Bool → Lacking → Lacking → Type 0
IsNoted block g seats old new =
    (new ≡ old)
    ⊎ ((gave : Given) × (g ≡ Some gave) × (new.again.items ≡ old.again.items ++ Write block gave.value ∷ [])
    × (length new.seats.items ≡ length old.seats.items + 1)
    × (map (λ s. s.items) new.seats.items ≡ map (λ s. s.items) old.seats.items ++ seats ∷ []))

module _ {D : Type 0} where
  -- a block was looked at, of whose read this was given, and of which the nodes held this before
  pub record HasLookedAt (c : Numbers) (newest : List (Option Version)) (after : SeenStore D) (block : ℕ) (g : Option Given) (old new : Care) (lacking noted : Lacking) : Type 0 where
    pub tallies : AreChanged (λ seat. with_block c seat g (slice_index_or newest seat None) (newest_at after block seat)) (length newest)
        old.tallies.items new.tallies.items
    pub failed : new.failed ≡ one_more_if (is_none g) old.failed
    pub seats : IsNoted block g (by_seat (length newest) (λ seat. lacks_still c seat g (slice_index_or newest seat None) (newest_at after block seat)))
        lacking noted

  -- so many blocks were
  pub record HasLooked (before after : SeenStore D) (first : ℕ) (outcomes : List (Option Outcome)) (count : ℕ) (old new : Care) (lacking : Lacking) : Type 0 where
    pub tallies : AreChanged (λ seat. with_blocks before after first outcomes seat count) before.config.n old.tallies.items new.tallies.items
    pub failed : new.failed ≡ failed_reads before.config.size outcomes count old.failed
    pub seats : AreSeats before.config.n (still_lacks before after first outcomes) lacking

  -- of what was noted so many blocks were written, and so much of the writes was told
  pub record HasRestored (n : ℕ) (test : ℕ → ℕ → Bool) (last : SeenStore D) (lacking : Lacking) (told : List (Option Outcome)) (done : ℕ) (old new : Care) : Type 0 where
    pub tallies : AreChanged (λ seat. with_writes test last lacking.again.items told seat done) n old.tallies.items new.tallies.items
    pub failed : new.failed ≡ failed_writes told done old.failed

  -- whatever is meant by the seats that are noted
  abbrev pub IsRestored : ℕ → SeenStore D → Lacking → List (Option Outcome) → ℕ → Care → Care → Type 0
  IsRestored n last lacking told done old new =
      (test : ℕ → ℕ → Bool) → AreSeats n test lacking → HasRestored n test last lacking told done old new
