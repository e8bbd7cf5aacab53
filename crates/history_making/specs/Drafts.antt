-- Entries whose marks aren't known yet, and which of them stand in a history.
use Rattle.std.specs.Prelude.{◌≡◌, ◌≢◌, ◌⊎◌, ◌↔◌, ℕ, ◌+◌, ◌≤◌, Bool, true, false, ◌&&◌, ◌||◌, ◌==◌, if◌then◌else◌, List, [], ◌∷◌, filter_map, map, count_by, Option}
use Rattle.std.specs.declared.option.Option.TheVariants.{None, Some}
use Rattle.std.specs.declared.cmp.Ordering.TheVariants.{Less}
use Rattle.std.specs.List.{Contains}
use Rattle.std.specs.Ordering.{nat_cmp, then_cmp, on}
use Rattle.std.specs.declared.cmp.Ordering.{Ordering}
use Rattle.stamp_order.specs.declared.Stamp.{Stamp}
use Rattle.stamp_order.specs.Stamps.{same_stamp, stamp_cmp}
use Rattle.run_words.specs.declared.outcome.Outcome.TheVariants.{Gave}
use Rattle.protocol.specs.Operations.{Work, Outcome}
use Rattle.protocol.specs.Operations.Work.{Reads, Writes}
use Rattle.protocol.specs.World.{Record}
use Rattle.protocol.specs.Report.{AreRivals}
use Rattle.protocol.specs.History.{Entry as FullEntry, Kind as FullKind, read_entry, write_entry, foreign_entry, is_read, place_cmp, entry_cmp, IsSorted}
use Rattle.protocol.specs.History.Kind.{Write as FullWrite, Foreign as FullForeign, Read as FullRead}
use Rattle.history_making.specs.Kinds.{full_kind}
use Rattle.history_making.specs.declared.draft.Draft.{Draft}

-- the entry that a draft stands for
abbrev pub entry_of : Draft → FullEntry
entry_of d = record { block = d.block; stamp = d.stamp.now; kind = full_kind d.kind; client = d.client; start = d.start; end = d.end; value = d.value.now }

-- entries of one block and stamp: writes before reads, then by end place, client and start place
abbrev pub in_version_cmp : FullEntry → FullEntry → Ordering
in_version_cmp =
    then_cmp (on (λ e. is_read e.kind) nat_cmp)
    (then_cmp (on (λ e. e.end) place_cmp)
    (then_cmp (on (λ e. e.client) nat_cmp) (on (λ e. e.start) place_cmp)))

-- entries of one block: by stamp, and then so
abbrev pub in_block_cmp : FullEntry → FullEntry → Ordering
in_block_cmp = then_cmp (on (λ e. e.stamp) stamp_cmp) in_version_cmp

abbrev pub entries_of : List Draft → List FullEntry
entries_of drafts = map entry_of drafts

-- the entry of a read whose outcome is this
abbrev pub read_candidate_of : Record → Option Outcome → Option FullEntry
read_candidate_of r (Some (Gave stamp value how rounds)) = Some (read_entry r stamp value)
read_candidate_of r _ = None

-- the entry of a write of this value whose stamp is this
abbrev pub write_candidate_of : Record → List ℕ → Option Stamp → Option FullEntry
write_candidate_of r value (Some stamp) = Some (write_entry r stamp value)
write_candidate_of r value None = None

-- the entry of a completed read, or of a write that has chosen a stamp, whether or not it stands in the history
abbrev pub candidate_by : Record → Work → Option FullEntry
candidate_by r Reads = read_candidate_of r r.outcome
candidate_by r (Writes value) = write_candidate_of r value r.stamp

abbrev pub candidate : Record → Option FullEntry
candidate r = candidate_by r r.work

-- it starts at this place
abbrev pub place_is : ℕ → Option ℕ → Bool
place_is n None = false
place_is n (Some m) = m == n

abbrev pub starts_at : ℕ → FullEntry → Bool
starts_at n e = place_is n e.start

-- each entry has a start, and no two have the same one
pub record HaveStarts (entries : List FullEntry) : Type 0 where
  pub some : (e : FullEntry) → Contains entries e → (n : ℕ) × (e.start ≡ Some n)
  pub once : (n : ℕ) → count_by (starts_at n) entries ≤ 1

abbrev pub candidates : List Record → List FullEntry
candidates records = filter_map candidate records

abbrev pub is_reading : FullEntry → Bool
is_reading e = is_read e.kind == 1

-- both are of one block and stamp
abbrev pub is_of_version : FullEntry → FullEntry → Bool
is_of_version e f = (e.block == f.block) && same_stamp e.stamp f.stamp

-- the other is there, and both are of one block and stamp
abbrev pub is_of_some : FullEntry → Option FullEntry → Bool
is_of_some e None = false
is_of_some e (Some f) = is_of_version e f

-- the write that a read saw and no correct client made
abbrev pub foreign_of : FullEntry → FullEntry
foreign_of e = foreign_entry e.block e.stamp e.value

abbrev pub has_end : Option ℕ → Bool
has_end None = false
has_end (Some end) = true

-- what stands in the history for a candidate: a read, after the foreign write that it saw first; a write that has ended or was read
abbrev pub entries_by : FullKind → Bool → Bool → FullEntry → List FullEntry
entries_by FullRead saw_foreign was_read e = if saw_foreign then foreign_of e ∷ e ∷ [] else e ∷ []
entries_by _ saw_foreign was_read e = if has_end e.end || was_read then e ∷ [] else []

abbrev pub entries_at : Bool → Bool → FullEntry → List FullEntry
entries_at saw_foreign was_read e = entries_by e.kind saw_foreign was_read e

-- both are of one block and stamp
pub record IsVersion (e f : FullEntry) : Type 0 where
  pub block : e.block ≡ f.block
  pub stamp : e.stamp ≡ f.stamp

-- none of its version stands before it
pub record IsLeast (all : List FullEntry) (y : FullEntry) : Type 0 where
  pub least : (z : FullEntry) → Contains all z → IsVersion y z → (z ≡ y) ⊎ (entry_cmp y z ≡ Less)

-- a read, or a write that has ended or was read
abbrev pub IsKept : List FullEntry → FullEntry → Type 0
IsKept all e = (e.kind ≡ FullRead) ⊎ ((e.kind ≡ FullWrite) × ((has_end e.end ≡ true) ⊎ ((z : FullEntry) × Contains all z × (z.kind ≡ FullRead) × IsVersion e z)))

-- the foreign write of the first read of a version other than the first one, which no write has
pub record IsSeen (first : Stamp) (all ys : List FullEntry) (e : FullEntry) : Type 0 where
  pub read : FullEntry
  pub there : Contains ys read
  pub reads : read.kind ≡ FullRead
  pub other : read.stamp ≢ first
  pub first_one : IsLeast all read
  pub is : e ≡ foreign_of read

-- the entries that stand in the history for these candidates, sorted
pub record AreKept (first : Stamp) (all h : List FullEntry) : Type 0 where
  pub sorted : IsSorted h
  pub entries : (e : FullEntry) → Contains h e ↔ ((Contains all e × IsKept all e) ⊎ IsSeen first all all e)

-- candidates are reads and writes
abbrev pub AreCandidates : List FullEntry → Type 0
AreCandidates all = (e : FullEntry) → Contains all e → e.kind ≢ FullForeign

-- n is the mark of f, which comes right after e, whose mark is m
pub record IsNextMark (e : FullEntry) (m : ℕ) (f : FullEntry) (n : ℕ) : Type 0 where
  pub same : AreRivals e f → e.stamp ≡ f.stamp → n ≡ m
  pub more : AreRivals e f → e.stamp ≢ f.stamp → n ≡ m + 1
  pub other : (AreRivals e f → ⊥) → n ≡ 1
