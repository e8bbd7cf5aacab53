-- Which book tells of a run's records: the history of the definitions, each stamp's verifier told by its mark.
use Rattle.std.specs.Prelude.{◌≡◌, ◌↔◌, ℕ, ◌<◌, ◌^◌, List, length, map, sum_by}
use Rattle.std.specs.declared.option.Option.TheVariants.{None}
use Rattle.std.specs.List.{Contains}
use Rattle.std.specs.declared.cmp.Ordering.TheVariants.{Equal}
use Rattle.stamp_order.specs.declared.Stamp.{Stamp}
use Rattle.protocol.specs.World.{Record}
use Rattle.protocol.specs.History.{Entry as FullEntry, Kind as FullKind, IsSorted, IsEntry, entry_cmp}
use Rattle.protocol.specs.History.Kind.{Write as FullWrite, Foreign as FullForeign, Read as FullRead}
use Rattle.protocol.specs.Facts.{IsOutcomeOf}
use Rattle.protocol.specs.Report.{mark, Ascend, rounds_of, spent_writes, SpentWrite, Counts as FullCounts, counts_of}
use Rattle.history_making.specs.declared.entry.Kind.{Kind}
use Rattle.history_making.specs.declared.entry.Kind.TheVariants.{Read, Write, Foreign}
use Rattle.history_making.specs.declared.entry.Entry.{Entry}
use Rattle.history_making.specs.declared.entry.Spent.{Spent}
use Rattle.history_making.specs.declared.entry.Counts.{Counts}
use Rattle.history_making.specs.Books.{Book}

abbrev pub told_kind : FullKind → Kind
told_kind FullRead = Read
told_kind FullWrite = Write
told_kind FullForeign = Foreign

-- an entry as it is told with this mark
abbrev pub told_with : ℕ → FullEntry → Entry
told_with m e = record { block = e.block; time = e.stamp.time; writer = e.stamp.client; mark = m; kind = told_kind e.kind; client = e.client; start = e.start; end = e.end; value = e.value }

-- an entry as a history of these entries tells it
abbrev pub told_entry : List FullEntry → FullEntry → Entry
told_entry h e = told_with (mark h e) e

abbrev pub told_spent : SpentWrite → Spent
told_spent x = record { client = x.client; start = x.start; end = x.end }

abbrev pub told_counts : FullCounts → Counts
told_counts c = record { done = c.done; spent = c.spent; pending = c.pending; repaired = c.repaired; rounds = c.rounds }

-- the entries are those of the records, sorted
pub record IsHistoryOf (records : List Record) (first : Stamp) (h : List FullEntry) : Type 0 where
  pub sorted : IsSorted h
  pub entries : (e : FullEntry) → Contains h e ↔ IsEntry records first e

-- the book tells the history h of these records, with their spent writes and counts
pub record Tells (records : List Record) (first : Stamp) (h : List FullEntry) (book : Book) : Type 0 where
  pub history : IsHistoryOf records first h
  pub entries : book.entries ≡ map (told_entry h) h
  pub spent : book.spent ≡ map told_spent (spent_writes records)
  pub counts : book.counts ≡ told_counts (counts_of records)

-- records of a run: different entries have different keys, starts ascend, an outcome is there exactly where there is an end and is one of the operation, and numbers fit
pub record AreRecords (records : List Record) (first : Stamp) : Type 0 where
  pub keys : (e f : FullEntry) → IsEntry records first e → IsEntry records first f → entry_cmp e f ≡ Equal → e ≡ f
  pub starts : Ascend (map (λ r. r.start) records)
  pub ended : (r : Record) → Contains records r → (r.end ≡ None) ↔ (r.outcome ≡ None)
  pub outcome : (r : Record) → Contains records r → IsOutcomeOf r.work r.stamp r.outcome
  pub few : length records < 2 ^ 31
  pub rounds : sum_by (λ r. rounds_of r.outcome) records < 2 ^ 64
