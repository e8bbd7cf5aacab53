-- What is told of a run beside its history: the marks of stamps, the writes that ended as spent, and counts.
use Rattle.std.specs.Prelude.{◌≡◌, ℕ, ◌+◌, ◌<◌, Bool, not, true, false, if◌then◌else◌, ◌||◌, ◌&&◌, ◌==◌, List, [], ◌∷◌, filter, map, sum_by, count_by, filter_map, Option}
use Rattle.std.specs.declared.option.Option.TheVariants.{None, Some}
use Rattle.std.specs.List.{Contains, AllByRecursion}
use Rattle.std.specs.declared.cmp.Ordering.{Ordering}
use Rattle.std.specs.Ordering.{nat_cmp, then_cmp, on}
use Rattle.stamp_order.specs.declared.Stamp.{Stamp}
use Rattle.stamp_order.specs.Stamps.{before, same_stamp}
use Rattle.protocol.specs.Operations.{Outcome}
use Rattle.run_words.specs.declared.outcome.How.TheVariants.{Repaired}
use Rattle.run_words.specs.declared.outcome.Outcome.TheVariants.{Wrote, Spent, Gave}
use Rattle.protocol.specs.World.{Record}
use Rattle.protocol.specs.History.{Entry, is_read, place_cmp}

-- the numbers ascend strictly
abbrev pub Ascend : List ℕ → Type 0
Ascend [] = Unit {0}
Ascend (x ∷ xs) = AllByRecursion (λ y. x < y) xs × Ascend xs

-- a write that ended as spent
pub record SpentWrite : Type 0 where
  pub client : ℕ
  pub start : ℕ
  pub end : ℕ

-- the counts of a report
pub record Counts : Type 0 where
  pub done : ℕ
  pub spent : ℕ
  pub pending : ℕ
  pub repaired : ℕ
  pub rounds : ℕ

-- the stamp is one of these
abbrev pub is_in : Stamp → List Stamp → Bool
is_in t [] = false
is_in t (u ∷ us) = same_stamp t u || is_in t us

-- how many different stamps
abbrev pub different_stamps : List Stamp → ℕ
different_stamps [] = 0
different_stamps (t ∷ ts) = (if is_in t ts then 0 else 1) + different_stamps ts

-- two entries of one block, time and writer
pub record AreRivals (e f : Entry) : Type 0 where
  pub block : f.block ≡ e.block
  pub time : f.stamp.time ≡ e.stamp.time
  pub writer : f.stamp.client ≡ e.stamp.client

-- the entry has e's block, time and writer, and a lower verifier
abbrev pub is_under : Entry → Entry → Bool
is_under e f = (f.block == e.block) && (f.stamp.time == e.stamp.time) && (f.stamp.client == e.stamp.client) && before f.stamp e.stamp

-- e's mark in the history: the verifiers of its block, time and writer are numbered from 1 in their order
abbrev pub mark : List Entry → Entry → ℕ
mark h e = 1 + different_stamps (map (λ f. f.stamp) (filter (is_under e) h))

-- the order of a report's lines: that of the entries, with the mark in the verifier's place
unfoldable pub line_cmp : List Entry → Entry → Entry → Ordering
line_cmp h =
    then_cmp (on (λ e. e.block) nat_cmp)
    (then_cmp (on (λ e. e.stamp.time) nat_cmp)
    (then_cmp (on (λ e. e.stamp.client) nat_cmp)
    (then_cmp (on (mark h) nat_cmp)
    (then_cmp (on (λ e. is_read e.kind) nat_cmp)
    (then_cmp (on (λ e. e.end) place_cmp)
    (then_cmp (on (λ e. e.client) nat_cmp) (on (λ e. e.start) place_cmp)))))))

-- the write, if it ended as spent
abbrev pub spent_write : Record → Option Outcome → Option ℕ → Option SpentWrite
spent_write r (Some Spent) (Some end) = Some (record { client = r.client; start = r.start; end = end })
spent_write r _ _ = None

-- a write among these records ended as spent, with this client, start and end
abbrev pub IsSpentWrite : List Record → SpentWrite → Type 0
IsSpentWrite records x = (r : Record) × Contains records r × (r.outcome ≡ Some Spent) × (r.client ≡ x.client) × (r.start ≡ x.start) × (r.end ≡ Some x.end)

-- the writes that ended as spent, in order of start
abbrev pub spent_writes : List Record → List SpentWrite
spent_writes records = filter_map (λ r. spent_write r r.outcome r.end) records

-- a completed read or write
abbrev pub is_done : Option Outcome → Bool
is_done (Some (Wrote stamp)) = true
is_done (Some (Gave stamp value how rounds)) = true
is_done _ = false

-- a write that ended as spent
abbrev pub is_spent : Option Outcome → Bool
is_spent (Some Spent) = true
is_spent _ = false

-- it hasn't ended
abbrev pub is_pending : Option ℕ → Bool
is_pending None = true
is_pending (Some end) = false

-- a read that stored again what it gave
abbrev pub is_repaired : Option Outcome → Bool
is_repaired (Some (Gave stamp value Repaired rounds)) = true
is_repaired _ = false

-- the rounds of a completed read
abbrev pub rounds_of : Option Outcome → ℕ
rounds_of (Some (Gave stamp value how rounds)) = rounds
rounds_of _ = 0

-- completed reads and writes, writes that ended as spent, operations that haven't ended, repaired reads, the rounds of completed reads
abbrev pub counts_of : List Record → Counts
counts_of records = record {
  done = count_by (λ r. is_done r.outcome) records;
  spent = count_by (λ r. is_spent r.outcome) records;
  pending = count_by (λ r. is_pending r.end) records;
  repaired = count_by (λ r. is_repaired r.outcome) records;
  rounds = sum_by (λ r. rounds_of r.outcome) records;
}

-- the entry has an end
abbrev pub is_ended : Entry → Bool
is_ended e = not (is_pending e.end)
