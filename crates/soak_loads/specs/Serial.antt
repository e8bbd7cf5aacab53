-- Runs in which the operations of each block come one after another.
use Rattle.std.specs.Prelude.{◌≡◌, ℕ, ◌<◌, ◌≤◌, false, List, [], ◌∷◌, map, Option}
use Rattle.std.specs.declared.option.Option.TheVariants.{Some}
use Rattle.std.specs.List.{Contains, AllByRecursion, flat_map, range_with_len}
use Rattle.wire_forms.specs.declared.op.Op.{Op}
use Rattle.wire_forms.specs.declared.op.Op.TheVariants.{Read, Write}
use Rattle.run_words.specs.declared.outcome.Outcome.TheVariants.{Wrote, Gave}
use Rattle.protocol.specs.Setting.{Setting, first_stamp}
use Rattle.protocol.specs.Operations.{Work, Outcome}
use Rattle.protocol.specs.Operations.Work.{Reads, Writes}
use Rattle.protocol.specs.World.{World, Record}
use Rattle.protocol.specs.History.{Entry, NoClash}
use Rattle.history_making.specs.Books.{Book}
use Rattle.history_making.specs.Tellings.{Tells}
use Rattle.soak_loads.specs.Soaks.{plain_line}
use Rattle.soak_loads.specs.Plain.{Deed, first_register, entries_from}

-- one ended before the other began
abbrev pub IsPast : Record → Record → Type 0
IsPast r q = (end : ℕ) × (r.end ≡ Some end) × (end < q.start)

-- each ended before those behind it began
abbrev pub AreInTurn : List Record → Type 0
AreInTurn [] = Unit {0}
AreInTurn (r ∷ rs) = AllByRecursion (IsPast r) rs × AreInTurn rs

-- a read gave a value, and a write wrote, by a stamp of its own client and of some time
abbrev pub IsDone : Work → ℕ → Option Outcome → Type 0
IsDone Reads client (Some (Gave stamp value how rounds)) = Unit {0}
IsDone (Writes value) client (Some (Wrote stamp)) = (stamp.client ≡ client) × (1 ≤ stamp.time)
IsDone _ client _ = ⊥

-- the operations of each block came one after another, and all are done
pub record AreSerial (s : Setting) (w : World) (rs : ℕ → List Record) : Type 0 where
  pub all : (r : Record) → Contains w.records r → (r.block < s.blocks) × Contains (rs r.block) r
  pub only : (block : ℕ) (r : Record) → Contains (rs block) r → Contains w.records r × (r.block ≡ block)
  pub turns : (block : ℕ) → AreInTurn (rs block)
  pub done : (block : ℕ) (r : Record) → Contains (rs block) r → IsDone r.work r.client r.outcome

-- what a record's operation does
abbrev pub op_by : ℕ → Work → Op
op_by block Reads = Read block
op_by block (Writes value) = Write block value

abbrev pub record_deed : Record → Deed
record_deed r = record { client = r.client; op = op_by r.block r.work }

-- where no client lies and no two strings that were seen clash, the history of such a run tells, its places aside, what its operations
-- do on plain registers, block by block, in the order in which they came
abbrev pub SerialRunsArePlain : Setting → World → Type 0
SerialRunsArePlain s w =
    (h : List Entry) (book : Book) (rs : ℕ → List Record)
    → NoClash s w
    → Tells w.records (first_stamp s) h book
    → ((client : ℕ) → s.lying_client client ≡ false)
    → AreSerial s w rs
    → map plain_line book.entries ≡ map plain_line (flat_map (λ block. entries_from (first_register s.size) (map record_deed (rs block))) (range_with_len 0 s.blocks))
