-- The operations of a run: those of its correct clients, and the writes that they read and none of them made; and its crashes.
use Rattle.std.specs.Prelude.{ℕ, Bool, false, not, ◌==◌, ◌&&◌, List, [], ◌∷◌, ◌++◌, filter, map, filter_map, Option}
use Rattle.std.specs.declared.option.Option.TheVariants.{None, Some}
use Rattle.std.specs.List.{list_any}
use Rattle.stamp_order.specs.declared.Stamp.{Stamp}
use Rattle.stamp_order.specs.Stamps.{same_stamp}
use Rattle.protocol.specs.Setting.{Setting, first_stamp}
use Rattle.protocol.specs.Operations.{Work, Outcome}
use Rattle.protocol.specs.Operations.Work.{Reads, Writes}
use Rattle.run_words.specs.declared.outcome.Outcome.TheVariants.{Wrote, Gave}
use Rattle.protocol.specs.World.{Record, World}
use Rattle.protocol.specs.Lines.{Line}
use Rattle.run_words.specs.declared.line.Line.TheVariants.{CrashClient}
use Rattle.protocol.specs.History.{Entry, foreign_entry}
use Rattle.linear_runs.specs.Linear.{Act, Operation}
use Rattle.linear_runs.specs.Linear.Act.{Read, Write}
use Rattle.linear_runs.specs.Durable.{Crash}

-- the operation of this record that did this
abbrev pub op_of : Record → Act → Operation
op_of r act = record { block = r.block; act = act; client = Some r.client; start = Some r.start; end = r.end }

-- what a correct client did: a read that gave a value, or a write that ended as written or hasn't ended; a write that ended
-- as spent wrote nothing, and a read that hasn't ended gave nothing
abbrev pub done_by : Record → Work → Option Outcome → Option Operation
done_by r Reads (Some (Gave stamp value how rounds)) = Some (op_of r (Read value))
done_by r (Writes value) (Some (Wrote stamp)) = Some (op_of r (Write value))
done_by r (Writes value) None = Some (op_of r (Write value))
done_by r _ _ = None

-- the operations of correct clients
abbrev pub known : List Record → List Operation
known records = filter_map (λ r. done_by r r.work r.outcome) records

-- the write that a read saw
abbrev pub seen_by : Record → Option Outcome → Option Entry
seen_by r (Some (Gave stamp value how rounds)) = Some (foreign_entry r.block stamp value)
seen_by r _ = None

-- one write: the block and the stamp tell
abbrev pub is_same : Entry → Entry → Bool
is_same e f = (e.block == f.block) && same_stamp e.stamp f.stamp

-- each of them once
abbrev pub each_once : List Entry → List Entry
each_once [] = []
each_once (e ∷ es) = e ∷ filter (λ f. not (is_same e f)) (each_once es)

-- a write that chose the stamp
abbrev pub chose : Stamp → Work → Option Stamp → Bool
chose stamp (Writes value) (Some chosen) = same_stamp chosen stamp
chose stamp _ _ = false

-- the record's write is this one
abbrev pub is_write_of : Entry → Record → Bool
is_write_of e r = (r.block == e.block) && chose e.stamp r.work r.stamp

-- nobody known made it: it isn't the block's first version, and no correct client's write
abbrev pub is_unknown : Stamp → List Record → Entry → Bool
is_unknown first records e = not (same_stamp e.stamp first) && not (list_any (is_write_of e) records)

-- such a write as an operation, of which nobody knows whose it is and when it took place
abbrev pub unknown_write : Entry → Operation
unknown_write e = record { block = e.block; act = Write e.value; client = None; start = None; end = None }

-- the writes that reads saw and nobody known made, each once
abbrev pub unknown : Stamp → List Record → List Operation
unknown first records =
    map unknown_write (filter (is_unknown first records) (each_once (filter_map (λ r. seen_by r r.outcome) records)))

-- the operations of a run
abbrev pub operations : Setting → World → List Operation
operations s w = known w.records ++ unknown (first_stamp s) w.records

-- the crash of a client at a line, if it is one
abbrev pub crash_at : ℕ → Line → Option Crash
crash_at place (CrashClient client) = Some (record { client = client; place = place })
crash_at place _ = None

-- the crashes of clients at the lines of a run
abbrev pub crashes_of : List (ℕ × Line) → List Crash
crashes_of lines = filter_map (λ l. crash_at l.0 l.1) lines
