-- What a plan's operations do, one after another, on plain registers.
use Rattle.std.specs.Prelude.{ℕ, ◌+◌, ◌==◌, Bool, List, [], ◌∷◌, length, filter, replicate, Option}
use Rattle.std.specs.declared.option.Option.TheVariants.{None, Some}
use Rattle.std.specs.List.{filter_map, flat_map, range_with_len}
use Rattle.text_lines.specs.Lines.{text_of_lines}
use Rattle.quorum_rules.specs.Limits.{Numbers}
use Rattle.wire_forms.specs.declared.op.Op.{Op}
use Rattle.wire_forms.specs.declared.op.Op.TheVariants.{Read as ReadOp, Write as WriteOp}
use Rattle.protocol.specs.Seen.{block_of}
use Rattle.history_making.specs.declared.entry.Kind.{Kind}
use Rattle.history_making.specs.declared.entry.Kind.TheVariants.{Read, Write}
use Rattle.history_making.specs.declared.entry.Entry.{Entry}
use Rattle.plan_words.specs.declared.job.Job.{Job}
use Rattle.plan_words.specs.declared.job.Job.TheVariants.{Block}
use Rattle.plan_words.specs.declared.plan.Plan.{Plan}
use Rattle.soak_loads.specs.Soaks.{soak_line}

-- an operation and whose it is
pub record Deed : Type 0 where
  pub client : ℕ
  pub op : Op

abbrev pub deed_of : Job → Option Deed
deed_of (Block client op) = Some (record { client = client; op = op })
deed_of _ = None

-- the operations of a plan's work that has no commands of the device
abbrev pub deeds_of : List Job → List Deed
deeds_of work = filter_map deed_of work

abbrev pub kind_of : Op → Kind
kind_of (ReadOp block) = Read
kind_of (WriteOp block value) = Write

abbrev pub is_on : ℕ → Deed → Bool
is_on block d = block_of d.op == block

-- a register: how many writes it has had, whose the last one was, and the value that it wrote
pub record Register : Type 0 where
  pub time : ℕ
  pub writer : ℕ
  pub value : List ℕ

-- before any write: nobody's zeros
abbrev pub first_register : ℕ → Register
first_register size = record { time = 0; writer = 0; value = replicate size 0 }

-- the register after an operation
abbrev pub after : Op → ℕ → Register → Register
after (ReadOp block) client r = r
after (WriteOp block value) client r = record { time = r.time + 1; writer = client; value = value }

-- an operation that left the register so, as an entry: its mark is 1, and it has no places
abbrev pub entry_of : Deed → Register → Entry
entry_of d r = record { block = block_of d.op; time = r.time; writer = r.writer; mark = 1; kind = kind_of d.op; client = d.client; start = None; end = None; value = r.value }

-- operations on one register, one after another
abbrev pub entries_from : Register → List Deed → List Entry
entries_from r [] = []
entries_from r (d ∷ ds) = let next = after d.op d.client r in entry_of d next ∷ entries_from next ds

-- the operations of each block on its register, blocks ascending
abbrev pub plain_entries : Numbers → List Deed → List Entry
plain_entries c deeds = flat_map (λ block. entries_from (first_register c.size) (filter (is_on block) deeds)) (range_with_len 0 c.blocks)

-- the line of a plan whose operations are done one after another: all are done, and no write is spent
abbrev pub plain_text : ℕ → Plan → List ℕ
plain_text number plan =
    let deeds = deeds_of plan.work in
    text_of_lines (soak_line number (length deeds) 0 (plain_entries plan.config deeds) ∷ [])
