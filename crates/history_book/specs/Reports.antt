-- The text of a history.
use Rattle.std.specs.Prelude.{ℕ, List, [], ◌∷◌, ◌++◌, map, codes, decimal, Option}
use Rattle.std.specs.declared.option.Option.TheVariants.{None, Some}
use Rattle.text_lines.specs.Fields.{value_text}
use Rattle.text_lines.specs.Lines.{line_of_fields, text_of_lines}
use Rattle.history_making.specs.declared.entry.Kind.{Kind}
use Rattle.history_making.specs.declared.entry.Kind.TheVariants.{Read, Write, Foreign}
use Rattle.history_making.specs.declared.entry.Entry.{Entry}
use Rattle.history_making.specs.declared.entry.Spent.{Spent}
use Rattle.history_making.specs.declared.entry.Counts.{Counts}
use Rattle.history_making.specs.Books.{Book}

abbrev pub kind_word : Kind → List ℕ
kind_word Read = codes "read"
kind_word Write = codes "write"
kind_word Foreign = codes "foreign"

-- a place, or a hyphen where there is none
abbrev pub place_text : Option ℕ → List ℕ
place_text None = codes "-"
place_text (Some place) = decimal place

-- the stamp: time, writer and mark
abbrev pub stamp_text : Entry → List ℕ
stamp_text e = decimal e.time ++ codes "." ++ decimal e.writer ++ codes "." ++ decimal e.mark

-- client, places and value
abbrev pub operation_fields : Entry → List (List ℕ)
operation_fields e = decimal e.client ∷ place_text e.start ∷ place_text e.end ∷ value_text e.value ∷ []

abbrev pub entry_fields : Entry → List (List ℕ)
entry_fields e = decimal e.block ∷ stamp_text e ∷ kind_word e.kind ∷ operation_fields e

abbrev pub spent_fields : Spent → List (List ℕ)
spent_fields x = codes "spent" ∷ decimal x.client ∷ decimal x.start ∷ decimal x.end ∷ []

-- a count with its name
abbrev pub count_text : List ℕ → ℕ → List ℕ
count_text name count = name ++ codes "=" ++ decimal count

-- the counts after those of done and spent operations
abbrev pub further_counts : Counts → List (List ℕ)
further_counts c = count_text (codes "pending") c.pending ∷ count_text (codes "repaired") c.repaired ∷ count_text (codes "rounds") c.rounds ∷ []

abbrev pub end_fields : Counts → List (List ℕ)
end_fields c = codes "end" ∷ count_text (codes "done") c.done ∷ count_text (codes "spent") c.spent ∷ further_counts c

abbrev pub entry_line : Entry → List ℕ
entry_line e = line_of_fields (entry_fields e)

abbrev pub spent_line : Spent → List ℕ
spent_line x = line_of_fields (spent_fields x)

abbrev pub end_line : Counts → List ℕ
end_line c = line_of_fields (end_fields c)

-- the lines of a history: entries, spent writes, counts
abbrev pub report_lines : Book → List (List ℕ)
report_lines book = map entry_line book.entries ++ map spent_line book.spent ++ end_line book.counts ∷ []

abbrev pub report_text : Book → List ℕ
report_text book = text_of_lines (report_lines book)
