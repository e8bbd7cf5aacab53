-- The line that is written of a run that a number made.
use Rattle.std.specs.Prelude.{ℕ, List, [], ◌∷◌, ◌++◌, map, codes, decimal}
use Rattle.hex.specs.Hex.{encode_lower}
use Rattle.cross_sum.specs.Digest.{digest}
use Rattle.text_lines.specs.Fields.{value_text}
use Rattle.text_lines.specs.Lines.{line_of_fields, text_of_lines}
use Rattle.history_making.specs.declared.entry.Entry.{Entry}
use Rattle.history_making.specs.Books.{Book}
use Rattle.history_book.specs.Reports.{stamp_text, kind_word, count_text}

-- what an entry is, whose, and its value
abbrev pub deed_fields : Entry → List (List ℕ)
deed_fields e = kind_word e.kind ∷ decimal e.client ∷ value_text e.value ∷ []

-- an entry without its places
abbrev pub plain_line : Entry → List ℕ
plain_line e = line_of_fields (decimal e.block ∷ stamp_text e ∷ deed_fields e)

-- the digest of the entries without their places
abbrev pub entries_sum : List Entry → List ℕ
entries_sum entries = digest (text_of_lines (map plain_line entries))

abbrev pub sum_field : List ℕ → List ℕ
sum_field sum = codes "sum=" ++ encode_lower sum

-- how many operations were done and how many writes spent, and a digest
abbrev pub outcome_fields : ℕ → ℕ → List ℕ → List (List ℕ)
outcome_fields done spent sum = count_text (codes "done") done ∷ count_text (codes "spent") spent ∷ sum_field sum ∷ []

abbrev pub line_with : ℕ → ℕ → ℕ → List ℕ → List ℕ
line_with number done spent sum = line_of_fields (codes "soak" ∷ count_text (codes "number") number ∷ outcome_fields done spent sum)

-- the line of a number, of these counts and of entries
abbrev pub soak_line : ℕ → ℕ → ℕ → List Entry → List ℕ
soak_line number done spent entries = line_with number done spent (entries_sum entries)

abbrev pub soak_text : ℕ → Book → List ℕ
soak_text number book = text_of_lines (soak_line number book.counts.done book.counts.spent book.entries ∷ [])
