-- The texts of a picture, in their order.
use Rattle.std.specs.Prelude.{ℕ, suc, zero, ◌+◌, ◌-◌, ◌/◌, List, [], ◌∷◌, ◌++◌, length, map, codes, decimal, string_bytes, if◌then◌else◌}
use Rattle.std.specs.List.{flat_map}
use Rattle.picture_svg.specs.Names.{actor_text}
use Rattle.picture_svg.specs.Texts.{Said, say, some_said}
use Rattle.picture_svg.specs.declared.classes.Class.TheVariants.{Caption, Place, Line, Label, Note, Head, Lies, Title, Report, Legend as LegendWords}
use Rattle.picture_svg.specs.declared.layout.TheConstants.{STAMPS}
use Rattle.picture_svg.specs.declared.legend.Entry.{Entry}
use Rattle.picture_svg.specs.declared.legend.Legend.{Legend}
use Rattle.picture_svg.specs.declared.picture.Lifeline.{Lifeline}
use Rattle.picture_svg.specs.declared.picture.Row.{Row}
use Rattle.picture_svg.specs.declared.picture.Picture.{Picture}

-- what is written beside a client's bar: one line, or two
abbrev pub label_words : List ℕ → List ℕ → List Said
label_words first second = some_said Label first ++ some_said Label second

-- a row: its place, its line, what is written beside its client's bar, and what came of it
abbrev pub row_words : ℕ → Row → List Said
row_words place row =
    say Place (decimal place) ∷ say Line row.line
    ∷ (label_words (string_bytes row.remarks.first) (string_bytes row.remarks.second) ++ some_said Note (string_bytes row.remarks.note))

-- the rows, the first of which has this place
abbrev pub rows_words : ℕ → List Row → List Said
rows_words place [] = []
rows_words place (row ∷ rows) = row_words place row ++ rows_words (place + 1) rows

-- the head of a lifeline: who it is, and whether it lies
abbrev pub head_words : Lifeline → List Said
head_words l = say Head (actor_text l.actor) ∷ (if l.is_liar then say Lies (codes "lies") ∷ [] else [])

abbrev pub heads_words : List Lifeline → List Said
heads_words lifelines = flat_map head_words lifelines

-- the texts so many times
abbrev pub repeated : ℕ → List Said → List Said
repeated zero said = []
repeated (suc times) said = repeated times said ++ said

-- the heads again: above each row after every 40
abbrev pub again_words : ℕ → List Lifeline → List Said
again_words rows lifelines = repeated ((rows - 1) / 40) (heads_words lifelines)

-- the report below the rows, and what must be known of its stamps
abbrev pub report_words : List (List ℕ) → List Said
report_words report = say Title (codes "report") ∷ (map (say Report) report ++ say Caption STAMPS.now ∷ [])

-- all texts of a picture but for those of its legend: the caption, the heads, the rows, the heads that stand between rows, the report
abbrev pub picture_words : Picture → List Said
picture_words p =
    map (say Caption) p.caption.items
    ++ (heads_words p.lifelines.items
    ++ (rows_words 1 p.rows.items
    ++ (again_words (length p.rows.items) p.lifelines.items
    ++ report_words p.report.items)))

-- the words of a sign that the legend explains
abbrev pub entry_words : Entry → Said
entry_words entry = say LegendWords entry.words.now

abbrev pub legend_words : Legend → List Said
legend_words legend = map entry_words legend.entries.items
