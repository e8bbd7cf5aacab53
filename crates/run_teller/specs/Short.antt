-- Lines that are short enough for a picture.
use Rattle.std.specs.Prelude.{◌≡◌, ℕ, nat_le, ◌==◌, List, [], ◌∷◌, ◌++◌, length, take, map, codes, if◌then◌else◌}
use Rattle.text_lines.specs.Lines.{fields_of, line_of_fields, parts_of}

-- the first so many characters of a text, and three dots where it has more
abbrev pub shortened : ℕ → List ℕ → List ℕ
shortened most text = if nat_le (length text) most then text else take most text ++ codes "..."

-- how many characters a field has at most: a value, which begins with x, those of its first six bytes
abbrev pub room_of : List ℕ → ℕ
room_of [] = 28
room_of (first ∷ more) = if first == 120 then 13 else 28

abbrev pub short_field : List ℕ → List ℕ
short_field field = shortened (room_of field) field

-- the first 60 characters of a line whose long fields are shortened
abbrev pub short_line : List ℕ → List ℕ
short_line line = shortened 60 (line_of_fields (map short_field (fields_of line)))

-- the lines of a text, shortened, but for what stands after its last newline
pub record AreLinesOf (text : List ℕ) (lines : List (List ℕ)) : Type 0 where
  pub last : List ℕ
  pub parts : lines ++ short_line last ∷ [] ≡ map short_line (parts_of text)
