-- The text of an element.
use Rattle.std.specs.Prelude.{ℕ, List, [], ◌∷◌, ◌++◌, codes, decimal, ◌==◌, ◌&&◌, nat_le, if◌then◌else◌}
use Rattle.std.specs.List.{flat_map}
use Rattle.picture_svg.specs.Classes.{class_name}
use Rattle.picture_svg.specs.declared.classes.Class.{Class}
use Rattle.picture_svg.specs.declared.px.Point.{Point}
use Rattle.picture_svg.specs.declared.shapes.Shape.{Shape}
use Rattle.picture_svg.specs.declared.shapes.Shape.TheVariants.{Line, Bend, Rect, Circle}
use Rattle.picture_svg.specs.declared.texts.Words.{Words}

-- a character as it stands in a text of XML; one that is no printable ASCII is a question mark
abbrev pub letter_text : ℕ → List ℕ
letter_text c =
    if c == 38 then codes "&amp;" else
    if c == 60 then codes "&lt;" else
    if c == 62 then codes "&gt;" else
    if nat_le 32 c && nat_le c 126 then c ∷ [] else codes "?"

abbrev pub escaped : List ℕ → List ℕ
escaped text = flat_map letter_text text

-- the beginning of an element: its name and its class
abbrev pub opening : List ℕ → Class → List ℕ
opening name class = codes "<" ++ (name ++ (codes " class=\"" ++ (class_name class ++ codes "\"")))

-- a length that an element has, under this name
abbrev pub measure : List ℕ → ℕ → List ℕ
measure name length = codes " " ++ (name ++ (codes "=\"" ++ (decimal length ++ codes "\"")))

-- where an element is
abbrev pub corner : Point → List ℕ
corner p = measure (codes "x") p.x.0 ++ measure (codes "y") p.y.0

-- a point of a path, after the letter that says how the path comes there
abbrev pub step : List ℕ → Point → List ℕ
step letter p = letter ++ (decimal p.x.0 ++ (codes " " ++ decimal p.y.0))

-- a shape, which has no words
abbrev pub shape_text : Shape → List ℕ
shape_text (Line class from to) = opening (codes "path") class ++ (codes " d=\"" ++ (step (codes "M") from ++ (step (codes "L") to ++ codes "\"/>\n")))
shape_text (Bend class from by to) = opening (codes "path") class ++ (codes " d=\"" ++ (step (codes "M") from ++ (step (codes "L") by ++ (step (codes "L") to ++ codes "\"/>\n"))))
shape_text (Rect class at width height) = opening (codes "rect") class ++ (corner at ++ (measure (codes "width") width.0 ++ (measure (codes "height") height.0 ++ codes "/>\n")))
shape_text (Circle class center radius) =
    opening (codes "circle") class ++ (measure (codes "cx") center.x.0 ++ (measure (codes "cy") center.y.0 ++ (measure (codes "r") radius.0 ++ codes "/>\n")))

-- a text
abbrev pub words_text : Words → List ℕ
words_text w = opening (codes "text") w.class ++ (corner w.point ++ (codes ">" ++ (escaped w.text ++ codes "</text>\n")))
