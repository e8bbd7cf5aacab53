-- The text of a picture.
use Rattle.std.specs.Prelude.{◌≡◌, ℕ, List, ◌++◌, length, map, codes, decimal}
use Rattle.std.specs.List.{flat_map}
use Rattle.text_lines.specs.Lines.{Lacks}
use Rattle.picture_svg.specs.Shapes.{escaped, shape_text, words_text}
use Rattle.picture_svg.specs.Texts.{said_of}
use Rattle.picture_svg.specs.Titles.{title_text, description_text}
use Rattle.picture_svg.specs.Words.{picture_words, legend_words}
use Rattle.picture_svg.specs.declared.document.Parts.{Parts}
use Rattle.picture_svg.specs.declared.legend.Legend.{Legend}
use Rattle.picture_svg.specs.declared.markers.Marker.{Marker}
use Rattle.picture_svg.specs.declared.markers.Marker.TheVariants as markers
use Rattle.picture_svg.specs.declared.markers.TheConstants.{ASK, ASK_LIE, ANSWER, ANSWER_LIE, STALE, STALE_LIE, DIAMOND}
use Rattle.picture_svg.specs.declared.picture.Actor.{Actor}
use Rattle.picture_svg.specs.declared.picture.Picture.{Picture}
use Rattle.picture_svg.specs.declared.px.Point.{Point}
use Rattle.picture_svg.specs.declared.shapes.Shape.{Shape}
use Rattle.picture_svg.specs.declared.texts.Words.{Words}

-- an end of an arrow: a path, and no words
abbrev pub marker_text : Marker → List ℕ
marker_text markers.Ask = ASK.now
marker_text markers.AskLie = ASK_LIE.now
marker_text markers.Answer = ANSWER.now
marker_text markers.AnswerLie = ANSWER_LIE.now
marker_text markers.Stale = STALE.now
marker_text markers.StaleLie = STALE_LIE.now
marker_text markers.Diamond = DIAMOND.now

abbrev pub size_text : Point → List ℕ
size_text size = codes " width=\"" ++ (decimal size.x.0 ++ (codes "\" height=\"" ++ (decimal size.y.0 ++ codes "\"")))

abbrev pub view_text : Point → List ℕ
view_text size = codes " viewBox=\"0 0 " ++ (decimal size.x.0 ++ (codes " " ++ (decimal size.y.0 ++ codes "\"")))

-- the beginning: an image of this size, with a title and a description
abbrev pub beginning : Point → List ℕ
beginning size =
    codes "<svg xmlns=\"http://www.w3.org/2000/svg\"" ++ (size_text size ++ (view_text size
    ++ codes " role=\"img\" aria-labelledby=\"picture-title picture-desc\">\n"))

-- the title
abbrev pub title_element : List ℕ → List ℕ
title_element title = codes "<title id=\"picture-title\">" ++ (escaped title ++ codes "</title>\n")

-- the description
abbrev pub description_element : List ℕ → List ℕ
description_element description = codes "<desc id=\"picture-desc\">" ++ (escaped description ++ codes "</desc>\n")

abbrev pub head_text : Point → List ℕ → List ℕ → List ℕ
head_text size title description = beginning size ++ (title_element title ++ description_element description)

-- the styles and the ends of arrows
abbrev pub looks_text : List ℕ → List Marker → List ℕ
looks_text styles markers = codes "<style>\n" ++ (styles ++ (codes "</style>\n" ++ flat_map marker_text markers))

-- the shapes, then the texts, and the end
abbrev pub body_text : List Shape → List Words → List ℕ
body_text shapes words = flat_map shape_text shapes ++ (flat_map words_text words ++ codes "</svg>\n")

abbrev pub document : Parts → List ℕ
document d = head_text d.size d.title d.description ++ (looks_text d.styles d.markers.items ++ body_text d.shapes.items d.words.items)

-- the description tells how many rows there are, who lies, and what became of the operations. Who crashes is left open
abbrev pub IsDescription : Picture → List ℕ → Type 0
IsDescription p text = (crashed : List Actor) × (text ≡ description_text (length p.rows.items) p.lifelines.items crashed p.deeds.outcomes)

-- these say what the picture says, each text once and in order, and then what a legend does
abbrev pub Says : Picture → List Words → Type 0
Says p words = (legend : Legend) × (map said_of words ≡ picture_words p ++ legend_words legend)

-- the text is one SVG image with the picture's title and description, and its texts are those of the picture. Where they stand, and
-- which shapes stand below them, is left open
pub record IsPictureOf (p : Picture) (text : List ℕ) : Type 0 where
  pub parts : Parts
  pub is : text ≡ document parts
  pub title : parts.title ≡ title_text p.lifelines.items
  pub description : IsDescription p parts.description
  pub plain : Lacks 60 parts.styles
  pub says : Says p parts.words.items
