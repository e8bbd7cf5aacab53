-- What the texts of a picture say.
use Rattle.std.specs.Prelude.{ℕ, List, [], ◌∷◌}
use Rattle.picture_svg.specs.declared.classes.Class.{Class}
use Rattle.picture_svg.specs.declared.texts.Words.{Words}

-- a text and its class, wherever it stands
pub record Said : Type 0 where
  pub class : Class
  pub text : List ℕ

abbrev pub said_of : Words → Said
said_of words = record { class = words.class; text = words.text }

-- a text, where it isn't empty
abbrev pub some_said : Class → List ℕ → List Said
some_said class [] = []
some_said class (c ∷ cs) = (record { class = class; text = c ∷ cs }) ∷ []

abbrev pub say : Class → List ℕ → Said
say class text = record { class = class; text = text }
