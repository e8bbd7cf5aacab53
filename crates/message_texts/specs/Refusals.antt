-- Why a text is refused.
use Rattle.std.specs.Prelude.{List, ℕ}
use Rattle.message_texts.specs.declared.refusal.TextRefusal.{TextRefusal}
use Rattle.message_texts.specs.declared.refusal.TextRefusal.TheVariants.{NoMemory, At}
use Rattle.message_texts.specs.Longest.{IsLongest}
use Rattle.message_texts.specs.Texts.{IsText}

-- no message has the text, and k is how much of it begins the text of some message; want of memory is free
abbrev pub IsRefusal : List ℕ → TextRefusal → Type 0
IsRefusal text NoMemory = Unit {0}
IsRefusal text (At k) = (¬ IsText text) × IsLongest IsText text k
