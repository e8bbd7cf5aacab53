-- Words that spell numbers, and words one by one.
use Rattle.std.proofs.Common.{◌≡◌, ℕ, ◌^◌, ◌<◌, ◌≤◌, ◌-◌, List, ◌∷◌, [], length, take, drop, get_or, refl, arith}
use Rattle.std.specs.Prelude.{decimal, string_bytes, Some}
use Rattle.std.specs.declared.string.String.{String}
use Rattle.std.specs.declared.alloc.Global.{Global}
use Rattle.std.proofs.lemmas.List.{take_all, length-map}
use Rattle.text_lines.specs.Fields.{number_of}
use Rattle.text_lines.proofs.lemmas.Numbers.{number_of-some}
use Rattle.store_words.specs.Words.{texts}
use Rattle.store_words.specs.Causes.{create_cause}
use Rattle.store_words.specs.declared.refusal.BadWords.TheVariants.{WrongCount}

pub texts_length : (words : List (String Global)) → length (texts words) ≡ length words
texts_length words = length-map words string_bytes

pub spelled : (word : List ℕ) (n : ℕ) → number_of (2 ^ 32) word ≡ Some n → word ≡ decimal n
spelled word n e = (number_of-some (2 ^ 32) word n e).0

pub number_fits : (word : List ℕ) (n : ℕ) → number_of (2 ^ 32) word ≡ Some n → n < 2 ^ 32
number_fits word n e = (number_of-some (2 ^ 32) word n e).1

-- the words from the second on, and from the eighth on
abbrev pub behind_one : List (String Global) → List (String Global)
behind_one words = take (length words - 1) (drop 1 words)

abbrev pub behind_seven : List (String Global) → List (String Global)
behind_seven words = take (length words - 7) (drop 7 words)

pub one_text : (words : List (String Global)) (a : String Global) → a ≡ get_or words 0 a → 1 ≤ length words
    → texts words ≡ string_bytes a ∷ texts (behind_one words)
one_text (x ∷ rest) a e long = rw (e, take_all (length (x ∷ rest) - 1) rest (omega arith)) refl
one_text [] a e long = absurd (omega arith)

pub seven_texts : (words : List (String Global)) (a b c d e f g : String Global)
    → a ≡ get_or words 0 a → b ≡ get_or words 1 b → c ≡ get_or words 2 c → d ≡ get_or words 3 d → e ≡ get_or words 4 e → f ≡ get_or words 5 f → g ≡ get_or words 6 g
    → 7 ≤ length words
    → texts words ≡ string_bytes a ∷ string_bytes b ∷ string_bytes c ∷ string_bytes d ∷ string_bytes e ∷ string_bytes f ∷ string_bytes g ∷ texts (behind_seven words)
seven_texts (x0 ∷ x1 ∷ x2 ∷ x3 ∷ x4 ∷ x5 ∷ x6 ∷ rest) a b c d e f g ea eb ec ed ee ef eg long =
    rw (ea, eb, ec, ed, ee, ef, eg, take_all (length (x0 ∷ x1 ∷ x2 ∷ x3 ∷ x4 ∷ x5 ∷ x6 ∷ rest) - 7) rest (omega arith)) refl
seven_texts _ a b c d e f g ea eb ec ed ee ef eg long = absurd (omega arith)

-- fewer than seven words are too few behind `create`
few_words : (words : List (List ℕ)) → length words < 7 → create_cause words ≡ Some WrongCount
few_words [] few = refl
few_words (x0 ∷ []) few = refl
few_words (x0 ∷ x1 ∷ []) few = refl
few_words (x0 ∷ x1 ∷ x2 ∷ []) few = refl
few_words (x0 ∷ x1 ∷ x2 ∷ x3 ∷ []) few = refl
few_words (x0 ∷ x1 ∷ x2 ∷ x3 ∷ x4 ∷ []) few = refl
few_words (x0 ∷ x1 ∷ x2 ∷ x3 ∷ x4 ∷ x5 ∷ []) few = refl
few_words (x0 ∷ x1 ∷ x2 ∷ x3 ∷ x4 ∷ x5 ∷ x6 ∷ rest) few = absurd (omega arith)

pub too_few : (words : List (String Global)) → length words < 7 → create_cause (texts words) ≡ Some WrongCount
too_few words few = few_words (texts words) (rw (texts_length words) few)
