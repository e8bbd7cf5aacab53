-- Printed fields: a line of them comes apart as it was put together.
use Rattle.std.proofs.Common.{◌≡◌, ℕ, ◌<◌, ◌^◌, Bool, true, false, List, [], ◌∷◌, ◌++◌, length, refl, arith, lit<}
use Rattle.std.specs.Prelude.{decimal}
use Rattle.std.specs.List.{AllByRecursion}
use Rattle.std.specs.Str.{bytes_eq}
use Rattle.std.specs.Int.{IsInRange}
use Rattle.std.proofs.lemmas.Fmt.{decimal_is_IsNumeral, decimal_nonempty}
use Rattle.std.proofs.lemmas.List.{length-append}
use Rattle.std.proofs.lemmas.Slice.Eq.{bytes_eq-Decides}
use Rattle.std.proofs.lemmas.Str.Parse.{digit_from_value}
use Rattle.text_lines.specs.Lines.{fields_of, line_of_fields, parts_of, text_of_lines, Lacks, AllLack}
use Rattle.text_lines.specs.Fields.{value_text}
use Rattle.text_lines.proofs.lemmas.Joined.{parts-joined, Lacks-append, Lacks-decimal, Lacks-value_text}
use Rattle.line_forms.specs.Kinds.{has_empty_field}
use Rattle.line_forms.proofs.lemmas.Accepted.{line_apart}
use Rattle.history_making.specs.declared.entry.Kind.{Kind}
use Rattle.history_making.specs.declared.entry.Kind.TheVariants.{Read, Write, Foreign}
use Rattle.history_book.specs.Reports.{kind_word}
use Rattle.lists.proofs.lemmas.Tests.{not_zero}

-- a text that may stand as a field of a line
pub record IsWord (text : List ℕ) : Type 0 where
  pub some : 0 < length text
  pub space : Lacks 32 text
  pub newline : Lacks 10 text

-- a text whose first byte is no figure is no number's
pub differs_from_number : (n c : ℕ) (word : List ℕ) → n < 2 ^ 64 → (IsInRange 48 57 c → ⊥) → bytes_eq (decimal n) (c ∷ word) ≡ false
differs_from_number n c word lt other = by_test (bytes_eq (decimal n) (c ∷ word)) refl
  where
    by_test : (b : Bool) → bytes_eq (decimal n) (c ∷ word) ≡ b → bytes_eq (decimal n) (c ∷ word) ≡ false
    by_test false e = e
    by_test true e =
        let is : decimal n ≡ c ∷ word = (bytes_eq-Decides (decimal n) (c ∷ word)).0 e in
        let digits = rw is at ((decimal_is_IsNumeral n lt).0.1) in
        absurd (other (digit_from_value c digits.0))

-- a number of 32 bits is one of 64
pub wide : (n : ℕ) → n < 2 ^ 32 → n < 2 ^ 64
wide n lt = omega arith

pub word_decimal : (n : ℕ) → n < 2 ^ 64 → IsWord (decimal n)
word_decimal n lt = record { some = decimal_nonempty n lt; space = Lacks-decimal 32 n (lit< tt) lt; newline = Lacks-decimal 10 n (lit< tt) lt }

pub word_value : (bytes : List ℕ) → IsWord (value_text bytes)
word_value bytes = record { some = omega arith; space = Lacks-value_text 32 bytes (lit< tt) (lit< tt); newline = Lacks-value_text 10 bytes (lit< tt) (lit< tt) }

pub word_kind : (kind : Kind) → IsWord (kind_word kind)
word_kind Read = record { some = lit< tt; space = refl; newline = refl }
word_kind Write = record { some = lit< tt; space = refl; newline = refl }
word_kind Foreign = record { some = lit< tt; space = refl; newline = refl }

pub word_append : (a b : List ℕ) → IsWord a → IsWord b → IsWord (a ++ b)
word_append a b h g = record {
  some = (let n = length-append a b in let low = h.some in omega arith);
  space = Lacks-append 32 a b h.space g.space;
  newline = Lacks-append 10 a b h.newline g.newline;
}

abbrev pub AreWords : List (List ℕ) → Type 0
AreWords fields = AllByRecursion IsWord fields

pub none_empty : (fields : List (List ℕ)) → AreWords fields → has_empty_field fields ≡ false
none_empty [] h = refl
none_empty (f ∷ fs) h = rw (not_zero (length f) h.0.some) (none_empty fs h.1)

no_spaces : (fields : List (List ℕ)) → AreWords fields → AllLack 32 fields
no_spaces [] h = tt
no_spaces (f ∷ fs) h = (h.0.space, no_spaces fs h.1)

no_newlines : (fields : List (List ℕ)) → AreWords fields → AllLack 10 fields
no_newlines [] h = tt
no_newlines (f ∷ fs) h = (h.0.newline, no_newlines fs h.1)

-- the line of fields has these fields
pub fields_apart : (first : List ℕ) (more : List (List ℕ)) → AreWords (first ∷ more) → fields_of (line_of_fields (first ∷ more)) ≡ first ∷ more
fields_apart first more h = parts-joined 32 first more (no_spaces (first ∷ more) h)

-- and it is the first line of a text that begins with it
pub first_apart : (first : List ℕ) (more lines : List (List ℕ)) → AreWords (first ∷ more) → parts_of (text_of_lines (line_of_fields (first ∷ more) ∷ lines)) ≡ line_of_fields (first ∷ more) ∷ parts_of (text_of_lines lines)
first_apart first more lines h = line_apart first more (text_of_lines lines) (no_newlines (first ∷ more) h)
