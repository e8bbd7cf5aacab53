-- An entry that may stand at a place of a report is told by its fields, and its line has no cause there.
use Rattle.std.proofs.Common.{◌≡◌, ℕ, ◌<◌, ◌≤◌, ◌^◌, Bool, true, false, ◌||◌, ◌&&◌, leb, ltb, eqb, List, [], ◌∷◌, length, Option, Some, None, refl, sym, ap, ◌∙◌, arith, lit<, lit≤}
use Rattle.std.specs.Prelude.{slice_get, codes, decimal, not, IfSome}
use Rattle.std.specs.declared.cmp.Ordering.{Ordering}
use Rattle.std.specs.declared.cmp.Ordering.TheVariants.{Less}
use Rattle.std.specs.Ordering.{is_lt}
use Rattle.std.specs.Str.Parse.{AllDigits}
use Rattle.std.proofs.lemmas.Bool.Decides.{nat_tests}
use Rattle.std.proofs.lemmas.Fmt.{decimal_is_IsNumeral, decimal_nonempty}
use Rattle.std.proofs.lemmas.Str.Parse.{digit_from_value}
use Rattle.text_lines.specs.Lines.{fields_of, line_of_fields, parts_at}
use Rattle.text_lines.specs.Fields.{value_text}
use Rattle.text_lines.proofs.lemmas.Numbers.{number_of-decimal}
use Rattle.text_lines.proofs.lemmas.Values.{value_of-text}
use Rattle.text_lines.proofs.lemmas.Joined.{parts-joined, Lacks-decimal}
use Rattle.line_forms.specs.Tables.{first_of}
use Rattle.line_forms.specs.declared.cause.Cause.TheVariants.{OutOfRange, BadValue, NotSorted}
use Rattle.history_making.specs.declared.entry.Kind.{Kind}
use Rattle.history_making.specs.declared.entry.Kind.TheVariants.{Read, Write, Foreign}
use Rattle.history_making.specs.declared.entry.Entry.{Entry as EntryRecord}
use Rattle.history_making.specs.declared.entry.Spent.{Spent as SpentRecord}
use Rattle.history_book.specs.declared.numbers.Numbers.{Numbers}
use Rattle.history_book.specs.declared.reading.ReportLine.TheVariants.{Entry}
use Rattle.history_book.specs.Reports.{kind_word, place_text, stamp_text, entry_fields}
use Rattle.history_book.specs.ReportTexts.{◌>>=◌, IsPlaceOrNone, HasPlaces, IsTold, MayFollow, last_of, stamp_told, start_told, end_told, numbers_told, entry_told, entry_with, entry_causes, value_causes, has_other_size, is_bad_value, stands_above, begins_with_digit, line_cause, field}
use Rattle.history_making.specs.Orders.{key_cmp}
use Rattle.history_book.proofs.Spelling.{kind_back, stamp_parts, dots}
use Rattle.history_book.proofs.EntryLines.{Seven, with_numbers, told_entry}
use Rattle.history_book.proofs.OtherLines.{three_none}
use Rattle.history_book.proofs.ReadLines.{IsRead}
use Rattle.history_book.proofs.Words.{IsWord, AreWords, wide, word_decimal, word_value, word_kind, word_append, none_empty, fields_apart, differs_from_number}
use Rattle.lists.proofs.lemmas.Tests.{not_zero}

-- ---- places

start_back : (kind : Kind) (start end : Option ℕ) → HasPlaces kind start end → start_told kind (place_text start) ≡ Some start
start_back Read None end h = absurd h.0
start_back Read (Some p) end h = rw (number_of-decimal (2 ^ 64) p (lit≤ tt) h.0) refl
start_back Write None end h = absurd h.0
start_back Write (Some p) end h = rw (number_of-decimal (2 ^ 64) p (lit≤ tt) h.0) refl
start_back Foreign None end h = refl
start_back Foreign (Some p) end h = absurd (let clash : Some p ≡ None = h.0 in cc)

end_back : (kind : Kind) (start end : Option ℕ) → HasPlaces kind start end → end_told kind (place_text end) ≡ Some end
end_back Read start None h = absurd h.1
end_back Read start (Some p) h = rw (number_of-decimal (2 ^ 64) p (lit≤ tt) h.1) refl
end_back Write start None h = refl
end_back Write start (Some p) h = rw (differs_from_number p 45 [] h.1 (λ figure. omega arith), number_of-decimal (2 ^ 64) p (lit≤ tt) h.1) refl
end_back Foreign start None h = refl
end_back Foreign start (Some p) h = absurd (let clash : Some p ≡ None = h.1 in cc)

word_hyphen : IsWord (codes "-")
word_hyphen = record { some = lit< tt; space = refl; newline = refl }

word_place : (place : Option ℕ) → IsPlaceOrNone place → IsWord (place_text place)
word_place None h = word_hyphen
word_place (Some p) h = word_decimal p h

word_start : (kind : Kind) (start end : Option ℕ) → HasPlaces kind start end → IsWord (place_text start)
word_start Read None end h = absurd h.0
word_start Read (Some p) end h = word_decimal p h.0
word_start Write None end h = absurd h.0
word_start Write (Some p) end h = word_decimal p h.0
word_start Foreign None end h = word_hyphen
word_start Foreign (Some p) end h = absurd (let clash : Some p ≡ None = h.0 in cc)

word_end : (kind : Kind) (start end : Option ℕ) → HasPlaces kind start end → IsWord (place_text end)
word_end Read start None h = absurd h.1
word_end Read start (Some p) h = word_decimal p h.1
word_end Write start end h = word_place end h.1
word_end Foreign start None h = word_hyphen
word_end Foreign start (Some p) h = absurd (let clash : Some p ≡ None = h.1 in cc)

-- ---- stamps

word_dot : IsWord (codes ".")
word_dot = record { some = lit< tt; space = refl; newline = refl }

word_stamp : (e : EntryRecord) → IsTold e → IsWord (stamp_text e)
word_stamp e h =
    let t = word_decimal e.time h.time in
    let w = word_decimal e.writer (wide e.writer h.writer) in
    let m = word_decimal e.mark (wide e.mark h.mark_fits) in
    word_append _ (decimal e.mark) (word_append _ (codes ".") (word_append _ (decimal e.writer) (word_append (decimal e.time) (codes ".") t word_dot) w) word_dot) m

stamp_back : (e : EntryRecord) → IsTold e → stamp_told (stamp_text e) ≡ Some (record { time = e.time; writer = e.writer; mark = e.mark })
stamp_back e h =
    let t = decimal e.time in
    let w = decimal e.writer in
    let m = decimal e.mark in
    let parts : parts_at 46 (stamp_text e) ≡ t ∷ w ∷ m ∷ [] =
    ap (parts_at 46) (dots t w m) ∙ parts-joined 46 t (w ∷ m ∷ []) (Lacks-decimal 46 e.time (lit< tt) h.time, (Lacks-decimal 46 e.writer (lit< tt) (wide e.writer h.writer), (Lacks-decimal 46 e.mark (lit< tt) (wide e.mark h.mark_fits), tt))) in
    stamp_parts (stamp_text e) (t ∷ w ∷ m ∷ []) parts
    ∙ rw (number_of-decimal (2 ^ 64) e.time (lit≤ tt) h.time, number_of-decimal (2 ^ 32) e.writer (lit≤ tt) h.writer, number_of-decimal (2 ^ 32) e.mark (lit≤ tt) h.mark_fits) refl

-- ---- entries

abbrev numbers_of : EntryRecord → Numbers
numbers_of e = record { block = e.block; stamp = record { time = e.time; writer = e.writer; mark = e.mark }; client = e.client; start = e.start; end = e.end }

numbers_back : (e : EntryRecord) → IsTold e → numbers_told e.kind (decimal e.block) (stamp_text e) (decimal e.client) (place_text e.start) (place_text e.end) ≡ Some (numbers_of e)
unfolding numbers_told
numbers_back e h =
    rw (
      number_of-decimal (2 ^ 32) e.block (lit≤ tt) h.block,
      stamp_back e h,
      number_of-decimal (2 ^ 32) e.client (lit≤ tt) h.client,
      start_back e.kind e.start e.end h.places,
      end_back e.kind e.start e.end h.places,
    ) refl

-- the fields of an entry tell it
pub entry_back : (e : EntryRecord) → IsTold e → entry_told (entry_fields e) ≡ Some e
entry_back e h =
    told_entry e.kind (decimal e.block) (stamp_text e) (kind_word e.kind) (decimal e.client) (place_text e.start) (place_text e.end) (value_text e.value) (numbers_of e) (kind_back e.kind) (numbers_back e h)
    ∙ ap (λ (o : Option (List ℕ)). o >>= (λ x. Some (entry_with e.kind (numbers_of e) x))) (value_of-text e.value h.bytes)

pub entry_words : (e : EntryRecord) → IsTold e → AreWords (entry_fields e)
entry_words e h = (
  word_decimal e.block (wide e.block h.block),
  (
    word_stamp e h,
    (
      word_kind e.kind,
      (word_decimal e.client (wide e.client h.client), (word_start e.kind e.start e.end h.places, (word_end e.kind e.start e.end h.places, (word_value e.value, tt)))),
    ),
  ),
)

digit_first : (ds : List ℕ) → AllDigits 10 ds → 0 < length ds → begins_with_digit ds ≡ true
digit_first [] all some = absurd (omega arith)
digit_first (c ∷ ds) all some = (let d = digit_from_value c all.0 in is_digit c (omega arith) (omega arith))
  where
    is_digit : (b : ℕ) → 48 ≤ b → b < 58 → (leb 48 b && ltb b 58) ≡ true
    is_digit b low high = grind (arith, nat_tests)

number_first : (n : ℕ) → n < 2 ^ 64 → begins_with_digit (decimal n) ≡ true
number_first n lt = digit_first (decimal n) (decimal_is_IsNumeral n lt).0.1 (decimal_nonempty n lt)

right_size : (before : List EntryRecord) (value : List ℕ) → IfSome (slice_get before 0) (λ first. length value ≡ length first.value) → has_other_size before value ≡ false
right_size [] value h = refl
right_size (first ∷ more) value h = grind arith

right_place : (last : Option EntryRecord) (e : EntryRecord) → IfSome last (λ d. key_cmp d e ≡ Less) → not (stands_above last e) ≡ false
right_place None e h = refl
right_place (Some d) e h = ap (λ (o : Ordering). not (is_lt o)) h

either_false : (a b : Bool) → a ≡ false → b ≡ false → (a || b) ≡ false
either_false a b p q = rw (p, q) refl

-- nothing is wrong with an entry that may follow
no_entry_cause : (before : List EntryRecord) (e : EntryRecord) → MayFollow before e → first_of (entry_causes before [] (entry_fields e)) ≡ None
no_entry_cause before e h =
    let told = h.told in
    let full = none_empty (entry_fields e) (entry_words e told) in
    let seven : Seven before [] e.kind (decimal e.block) (stamp_text e) (kind_word e.kind) (decimal e.client) (place_text e.start) (place_text e.end) (value_text e.value) = record { none = refl; word = kind_back e.kind; full = full } in
    with_numbers before [] e.kind (decimal e.block) (stamp_text e) (kind_word e.kind) (decimal e.client) (place_text e.start) (place_text e.end) (value_text e.value) (numbers_of e) seven (numbers_back e told)
    ∙ ap (λ (o : Option (List ℕ)). first_of (value_causes before e.kind (numbers_of e) o)) (value_of-text e.value told.bytes)
    ∙ three_none (eqb e.mark 0) (is_bad_value before (Some e.value)) (not (stands_above (last_of before) e)) OutOfRange BadValue NotSorted (not_zero e.mark told.mark)
    (either_false (eqb (length e.value) 0) (has_other_size before e.value) (not_zero (length e.value) told.some_bytes) (right_size before e.value h.size))
    (right_place (last_of before) e h.above)

digit_line : (entries : List EntryRecord) (spent : List SpentRecord) (fields : List (List ℕ)) → begins_with_digit (field fields 0) ≡ true → line_cause entries spent fields ≡ first_of (entry_causes entries spent fields)
digit_line entries spent fields h = rw h refl

-- the line of an entry that may follow is read
pub entry_read : (before : List EntryRecord) (e : EntryRecord) → MayFollow before e → IsRead (Entry e) before [] (line_of_fields (entry_fields e))
entry_read before e h =
    let told = h.told in
    let word = decimal e.block in
    let apart : fields_of (line_of_fields (entry_fields e)) ≡ entry_fields e = fields_apart word (stamp_text e ∷ kind_word e.kind ∷ decimal e.client ∷ place_text e.start ∷ place_text e.end ∷ value_text e.value ∷ []) (entry_words e told) in
    let none : line_cause before [] (entry_fields e) ≡ None = digit_line before [] (entry_fields e) (number_first e.block (wide e.block told.block)) ∙ no_entry_cause before e h in
    (ap (line_cause before []) apart ∙ none, (sym apart, (h, refl), ap entry_told apart ∙ entry_back e told))
