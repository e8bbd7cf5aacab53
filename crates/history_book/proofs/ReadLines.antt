-- A report from its first line to its last.
use Rattle.std.proofs.Common.{◌≡◌, ◌≢◌, ℕ, ◌+◌, ◌-◌, ◌<◌, ◌≤◌, ◌^◌, Bool, true, false, eqb, List, [], ◌∷◌, ◌++◌, length, map, take, get_or, Option, Some, None, refl, sym, ap, subst, ◌∙◌, arith, inl, inr, append_assoc}
use Rattle.std.specs.Prelude.{slice_get, codes, decimal, ◌||◌, if◌then◌else◌}
use Rattle.std.specs.declared.cmp.Ordering.TheVariants.{Less}
use Rattle.std.specs.List.Sorted.{IsNonDecreasingBy}
use Rattle.std.specs.Str.{bytes_eq}
use Rattle.std.proofs.lemmas.Bool.{cases_lt}
use Rattle.std.proofs.lemmas.List.{append-nil, map-append, length-append, length-map, length-take-le, take_at, take-append-le}
use Rattle.std.proofs.lemmas.List.Elements.{filter_map-append}
use Rattle.std.proofs.lemmas.List.Folds.{list_any-append}
use Rattle.std.proofs.lemmas.List.Sorted.{IsNonDecreasingBy-from_all_adjacent}
use Rattle.std.proofs.lemmas.Option.{slice_get_within, slice_get-get_or}
use Rattle.text_lines.specs.Lines.{fields_of, line_of_fields, parts_of}
use Rattle.text_lines.proofs.lemmas.Joined.{line_from_fields}
use Rattle.line_forms.specs.Tables.{first_of}
use Rattle.line_forms.specs.Texts.{IsFault, IsFaultless, ReadsTo, end_causes, ended}
use Rattle.line_forms.specs.declared.cause.Cause.{Cause}
use Rattle.line_forms.specs.declared.cause.Cause.TheVariants.{Empty, MissingLine, UnknownWord}
use Rattle.line_forms.proofs.lemmas.Texts.{reads_none, reads_on, line_fault, end_fault, end_causes-ended, cut_short, read_all, text_read}
use Rattle.history_making.proofs.lemmas.EntryOrders.{then_less}
use Rattle.history_making.proofs.lemmas.Fronts.{slice_get-take}
use Rattle.history_book.proofs.Words.{differs_from_number}
use Rattle.history_making.specs.declared.entry.Entry.{Entry as EntryRecord}
use Rattle.history_making.specs.declared.entry.Spent.{Spent as SpentRecord}
use Rattle.history_making.specs.declared.entry.Counts.{Counts}
use Rattle.history_book.specs.declared.reading.ReportLine.{ReportLine}
use Rattle.history_book.specs.declared.reading.ReportLine.TheVariants.{Entry, Spent, End}
use Rattle.history_making.specs.Books.{Book, IsBook}
use Rattle.history_book.specs.Reports.{entry_fields, spent_fields, end_fields, report_lines, report_text}
use Rattle.history_book.specs.ReportTexts.{field, entry_told, spent_told, entries_in, spent_in, has_end, line_cause, report_cause, report, MayFollow, MayFollowSpent, AreToldEntries, AreToldSpent, IsReport, last_of}
use Rattle.history_making.specs.Orders.{key_cmp}
use Rattle.history_book.specs.ReportLines.{line_fields, MayStand, IsToldBy, IsAdded, missing_at}
use Rattle.lists.proofs.lemmas.Members.{slice_get-front, slice_get-seam}

-- the lines of entries and spent writes
abbrev pub told_lines : List EntryRecord → List SpentRecord → List (List ℕ)
told_lines entries spent = map (λ e. line_of_fields (entry_fields e)) entries ++ map (λ x. line_of_fields (spent_fields x)) spent

-- the text was read up to the rest, and told these
pub record Told (text : List ℕ) (entries : List EntryRecord) (spent : List SpentRecord) (rest : List ℕ) : Type 0 where
  pub reads : ReadsTo report text (told_lines entries spent) rest
  pub right : AreToldEntries entries
  pub right_spent : AreToldSpent spent
  pub told : entries_in (told_lines entries spent) ≡ entries
  pub told_spent : spent_in (told_lines entries spent) ≡ spent
  pub not_ended : has_end (told_lines entries spent) ≡ false

pub told_none : (text : List ℕ) → Told text [] [] text
told_none text = record {
  reads = reads_none report text;
  right = λ i e h. absurd (let clash : None ≡ Some e = h in cc);
  right_spent = λ i x h. absurd (let clash : None ≡ Some x = h in cc);
  told = refl;
  told_spent = refl;
  not_ended = refl;
}

-- what is wrong with the next line
cause_now : (text : List ℕ) (entries : List EntryRecord) (spent : List SpentRecord) (rest line : List ℕ) → Told text entries spent rest → report_cause (told_lines entries spent) line ≡ line_cause entries spent (fields_of line)
cause_now text entries spent rest line h =
    let lines = told_lines entries spent in
    ap (λ (b : Bool). if b then Some UnknownWord else line_cause (entries_in lines) (spent_in lines) (fields_of line)) h.not_ended
    ∙ ap (λ (es : List EntryRecord). line_cause es (spent_in lines) (fields_of line)) h.told
    ∙ ap (λ (xs : List SpentRecord). line_cause entries xs (fields_of line)) h.told_spent

-- ---- one more at the end of a list

-- each element is right after those before it
abbrev EachIsRight : {A : Type 0} → (List A → A → Type 0) → List A → Type 0
EachIsRight {A} P xs = (i : ℕ) (x : A) → slice_get xs i ≡ Some x → P (take i xs) x

one_more : {A : Type 0} (P : List A → A → Type 0) (xs : List A) (x : A) → EachIsRight P xs → P xs x → EachIsRight P (xs ++ x ∷ [])
one_more {A} P xs x each here i y at =
    elim (cases_lt i (length xs)) [
      | inl lt ↦
          let front : take i (xs ++ x ∷ []) ≡ take i xs = take-append-le i xs (x ∷ []) (omega arith) in
          subst (λ (ys : List A). P ys y) (sym front) (each i y (sym (slice_get-front xs x i lt) ∙ at))
      | inr le ↦
          let size = length-append xs (x ∷ []) in
          let within = slice_get_within (xs ++ x ∷ []) i y at in
          let same : length xs ≡ i = omega arith in
          let some : Some x ≡ Some y = sym (slice_get-seam xs x []) ∙ ap (slice_get (xs ++ x ∷ [])) same ∙ at in
          let is : x ≡ y = cc in
          let front : take i (xs ++ x ∷ []) ≡ xs = ap (λ (n : ℕ). take n (xs ++ x ∷ [])) (sym same) ∙ take_at xs (x ∷ []) (length xs) refl in
          subst (λ (ys : List A). P ys y) (sym front) (subst (λ (z : A). P xs z) is here)
    ]

-- ---- the next line is read

not_the_end : (n : ℕ) → n < 2 ^ 64 → bytes_eq (decimal n) (codes "end") ≡ false
not_the_end n lt = differs_from_number n 101 (codes "nd") lt (λ figure. omega arith)

or_false : (a b : Bool) → a ≡ false → b ≡ false → (a || (b || false)) ≡ false
or_false a b p q = rw (p, q) refl

-- a line more, as it is told
record OneMore (lines : List (List ℕ)) (line : List ℕ) (e : Option EntryRecord) (x : Option SpentRecord) : Type 0 where
  pub entry : entry_told (fields_of line) ≡ e
  pub spent : spent_told (fields_of line) ≡ x
  pub not_end : bytes_eq (field (fields_of line) 0) (codes "end") ≡ false

still_open : (lines : List (List ℕ)) (line : List ℕ) → has_end lines ≡ false → bytes_eq (field (fields_of line) 0) (codes "end") ≡ false → has_end (lines ++ line ∷ []) ≡ false
still_open lines line h k = list_any-append (λ l. bytes_eq (field (fields_of l) 0) (codes "end")) lines (line ∷ []) ∙ or_false (has_end lines) (bytes_eq (field (fields_of line) 0) (codes "end")) h k

abbrev pub IsRead : ReportLine → List EntryRecord → List SpentRecord → List ℕ → Type 0
IsRead told entries spent line = (line_cause entries spent (fields_of line) ≡ None) × ((line_fields told ≡ fields_of line) × MayStand entries spent told × IsToldBy (fields_of line) told)

-- what is told after one more line, which has one line more
abbrev pub IsNext : List ℕ → List EntryRecord → List SpentRecord → List ℕ → List EntryRecord → List SpentRecord → Type 0
IsNext text entries spent after entries_after spent_after = Told text entries_after spent_after after × (length (told_lines entries_after spent_after) ≡ length (told_lines entries spent) + 1)

entry_lines : (entries : List EntryRecord) (spent : List SpentRecord) (e : EntryRecord) → spent ≡ [] → told_lines entries spent ++ line_of_fields (entry_fields e) ∷ [] ≡ told_lines (entries ++ e ∷ []) spent
entry_lines entries [] e none =
    let f : EntryRecord → List ℕ = λ y. line_of_fields (entry_fields y) in
    ap (λ (ls : List (List ℕ)). ls ++ f e ∷ []) (append-nil (map f entries)) ∙ sym (map-append f entries (e ∷ [])) ∙ sym (append-nil (map f (entries ++ e ∷ [])))
entry_lines entries (x ∷ xs) e none = absurd cc

spent_lines : (entries : List EntryRecord) (spent : List SpentRecord) (x : SpentRecord) → told_lines entries spent ++ line_of_fields (spent_fields x) ∷ [] ≡ told_lines entries (spent ++ x ∷ [])
spent_lines entries spent x =
    let f : EntryRecord → List ℕ = λ y. line_of_fields (entry_fields y) in
    let g : SpentRecord → List ℕ = λ y. line_of_fields (spent_fields y) in
    append_assoc (map f entries) (map g spent) (g x ∷ []) ∙ ap (λ (ls : List (List ℕ)). map f entries ++ ls) (sym (map-append g spent (x ∷ [])))

pub next_entry : (text : List ℕ) (entries : List EntryRecord) (spent : List SpentRecord) (rest line after : List ℕ) (e : EntryRecord) → Told text entries spent rest → parts_of rest ≡ line ∷ parts_of after → IsRead (Entry e) entries spent line → IsNext text entries spent after (entries ++ e ∷ []) spent
next_entry text entries spent rest line after e h parts read =
    let lines = told_lines entries spent in
    let fields : entry_fields e ≡ fields_of line = read.1.0 in
    let same : line ≡ line_of_fields (entry_fields e) = line_from_fields line (entry_fields e) (sym fields) in
    let more : lines ++ line ∷ [] ≡ told_lines (entries ++ e ∷ []) spent = ap (λ (l : List ℕ). lines ++ l ∷ []) same ∙ entry_lines entries spent e read.1.1.1 in
    let lt : e.block < 2 ^ 64 = (let b = read.1.1.0.told.block in omega arith) in
    let not_end : bytes_eq (field (fields_of line) 0) (codes "end") ≡ false = ap (λ (fs : List (List ℕ)). bytes_eq (field fs 0) (codes "end")) (sym fields) ∙ not_the_end e.block lt in
    let no_spent : spent_told (fields_of line) ≡ None = ap spent_told (sym fields) in (
      record {
        reads = subst (λ (ls : List (List ℕ)). ReadsTo report text ls after) more (reads_on report text lines line rest after h.reads parts (cause_now text entries spent rest line h ∙ read.0));
        right = one_more MayFollow entries e h.right read.1.1.0;
        right_spent = h.right_spent;
        told = ap entries_in (sym more) ∙ filter_map-append (λ l. entry_told (fields_of l)) lines (line ∷ []) ∙ rw (h.told, read.1.2) refl;
        told_spent = ap spent_in (sym more) ∙ filter_map-append (λ l. spent_told (fields_of l)) lines (line ∷ []) ∙ rw (h.told_spent, no_spent) (append-nil spent);
        not_ended = ap has_end (sym more) ∙ still_open lines line h.not_ended not_end;
      },
      ap length (sym more) ∙ length-append lines (line ∷ []),
    )

pub next_spent : (text : List ℕ) (entries : List EntryRecord) (spent : List SpentRecord) (rest line after : List ℕ) (x : SpentRecord) → Told text entries spent rest → parts_of rest ≡ line ∷ parts_of after → IsRead (Spent x) entries spent line → IsNext text entries spent after entries (spent ++ x ∷ [])
next_spent text entries spent rest line after x h parts read =
    let lines = told_lines entries spent in
    let fields : spent_fields x ≡ fields_of line = read.1.0 in
    let same : line ≡ line_of_fields (spent_fields x) = line_from_fields line (spent_fields x) (sym fields) in
    let more : lines ++ line ∷ [] ≡ told_lines entries (spent ++ x ∷ []) = ap (λ (l : List ℕ). lines ++ l ∷ []) same ∙ spent_lines entries spent x in
    let not_end : bytes_eq (field (fields_of line) 0) (codes "end") ≡ false = ap (λ (fs : List (List ℕ)). bytes_eq (field fs 0) (codes "end")) (sym fields) in
    let no_entry : entry_told (fields_of line) ≡ None = ap entry_told (sym fields) in (
      record {
        reads = subst (λ (ls : List (List ℕ)). ReadsTo report text ls after) more (reads_on report text lines line rest after h.reads parts (cause_now text entries spent rest line h ∙ read.0));
        right = h.right;
        right_spent = one_more MayFollowSpent spent x h.right_spent read.1.1;
        told = ap entries_in (sym more) ∙ filter_map-append (λ l. entry_told (fields_of l)) lines (line ∷ []) ∙ rw (h.told, no_entry) (append-nil entries);
        told_spent = ap spent_in (sym more) ∙ filter_map-append (λ l. spent_told (fields_of l)) lines (line ∷ []) ∙ rw (h.told_spent, read.1.2) refl;
        not_ended = ap has_end (sym more) ∙ still_open lines line h.not_ended not_end;
      },
      ap length (sym more) ∙ length-append lines (line ∷ []),
    )

-- the text was told so far, where the line was added and is no end line
pub next_line : (text : List ℕ) (entries : List EntryRecord) (spent : List SpentRecord) (rest line after : List ℕ) (told : ReportLine) (es : List EntryRecord) (xs : List SpentRecord) → Told text entries spent rest → parts_of rest ≡ line ∷ parts_of after
    → IsRead told entries spent line → IsAdded told entries spent es xs None → IsNext text entries spent after es xs
next_line text entries spent rest line after (Entry e) es xs h parts read added =
    let P : List EntryRecord → List SpentRecord → Type 0 = λ a b. IsNext text entries spent after a b in
    subst (λ (a : List EntryRecord). P a xs) (sym added.1) (subst (λ (b : List SpentRecord). P (entries ++ e ∷ []) b) (sym added.2) (next_entry text entries spent rest line after e h parts read))
next_line text entries spent rest line after (Spent x) es xs h parts read added =
    let P : List EntryRecord → List SpentRecord → Type 0 = λ a b. IsNext text entries spent after a b in
    subst (λ (a : List EntryRecord). P a xs) (sym added.1) (subst (λ (b : List SpentRecord). P entries b) (sym added.2) (next_spent text entries spent rest line after x h parts read))
next_line text entries spent rest line after (End counts) es xs h parts read added = absurd (let clash : None ≡ Some counts = added.0 in cc)

-- ---- the end line is read

-- the text was read to its end line
pub record Ended (text : List ℕ) (book : Book) (lines : List (List ℕ)) (rest : List ℕ) : Type 0 where
  pub reads : ReadsTo report text lines rest
  pub lines_are : lines ≡ report_lines book
  pub has_end_line : has_end lines ≡ true
  pub is : IsReport book

or_true : (a b : Bool) → b ≡ true → (a || (b || false)) ≡ true
or_true true b h = refl
or_true false b h = rw h refl

abbrev pub book_of : List EntryRecord → List SpentRecord → Counts → Book
book_of entries spent counts = record { entries = entries; spent = spent; counts = counts }

-- the end line was read, and nothing was added
abbrev pub IsEnded : List ℕ → List EntryRecord → List SpentRecord → List ℕ → List EntryRecord → List SpentRecord → Counts → Type 0
IsEnded text entries spent after es xs counts = (lines : List (List ℕ)) × Ended text (book_of es xs counts) lines after × (length lines ≡ length (told_lines entries spent) + 1) × (es ≡ entries)

end_here : (text : List ℕ) (entries : List EntryRecord) (spent : List SpentRecord) (rest line after : List ℕ) (counts : Counts) → Told text entries spent rest → parts_of rest ≡ line ∷ parts_of after → IsRead (End counts) entries spent line → IsEnded text entries spent after entries spent counts
end_here text entries spent rest line after counts h parts read =
    let lines = told_lines entries spent in
    let fields : end_fields counts ≡ fields_of line = read.1.0 in
    let same : line ≡ line_of_fields (end_fields counts) = line_from_fields line (end_fields counts) (sym fields) in
    let is_end : bytes_eq (field (fields_of line) 0) (codes "end") ≡ true = ap (λ (fs : List (List ℕ)). bytes_eq (field fs 0) (codes "end")) (sym fields) in (
      lines ++ line ∷ [],
      record {
        reads = reads_on report text lines line rest after h.reads parts (cause_now text entries spent rest line h ∙ read.0);
        lines_are = ap (λ (l : List ℕ). lines ++ l ∷ []) same;
        has_end_line = list_any-append (λ l. bytes_eq (field (fields_of l) 0) (codes "end")) lines (line ∷ []) ∙ or_true (has_end lines) (bytes_eq (field (fields_of line) 0) (codes "end")) is_end;
        is = record { entries = h.right; spent = h.right_spent; counts = read.1.1 };
      },
      length-append lines (line ∷ []),
      refl,
    )

pub end_line : (text : List ℕ) (entries : List EntryRecord) (spent : List SpentRecord) (rest line after : List ℕ) (told : ReportLine) (es : List EntryRecord) (xs : List SpentRecord) (counts : Counts) → Told text entries spent rest → parts_of rest ≡ line ∷ parts_of after
    → IsRead told entries spent line → IsAdded told entries spent es xs (Some counts) → IsEnded text entries spent after es xs counts
end_line text entries spent rest line after (Entry e) es xs counts h parts read added = absurd (let clash : Some counts ≡ None = added.0 in cc)
end_line text entries spent rest line after (Spent x) es xs counts h parts read added = absurd (let clash : Some counts ≡ None = added.0 in cc)
end_line text entries spent rest line after (End c) es xs counts h parts read added =
    let some : Some counts ≡ Some c = added.0 in
    let same : c ≡ counts = cc in
    let P : List EntryRecord → List SpentRecord → Counts → Type 0 = λ a b d. IsEnded text entries spent after a b d in
    subst (λ (a : List EntryRecord). P a xs counts) (sym added.1) (subst (λ (b : List SpentRecord). P entries b counts) (sym added.2) (subst (λ (d : Counts). P entries spent d) same (end_here text entries spent rest line after c h parts read)))

-- ---- faults

pub line_wrong : (text : List ℕ) (entries : List EntryRecord) (spent : List SpentRecord) (rest line after : List ℕ) (number : ℕ) (c : Cause) → Told text entries spent rest → number ≡ length (told_lines entries spent) + 1 → parts_of rest ≡ line ∷ parts_of after
    → line_cause entries spent (fields_of line) ≡ Some c → IsFault report text number c
line_wrong text entries spent rest line after number c h is parts bad =
    subst (λ (n : ℕ). IsFault report text n c) (sym is) (line_fault report text (told_lines entries spent) line rest after c h.reads parts (cause_now text entries spent rest line h ∙ bad))

ends_here : (lines : List (List ℕ)) (number : ℕ) (rest : List ℕ) → number ≡ length lines + 1 → has_end lines ≡ false → first_of (end_causes report lines rest) ≡ Some (ended (missing_at number) rest)
ends_here [] number [] is unended = ap (λ (n : ℕ). Some (ended (missing_at n) [])) (sym is)
ends_here [] number (c ∷ rest) is unended = refl
ends_here (l ∷ lines) number rest is unended =
    let other : eqb number 1 ≡ false = (let n = is in grind arith) in
    end_causes-ended report l lines rest unended ∙ ap (λ (b : Bool). Some (ended (if b then Empty else MissingLine) rest)) (sym other)

pub no_line : (text : List ℕ) (entries : List EntryRecord) (spent : List SpentRecord) (rest : List ℕ) (number : ℕ) → Told text entries spent rest → number ≡ length (told_lines entries spent) + 1 → parts_of rest ≡ rest ∷ [] → IsFault report text number (ended (missing_at number) rest)
no_line text entries spent rest number h is parts =
    let lines = told_lines entries spent in
    subst (λ (n : ℕ). IsFault report text n (ended (missing_at number) rest)) (sym is) (end_fault report text lines rest (ended (missing_at number) rest) h.reads parts (ends_here lines number rest is h.not_ended))

cut_here : (lines : List (List ℕ)) (rest : List ℕ) → has_end lines ≡ true → rest ≢ [] → first_of (end_causes report lines rest) ≡ Some (ended MissingLine rest)
cut_here [] rest closed some = absurd (let clash : false ≡ true = closed in cc)
cut_here (l ∷ lines) rest closed some = cut_short report l lines rest MissingLine some

pub cut_after : (text : List ℕ) (lines : List (List ℕ)) (rest : List ℕ) (number : ℕ) → ReadsTo report text lines rest → has_end lines ≡ true → number ≡ length lines + 1 → rest ≢ [] → parts_of rest ≡ rest ∷ [] → IsFault report text number (ended MissingLine rest)
cut_after text lines rest number reads closed is some parts =
    subst (λ (n : ℕ). IsFault report text n (ended MissingLine rest)) (sym is) (end_fault report text lines rest (ended MissingLine rest) reads parts (cut_here lines rest closed some))

pub line_after : (text : List ℕ) (lines : List (List ℕ)) (rest line after : List ℕ) (number : ℕ) → ReadsTo report text lines rest → has_end lines ≡ true → number ≡ length lines + 1 → parts_of rest ≡ line ∷ parts_of after → IsFault report text number UnknownWord
line_after text lines rest line after number reads closed is parts =
    let bad : report_cause lines line ≡ Some UnknownWord = ap (λ (b : Bool). if b then Some UnknownWord else line_cause (entries_in lines) (spent_in lines) (fields_of line)) closed in
    subst (λ (n : ℕ). IsFault report text n UnknownWord) (sym is) (line_fault report text lines line rest after UnknownWord reads parts bad)

-- ---- a whole text

all_read : (text : List ℕ) (lines : List (List ℕ)) (rest : List ℕ) → ReadsTo report text lines rest → has_end lines ≡ true → rest ≡ [] → IsFaultless report text
all_read text [] rest reads closed none = absurd (let clash : false ≡ true = closed in cc)
all_read text (l ∷ lines) rest reads closed none = read_all report text l lines rest reads none closed

pub text_faultless : (text : List ℕ) (book : Book) (lines : List (List ℕ)) (rest : List ℕ) → Ended text book lines rest → rest ≡ [] → IsFaultless report text
text_faultless text book lines rest h none = all_read text lines rest h.reads h.has_end_line none

pub text_is : (text : List ℕ) (book : Book) (lines : List (List ℕ)) (rest : List ℕ) → Ended text book lines rest → rest ≡ [] → text ≡ report_text book
text_is text book lines rest h none = text_read report text (report_lines book) rest (subst (λ (ls : List (List ℕ)). ReadsTo report text ls rest) h.lines_are h.reads) none

-- ---- entries in order stand together by block

follows_low : (d e : EntryRecord) → key_cmp d e ≡ Less → d.block ≤ e.block
follows_low d e h = then_less d.block e.block _ h

pub in_blocks : (entries : List EntryRecord) → AreToldEntries entries → IsNonDecreasingBy (λ e. e.block) entries
in_blocks entries h = IsNonDecreasingBy-from_all_adjacent (λ (e : EntryRecord). e.block) entries adjacent
  where
    adjacent : (k : ℕ) (d : EntryRecord) → k + 1 < length entries → (get_or entries k d).block ≤ (get_or entries (k + 1) d).block
    adjacent k d lt =
        let e = get_or entries (k + 1) d in
        let there : slice_get entries (k + 1) ≡ Some e = slice_get-get_or entries (k + 1) d lt in
        let size : length (take (k + 1) entries) ≡ k + 1 = length-take-le (k + 1) entries (omega arith) in
        let at : length (take (k + 1) entries) - 1 ≡ k = omega arith in
        let low : k < k + 1 = omega arith in
        let within : k < length entries = omega arith in
        let last : last_of (take (k + 1) entries) ≡ Some (get_or entries k d) = ap (slice_get (take (k + 1) entries)) at ∙ slice_get-take (k + 1) entries k low ∙ slice_get-get_or entries k d within in
        let above = (h (k + 1) e there).above in
        follows_low (get_or entries k d) e (rw last at above)

-- a list of told lines has no more entries than lines
pub few_entries : (entries : List EntryRecord) (spent : List SpentRecord) → length entries ≤ length (told_lines entries spent)
few_entries entries spent =
    let f : EntryRecord → List ℕ = λ y. line_of_fields (entry_fields y) in
    let g : SpentRecord → List ℕ = λ y. line_of_fields (spent_fields y) in
    omega (arith, length-append (map f entries) (map g spent), length-map entries f)

pub is_book : (text : List ℕ) (book : Book) (lines : List (List ℕ)) (rest : List ℕ) → Ended text book lines rest → length book.entries < 2 ^ 32 → IsBook book.entries
is_book text book lines rest h few = record { few = few; blocks = in_blocks book.entries h.is.entries }
