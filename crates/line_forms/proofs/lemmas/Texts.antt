-- A text from its first line to its last.
use Rattle.std.proofs.Common.{◌≡◌, ◌≢◌, ℕ, ◌+◌, ◌-◌, ◌<◌, true, false, List, [], ◌∷◌, ◌++◌, length, take, drop, Some, None, refl, sym, ap, ◌∙◌, append_assoc, arith, inl, inr, get_or}
use Rattle.std.proofs.lemmas.List.{take_at, drop_at, drop_all, length-append}
use Rattle.std.specs.List.{join_with_byte}
use Rattle.std.proofs.lemmas.List.Splits.{join_with_byte-slice_split}
use Rattle.std.proofs.lemmas.Bool.{cases_lt}
use Rattle.text_lines.specs.Lines.{parts_of, text_of_lines, Lacks, texts}
use Rattle.text_lines.proofs.lemmas.Joined.{some_part, text_from_parts, part_before}
use Rattle.line_forms.specs.Texts.{Grammar, part_cause, cause_after, end_causes, ended, IsFault, IsFaultless, ReadsTo}
use Rattle.line_forms.specs.Tables.{first_of}
use Rattle.line_forms.specs.declared.cause.Cause.{Cause}
use Rattle.line_forms.specs.declared.cause.Cause.TheVariants.{MissingLine}
use Rattle.std.specs.Borrow.{Bor}

-- what is wrong after the lines so far
pub cause_here : (g : Grammar) (text : List ℕ) (ls ps : List (List ℕ)) → parts_of text ≡ ls ++ ps → cause_after g text (length ls) ≡ part_cause g ls ps
cause_here g text ls ps e = rw (e, take_at ls ps (length ls) refl, drop_at ls ps (length ls) refl) refl

-- a line that is whole: the parts after it are some
whole : (g : Grammar) (ls : List (List ℕ)) (line : List ℕ) (ps : List (List ℕ)) → ps ≢ [] → part_cause g ls (line ∷ ps) ≡ g.cause ls line
whole g ls line [] some = absurd (some refl)
whole g ls line (p ∷ ps) some = refl

pub line_here : (g : Grammar) (ls : List (List ℕ)) (line rest after : List ℕ) → parts_of rest ≡ line ∷ parts_of after → part_cause g ls (parts_of rest) ≡ g.cause ls line
line_here g ls line rest after e = rw e (whole g ls line (parts_of after) (some_part 10 after))

pub end_here : (g : Grammar) (ls : List (List ℕ)) (rest : List ℕ) → parts_of rest ≡ rest ∷ [] → part_cause g ls (parts_of rest) ≡ first_of (end_causes g ls rest)
end_here g ls rest e = rw e refl

fault_here : (g : Grammar) (text : List ℕ) (ls : List (List ℕ)) (rest : List ℕ) (c : Cause) → ReadsTo g text ls rest → part_cause g ls (parts_of rest) ≡ Some c → IsFault g text (length ls + 1) c
fault_here g text ls rest c r h = record {
  counted = omega arith;
  here = ap (cause_after g text) at ∙ cause_here g text ls (parts_of rest) r.parts ∙ h;
  none_before = λ k lt. r.well k (omega arith);
}
  where
    at : length ls + 1 - 1 ≡ length ls
    at = omega arith

joined : (line : List ℕ) (ps : List (List ℕ)) → ps ≢ [] → join_with_byte 10 (line ∷ ps) ≡ line ++ 10 ∷ join_with_byte 10 ps
joined line [] some = absurd (some refl)
joined line (p ∷ ps) some = refl

-- a text is its first line, a newline and the rest
pub first_line : (text line rest : List ℕ) → parts_of text ≡ line ∷ parts_of rest → text ≡ line ++ 10 ∷ rest
first_line text line rest e =
    sym (join_with_byte-slice_split 10 text) ∙ ap (join_with_byte 10) e ∙ joined line (parts_of rest) (some_part 10 rest)
    ∙ ap (λ (t : List ℕ). line ++ 10 ∷ t) (join_with_byte-slice_split 10 rest)

-- the rest of a text stands at the place that leaves as many bytes
rest_after : (front rest : List ℕ) → drop (length (front ++ rest) - length rest) (front ++ rest) ≡ rest
rest_after front rest =
    let len = length-append front rest in
    let at : length (front ++ rest) - length rest ≡ length front = omega arith in
    rw at (drop_at front rest (length front) refl)

-- the place after two lines
pub rest_of_two : (text first rest line after : List ℕ) → parts_of text ≡ first ∷ parts_of rest → parts_of rest ≡ line ∷ parts_of after → drop (length text - length after) text ≡ after
rest_of_two text first rest line after e next =
    let front = first ++ 10 ∷ (line ++ 10 ∷ []) in
    let whole_text : text ≡ front ++ after = first_line text first rest e ∙ ap (λ (t : List ℕ). first ++ 10 ∷ t) (first_line rest line after next) ∙ simp append_assoc in
    ap (λ (t : List ℕ). drop (length t - length after) t) whole_text ∙ rest_after front after

-- nothing was read yet
pub reads_none : (g : Grammar) (text : List ℕ) → ReadsTo g text [] text
reads_none g text = record { parts = refl; well = λ k lt. absurd (omega arith) }

-- the next line has no cause
pub reads_on : (g : Grammar) (text : List ℕ) (ls : List (List ℕ)) (line rest after : List ℕ) → ReadsTo g text ls rest → parts_of rest ≡ line ∷ parts_of after → g.cause ls line ≡ None → ReadsTo g text (ls ++ line ∷ []) after
reads_on g text ls line rest after r e none =
    let here : cause_after g text (length ls) ≡ None = cause_here g text ls (parts_of rest) r.parts ∙ line_here g ls line rest after e ∙ none in
    let len : length (ls ++ line ∷ []) ≡ length ls + 1 = length-append ls (line ∷ []) in
    record {
      parts = r.parts ∙ ap (λ (ps : List (List ℕ)). ls ++ ps) e ∙ sym (append_assoc ls (line ∷ []) (parts_of after));
      well = λ k lt. elim (cases_lt k (length ls)) [
        | inl below ↦ r.well k below
        | inr top ↦ let same : k ≡ length ls = omega arith in rw same here
      ];
    }

-- the next line has a cause
pub line_fault : (g : Grammar) (text : List ℕ) (ls : List (List ℕ)) (line rest after : List ℕ) (c : Cause) → ReadsTo g text ls rest → parts_of rest ≡ line ∷ parts_of after → g.cause ls line ≡ Some c → IsFault g text (length ls + 1) c
line_fault g text ls line rest after c r e h = fault_here g text ls rest c r (line_here g ls line rest after e ∙ h)

-- there is no next line
pub end_fault : (g : Grammar) (text : List ℕ) (ls : List (List ℕ)) (rest : List ℕ) (c : Cause) → ReadsTo g text ls rest → parts_of rest ≡ rest ∷ [] → first_of (end_causes g ls rest) ≡ Some c → IsFault g text (length ls + 1) c
end_fault g text ls rest c r e h = fault_here g text ls rest c r (end_here g ls rest e ∙ h)

-- a text may not end after some lines: it is cut, or a line is missing
pub end_causes-ended : (g : Grammar) (l : List ℕ) (ls : List (List ℕ)) (rest : List ℕ) → g.may_end (l ∷ ls) ≡ false → first_of (end_causes g (l ∷ ls) rest) ≡ Some (ended MissingLine rest)
end_causes-ended g l ls [] h = rw h refl
end_causes-ended g l ls (c ∷ rest) h = refl

-- a line without a newline at the end
pub cut_short : (g : Grammar) (l : List ℕ) (ls : List (List ℕ)) (rest : List ℕ) (missing : Cause) → rest ≢ [] → first_of (end_causes g (l ∷ ls) rest) ≡ Some (ended missing rest)
cut_short g l ls [] missing some = absurd (some refl)
cut_short g l ls (c ∷ rest) missing some = refl

past_all : (g : Grammar) (text : List ℕ) (ls : List (List ℕ)) (k : ℕ) → parts_of text ≡ ls ++ [] ∷ [] → length ls < k → cause_after g text k ≡ None
past_all g text ls k e lt =
    let none : drop k (parts_of text) ≡ [] = drop_all k (parts_of text) (omega (arith, ap length e, length-append ls ([] ∷ []))) in
    ap (part_cause g (take k (parts_of text))) none

-- a text that was read to its end and may end there has no cause
pub read_all : (g : Grammar) (text l : List ℕ) (ls : List (List ℕ)) (rest : List ℕ) → ReadsTo g text (l ∷ ls) rest → rest ≡ [] → g.may_end (l ∷ ls) ≡ true → IsFaultless g text
read_all g text l ls (c ∷ rest) r none ends k = absurd cc
read_all g text l ls [] r none ends k =
    elim (cases_lt k (length (l ∷ ls))) [
      | inl below ↦ r.well k below
      | inr top ↦ elim (cases_lt (length (l ∷ ls)) k) [
        | inl past ↦ past_all g text (l ∷ ls) k r.parts past
        | inr le ↦
            let same : k ≡ length (l ∷ ls) = omega arith in
            let here : first_of (end_causes g (l ∷ ls) []) ≡ None = rw ends refl in
            ap (cause_after g text) same ∙ cause_here g text (l ∷ ls) ([] ∷ []) r.parts ∙ here
      ]
    ]

-- and it is the text of its lines
pub text_read : (g : Grammar) (text : List ℕ) (ls : List (List ℕ)) (rest : List ℕ) → ReadsTo g text ls rest → rest ≡ [] → text ≡ text_of_lines ls
text_read g text ls [] r none = text_from_parts text ls r.parts
text_read g text ls (c ∷ rest) r none = absurd cc

-- ---- a text has one fault at most

not_before : (g : Grammar) (text : List ℕ) (l m : ℕ) (c d : Cause) → IsFault g text l c → IsFault g text m d → l < m → ⊥
not_before g text l m c d f h lt =
    let low = f.counted in
    let none : cause_after g text (l - 1) ≡ None = h.none_before (l - 1) (omega arith) in
    let clash : Some c ≡ None = sym f.here ∙ none in
    cc

pub one_line : (g : Grammar) (text : List ℕ) (l m : ℕ) (c d : Cause) → IsFault g text l c → IsFault g text m d → l ≡ m
one_line g text l m c d f h =
    elim (cases_lt l m) [
      | inl lt ↦ absurd (not_before g text l m c d f h lt)
      | inr le ↦ elim (cases_lt m l) [
        | inl lt ↦ absurd (not_before g text m l d c h f lt)
        | inr le2 ↦ omega arith
      ]
    ]

pub one_fault : (g : Grammar) (text : List ℕ) (l m : ℕ) (c d : Cause) → IsFault g text l c → IsFault g text m d → (l ≡ m) × (c ≡ d)
one_fault g text l m c d f h =
    let same = one_line g text l m c d f h in
    let again : Some c ≡ Some d = sym f.here ∙ ap (λ (n : ℕ). cause_after g text (n - 1)) same ∙ h.here in
    (same, cc)

pub no_fault : (g : Grammar) (text : List ℕ) (l : ℕ) (c : Cause) → IsFaultless g text → IsFault g text l c → ⊥
no_fault g text l c none f = let clash : Some c ≡ None = sym f.here ∙ none (l - 1) in cc

pub line_next : (line lines rest : List ℕ) → Lacks 10 line → parts_of (((line ++ 10 ∷ []) ++ lines) ++ rest) ≡ line ∷ parts_of (lines ++ rest)
line_next line lines rest lacks =
    let text : ((line ++ 10 ∷ []) ++ lines) ++ rest ≡ line ++ 10 ∷ (lines ++ rest) = simp append_assoc in
    ap parts_of text ∙ part_before 10 line (lines ++ rest) lacks

pub push_same : (xs ys : List (List ℕ)) (a : List ℕ) → xs ++ a ∷ [] ≡ ys ++ a ∷ [] → xs ≡ ys
push_same [] [] a e = refl
push_same [] (y ∷ ys) a e = let len = length-append ys (a ∷ []) in absurd (omega (arith, ap length e))
push_same (x ∷ xs) [] a e = let len = length-append xs (a ∷ []) in absurd (omega (arith, ap length e))
push_same (x ∷ xs) (y ∷ ys) a e =
    let tail = push_same xs ys a (ap (λ (ls : List (List ℕ)). drop 1 ls) e) in
    let head : x ≡ y = ap (λ (ls : List (List ℕ)). get_or ls 0 []) e in
    ap (λ (l : List ℕ). l ∷ xs) head ∙ ap (λ (ls : List (List ℕ)). y ∷ ls) tail

pub seven_texts : (xs : List (Bor (List ℕ))) (d : Bor (List ℕ)) → length xs ≡ 7
    → texts xs ≡ (get_or xs 0 d).now ∷ (get_or xs 1 d).now ∷ (get_or xs 2 d).now ∷ (get_or xs 3 d).now ∷ (get_or xs 4 d).now ∷ (get_or xs 5 d).now ∷ (get_or xs 6 d).now ∷ []
seven_texts (a ∷ b ∷ c ∷ e ∷ f ∷ g ∷ h ∷ []) d len = refl
seven_texts _ d len = absurd (omega arith)

pub six_texts : (xs : List (Bor (List ℕ))) (d : Bor (List ℕ)) → length xs ≡ 6
    → texts xs ≡ (get_or xs 0 d).now ∷ (get_or xs 1 d).now ∷ (get_or xs 2 d).now ∷ (get_or xs 3 d).now ∷ (get_or xs 4 d).now ∷ (get_or xs 5 d).now ∷ []
six_texts (a ∷ b ∷ c ∷ e ∷ f ∷ g ∷ []) d h = refl
six_texts _ d h = absurd (omega arith)
