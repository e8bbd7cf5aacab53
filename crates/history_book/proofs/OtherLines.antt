-- What is wrong with the lines of spent writes and counts, and what they tell where nothing is.
use Rattle.std.proofs.Common.{◌≡◌, ℕ, ◌<◌, ◌^◌, Bool, true, false, eqb, List, [], ◌∷◌, ◌++◌, length, get_or, take, drop, Option, Some, None, refl, sym, ap, subst, ◌∙◌, arith}
use Rattle.std.specs.Prelude.{slice_get, is_none, not, codes, decimal, IfSome, ◌||◌, if◌then◌else◌}
use Rattle.std.specs.Borrow.{Bor}
use Rattle.std.proofs.lemmas.Bool.{eq-eqb}
use Rattle.std.proofs.lemmas.Grind.{common_steps}
use Rattle.std.proofs.lemmas.Slice.Eq.{bytes_eq-Decides}
use Rattle.text_lines.specs.Lines.{texts}
use Rattle.text_lines.specs.Fields.{number_of}
use Rattle.text_lines.proofs.lemmas.Numbers.{number_of-some}
use Rattle.line_forms.specs.Kinds.{has_empty_field, has_wrong_count}
use Rattle.line_forms.specs.Tables.{first_of}
use Rattle.line_forms.specs.declared.cause.Cause.{Cause}
use Rattle.line_forms.specs.declared.cause.Cause.TheVariants.{UnknownWord, WrongCount, BadNumber, NotSorted, Count}
use Rattle.history_making.specs.declared.entry.Entry.{Entry}
use Rattle.history_making.specs.declared.entry.Spent.{Spent}
use Rattle.history_making.specs.declared.entry.Counts.{Counts}
use Rattle.history_book.specs.Reports.{spent_fields, end_fields}
use Rattle.history_book.specs.ReportTexts.{field, spent_numbers, spent_told, has_name, count_told, count_numbers, counts_told, spent_causes, end_causes, has_other_name, is_not_later, are_other_counts, done_count, last_of, MayFollowSpent, IsToldSpent, AreCounts}
use Rattle.history_book.proofs.Spelling.{some_then}

-- ---- spent writes

pub three_none : (a b c : Bool) (x y z : Cause) → a ≡ false → b ≡ false → c ≡ false → first_of ((a, x) ∷ (b, y) ∷ (c, z) ∷ []) ≡ None
three_none a b c x y z p q r = rw (p, q, r) refl

record SpentSpelled (c s e : List ℕ) (x : Spent) : Type 0 where
  pub client : decimal x.client ≡ c
  pub start : decimal x.start ≡ s
  pub end : decimal x.end ≡ e
  pub told : IsToldSpent x

spent_spelled : (c s e : List ℕ) (x : Spent) → spent_numbers c s e ≡ Some x → SpentSpelled c s e x
unfolding spent_numbers
spent_spelled c s e x h =
    let client = some_then (number_of (2 ^ 32) c) _ x h in
    let start = some_then (number_of (2 ^ 64) s) _ x client.2 in
    let end = some_then (number_of (2 ^ 64) e) _ x start.2 in
    let made : Spent = record { client = client.0; start = start.0; end = end.0 } in
    let same : made ≡ x = (let q : Some made ≡ Some x = end.2 in cc) in
    let a = number_of-some (2 ^ 32) c client.0 client.1 in
    let b = number_of-some (2 ^ 64) s start.0 start.1 in
    let d = number_of-some (2 ^ 64) e end.0 end.1 in
    subst (λ (y : Spent). SpentSpelled c s e y) same (record { client = sym a.0; start = sym b.0; end = sym d.0; told = record { client = a.1; start = b.1; end = d.1 } })

later_than : (last : Option Spent) (x : Spent) → is_not_later last (Some x) ≡ false → IfSome last (λ d. d.start < x.start)
later_than None x h = tt
later_than (Some d) x h = grind arith

pub spent_right : (spent : List Spent) (w c s e : List ℕ) (x : Spent) → w ≡ codes "spent" → has_empty_field (w ∷ c ∷ s ∷ e ∷ []) ≡ false → spent_numbers c s e ≡ Some x → is_not_later (last_of spent) (Some x) ≡ false
    → (first_of (spent_causes spent (w ∷ c ∷ s ∷ e ∷ [])) ≡ None) × ((spent_fields x ≡ w ∷ c ∷ s ∷ e ∷ []) × MayFollowSpent spent x × (spent_told (w ∷ c ∷ s ∷ e ∷ []) ≡ Some x))
spent_right spent w c s e x word full told later =
    let S = spent_spelled c s e x told in
    let fields = w ∷ c ∷ s ∷ e ∷ [] in (
      three_none (has_wrong_count 4 fields) (is_none (spent_told fields)) (is_not_later (last_of spent) (spent_told fields)) WrongCount BadNumber NotSorted full (ap is_none told) (ap (is_not_later (last_of spent)) told ∙ later),
      (rw (S.client, S.start, S.end, word) refl, record { told = S.told; later = later_than (last_of spent) x later }, told),
    )

pub four_texts : (fields : List (Bor (List ℕ))) (d : Bor (List ℕ)) → length fields ≡ 4 → texts fields ≡ (get_or fields 0 d).now ∷ (get_or fields 1 d).now ∷ (get_or fields 2 d).now ∷ (get_or fields 3 d).now ∷ []
four_texts (a ∷ b ∷ c ∷ e ∷ []) d len = refl
four_texts _ d len = absurd (omega arith)

-- ---- counts

four_none : (a b c d : Bool) → a ≡ false → b ≡ false → c ≡ false → d ≡ false → first_of ((a, UnknownWord) ∷ (b, WrongCount) ∷ (c, BadNumber) ∷ (d, Count) ∷ []) ≡ None
four_none a b c d p q r s = rw (p, q, r, s) refl

some_if : (b : Bool) (o : Option ℕ) (n : ℕ) → (if b then o else None) ≡ Some n → (b ≡ true) × (o ≡ Some n)
some_if true o n h = (refl, h)
some_if false o n h = absurd cc

both_parts : (n : ℕ) (xs : List ℕ) → take n xs ++ drop n xs ≡ xs
both_parts n xs = grind (arith, common_steps)

count_spelled : (name field : List ℕ) (n : ℕ) → count_told name field ≡ Some n → (name ++ decimal n ≡ field) × (n < 2 ^ 64)
unfolding count_told
count_spelled name field n h =
    let s = some_if (has_name name field) (number_of (2 ^ 64) (drop (length name) field)) n h in
    let front : take (length name) field ≡ name = (bytes_eq-Decides (take (length name) field) name).0 s.0 in
    let t = number_of-some (2 ^ 64) (drop (length name) field) n s.1 in
    (ap (λ (x : List ℕ). x ++ decimal n) (sym front) ∙ ap (λ (x : List ℕ). take (length name) field ++ x) (sym t.0) ∙ both_parts (length name) field, t.1)

record CountsSpelled (d s p r o : List ℕ) (c : Counts) : Type 0 where
  pub done : codes "done=" ++ decimal c.done ≡ d
  pub spent : codes "spent=" ++ decimal c.spent ≡ s
  pub pending : codes "pending=" ++ decimal c.pending ≡ p
  pub repaired : codes "repaired=" ++ decimal c.repaired ≡ r
  pub rounds : codes "rounds=" ++ decimal c.rounds ≡ o
  pub done_fits : c.done < 2 ^ 64
  pub spent_fits : c.spent < 2 ^ 64
  pub pending_fits : c.pending < 2 ^ 64
  pub repaired_fits : c.repaired < 2 ^ 64
  pub rounds_fit : c.rounds < 2 ^ 64

counts_spelled : (d s p r o : List ℕ) (c : Counts) → count_numbers d s p r o ≡ Some c → CountsSpelled d s p r o c
unfolding count_numbers
counts_spelled d s p r o c h =
    let done = some_then (count_told (codes "done=") d) _ c h in
    let spent = some_then (count_told (codes "spent=") s) _ c done.2 in
    let pending = some_then (count_told (codes "pending=") p) _ c spent.2 in
    let repaired = some_then (count_told (codes "repaired=") r) _ c pending.2 in
    let rounds = some_then (count_told (codes "rounds=") o) _ c repaired.2 in
    let made : Counts = record { done = done.0; spent = spent.0; pending = pending.0; repaired = repaired.0; rounds = rounds.0 } in
    let same : made ≡ c = (let q : Some made ≡ Some c = rounds.2 in cc) in
    let td = count_spelled (codes "done=") d done.0 done.1 in
    let ts = count_spelled (codes "spent=") s spent.0 spent.1 in
    let tp = count_spelled (codes "pending=") p pending.0 pending.1 in
    let tr = count_spelled (codes "repaired=") r repaired.0 repaired.1 in
    let to = count_spelled (codes "rounds=") o rounds.0 rounds.1 in
    subst (λ (y : Counts). CountsSpelled d s p r o y) same (record {
      done = td.0;
      spent = ts.0;
      pending = tp.0;
      repaired = tr.0;
      rounds = to.0;
      done_fits = td.1;
      spent_fits = ts.1;
      pending_fits = tp.1;
      repaired_fits = tr.1;
      rounds_fit = to.1;
    })

same_counts : (a b : ℕ) (x y : ℕ) → a ≡ b → x ≡ y → (not (eqb a b) || not (eqb x y)) ≡ false
same_counts a b x y p q = rw (eq-eqb a b p, eq-eqb x y q) refl

pub counts_right : (entries : List Entry) (spent : List Spent) (w d s p r o : List ℕ) (c : Counts) → w ≡ codes "end" → has_other_name (w ∷ d ∷ s ∷ p ∷ r ∷ o ∷ []) ≡ false → has_empty_field (w ∷ d ∷ s ∷ p ∷ r ∷ o ∷ []) ≡ false
    → count_numbers d s p r o ≡ Some c → c.done ≡ done_count entries → c.spent ≡ length spent
    → (first_of (end_causes entries spent (w ∷ d ∷ s ∷ p ∷ r ∷ o ∷ [])) ≡ None) × ((end_fields c ≡ w ∷ d ∷ s ∷ p ∷ r ∷ o ∷ []) × AreCounts entries spent c × Unit {0})
counts_right entries spent w d s p r o c word names full told done number =
    let S = counts_spelled d s p r o c told in
    let fields = w ∷ d ∷ s ∷ p ∷ r ∷ o ∷ [] in (
      four_none (has_other_name fields) (has_wrong_count 6 fields) (is_none (counts_told fields)) (are_other_counts entries spent (counts_told fields)) names full (ap is_none told)
          (ap (are_other_counts entries spent) told ∙ same_counts c.done (done_count entries) c.spent (length spent) done number),
      (
        rw (S.done, S.spent, S.pending, S.repaired, S.rounds, word) refl,
        record {
          done_fits = S.done_fits;
          spent_fits = S.spent_fits;
          pending = S.pending_fits;
          repaired = S.repaired_fits;
          rounds = S.rounds_fit;
          done = done;
          spent = number;
        },
        tt,
      ),
    )

-- ---- the first field

pub first_field : (fields : List (Bor (List ℕ))) (word : Bor (List ℕ)) → Some word ≡ slice_get fields 0 → field (texts fields) 0 ≡ word.now
first_field [] word h = absurd cc
first_field (f ∷ fs) word h = let same : f ≡ word = cc in ap (λ (x : Bor (List ℕ)). x.now) same
