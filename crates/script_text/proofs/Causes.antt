-- What is wrong with a line of a replay script, by what was read before it.
use Rattle.std.proofs.Common.{◌≡◌, ◌≢◌, get_or, ℕ, true, false, cond, List, [], ◌∷◌, ◌++◌, length, map, drop, Option, Some, None, Result, Ok, Err, refl, sym, ap, ◌∙◌, arith, inl, inr}
use Rattle.std.specs.Prelude.{codes, IsErrAnd, count_by}
use Rattle.std.specs.List.{list_any, AllByRecursion}
use Rattle.std.proofs.lemmas.Bool.{cases_Bool}
use Rattle.std.proofs.lemmas.List.Sums.{sum_by-cons}
use Rattle.quorum_rules.specs.Limits.{Numbers, IsValid}
use Rattle.text_lines.specs.Lines.{fields_of}
use Rattle.wire_forms.specs.Liars.{Liars}
use Rattle.line_forms.specs.Tables.{Gives, first_of, or_then}
use Rattle.line_forms.specs.declared.cause.Cause.{Cause}
use Rattle.line_forms.specs.declared.cause.Cause.TheVariants.{UnknownWord}
use Rattle.line_forms.specs.declared.refusal.LineRefusal.{LineRefusal}
use Rattle.line_forms.specs.declared.refusal.LineRefusal.TheVariants as line_refusals
use Rattle.event_lines.specs.Forms.{fields_cause}
use Rattle.event_lines.specs.Lines.{event_text, IsEventLine}
use Rattle.event_lines.proofs.lemmas.Lines.{no_liar}
use Rattle.event_lines.specs.declared.line.ReplayLine.{ReplayLine}
use Rattle.script_text.specs.declared.liars.Declared.{Declared}
use Rattle.script_text.specs.Replays.{liar_line, liar_forms, IsDeclarable, is_liar_line, is_event, again_causes, replay_cause}
use Rattle.script_text.specs.Reading.{AreDeclared, again_cause, later_cause}
use Rattle.script_text.proofs.Declarations.{IsLow, low, all_low, first_is_liar, line_is_liar, line_is_node, lines_have, lines_count, no_events, have_declared}

same_refusal : {X Y : Type 0} (P : X → Type 0) (Q : Y → Type 0) (a b : Option Cause) (e : LineRefusal) → Gives P a (Err e) → ((c : Cause) → a ≡ Some c → b ≡ Some c) → Gives Q b (Err e)
same_refusal P Q a b line_refusals.NoMemory g f = tt
same_refusal P Q a b (line_refusals.Cause c) g f = f c g

-- a refusal that `?` gives on
pub gives_refusal : {X Y : Type 0} (P : X → Type 0) (Q : Y → Type 0) (a b : Option Cause) (r : Result Y LineRefusal) (e : LineRefusal) → IsErrAnd r (λ d. d ≡ e) → Gives P a (Err e) → ((c : Cause) → a ≡ Some c → b ≡ Some c) → Gives Q b r
gives_refusal P Q a b (Ok y) e h g f = absurd h
gives_refusal P Q a b (Err d) e h g f = rw h (same_refusal P Q a b e g f)

-- ---- a liar line

pub liar_here : (c : Numbers) (ds : List Declared) (l : Liars) (line : List ℕ) → AreDeclared c ds l → is_liar_line line ≡ true
    → replay_cause c (map liar_line ds) line ≡ or_then (fields_cause (liar_forms c) (drop 1 (fields_of line))) (first_of (again_causes c (map liar_line ds) line))
unfolding replay_cause
liar_here c ds l line a is = rw (is, no_events ds (all_low c ds a.valid a.declarable)) refl

again_here : (c : Numbers) (ds : List Declared) (l : Liars) (d : Declared) → AreDeclared c ds l → IsDeclarable c d → first_of (again_causes c (map liar_line ds) (liar_line d)) ≡ again_cause c l d
again_here c ds l d a i =
    let all = all_low c ds a.valid a.declarable in
    let one = low c d a.valid i in
    rw (lines_have ds d all one, ← have_declared ds d, a.all, line_is_node d one, lines_count ds all, a.counted) refl

pub again_line : (c : Numbers) (ds : List Declared) (l : Liars) (d : Declared) (line : List ℕ) → AreDeclared c ds l → IsDeclarable c d → liar_line d ≡ line → first_of (again_causes c (map liar_line ds) line) ≡ again_cause c l d
again_line c ds l d line a i e = ap (λ (x : List ℕ). first_of (again_causes c (map liar_line ds) x)) (sym e) ∙ again_here c ds l d a i

-- the line declares nothing
pub liar_refused : (c : Numbers) (ds : List Declared) (l : Liars) (line : List ℕ) (cause : Cause) → AreDeclared c ds l → is_liar_line line ≡ true → fields_cause (liar_forms c) (drop 1 (fields_of line)) ≡ Some cause → replay_cause c (map liar_line ds) line ≡ Some cause
liar_refused c ds l line cause a is h = liar_here c ds l line a is ∙ ap (λ (o : Option Cause). or_then o (first_of (again_causes c (map liar_line ds) line))) h

-- the line declares this, and what is wrong is what stands against declaring it
pub liar_again : (c : Numbers) (ds : List Declared) (l : Liars) (d : Declared) (line : List ℕ) → AreDeclared c ds l → is_liar_line line ≡ true → fields_cause (liar_forms c) (drop 1 (fields_of line)) ≡ None → IsDeclarable c d → liar_line d ≡ line
    → replay_cause c (map liar_line ds) line ≡ again_cause c l d
liar_again c ds l d line a is h i e =
    liar_here c ds l line a is ∙ ap (λ (o : Option Cause). or_then o (first_of (again_causes c (map liar_line ds) line))) h ∙ again_line c ds l d line a i e

-- ---- a line after event lines

not_first : (fields : List (List ℕ)) → ((rest : List (List ℕ)) → fields ≢ codes "liar" ∷ rest) → get_or fields 0 [] ≢ codes "liar"
not_first [] other h = absurd cc
not_first (field ∷ rest) other h = other rest (ap (λ (f : List ℕ). f ∷ rest) h)

pub event_no_liar : (c : Numbers) (e : ReplayLine) → IsEventLine c e → is_liar_line (event_text e) ≡ false
event_no_liar c e i =
    elim (cases_Bool (is_liar_line (event_text e))) [
      | inl liar ↦ absurd (not_first (fields_of (event_text e)) (λ rest. no_liar c e rest i) (first_is_liar (event_text e) liar))
      | inr other ↦ other
    ]

count_events : (c : Numbers) (es : List ReplayLine) → AllByRecursion (IsEventLine c) es → count_by is_event (map event_text es) ≡ length es
count_events c [] h = refl
count_events c (e ∷ es) h =
    sum_by-cons (λ x. cond (is_event x) 1 0) (event_text e) (map event_text es) ∙ rw (event_no_liar c e h.0, count_events c es h.1) (omega arith)

pub events_in : (c : Numbers) (ds : List Declared) (es : List ReplayLine) → AllByRecursion IsLow ds → AllByRecursion (IsEventLine c) es → count_by is_event (map liar_line ds ++ map event_text es) ≡ length es
events_in c [] es low h = count_events c es h
events_in c (d ∷ ds) es low h =
    sum_by-cons (λ x. cond (is_event x) 1 0) (liar_line d) (map liar_line ds ++ map event_text es) ∙ rw (line_is_liar d low.0, events_in c ds es low.1 h) (omega arith)

some_event : (c : Numbers) (ds : List Declared) (e : ReplayLine) (es : List ReplayLine) → AllByRecursion IsLow ds → IsEventLine c e → list_any is_event (map liar_line ds ++ map event_text (e ∷ es)) ≡ true
some_event c [] e es low i = rw (event_no_liar c e i) refl
some_event c (d ∷ ds) e es low i = rw (line_is_liar d low.0) (some_event c ds e es low.1 i)

late_liar : (c : Numbers) (ds : List Declared) (es : List ReplayLine) (line : List ℕ) → AllByRecursion IsLow ds → AllByRecursion (IsEventLine c) es → is_liar_line line ≡ true → (length es ≡ 0 → is_liar_line line ≡ false) → replay_cause c (map liar_line ds ++ map event_text es) line ≡ Some UnknownWord
unfolding replay_cause
late_liar c ds [] line low h is first = let clash : true ≡ false = sym is ∙ first refl in absurd cc
late_liar c ds (e ∷ es) line low h is first = rw (is, some_event c ds e es low h.0) refl

pub later_here : (c : Numbers) (ds : List Declared) (es : List ReplayLine) (line : List ℕ) → IsValid c → AllByRecursion (IsDeclarable c) ds → AllByRecursion (IsEventLine c) es → (length es ≡ 0 → is_liar_line line ≡ false)
    → replay_cause c (map liar_line ds ++ map event_text es) line ≡ later_cause c (length es) line
unfolding replay_cause
later_here c ds es line v i h first =
    let low = all_low c ds v i in
    elim (cases_Bool (is_liar_line line)) [ inl is ↦ late_liar c ds es line low h is first ∙ sym (rw is refl) | inr other ↦ rw (other, events_in c ds es low h) refl ]
