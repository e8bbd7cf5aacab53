-- Journals of a run have lines, as many as numbers.
use Rattle.std.proofs.Common.{◌≡◌, ◌≢◌, ◌⊎◌, ℕ, zero, suc, ◌+◌, ◌≤◌, List, [], ◌∷◌, map, length, Option, refl, sym, ◌∙◌, ap, subst, inl, inr, arith}
use Rattle.std.specs.Prelude.{slice_get}
use Rattle.std.specs.declared.option.Option.TheVariants.{None, Some}
use Rattle.protocol.specs.Messages.{Message}
use Rattle.protocol.specs.Setting.{Setting}
use Rattle.protocol.specs.World.{World, start_world}
use Rattle.protocol.specs.Lines.{Line, Run, plays}
use Rattle.journals.specs.Steps.{Step}
use Rattle.journals.specs.Merging.{line_of, late_ask, IsNumber, next_world, Merged}
use Rattle.journals.specs.Journals.{setting_for, IsMerge}
use Rattle.journals.specs.Merged.{OfMerged, AreRun, AreOrdered}
use Rattle.journals.proofs.lemmas.Picks.{Numbered, same_ascending}
use Rattle.journals.proofs.lemmas.Ordering.{in_order}
use Rattle.journal_records.specs.Lines.{LinesAreThere, LinesAreCounted, LastPlaceIsCount}
use Rattle.journal_records.proofs.SameMessages.{messages}

-- ---- each late ask has its number

-- the first message that equals the ask, or none
abbrev First : List Message → Message → Type 0
First pool ask = ((k : ℕ) × (slice_get pool k ≡ Some ask) × ((i : ℕ) → slice_get pool i ≡ Some ask → k ≤ i)) ⊎ ((i : ℕ) → slice_get pool i ≢ Some ask)

first : (pool : List Message) (ask : Message) → First pool ask
first [] ask = inr (λ i e. absurd (cc))
first (m ∷ ms) ask = elim (messages m ask) [ inl same ↦ inl (0, ap (λ (x : Message). Some x) same, λ i e. omega arith) | inr other ↦ later other (first ms ask) ]
  where
    later : (m ≡ ask → ⊥) → First ms ask → First (m ∷ ms) ask
    later other (inl f) = inl (suc f.0, f.1, behind)
      where
        behind : (i : ℕ) → slice_get (m ∷ ms) i ≡ Some ask → suc f.0 ≤ i
        behind zero e = absurd (other (let same : m ≡ ask = cc in same))
        behind (suc i) e = let l = f.2 i e in omega (arith, l)
    later other (inr none) = inr nowhere
      where
        nowhere : (i : ℕ) → slice_get (m ∷ ms) i ≢ Some ask
        nowhere zero e = absurd (other (let same : m ≡ ask = cc in same))
        nowhere (suc i) e = none i e

numbered : (w : Option World) (ask : Option Message) → (k : ℕ) × IsNumber w ask k
numbered w None = (0, refl)
numbered None (Some ask) = (0, refl)
numbered (Some w) (Some ask) = elim (first w.pool ask) [ inl f ↦ (f.0, inl (f.1, f.2)) | inr none ↦ (0, inr (none, refl)) ]

merged : (s : Setting) (es : List Step) (w : Option World) (place : ℕ) → (lines : List (ℕ × Line)) × Merged s w place es lines
merged s [] w place = ([], refl)
merged s (e ∷ es) w place =
    let k = numbered w (late_ask e) in
    let rest = merged s es (next_world s w (place + 1) (line_of s k.0 e)) (place + 1) in
    ((place + 1, line_of s k.0 e) ∷ rest.0, (k.0, rest.0, k.1, refl, rest.1))

pub lines_there : OfMerged AreRun → AreOrdered → LinesAreThere
lines_there runs ordered conduct j of_run =
    let order = ordered conduct j of_run in
    let lines = merged (setting_for j) (map (λ p. p.1) order.0) (Some (start_world (setting_for j))) 0 in
    let merge : IsMerge j lines.0 = (order.0, order.1, lines.1) in
    let run = runs conduct j lines.0 of_run merge in
    record { lines = lines.0; last = run.0; merge = merge; run = run.1 }

-- ---- as many lines as steps

as_long : (s : Setting) (es : List Numbered) (w : Option World) (place : ℕ) (lines : List (ℕ × Line)) → Merged s w place (map (λ p. p.1) es) lines → length lines ≡ length es
as_long s [] w place lines h = ap (λ (ls : List (ℕ × Line)). length ls) h
as_long s (e ∷ es) w place lines h =
    ap (λ (ls : List (ℕ × Line)). length ls) h.3 ∙ ap suc (as_long s es (next_world s w (place + 1) (line_of s h.0 e.1)) (place + 1) h.1 h.4)

pub lines_counted : LinesAreCounted
lines_counted j count lines numbers merge =
    let known = in_order j count numbers in
    let same : known.0 ≡ merge.0 = same_ascending (λ (p : Numbered). p.0) known.0 merge.0 known.1.ascending merge.1.ascending (λ p h. (merge.1.entries p).1 ((known.1.entries p).0 h)) (λ p h. (known.1.entries p).1 ((merge.1.entries p).0 h)) in
    as_long (setting_for j) merge.0 (Some (start_world (setting_for j))) 0 lines merge.2 ∙ ap (λ (es : List Numbered). length es) (sym same) ∙ known.3

-- each line has the place after the one before it
last_place : (s : Setting) (es : List Step) (o : Option World) (place : ℕ) (lines : List (ℕ × Line)) → Merged s o place es lines → (w last : World) → w.place ≡ place → Run s w lines last → last.place ≡ place + length lines
last_place s [] o place lines h w last at run =
    let stays : last ≡ w = subst (λ (ls : List (ℕ × Line)). Run s w ls last) h run in
    let none : length lines ≡ 0 = ap (λ (ls : List (ℕ × Line)). length ls) h in
    let p : last.place ≡ w.place = ap (λ (v : World). v.place) stays in
    omega (arith, p, none, at)
last_place s (e ∷ es) o place lines h w last at run =
    let line = line_of s h.0 e in
    let go_on : Run s w ((place + 1, line) ∷ h.1) last = subst (λ (ls : List (ℕ × Line)). Run s w ls last) h.3 run in
    let rest = last_place s es (next_world s o (place + 1) line) (place + 1) h.1 h.4 (plays s w (place + 1) line) last refl go_on.3 in
    let long : length lines ≡ suc (length h.1) = ap (λ (ls : List (ℕ × Line)). length ls) h.3 in
    omega (arith, rest, long)

pub last_place_is : LastPlaceIsCount
last_place_is j count lines w numbers merge run =
    let place = last_place (setting_for j) (map (λ p. p.1) merge.0) (Some (start_world (setting_for j))) 0 lines merge.2 (start_world (setting_for j)) w refl run in
    let long = lines_counted j count lines numbers merge in
    omega (arith, place, long)
