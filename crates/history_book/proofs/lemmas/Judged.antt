-- A history is in the judge's words what it is in those of runs.
use Rattle.std.proofs.Common.{◌≡◌, ℕ, ◌<◌, List, [], ◌∷◌, map, length, replicate, get_or, sym, ap, ◌∙◌, arith}
use Rattle.std.specs.declared.option.Option.TheVariants.{Some}
use Rattle.std.specs.List.{Contains}
use Rattle.std.proofs.lemmas.List.{length-map, get_or-map}
use Rattle.protocol.specs.History.{Entry as FullEntry, Kind as FullKind, legal_at, values_after, LegalFrom, InTime}
use Rattle.protocol.specs.History.Kind.{Write as FullWrite, Foreign as FullForeign, Read as FullRead}
use Rattle.history_book.specs.Judging.{entry_of, IsLegal, IsInTime}
use Rattle.history_making.specs.Kinds.{full_kind}
use Rattle.history_making.specs.Tellings.{told_kind, told_entry}
use Rattle.lists.proofs.lemmas.Members.{Contains-head}

module _ (all : List FullEntry) where
  -- ---- legal

  legal_step : (k : FullKind) (e : FullEntry) (es : List FullEntry) (values : ℕ → List ℕ)
      → ((after : ℕ → List ℕ) → LegalFrom after es → LegalFrom after (map entry_of (map (told_entry all) es)))
      → legal_at k e values × LegalFrom (values_after k e values) es
      → legal_at (full_kind (told_kind k)) (entry_of (told_entry all e)) values × LegalFrom (values_after (full_kind (told_kind k)) (entry_of (told_entry all e)) values) (map entry_of (map (told_entry all) es))
  legal_step FullRead e es values rest h = (h.0, rest values h.1)
  legal_step FullWrite e es values rest h = (tt, rest (values_after FullWrite e values) h.1)
  legal_step FullForeign e es values rest h = (tt, rest (values_after FullForeign e values) h.1)

  legal_told : (h : List FullEntry) (values : ℕ → List ℕ) → LegalFrom values h → LegalFrom values (map entry_of (map (told_entry all) h))
  legal_told [] values l = tt
  legal_told (e ∷ es) values l =
      let rest = legal_told es in
      legal_step e.kind e es values rest l

  pub is_legal : (size : ℕ) (h : List FullEntry) → ((e : FullEntry) → Contains h e → length e.value ≡ size) → LegalFrom (λ block. replicate {A = ℕ} size 0) h → IsLegal (map (told_entry all) h)
  is_legal size [] sized l = tt
  is_legal size (e ∷ es) sized l =
      let q : replicate {A = ℕ} size 0 ≡ replicate {A = ℕ} (length e.value) 0 = ap (λ (n : ℕ). replicate {A = ℕ} n 0) (sym (sized e (Contains-head e es))) in
      legal_told (e ∷ es) (λ block. replicate {A = ℕ} (length e.value) 0) (rw q at l)

  -- ---- in time

  at : (h : List FullEntry) (i : ℕ) (d : FullEntry) → i < length (map entry_of (map (told_entry all) h)) → (i < length h) × (get_or (map entry_of (map (told_entry all) h)) i d ≡ entry_of (told_entry all (get_or h i d)))
  at h i d l =
      let within : i < length h = omega (arith, l, length-map (map (told_entry all) h) entry_of, length-map h (told_entry all)) in
      let inner : i < length (map (told_entry all) h) = omega (arith, within, length-map h (told_entry all)) in
      (within, get_or-map entry_of (map (told_entry all) h) i (told_entry all d) d inner ∙ ap entry_of (get_or-map (told_entry all) h i d (told_entry all d) within))

  pub is_in_time : (h : List FullEntry) → InTime h → IsInTime (map (told_entry all) h)
  is_in_time h in_time i j d low high differ same end start ends starts lt =
      let a = at h i d low in
      let b = at h j d high in
      let block : (get_or h i d).block ≡ (get_or h j d).block = sym (ap (λ (e : FullEntry). e.block) a.1) ∙ same ∙ ap (λ (e : FullEntry). e.block) b.1 in
      let e : (get_or h i d).end ≡ Some end = sym (ap (λ (e : FullEntry). e.end) a.1) ∙ ends in
      let s : (get_or h j d).start ≡ Some start = sym (ap (λ (e : FullEntry). e.start) b.1) ∙ starts in
      in_time i j d a.0 b.0 block end start e s lt
