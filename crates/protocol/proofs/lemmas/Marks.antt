-- Marks number the verifiers of one block, time and writer.
use Rattle.std.proofs.Common.{◌≡◌, ◌⊎◌, ℕ, suc, ◌+◌, ◌<◌, ◌≤◌, Bool, true, false, cond, ◌&&◌, ◌||◌, List, [], ◌∷◌, filter, map, refl, sym, ◌∙◌, ap, inl, inr, arith, eqb}
use Rattle.std.specs.List.{Contains}
use Rattle.std.specs.declared.cmp.Ordering.{Ordering}
use Rattle.std.specs.declared.cmp.Ordering.TheVariants.{Less, Equal, Greater}
use Rattle.stamp_order.specs.declared.Stamp.{Stamp}
use Rattle.std.specs.Ordering.{nat_cmp, ordering_then, ordering_reverse}
use Rattle.std.specs.Cmp.Lexicographic.{slice_cmp}
use Rattle.std.proofs.lemmas.Cmp.{nat_cmp_total, tied_itself}
use Rattle.std.proofs.lemmas.Map.Lookups.{exact_unsigned}
use Rattle.stamp_order.specs.Stamps.{stamp_cmp, before, same_stamp, up_to, ◌≼◌}
use Rattle.protocol.specs.History.{Entry, entry_cmp}
use Rattle.protocol.specs.Report.{is_in, different_stamps, is_under, mark, line_cmp, AreRivals}
use Rattle.protocol.proofs.lemmas.Counting.{both_true}
use Rattle.protocol.proofs.lemmas.Tests.{and_true}
use Rattle.protocol.proofs.lemmas.Order.{stamp_total, stamp_exact, same_stamp-≡, same_stamp-refl, before_false, before-≼, not_both, ≼-refl, ≼-trans, ≼-cases, not_up_to}
use Rattle.lists.proofs.lemmas.Members.{Contains-head, Contains-none, Contains-rest, Contains-cons_cases, Contains-map_cases, Contains-map, filter_is, filter_has}
use Rattle.lists.proofs.lemmas.Orders.{nat_less}
use Rattle.std.proofs.lemmas.Bool.{eqb-true, eq-eqb, or_cases, cases_Bool}

is_in-Contains : (t : Stamp) (us : List Stamp) → is_in t us ≡ true → Contains us t
is_in-Contains t [] h = absurd (cc)
is_in-Contains t (u ∷ us) h =
    let rest = is_in-Contains t us in
    elim (or_cases (same_stamp t u) (is_in t us) h) [ inl e ↦ rw (same_stamp-≡ t u e) (Contains-head u us) | inr k ↦ Contains-rest t u us (rest k) ]

Contains-is_in : (t : Stamp) (us : List Stamp) → Contains us t → is_in t us ≡ true
Contains-is_in t [] h = absurd (Contains-none t h)
Contains-is_in t (u ∷ us) h =
    let rest = Contains-is_in t us in
    elim (Contains-cons_cases t u us h) [ inl e ↦ rw (e, same_stamp-refl u) refl | inr k ↦ rw (rest k) (at (same_stamp t u)) ]
  where
    at : (b : Bool) → b || true ≡ true
    at true = refl
    at false = refl

not_in : (t : Stamp) (us : List Stamp) → is_in t us ≡ false → Contains us t → ⊥
not_in t us e h = let k = Contains-is_in t us h in cc

-- the stamps but t
without : Stamp → List Stamp → List Stamp
without t [] = []
without t (u ∷ us) = cond (same_stamp t u) (without t us) (u ∷ without t us)

Contains-without : (t x : Stamp) (us : List Stamp) → Contains us x → (x ≡ t → ⊥) → Contains (without t us) x
unfolding without
Contains-without t x [] h n = absurd (Contains-none x h)
Contains-without t x (u ∷ us) h n = at (same_stamp t u) refl (λ k. Contains-without t x us k n) (Contains-cons_cases x u us h)
  where
    at : (b : Bool) → same_stamp t u ≡ b → (Contains us x → Contains (without t us) x) → (x ≡ u) ⊎ Contains us x → Contains (cond b (without t us) (u ∷ without t us)) x
    at true e rest (inl q) = absurd (n (q ∙ sym (same_stamp-≡ t u e)))
    at true e rest (inr k) = rest k
    at false e rest (inl q) = rw q (Contains-head u (without t us))
    at false e rest (inr k) = Contains-rest x u (without t us) (rest k)

without-Contains : (t x : Stamp) (us : List Stamp) → Contains (without t us) x → Contains us x × (x ≡ t → ⊥)
unfolding without
without-Contains t x [] h = absurd (Contains-none x h)
without-Contains t x (u ∷ us) h = at (same_stamp t u) refl (without-Contains t x us) h
  where
    more : (Contains us x × (x ≡ t → ⊥)) → Contains (u ∷ us) x × (x ≡ t → ⊥)
    more k = (Contains-rest x u us k.0, k.1)

    at : (b : Bool) → same_stamp t u ≡ b → (Contains (without t us) x → Contains us x × (x ≡ t → ⊥)) → Contains (cond b (without t us) (u ∷ without t us)) x → Contains (u ∷ us) x × (x ≡ t → ⊥)
    at true e rest k = more (rest k)
    at false e rest k = elim (Contains-cons_cases x u (without t us) k) [
      | inl q ↦ (rw q (Contains-head u us), λ p. let r = same_stamp-refl u in let g : same_stamp t u ≡ true = rw (sym p ∙ q) r in cc)
      | inr l ↦ more (rest l)
    ]

in-without : (t x : Stamp) (us : List Stamp) → (x ≡ t → ⊥) → is_in x (without t us) ≡ is_in x us
in-without t x us n = elim (cases_Bool (is_in x us)) [
  | inl e ↦ Contains-is_in x (without t us) (Contains-without t x us (is_in-Contains x us e) n) ∙ sym e
  | inr e ↦ elim (cases_Bool (is_in x (without t us))) [
    | inl f ↦ absurd (not_in x us e (without-Contains t x us (is_in-Contains x _ f)).0)
    | inr f ↦ f ∙ sym e
  ]
]

without-absent : (t : Stamp) (us : List Stamp) → is_in t us ≡ false → without t us ≡ us
unfolding without
without-absent t [] h = refl
without-absent t (u ∷ us) h = at (same_stamp t u) h (without-absent t us)
  where
    at : (b : Bool) → b || is_in t us ≡ false → (is_in t us ≡ false → without t us ≡ us) → cond b (without t us) (u ∷ without t us) ≡ u ∷ us
    at true e rest = absurd (cc)
    at false e rest = ap (λ (xs : List Stamp). u ∷ xs) (rest e)

-- one stamp less
different-without : (t : Stamp) (us : List Stamp) → Contains us t → different_stamps us ≡ suc (different_stamps (without t us))
unfolding without
different-without t [] h = absurd (Contains-none t h)
different-without t (u ∷ us) h = at (same_stamp t u) refl (different-without t us)
  where
    bit : Bool → ℕ
    bit b = cond {A = ℕ} b 0 1

    here : u ≡ t → (different_stamps us ≡ suc (different_stamps (without t us))) ⊎ (is_in u us ≡ false) → cond {A = ℕ} (is_in u us) 0 1 + different_stamps us ≡ suc (different_stamps (without t us))
    here q k = elim (cases_Bool (is_in u us)) [
      | inl e ↦ elim k [ inl r ↦ rw e (omega (arith, r)) | inr f ↦ absurd (cc) ]
      | inr e ↦ rw (e, without-absent t us (rw q at e)) (omega arith)
    ]

    at : (b : Bool) → same_stamp t u ≡ b → (Contains us t → different_stamps us ≡ suc (different_stamps (without t us))) → cond {A = ℕ} (is_in u us) 0 1 + different_stamps us ≡ suc (different_stamps (cond b (without t us) (u ∷ without t us)))
    at true e rest =
        let q = sym (same_stamp-≡ t u e) in
        here q (elim (cases_Bool (is_in u us)) [ inl f ↦ inl (rest (let k = is_in-Contains u us f in rw q at k)) | inr f ↦ inr f ])
    at false e rest = elim (Contains-cons_cases t u us h) [
      | inl q ↦ absurd (let r = same_stamp-refl u in let g : same_stamp t u ≡ true = rw q r in cc)
      | inr k ↦ (let i = in-without t u us (λ p. let r = same_stamp-refl u in let g : same_stamp t u ≡ true = rw (sym p) r in cc) in let m = rest k in rw i (omega (arith, m)))
    ]

-- more stamps are at least as many
different-within : (us vs : List Stamp) → ((x : Stamp) → Contains us x → Contains vs x) → different_stamps us ≤ different_stamps vs
different-within [] vs h = omega arith
different-within (u ∷ us) vs h =
    let rest = different-within us in
    elim (cases_Bool (is_in u us)) [
      | inl e ↦ (let r = rest vs (λ x k. h x (Contains-rest x u us k)) in rw e (omega (arith, r)))
      | inr e ↦ (let d = different-without u vs (h u (Contains-head u us)) in
          let r = rest (without u vs) (λ x k. Contains-without u x vs (h x (Contains-rest x u us k)) (λ q. not_in u us e (rw q at k))) in
          rw e (omega (arith, d, r)))
    ]

different-same : (us vs : List Stamp) → ((x : Stamp) → Contains us x → Contains vs x) → ((x : Stamp) → Contains vs x → Contains us x) → different_stamps us ≡ different_stamps vs
different-same us vs h k = omega (arith, different-within us vs h, different-within vs us k)

-- what is under an entry: its rivals of lower verifier
under_is : (e f : Entry) → is_under e f ≡ true → AreRivals e f × (before f.stamp e.stamp ≡ true)
under_is e f h =
    let a = both_true _ _ h in
    let b = both_true _ _ a.0 in
    let c = both_true _ _ b.0 in
    (record { block = eqb-true f.block e.block c.0; time = eqb-true f.stamp.time e.stamp.time c.1; writer = eqb-true f.stamp.client e.stamp.client b.1 }, a.1)

is_under_if : (e f : Entry) → AreRivals e f → before f.stamp e.stamp ≡ true → is_under e f ≡ true
is_under_if e f r b = and_true _ _ (and_true _ _ (and_true _ _ (eq-eqb f.block e.block r.block) (eq-eqb f.stamp.time e.stamp.time r.time)) (eq-eqb f.stamp.client e.stamp.client r.writer)) b

lower : List Entry → Entry → List Stamp
lower h e = map (λ f. f.stamp) (filter (is_under e) h)

lower_was : (h : List Entry) (e : Entry) (t : Stamp) → Contains (lower h e) t → (f : Entry) × Contains h f × (t ≡ f.stamp) × (is_under e f ≡ true)
unfolding lower
lower_was h e t k = let r = Contains-map_cases (λ (f : Entry). f.stamp) (filter (is_under e) h) t k in let g = filter_is (is_under e) h r.0 r.1 in (r.0, g.0, r.2, g.1)

lower_has : (h : List Entry) (e f : Entry) → Contains h f → is_under e f ≡ true → Contains (lower h e) f.stamp
unfolding lower
lower_has h e f k t = Contains-map (λ (f : Entry). f.stamp) (filter (is_under e) h) f (filter_has (is_under e) h f k t)

mark_is : (h : List Entry) (e : Entry) → mark h e ≡ suc (different_stamps (lower h e))
unfolding lower
mark_is h e = omega arith

pub rivals_on : (e f g : Entry) → AreRivals e f → AreRivals f g → AreRivals e g
rivals_on e f g a b = record { block = b.block ∙ a.block; time = b.time ∙ a.time; writer = b.writer ∙ a.writer }

rivals_across : (e f g : Entry) → AreRivals e f → AreRivals e g → AreRivals f g
rivals_across e f g a b = record { block = b.block ∙ sym a.block; time = b.time ∙ sym a.time; writer = b.writer ∙ sym a.writer }

not_before_self : (t : Stamp) → before t t ≡ true → ⊥
not_before_self t h = not_both t t h (≼-refl t)

before_trans : (t u v : Stamp) → before t u ≡ true → before u v ≡ true → before t v ≡ true
before_trans t u v h k = elim (cases_Bool (before t v)) [ inl e ↦ e | inr e ↦ absurd (not_both u v k (≼-trans v t u (before_false v t e) (before-≼ t u h))) ]

-- a lower verifier has a lower mark
pub marks_ascend : (h : List Entry) (e f : Entry) → Contains h e → AreRivals e f → before e.stamp f.stamp ≡ true → mark h e < mark h f
marks_ascend h e f there r b =
    let own : Contains (lower h f) e.stamp = lower_has h f e there (is_under_if f e (record { block = sym r.block; time = sym r.time; writer = sym r.writer }) b) in
    let d = different-without e.stamp (lower h f) own in
    let w = different-within (lower h e) (without e.stamp (lower h f)) (λ t k.
    let u = lower_was h e t k in
    let p = under_is e u.0 u.3 in
    let at : Contains (lower h f) u.0.stamp = lower_has h f u.0 u.1 (is_under_if f u.0 (rivals_across e f u.0 r p.0) (before_trans u.0.stamp e.stamp f.stamp p.1 b)) in
    rw u.2 (Contains-without e.stamp u.0.stamp (lower h f) at (λ q. not_before_self e.stamp (let z = p.1 in rw q at z)))) in
    omega (arith, d, w, mark_is h e, mark_is h f)

pub marks_equal : (h : List Entry) (e f : Entry) → e.block ≡ f.block → e.stamp ≡ f.stamp → mark h e ≡ mark h f
marks_equal h e f b t = ap (λ (k : ℕ × Stamp). suc_of k.0 k.1) (let p : (e.block, e.stamp) ≡ (f.block, f.stamp) = λ i. (b i, t i) in p)
  where
    suc_of : ℕ → Stamp → ℕ
    suc_of block stamp = 1 + different_stamps (map (λ (f : Entry). f.stamp) (filter (λ (f : Entry). eqb f.block block && eqb f.stamp.time stamp.time && eqb f.stamp.client stamp.client && before f.stamp stamp) h))

-- one of the entries has the greatest stamp
record IsTop (xs : List Entry) : Type 0 where
  entry : Entry
  there : Contains xs entry
  above : (x : Entry) → Contains xs x → x.stamp ≼ entry.stamp

top_with : (x : Entry) (xs : List Entry) → IsTop xs → IsTop (x ∷ xs)
top_with x xs m = at (up_to m.entry.stamp x.stamp) refl
  where
    at : (b : Bool) → up_to m.entry.stamp x.stamp ≡ b → IsTop (x ∷ xs)
    at true e = record {
      entry = x;
      there = Contains-head x xs;
      above = λ z k. elim (Contains-cons_cases z x xs k) [ inl q ↦ rw q (≼-refl x.stamp) | inr l ↦ ≼-trans z.stamp m.entry.stamp x.stamp (m.above z l) e ];
    }
    at false e = record {
      entry = m.entry;
      there = Contains-rest m.entry x xs m.there;
      above = λ z k. elim (Contains-cons_cases z x xs k) [ inl q ↦ rw q (not_up_to m.entry.stamp x.stamp e) | inr l ↦ m.above z l ];
    }

top_of : (x : Entry) (xs : List Entry) → IsTop (x ∷ xs)
top_of x [] = record { entry = x; there = Contains-head x []; above = λ y k. elim (Contains-cons_cases y x [] k) [ inl q ↦ rw q (≼-refl x.stamp) | inr l ↦ absurd (Contains-none y l) ] }
top_of x (y ∷ ys) = top_with x (y ∷ ys) (top_of y ys)

-- the rival of the next lower verifier has the next lower mark
pub marks_step : (h : List Entry) (e : Entry) → (mark h e ≡ 1) ⊎ ((f : Entry) × Contains h f × AreRivals e f × (mark h f + 1 ≡ mark h e))
marks_step h e = at (filter (is_under e) h) refl
  where
    next : (f : Entry) → Contains (filter (is_under e) h) f → ((x : Entry) → Contains (filter (is_under e) h) x → x.stamp ≼ f.stamp) → (f : Entry) × Contains h f × AreRivals e f × (mark h f + 1 ≡ mark h e)
    next f k above =
        let g = filter_is (is_under e) h f k in
        let p = under_is e f g.1 in
        let own : Contains (lower h e) f.stamp = lower_has h e f g.0 g.1 in
        let d = different-without f.stamp (lower h e) own in
        let w = different-same (lower h f) (without f.stamp (lower h e))
        (λ t l.
        let u = lower_was h f t l in
        let q = under_is f u.0 u.3 in
        let in_e : Contains (lower h e) u.0.stamp = lower_has h e u.0 u.1 (is_under_if e u.0 (rivals_on e f u.0 p.0 q.0) (before_trans u.0.stamp f.stamp e.stamp q.1 p.1)) in
        rw u.2 (Contains-without f.stamp u.0.stamp (lower h e) in_e (λ z. not_before_self f.stamp (let b = q.1 in rw z at b))))
        (λ t l.
        let v = without-Contains f.stamp t (lower h e) l in
        let u = lower_was h e t v.0 in
        let q = under_is e u.0 u.3 in
        let up = above u.0 (filter_has (is_under e) h u.0 u.1 u.3) in
        let less : before u.0.stamp f.stamp ≡ true = elim (≼-cases u.0.stamp f.stamp up) [ inl b ↦ b | inr z ↦ absurd (v.1 (u.2 ∙ z)) ] in
        rw u.2 (lower_has h f u.0 u.1 (is_under_if f u.0 (rivals_across e f u.0 p.0 q.0) less))) in
        (f, g.0, p.0, omega (arith, d, w, mark_is h e, mark_is h f))

    at : (xs : List Entry) → filter (is_under e) h ≡ xs → (mark h e ≡ 1) ⊎ ((f : Entry) × Contains h f × AreRivals e f × (mark h f + 1 ≡ mark h e))
    at [] q = inl (rw q refl)
    at (x ∷ xs) q =
        let m = top_of x xs in
        inr (next m.entry (rw q m.there) (λ y k. m.above y (rw q at k)))

-- ---- the order of a report's lines is that of the entries

through : (b t c m v r : Ordering) → (b ≡ Equal → t ≡ Equal → c ≡ Equal → m ≡ v) → ordering_then b (ordering_then t (ordering_then c (ordering_then m r))) ≡ ordering_then b (ordering_then (ordering_then t (ordering_then c v)) r)
through Less t c m v r h = refl
through Greater t c m v r h = refl
through Equal Less c m v r h = refl
through Equal Greater c m v r h = refl
through Equal Equal Less m v r h = refl
through Equal Equal Greater m v r h = refl
through Equal Equal Equal m v r h = rw (h refl refl refl) refl

nat_greater : (x y : ℕ) → y < x → nat_cmp x y ≡ Greater
nat_greater x y h = nat_cmp_total.antisymm x y ∙ ap ordering_reverse (nat_less y x h)

-- marks compare as verifiers do
marks_as : (h : List Entry) (e f : Entry) → Contains h e → Contains h f → AreRivals e f → (v : Ordering) → stamp_cmp e.stamp f.stamp ≡ v → nat_cmp (mark h e) (mark h f) ≡ v
unfolding before
marks_as h e f a b r Less q = nat_less (mark h e) (mark h f) (marks_ascend h e f a r (rw q refl))
marks_as h e f a b r Equal q = rw (marks_equal h e f (sym r.block) (stamp_exact e.stamp f.stamp q)) (tied_itself nat_cmp_total (mark h f))
marks_as h e f a b r Greater q =
    nat_greater (mark h e) (mark h f) (marks_ascend h f e b (record { block = sym r.block; time = sym r.time; writer = sym r.writer }) (rw (stamp_total.antisymm f.stamp e.stamp ∙ ap ordering_reverse q) refl))

pub lines_as_entries : (h : List Entry) (e f : Entry) → Contains h e → Contains h f → line_cmp h e f ≡ entry_cmp e f
unfolding line_cmp entry_cmp stamp_cmp
lines_as_entries h e f a b =
    through (nat_cmp e.block f.block) (nat_cmp e.stamp.time f.stamp.time) (nat_cmp e.stamp.client f.stamp.client) (nat_cmp (mark h e) (mark h f)) (slice_cmp nat_cmp e.stamp.verifier f.stamp.verifier) _
    (λ p q r. marks_as h e f a b (record { block = sym (exact_unsigned _ _ p); time = sym (exact_unsigned _ _ q); writer = sym (exact_unsigned _ _ r) }) (slice_cmp nat_cmp e.stamp.verifier f.stamp.verifier) (rw (q, r) refl))
