-- What comparisons in the code say.
use Rattle.std.proofs.Common.{◌≡◌, ◌<◌, ℕ, Bool, true, false, ◌&&◌, ◌||◌, List, [], length, refl, sym, ◌∙◌, ap, inl, inr, arith, eqb, ltb}
use Rattle.std.specs.declared.option.Option.TheVariants.{Some}
use Rattle.std.specs.Ordering.{is_eq}
use Rattle.std.specs.List.{slice_get, slice_index_or}
use Rattle.std.proofs.lemmas.Bool.Decides.{nat_tests, eqb_tells}
use Rattle.std.proofs.lemmas.Option.{get_or_from_slice_get, slice_get-get_or}
use Rattle.stamp_order.specs.declared.Stamp.{Stamp}
use Rattle.stamp_order.specs.Stamps.{stamp_cmp, same_stamp}
use Rattle.stamp_order.proofs.lemmas.Orders.{by_fields}
use Rattle.protocol.specs.Messages.{flat, Version}
use Rattle.protocol.specs.Setting.{Setting, first_stamp, digest_at, same}
use Rattle.protocol.specs.Operations.{is_whole}
use Rattle.protocol.proofs.lemmas.Rounds.{same-≡, same-refl}
use Rattle.std.proofs.lemmas.Bool.{cases_Bool}

pub same_by_fields : (s t : Stamp) → is_eq (by_fields s t) ≡ same_stamp s t
unfolding same_stamp stamp_cmp
same_by_fields s t = refl

-- what the tests of a version say, in the words of the definitions
module _ (s : Setting) (i : ℕ) (v : Version) (lengths verifier digests time : Bool) where
  -- the parts of the test, each of which decides
  pub whole_by_parts : (eqb (length v.sum) s.n && eqb (length v.fragment) s.share) ≡ lengths → same v.stamp.verifier (s.digest (flat v.sum)) ≡ verifier
      → same (s.digest v.fragment) (digest_at s v.sum i) ≡ digests → (ltb 0 v.stamp.time || same_stamp v.stamp (first_stamp s)) ≡ time
      → is_whole s i v ≡ (lengths && verifier && digests && time)
  whole_by_parts a b c d = rw (a, b, c, d) refl

pub lengths_tell : (a b c d : ℕ) (r : Bool) → (r ≡ true → (a ≡ b) × (c ≡ d)) × ((a ≡ b) × (c ≡ d) → r ≡ true) → (eqb a b && eqb c d) ≡ r
lengths_tell a b c d true h = let e = h.0 refl in let f = e.0 in let g = e.1 in let p : eqb a b ≡ true = grind (arith, nat_tests) in let q : eqb c d ≡ true = grind (arith, nat_tests) in rw (p, q) refl
lengths_tell a b c d false h = elim (eqb_tells a b) [
  | inl e ↦ elim (eqb_tells c d) [ inl f ↦ absurd (let t = h.1 (e.1, f.1) in cc) | inr f ↦ rw (e.0, f.0) refl ]
  | inr e ↦ rw e.0 refl
]

pub same_tells : (xs ys : List ℕ) (r : Bool) → (r ≡ true → xs ≡ ys) × (xs ≡ ys → r ≡ true) → same xs ys ≡ r
same_tells xs ys true h = let e = h.0 refl in rw e (same-refl ys)
same_tells xs ys false h = elim (cases_Bool (same xs ys)) [ inl e ↦ absurd (let t = h.1 (same-≡ xs ys e) in cc) | inr e ↦ e ]

-- a comparison with an entry of a list
pub entry_tells : (ds : List (List ℕ)) (i : ℕ) (d : List ℕ) (r : Bool) → i < length ds → (r ≡ true → slice_get ds i ≡ Some d) × (slice_get ds i ≡ Some d → r ≡ true)
    → (r ≡ true → d ≡ slice_index_or ds i []) × (d ≡ slice_index_or ds i [] → r ≡ true)
entry_tells ds i d r l h = (
  λ t. sym (get_or_from_slice_get ds i d [] (h.0 t)),
  λ e. h.1 (slice_get-get_or ds i [] l ∙ ap Some (sym e)),
)
