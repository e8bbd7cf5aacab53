-- What a version is beside what a read gave, as a test.
use Rattle.std.proofs.Common.{◌≡◌, ℕ, Bool, true, false, ◌&&◌, List, Option, Some, None, inl, inr, refl, sym, ap, ◌∙◌, IsTrue, ◌↔◌}
use Rattle.std.specs.declared.cmp.Ordering.{Ordering}
use Rattle.std.specs.List.{slice_get}
use Rattle.std.proofs.lemmas.Bool.{false≢true, cases_Bool}
use Rattle.stamp_order.specs.declared.Stamp.{Stamp}
use Rattle.stamp_order.specs.Stamps.{stamp_cmp}
use Rattle.frag_check.specs.declared.summed.Summed.{Summed}
use Rattle.protocol.specs.Messages.{Version}
use Rattle.protocol.specs.Setting.{same_digests}
use Rattle.protocol.proofs.lemmas.Rounds.{same-≡, same-refl, same_digests-≡, same_digests-refl}
use Rattle.store_care.specs.Holdings.{IsMade, is_made, is_share, holding_by, holding_of}
use Rattle.store_care.specs.declared.holding.Holding.{Holding}

module _ (i : ℕ) (stamp : Stamp) (made : Option Summed) (v : Version) where
  -- the holding, where the order of the stamps is known
  pub holding_in_order : (o : Ordering) (h : Holding) → stamp_cmp v.stamp stamp ≡ o → h ≡ holding_by o (is_made i made v) → h ≡ holding_of i stamp made v
  holding_in_order o h e is = is ∙ sym (ap (λ (o : Ordering). holding_by o (is_made i made v)) e)

share_is : (o : Option (List ℕ)) (x : List ℕ) → is_share o x ≡ true → o ≡ Some x
share_is None x h = absurd (false≢true h)
share_is (Some share) x h = ap (λ (y : List ℕ). Some y) (same-≡ share x h)

and_left : (a b : Bool) → a && b ≡ true → a ≡ true
and_left true b h = refl
and_left false b h = h

and_right : (a b : Bool) → a && b ≡ true → b ≡ true
and_right true b h = h
and_right false b h = absurd (false≢true h)

made_if : (i : ℕ) (made : Option Summed) (v : Version) → is_made i made v ≡ true → IsMade i made v
made_if i None v h = tt
made_if i (Some summed) v h =
    let digests = same_digests v.sum summed.sum in
    let share = is_share (slice_get summed.shares i) v.fragment in
    (same_digests-≡ v.sum summed.sum (and_left digests share h), share_is (slice_get summed.shares i) v.fragment (and_right digests share h))

if_made : (i : ℕ) (made : Option Summed) (v : Version) → IsMade i made v → is_made i made v ≡ true
if_made i None v h = refl
if_made i (Some summed) v h =
    let digests : same_digests v.sum summed.sum ≡ true = rw h.0 (same_digests-refl summed.sum) in
    let share : is_share (slice_get summed.shares i) v.fragment ≡ true = rw h.1 (same-refl v.fragment) in
    rw digests share

-- what decides whether a version is made of a value is the test
pub made_test : (i : ℕ) (made : Option Summed) (v : Version) (b : Bool) → IsTrue b ↔ IsMade i made v → b ≡ is_made i made v
made_test i made v true h = sym (if_made i made v (h.0 refl))
made_test i made v false h = elim (cases_Bool (is_made i made v)) [
  | inl is ↦ absurd (false≢true (h.1 (made_if i made v is)))
  | inr not_so ↦ sym not_so
]
