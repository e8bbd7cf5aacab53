-- Entries between two others that share the beginning of their keys.
use Rattle.std.proofs.Common.{◌≡◌, ◌⊎◌, true, false, refl, sym, ◌∙◌, ap, inl, inr}
use Rattle.std.specs.declared.cmp.Ordering.{Ordering}
use Rattle.std.specs.declared.cmp.Ordering.TheVariants.{Less, Equal, Greater}
use Rattle.std.specs.Ordering.{nat_cmp, is_gt, then_cmp, on, ordering_then, ordering_reverse}
use Rattle.std.specs.Cmp.{IsTotalOrder}
use Rattle.std.specs.Cmp.Lexicographic.{slice_cmp}
use Rattle.std.proofs.lemmas.Bool.{eq-eqb, eqb-true}
use Rattle.std.proofs.lemmas.Cmp.{then_total, on_total, nat_cmp_total, tied_itself}
use Rattle.std.proofs.lemmas.Map.Lookups.{exact_unsigned}
use Rattle.stamp_order.specs.Stamps.{stamp_cmp}
use Rattle.protocol.specs.History.{Entry, is_read, place_cmp, entry_cmp}
use Rattle.protocol.specs.Report.{AreRivals}
use Rattle.protocol.proofs.lemmas.Counting.{both_true}
use Rattle.protocol.proofs.lemmas.Order.{stamp_total, stamp_exact, same_stamp-≡, same_stamp-refl}
use Rattle.history_making.specs.Drafts.{is_of_version, IsVersion}
use Rattle.lists.proofs.lemmas.Orders.{then_assoc, then_equal}

-- a comparison goes on where what begins it is Equal, and is over where it isn't
pub then_on_equal : (a b : Ordering) → a ≡ Equal → ordering_then a b ≡ b
then_on_equal a b e = rw e refl

pub then_on_other : (a b : Ordering) → (a ≡ Equal → ⊥) → ordering_then a b ≡ a
then_on_other Less b n = refl
then_on_other Equal b n = absurd (n refl)
then_on_other Greater b n = refl

-- what begins a comparison that isn't Greater isn't Greater
then_not_greater : (a c : Ordering) → is_gt (ordering_then a c) ≡ false → is_gt a ≡ false
then_not_greater Less c h = refl
then_not_greater Equal c h = refl
then_not_greater Greater c h = absurd (cc)

less_not_greater : (o : Ordering) → o ≡ Less → is_gt o ≡ false
less_not_greater o e = rw e refl

-- y is between x and z, which are equal
module _ {K : Type 0} {R : K → K → Ordering} (o : IsTotalOrder R) where
  between : (x y z : K) → is_gt (R x y) ≡ false → is_gt (R y z) ≡ false → R x z ≡ Equal → R x y ≡ Equal
  between x y z h k e = at (R x y) refl
    where
      at : (a : Ordering) → R x y ≡ a → R x y ≡ Equal
      at Less q = absurd (let l : R y z ≡ R y x = sym (at_right x z y e) in let g : R y x ≡ Greater = o.antisymm y x ∙ ap ordering_reverse q in let m : R y z ≡ Greater = l ∙ g in let n = rw m at k in cc)
        where
          at_right : (x z y : K) → R x z ≡ Equal → R y x ≡ R y z
          at_right x z y e = o.antisymm y x ∙ ap ordering_reverse (o.congr x z y e) ∙ sym (o.antisymm y z)
      at Equal q = q
      at Greater q = absurd (let n = rw q at h in cc)

-- by block and stamp
version_cmp : Entry → Entry → Ordering
version_cmp = then_cmp (on (λ e. e.block) nat_cmp) (on (λ e. e.stamp) stamp_cmp)

version_total : IsTotalOrder version_cmp
unfolding version_cmp
version_total = then_total (on_total (λ (e : Entry). e.block) nat_cmp_total) (on_total (λ (e : Entry). e.stamp) stamp_total)

-- by block, time and writer
rival_cmp : Entry → Entry → Ordering
rival_cmp = then_cmp (on (λ e. e.block) nat_cmp) (then_cmp (on (λ e. e.stamp.time) nat_cmp) (on (λ e. e.stamp.client) nat_cmp))

rival_total : IsTotalOrder rival_cmp
unfolding rival_cmp
rival_total = then_total (on_total (λ (e : Entry). e.block) nat_cmp_total) (then_total (on_total (λ (e : Entry). e.stamp.time) nat_cmp_total) (on_total (λ (e : Entry). e.stamp.client) nat_cmp_total))

version_first : (e f : Entry) → entry_cmp e f ≡ Less → is_gt (version_cmp e f) ≡ false
unfolding version_cmp entry_cmp
version_first e f h =
    let rest : Ordering = ordering_then (nat_cmp (is_read e.kind) (is_read f.kind)) (ordering_then (place_cmp e.end f.end) (ordering_then (nat_cmp e.client f.client) (place_cmp e.start f.start))) in
    then_not_greater (ordering_then (nat_cmp e.block f.block) (stamp_cmp e.stamp f.stamp)) rest (less_not_greater _ (then_assoc (nat_cmp e.block f.block) (stamp_cmp e.stamp f.stamp) rest ∙ h))

rival_first : (e f : Entry) → entry_cmp e f ≡ Less → is_gt (rival_cmp e f) ≡ false
unfolding rival_cmp entry_cmp stamp_cmp
rival_first e f h =
    let rest : Ordering = ordering_then (nat_cmp (is_read e.kind) (is_read f.kind)) (ordering_then (place_cmp e.end f.end) (ordering_then (nat_cmp e.client f.client) (place_cmp e.start f.start))) in
    let verifiers : Ordering = slice_cmp nat_cmp e.stamp.verifier f.stamp.verifier in
    in_turn (nat_cmp e.block f.block) (nat_cmp e.stamp.time f.stamp.time) (nat_cmp e.stamp.client f.stamp.client) verifiers rest h
  where
    in_turn : (a b c v r : Ordering) → ordering_then a (ordering_then (ordering_then b (ordering_then c v)) r) ≡ Less → is_gt (ordering_then a (ordering_then b c)) ≡ false
    in_turn Less b c v r h = refl
    in_turn Greater b c v r h = absurd (cc)
    in_turn Equal Less c v r h = refl
    in_turn Equal Greater c v r h = absurd (cc)
    in_turn Equal Equal Less v r h = refl
    in_turn Equal Equal Equal v r h = refl
    in_turn Equal Equal Greater v r h = absurd (cc)

-- ---- one version

pub version_is : (e f : Entry) → is_of_version e f ≡ true → IsVersion e f
version_is e f h = let b = both_true _ _ h in record { block = eqb-true e.block f.block b.0; stamp = same_stamp-≡ e.stamp f.stamp b.1 }

pub version_if : (e f : Entry) → IsVersion e f → is_of_version e f ≡ true
version_if e f v = let s = v.stamp in rw (eq-eqb e.block f.block v.block, s, same_stamp-refl f.stamp) refl

version_tied : (e f : Entry) → IsVersion e f → version_cmp e f ≡ Equal
unfolding version_cmp
version_tied e f v = let b = v.block in let s = v.stamp in rw (b, s, tied_itself nat_cmp_total f.block, tied_itself stamp_total f.stamp) refl

tied_version : (e f : Entry) → version_cmp e f ≡ Equal → IsVersion e f
unfolding version_cmp
tied_version e f h = let a = then_equal _ _ h in record { block = exact_unsigned _ _ a.0; stamp = stamp_exact _ _ a.1 }

pub version_back : (e f : Entry) → IsVersion e f → IsVersion f e
version_back e f v = record { block = sym v.block; stamp = sym v.stamp }

pub version_on : (e f g : Entry) → IsVersion e f → IsVersion f g → IsVersion e g
version_on e f g v w = record { block = v.block ∙ w.block; stamp = v.stamp ∙ w.stamp }

-- what stands between two entries of one version is of it
pub version_between : (e f g : Entry) → entry_cmp e f ≡ Less → entry_cmp f g ≡ Less → IsVersion e g → IsVersion e f
version_between e f g h k v = tied_version e f (between version_total e f g (version_first e f h) (version_first f g k) (version_tied e g v))

-- an entry of another version is less as that version is
pub less_by_version : (e f g : Entry) → entry_cmp e f ≡ Less → (IsVersion e f → ⊥) → IsVersion f g → entry_cmp e g ≡ Less
unfolding entry_cmp version_cmp
less_by_version e f g h n v =
    let first : is_gt (ordering_then (nat_cmp e.block f.block) (stamp_cmp e.stamp f.stamp)) ≡ false = version_first e f h in
    let b = v.block in
    let s = v.stamp in
    let rest : Ordering = ordering_then (nat_cmp (is_read e.kind) (is_read g.kind)) (ordering_then (place_cmp e.end g.end) (ordering_then (nat_cmp e.client g.client) (place_cmp e.start g.start))) in
    let less : ordering_then (nat_cmp e.block f.block) (stamp_cmp e.stamp f.stamp) ≡ Less = at (ordering_then (nat_cmp e.block f.block) (stamp_cmp e.stamp f.stamp)) refl first in
    let less_g : ordering_then (nat_cmp e.block g.block) (stamp_cmp e.stamp g.stamp) ≡ Less = rw (b, s) at less in
    sym (then_assoc (nat_cmp e.block g.block) (stamp_cmp e.stamp g.stamp) rest) ∙ ap (λ (o : Ordering). ordering_then o rest) less_g
  where
    at : (o : Ordering) → ordering_then (nat_cmp e.block f.block) (stamp_cmp e.stamp f.stamp) ≡ o → is_gt o ≡ false → o ≡ Less
    at Less q k = refl
    at Equal q k = absurd (n (tied_version e f q))
    at Greater q k = absurd (cc)

-- ---- rivals

rival_tied : (e f : Entry) → AreRivals e f → rival_cmp e f ≡ Equal
unfolding rival_cmp
rival_tied e f r =
    let b = r.block in let t = r.time in let w = r.writer in
    rw (b, t, w, tied_itself nat_cmp_total e.block, tied_itself nat_cmp_total e.stamp.time, tied_itself nat_cmp_total e.stamp.client) refl

tied_rival : (e f : Entry) → rival_cmp e f ≡ Equal → AreRivals e f
unfolding rival_cmp
tied_rival e f h =
    let a = then_equal _ _ h in
    let c = then_equal _ _ a.1 in
    record { block = sym (exact_unsigned _ _ a.0); time = sym (exact_unsigned _ _ c.0); writer = sym (exact_unsigned _ _ c.1) }

pub rival_back : (e f : Entry) → AreRivals e f → AreRivals f e
rival_back e f r = record { block = sym r.block; time = sym r.time; writer = sym r.writer }

-- what stands between two rivals is their rival
pub rival_between : (e f g : Entry) → entry_cmp e f ≡ Less → entry_cmp f g ≡ Less → AreRivals e g → AreRivals e f
rival_between e f g h k r = tied_rival e f (between rival_total e f g (rival_first e f h) (rival_first f g k) (rival_tied e g r))

pub rivals_or_not : (e f : Entry) → AreRivals e f ⊎ (AreRivals e f → ⊥)
rivals_or_not e f = at (rival_cmp e f) refl
  where
    at : (o : Ordering) → rival_cmp e f ≡ o → AreRivals e f ⊎ (AreRivals e f → ⊥)
    at Less q = inr (λ r. let t = rival_tied e f r in cc)
    at Equal q = inl (tied_rival e f q)
    at Greater q = inr (λ r. let t = rival_tied e f r in cc)
