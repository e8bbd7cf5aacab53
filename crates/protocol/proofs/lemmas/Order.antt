-- The order of stamps.
use Rattle.std.proofs.Common.{◌≡◌, ℕ, ◌<◌, ◌≤◌, true, false, refl, ◌⊎◌, inl, inr, arith, ltb, leb}
use Rattle.std.specs.declared.cmp.Ordering.{Ordering}
use Rattle.std.specs.declared.cmp.Ordering.TheVariants.{Less, Equal, Greater}
use Rattle.std.specs.Ordering.{nat_cmp, is_le, is_lt, ordering_reverse, ordering_then}
use Rattle.std.specs.Cmp.{IsTotalOrder}
use Rattle.std.proofs.lemmas.Bool.Decides.{nat_tests}
use Rattle.std.proofs.lemmas.Cmp.{then_total, on_total, nat_cmp_total, nat_list_cmp_total, upto, tied_itself}
use Rattle.std.proofs.lemmas.Map.Lookups.{exact_bytes, exact_unsigned}
use Rattle.stamp_order.specs.declared.Stamp.{Stamp}
use Rattle.stamp_order.specs.Stamps.{stamp_cmp, up_to, before, same_stamp, ◌≼◌}
use Rattle.protocol.specs.Reach.{IsOrder}
use Rattle.lists.proofs.lemmas.Orders.{le_not_gt, not_gt_le, eq_equal, then_equal}
use Rattle.std.proofs.lemmas.Bool.{cases_Bool}

pub stamp_total : IsTotalOrder stamp_cmp
unfolding stamp_cmp
stamp_total = then_total (on_total (λ (s : Stamp). s.time) nat_cmp_total) (then_total (on_total (λ (s : Stamp). s.client) nat_cmp_total) (on_total (λ (s : Stamp). s.verifier) nat_list_cmp_total))

same_fields : (s t : Stamp) → s.time ≡ t.time → s.client ≡ t.client → s.verifier ≡ t.verifier → s ≡ t
same_fields s t h k l i = record { time = h i; client = k i; verifier = l i }

pub stamp_exact : (s t : Stamp) → stamp_cmp s t ≡ Equal → s ≡ t
unfolding stamp_cmp
stamp_exact s t h =
    let a = then_equal _ _ h in
    let c = then_equal _ _ a.1 in
    same_fields s t (exact_unsigned _ _ a.0) (exact_unsigned _ _ c.0) (exact_bytes _ _ c.1)

lt_le : (o : Ordering) → is_lt o ≡ true → is_le o ≡ true
lt_le Less h = refl
lt_le Equal h = absurd (cc)
lt_le Greater h = absurd (cc)

not_lt_le : (o : Ordering) → is_lt o ≡ false → is_le (ordering_reverse o) ≡ true
not_lt_le Less h = absurd (cc)
not_lt_le Equal h = refl
not_lt_le Greater h = refl

le_cases : (o : Ordering) → is_le o ≡ true → (is_lt o ≡ true) ⊎ (o ≡ Equal)
le_cases Less h = inl refl
le_cases Equal h = inr refl
le_cases Greater h = absurd (cc)

pub ≼-refl : (s : Stamp) → s ≼ s
unfolding up_to
≼-refl s = rw (tied_itself stamp_total s) refl

pub ≼-trans : (s t r : Stamp) → s ≼ t → t ≼ r → s ≼ r
unfolding up_to
≼-trans s t r h k = not_gt_le _ (upto stamp_total s t r (le_not_gt _ h) (le_not_gt _ k))

pub before-≼ : (s t : Stamp) → before s t ≡ true → s ≼ t
unfolding up_to before
before-≼ s t h = lt_le _ h

pub same_stamp-≡ : (s t : Stamp) → same_stamp s t ≡ true → s ≡ t
unfolding same_stamp
same_stamp-≡ s t h = stamp_exact s t (eq_equal _ h)

pub same_stamp-refl : (s : Stamp) → same_stamp s s ≡ true
unfolding same_stamp
same_stamp-refl s = rw (tied_itself stamp_total s) refl

pub before_false : (s t : Stamp) → before t s ≡ false → s ≼ t
unfolding up_to before
before_false s t h = rw (stamp_total.antisymm s t) (not_lt_le _ h)

pub ≼-cases : (s t : Stamp) → s ≼ t → (before s t ≡ true) ⊎ (s ≡ t)
unfolding up_to before
≼-cases s t h = elim (le_cases _ h) [ inl k ↦ inl k | inr k ↦ inr (stamp_exact s t k) ]

then_less : (a c : Ordering) → is_lt a ≡ true → is_lt (ordering_then a c) ≡ true
then_less Less c h = refl
then_less Equal c h = absurd (cc)
then_less Greater c h = absurd (cc)

less_at : (x y : ℕ) → x < y → is_lt (nat_cmp x y) ≡ true
less_at x y h = let e : ltb x y ≡ true = grind (arith, nat_tests) in rw e refl

pub then_le : (a c : Ordering) → is_le (ordering_then a c) ≡ true → is_le a ≡ true
then_le Less c h = refl
then_le Equal c h = refl
then_le Greater c h = absurd (cc)

le_at : (x y : ℕ) → is_le (nat_cmp x y) ≡ true → x ≤ y
le_at x y h = grind (arith, nat_tests)

pub lower_time : (s t : Stamp) → s.time < t.time → before s t ≡ true
unfolding before stamp_cmp
lower_time s t h = then_less _ _ (less_at s.time t.time h)

pub ≼-time : (s t : Stamp) → s ≼ t → s.time ≤ t.time
unfolding up_to stamp_cmp
≼-time s t h = le_at s.time t.time (then_le _ _ h)

pub not_up_to : (s t : Stamp) → up_to s t ≡ false → t ≼ s
not_up_to s t e = elim (cases_Bool (before s t)) [ inl h ↦ absurd (let w = before-≼ s t h in cc) | inr h ↦ before_false t s h ]

pub stamps_order : IsOrder up_to
stamps_order = record { refl = ≼-refl; trans = ≼-trans; other = not_up_to }

pub times_order : IsOrder leb
times_order = record { refl = λ x. grind (arith, nat_tests); trans = λ x y z h k. grind (arith, nat_tests); other = λ x y h. grind (arith, nat_tests) }

le_both : (a b : Ordering) → a ≡ ordering_reverse b → is_lt a ≡ true → is_le b ≡ true → ⊥
le_both a Less e h k = let q : is_lt Greater ≡ true = rw e at h in cc
le_both a Equal e h k = let q : is_lt Equal ≡ true = rw e at h in cc
le_both a Greater e h k = absurd (cc)

pub not_both : (s t : Stamp) → before s t ≡ true → t ≼ s → ⊥
unfolding before up_to
not_both s t h k = le_both (stamp_cmp s t) (stamp_cmp t s) (stamp_total.antisymm s t) h k

pub ≼-antisym : (s t : Stamp) → s ≼ t → t ≼ s → s ≡ t
≼-antisym s t h k = elim (≼-cases s t h) [ inl l ↦ absurd (not_both s t l k) | inr e ↦ e ]
