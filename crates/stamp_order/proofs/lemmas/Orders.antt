-- The order of stamps, as the code compares them.
use Rattle.std.proofs.Common.{◌≡◌, refl}
use Rattle.std.specs.Ordering.{nat_cmp, ordering_then, is_le, is_lt}
use Rattle.std.specs.Cmp.Lexicographic.{slice_cmp}
use Rattle.std.specs.declared.cmp.Ordering.{Ordering}
use Rattle.stamp_order.specs.declared.Stamp.{Stamp}
use Rattle.stamp_order.specs.Stamps.{stamp_cmp, up_to, before}

-- the fields are compared one after the other
abbrev pub by_fields : Stamp → Stamp → Ordering
by_fields s t = ordering_then (nat_cmp s.time t.time) (ordering_then (nat_cmp s.client t.client) (slice_cmp nat_cmp s.verifier t.verifier))

pub up_to_by_fields : (s t : Stamp) → is_le (by_fields s t) ≡ up_to s t
unfolding up_to stamp_cmp
up_to_by_fields s t = refl

pub before_by_fields : (s t : Stamp) → is_lt (by_fields s t) ≡ before s t
unfolding before stamp_cmp
before_by_fields s t = refl
