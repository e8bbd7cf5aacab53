-- Stamps, their order, and bounds.
use Rattle.std.specs.Prelude.{◌≡◌, Bool, true}
use Rattle.std.specs.declared.cmp.Ordering.{Ordering}
use Rattle.std.specs.Ordering.{nat_cmp, then_cmp, on, is_le, is_lt, is_eq}
use Rattle.std.specs.Cmp.Lexicographic.{slice_cmp}
use Rattle.stamp_order.specs.declared.Stamp.{Stamp}
use Rattle.stamp_order.specs.declared.Bound.{Bound}
use Rattle.stamp_order.specs.declared.Bound.TheVariants.{All as Every, AtMost, Below}

-- by time, then client, then verifier
unfoldable pub stamp_cmp : Stamp → Stamp → Ordering
stamp_cmp = then_cmp (on (λ s. s.time) nat_cmp) (then_cmp (on (λ s. s.client) nat_cmp) (on (λ s. s.verifier) (slice_cmp nat_cmp)))

-- s is t or less
unfoldable pub up_to : Stamp → Stamp → Bool
up_to s t = is_le (stamp_cmp s t)

-- s is less than t
unfoldable pub before : Stamp → Stamp → Bool
before s t = is_lt (stamp_cmp s t)

-- s is t
unfoldable pub same_stamp : Stamp → Stamp → Bool
same_stamp s t = is_eq (stamp_cmp s t)

infix 4 ◌≼◌
-- s is t or less
abbrev pub ◌≼◌ : Stamp → Stamp → Type 0
s ≼ t = up_to s t ≡ true

-- the bound has the stamp
abbrev pub has : Bound → Stamp → Bool
has Every s = true
has (AtMost t) s = up_to s t
has (Below t) s = before s t
