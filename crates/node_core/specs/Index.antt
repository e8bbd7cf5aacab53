-- The versions of a block that were accepted after the first, kept by stamp.
use Rattle.std.specs.Prelude.{◌≡◌, ◌≤◌, Bool, true, List, Option, IsSome, Some, None}
use Rattle.std.specs.List.{Contains, filter_map}
use Rattle.std.specs.Option.{option_map}
use Rattle.std.specs.BTreeMap.{BTreeMap, get}
use Rattle.std.specs.Ordering.{nat_cmp, ordering_then, is_le, is_ne}
use Rattle.std.specs.Cmp.Lexicographic.{slice_cmp}
use Rattle.std.specs.declared.cmp.Ordering.{Ordering}
use Rattle.stamp_order.specs.declared.Stamp.{Stamp}
use Rattle.stamp_order.specs.declared.Bound.{Bound}
use Rattle.stamp_order.specs.Stamps.{has, ◌≼◌}
use Rattle.wire_forms.specs.declared.message.Version.{Version}
use Rattle.node_core.specs.declared.kept.Content.{Content}

-- stamps are compared field by field
abbrev pub compared : Stamp → Stamp → Ordering
compared s t = ordering_then (nat_cmp s.time t.time) (ordering_then (nat_cmp s.client t.client) (slice_cmp nat_cmp s.verifier t.verifier))

-- s is t or less
abbrev pub is_up_to : Stamp → Stamp → Bool
is_up_to s t = is_le (compared s t)

-- s and t are two stamps
abbrev pub is_other : Stamp → Stamp → Bool
is_other s t = is_ne (compared s t)

-- the version that has this stamp and content
abbrev pub version_of : Stamp → Content → Version
version_of stamp content = record { stamp = stamp; sum = content.sum; fragment = content.fragment }

-- what is kept by a stamp
abbrev pub content_at : BTreeMap Stamp Content → Stamp → Option Content
content_at by_stamp stamp = get compared by_stamp stamp

-- the version of a stamp
abbrev pub version_at : BTreeMap Stamp Content → Stamp → Option Version
version_at by_stamp stamp = option_map (version_of stamp) (content_at by_stamp stamp)

-- the versions of these stamps, in their order
abbrev pub versions_of : List Stamp → BTreeMap Stamp Content → List Version
versions_of order by_stamp = filter_map (version_at by_stamp) order

-- the stamps in order of acceptance and the versions by stamp fit each other, and no time is 0
pub record IsIndex (order : List Stamp) (by_stamp : BTreeMap Stamp Content) : Type 0 where
  pub there : (stamp : Stamp) → Contains order stamp → IsSome (version_at by_stamp stamp)
  pub accepted : (stamp : Stamp) (v : Version) → version_at by_stamp stamp ≡ Some v → Contains order stamp
  pub later : (stamp : Stamp) (v : Version) → version_at by_stamp stamp ≡ Some v → 1 ≤ stamp.time

-- the content is kept by the greatest stamp in the bound
pub record IsLastIn (by_stamp : BTreeMap Stamp Content) (bound : Bound) (stamp : Stamp) (content : Content) : Type 0 where
  pub found : content_at by_stamp stamp ≡ Some content
  pub inside : has bound stamp ≡ true
  pub above : (q : Stamp) → has bound q ≡ true → IsSome (content_at by_stamp q) → q ≼ stamp

-- no stamp is in the bound
abbrev pub IsNoneIn : BTreeMap Stamp Content → Bound → Type 0
IsNoneIn by_stamp bound = (q : Stamp) → has bound q ≡ true → content_at by_stamp q ≡ None
