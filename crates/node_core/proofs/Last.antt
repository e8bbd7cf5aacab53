-- The last entry of a range of stamps is the greatest in a bound.
use Rattle.std.proofs.Common.{◌≡◌, true, false, List, [], ◌∷◌, ◌++◌, Option, refl, sym, ◌∙◌, ap, IsSome, IfSome, IfNone, MatchOption}
use Rattle.std.specs.declared.option.Option.TheVariants.{None, Some}
use Rattle.std.specs.declared.ops.Bound.{Bound as Edge}
use Rattle.std.specs.declared.ops.Bound.TheVariants.{Included, Excluded, Unbounded}
use Rattle.std.specs.Ordering.{is_lt}
use Rattle.std.specs.BTreeMap.{BTreeMap}
use Rattle.std.specs.BTreeMap.Range.{IsRangeOf, IsUpToEnd}
use Rattle.stamp_order.specs.declared.Stamp.{Stamp}
use Rattle.stamp_order.specs.declared.Bound.{Bound}
use Rattle.stamp_order.specs.declared.Bound.TheVariants.{All as Every, AtMost, Below}
use Rattle.stamp_order.specs.Stamps.{has, ◌≼◌}
use Rattle.stamp_order.proofs.lemmas.Orders.{up_to_by_fields, before_by_fields}
use Rattle.protocol.proofs.lemmas.Order.{before_false}
use Rattle.node_core.specs.declared.kept.Content.{Content}
use Rattle.node_core.specs.Index.{compared, content_at, IsLastIn, IsNoneIn}
use Rattle.lists.proofs.lemmas.Orders.{lt_less, le_not_gt, not_gt_le}

-- the end of a range is that of a bound
pub record IsEndOf (edge : Edge Stamp) (bound : Bound) : Type 0 where
  pub inside : (q : Stamp) → IsUpToEnd compared edge q → has bound q ≡ true
  pub reached : (q : Stamp) → has bound q ≡ true → IsUpToEnd compared edge q

pub end_at_most : (most : Stamp) → IsEndOf (Included most) (AtMost most)
end_at_most most = record {
  inside = λ q h. sym (up_to_by_fields q most) ∙ not_gt_le (compared q most) h;
  reached = λ q h. le_not_gt (compared q most) (up_to_by_fields q most ∙ h);
}

pub end_below : (limit : Stamp) → IsEndOf (Excluded limit) (Below limit)
end_below limit = record {
  inside = λ q h. sym (before_by_fields q limit) ∙ ap is_lt h;
  reached = λ q h. lt_less (compared q limit) (before_by_fields q limit ∙ h);
}

-- no key is above q
pub not_above : (stamp q : Stamp) → is_lt (compared stamp q) ≡ false → q ≼ stamp
not_above stamp q h = before_false q stamp (sym (before_by_fields stamp q) ∙ h)

module _ (m : BTreeMap Stamp Content) (bound : Bound) (edge : Edge Stamp) (is : IsEndOf edge bound) (r rest : List (Stamp × Content)) (range : IsRangeOf compared Unbounded edge m r) where
  last_is : (stamp : Stamp) (content : Content) → r ≡ rest ++ (stamp, content) ∷ [] → IsLastIn m bound stamp content
  last_is stamp content e = record {
    found = (range.3 (stamp, content) rest e).1;
    inside = is.inside stamp (range.3 (stamp, content) rest e).0.1;
    above = λ q inside there. not_above stamp q (range.4 (stamp, content) rest e q (tt, is.reached q inside) there);
  }

  none_is : r ≡ [] → IsNoneIn m bound
  none_is e = λ q inside. range.5 e q (tt, is.reached q inside)

  -- what comes back from the range's end
  module _ {A : Type 0} (key : A → Stamp) (value : A → Content) (Left : Type 0) where
    pub some_from_range : (o : Option A) → MatchOption o (r ≡ [] × Left) (λ x. r ≡ rest ++ (key x, value x) ∷ []) → IfSome o (λ x. IsLastIn m bound (key x) (value x))
    some_from_range None h = tt
    some_from_range (Some x) h = last_is (key x) (value x) h

    pub none_from_range : (o : Option A) → MatchOption o (r ≡ [] × Left) (λ x. r ≡ rest ++ (key x, value x) ∷ []) → IfNone o (IsNoneIn m bound)
    none_from_range None h = none_is h.0
    none_from_range (Some x) h = tt

-- the last of all entries
pub some_from_all : {A : Type 0} (m : BTreeMap Stamp Content) (key : A → Stamp) (value : A → Content) (o : Option A)
    → IfSome o (λ x. content_at m (key x) ≡ Some (value x)) → IfSome o (λ x. (q : Stamp) → IsSome (content_at m q) → is_lt (compared (key x) q) ≡ false) → IfSome o (λ x. IsLastIn m Every (key x) (value x))
some_from_all m key value None h k = tt
some_from_all m key value (Some x) h k = record { found = h; inside = refl; above = λ q inside there. not_above (key x) q (k q there) }
