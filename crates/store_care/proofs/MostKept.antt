-- Where a block is settled n-t nodes that are up keep its newest stamp.
use Rattle.std.proofs.Common.{◌≡◌, ◌⊎◌, ℕ, zero, suc, ◌+◌, ◌-◌, ◌<◌, ◌≤◌, Bool, true, false, cond, not, ◌&&◌, nat_le, List, [], ◌∷◌, ◌++◌, map, filter, length, get_or, Option, None, Some, refl, sym, ◌∙◌, ap, subst, inl, inr, arith}
use Rattle.std.specs.List.{Contains, list_all, range_with_len}
use Rattle.std.specs.Option.{option_map}
use Rattle.std.proofs.lemmas.Bool.{cases_Bool, cases_lt, false≢true}
use Rattle.std.proofs.lemmas.Bool.Decides.{nat_tests}
use Rattle.std.proofs.lemmas.List.{length-append}
use Rattle.std.proofs.lemmas.List.Folds.{Any-from_list_any, list_all_at}
use Rattle.std.proofs.lemmas.List.FromFn.{filter_of_map_range_with_len_more, get_or-map-range_with_len, length-map-range_with_len}
use Rattle.quorum_rules.specs.Limits.{wait_of}
use Rattle.stamp_order.specs.declared.Bound.TheVariants.{All as Every}
use Rattle.stamp_order.specs.declared.Stamp.{Stamp}
use Rattle.stamp_order.specs.Stamps.{◌≼◌}
use Rattle.protocol.specs.Count.{count}
use Rattle.protocol.specs.Messages.{Version}
use Rattle.protocol.specs.Nodes.{greatest_in, keeps}
use Rattle.protocol.proofs.lemmas.Counting.{count_within, both_true}
use Rattle.protocol.proofs.lemmas.Keeping.{greatest_in_is, greatest_in_above, keeps-Contains}
use Rattle.protocol.proofs.lemmas.Order.{≼-trans, same_stamp-≡}
use Rattle.node_core.specs.Seen.{versions_in}
use Rattle.version_disk.specs.Stored.{Stored}
use Rattle.store_device.specs.Stores.{SeenStore, seat_at}
use Rattle.store_device.specs.Settled.{KeepsAtMost, keeps_at}
use Rattle.store_care.specs.Holdings.{newest_by, newest_at}
use Rattle.store_care.specs.Settling.{SettledBlocksHold, is_settled, is_this, is_up_to, leads, newest_stamps}

-- as many of the first n numbers pass as a list of what they give has elements that pass
count_is : {X : Type 0} (p : X → Bool) (f : ℕ → X) (n : ℕ) → length (filter p (map f (range_with_len 0 n))) ≡ count n (λ i. p (f i))
count_is p f zero = refl
count_is p f (suc n) =
    let next : n + 1 ≡ suc n = omega arith in
    sym (ap (λ (k : ℕ). length (filter p (map f (range_with_len 0 k)))) next)
    ∙ ap (λ (xs : List _). length xs) (filter_of_map_range_with_len_more p f 0 n n (omega arith))
    ∙ length-append (filter p (map f (range_with_len 0 n))) (cond (p (f n)) (f n ∷ []) [])
    ∙ ap (λ (k : ℕ). k + length (cond (p (f n)) (f n ∷ []) [])) (count_is p f n)
    ∙ ap (λ (k : ℕ). count n (λ i. p (f i)) + k) (one (p (f n)))
  where
    one : (b : Bool) → length (cond b (f n ∷ []) []) ≡ cond b 1 0
    one true = refl
    one false = refl

all_there : {X : Type 0} (p : X → Bool) (f : ℕ → X) (n i : ℕ) → list_all p (map f (range_with_len 0 n)) ≡ true → i < n → p (f i) ≡ true
all_there p f n i all below =
    let xs = map f (range_with_len 0 n) in
    let at : get_or xs i (f i) ≡ f i = get_or-map-range_with_len f 0 n i i (f i) below (omega arith) in
    let long = length-map-range_with_len f 0 n in
    elim (cases_Bool (p (f i))) [
      | inl is ↦ is
      | inr fails ↦ absurd (false≢true (sym (list_all_at p xs i (f i) (omega (arith, long, below)) (ap p at ∙ fails)) ∙ all))
    ]

module _ {D : Type 0} (store : SeenStore D) (block : ℕ) where
  abbrev stamp_at : ℕ → Option Stamp
  stamp_at i = option_map (λ v. v.stamp) (newest_at store block i)

  module _ (s : Stamp) (all : list_all (is_up_to s) (newest_stamps store block) ≡ true)
      (many : nat_le (wait_of store.config) (length (filter (is_this s) (newest_stamps store block))) ≡ true) where
    up_to_it : (i : ℕ) (newest : Option Version) → i < store.config.n → newest_at store block i ≡ newest
        → is_up_to s (option_map (λ v. v.stamp) newest) ≡ true
    up_to_it i newest below e =
        subst (λ (o : Option Version). is_up_to s (option_map (λ v. v.stamp) o) ≡ true) e
        (all_there (is_up_to s) stamp_at store.config.n i all below)

    -- what a node that is up tells as its newest version
    newest_there : (i : ℕ) (node : Stored D) → seat_at store i ≡ Some node → node.broken ≡ false
        → newest_at store block i ≡ greatest_in Every (versions_in node.node block)
    newest_there i node e whole =
        ap (λ (seat : Option (Stored D)). newest_by seat block) e
        ∙ ap (λ (b : Bool). cond b None (greatest_in Every (versions_in node.node block))) whole

    low : (i : ℕ) (node : Stored D) (v : Version) → i < store.config.n → seat_at store i ≡ Some node → node.broken ≡ false
        → Contains (versions_in node.node block) v → v.stamp ≼ s
    low i node v below e whole there =
        let vs = versions_in node.node block in
        let g = greatest_in_above Every vs v.stamp refl (keeps-Contains vs v there) in
        ≼-trans v.stamp g.0.stamp s g.2 (up_to_it i (Some g.0) below (newest_there i node e whole ∙ g.1))

    keeps_it : (i : ℕ) → i < store.config.n → is_this s (stamp_at i) ≡ true → keeps_at block s (seat_at store i) ≡ true
    keeps_it i below is = at (seat_at store i) is
      where
        found : (node : Stored D) (o : Option Version) → greatest_in Every (versions_in node.node block) ≡ o
            → is_this s (option_map (λ v. v.stamp) o) ≡ true → keeps (versions_in node.node block) s ≡ true
        found node None g h = absurd (false≢true h)
        found node (Some v) g h =
            subst (λ (t : Stamp). keeps (versions_in node.node block) t ≡ true) (same_stamp-≡ v.stamp s h)
            (keeps-Contains (versions_in node.node block) v (greatest_in_is Every (versions_in node.node block) v g).0)

        up : (node : Stored D) (b : Bool) → is_this s (option_map (λ v. v.stamp) (cond b None (greatest_in Every (versions_in node.node block)))) ≡ true
            → not b && keeps (versions_in node.node block) s ≡ true
        up node true h = absurd (false≢true h)
        up node false h = found node (greatest_in Every (versions_in node.node block)) refl h

        at : (seat : Option (Stored D)) → is_this s (option_map (λ v. v.stamp) (newest_by seat block)) ≡ true → keeps_at block s seat ≡ true
        at None h = absurd (false≢true h)
        at (Some node) h = up node node.broken h

    keeps_at_most : KeepsAtMost store block s
    keeps_at_most = record {
      many =
          (let c = count_is (is_this s) stamp_at store.config.n in
          let within = count_within store.config.n (λ i. is_this s (stamp_at i)) (λ i. keeps_at block s (seat_at store i)) keeps_it in
          let enough : wait_of store.config ≤ length (filter (is_this s) (newest_stamps store block)) = grind (arith, nat_tests) in
          omega (arith, c, within, enough));
      low = low;
    }

  led : (o : Option Stamp) → leads (wait_of store.config) (newest_stamps store block) o ≡ true → (stamp : Stamp) × KeepsAtMost store block stamp
  led None h = absurd (false≢true h)
  led (Some s) h = let both = both_true _ _ h in (s, keeps_at_most s both.0 both.1)

pub settled_blocks_hold : (D : Type 0) → SettledBlocksHold D
settled_blocks_hold D store block is =
    let any = Any-from_list_any (leads (wait_of store.config) (newest_stamps store block)) (newest_stamps store block) is in
    led store block any.1 any.4
