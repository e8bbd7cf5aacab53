-- The lists of versions of a node's blocks.
use Rattle.std.proofs.Common.{◌≡◌, ℕ, ◌<◌, ◌≤◌, Bool, true, false, cond, ◌||◌, List, [], ◌∷◌, ◌++◌, filter, length, Option, refl, sym, ◌∙◌, ap, inl, inr, arith}
use Rattle.std.specs.declared.option.Option.TheVariants.{None, Some}
use Rattle.std.specs.List.{Contains, slice_index_or, slice_set}
use Rattle.stamp_order.specs.declared.Stamp.{Stamp}
use Rattle.stamp_order.specs.declared.Bound.{Bound}
use Rattle.stamp_order.specs.declared.Bound.TheVariants.{AtMost}
use Rattle.stamp_order.specs.Stamps.{has, up_to, before, same_stamp}
use Rattle.quorum_rules.specs.Limits.{Numbers}
use Rattle.protocol.specs.Messages.{Version}
use Rattle.protocol.specs.Count.{one_more}
use Rattle.protocol.specs.Setting.{Setting, first_stamp}
use Rattle.protocol.specs.Nodes.{keeps, carries, added, greatest_in, outlives, pruned}
use Rattle.protocol.proofs.lemmas.Order.{≼-time, same_stamp-≡, same_stamp-refl}
use Rattle.protocol.proofs.lemmas.Keeping.{greatest_in_is}
use Rattle.std.proofs.lemmas.List.{get_or-map, map-set, set-get_or}
use Rattle.node_core.proofs.lemmas.Changes.{filter-same}
use Rattle.node_core.specs.Seen.{SeenNode, versions_in, with_versions, from_first}
use Rattle.std.proofs.lemmas.Bool.{cases_Bool}

-- a later version is above the first
pub not_up_to_first : (first v : Stamp) → first.time ≡ 0 → 1 ≤ v.time → up_to v first ≡ false
not_up_to_first first v z l = elim (cases_Bool (up_to v first)) [ inl e ↦ absurd (let t = ≼-time v first e in omega arith) | inr e ↦ e ]

-- the greatest in a bound is the greatest of the later ones, where there is any
pub greatest_later : (bound : Bound) (first v : Version) (vs : List Version) → first.stamp.time ≡ 0 → 1 ≤ v.stamp.time → greatest_in bound vs ≡ Some v → greatest_in bound (first ∷ vs) ≡ Some v
greatest_later bound first v vs z l e = rw (e, not_up_to_first first.stamp v.stamp z l) (at (has bound first.stamp))
  where
    at : (b : Bool) → cond b (Some v) (Some v) ≡ Some v
    at true = refl
    at false = refl

-- the versions of one block
pub block_at : (first : Version) (xs : List (List Version)) (i : ℕ) (k : List Version) → i < length xs → k ≡ slice_index_or xs i k → slice_index_or (from_first first xs) i [] ≡ first ∷ k
block_at first xs i k l e = get_or-map (λ (vs : List Version). first ∷ vs) xs i k [] l ∙ ap (λ vs. first ∷ vs) (sym e)

-- other versions of one block
pub block_set : (first : Version) (xs : List (List Version)) (i : ℕ) (k : List Version) → from_first first (slice_set xs i k) ≡ slice_set (from_first first xs) i (first ∷ k)
block_set first xs i k = map-set (λ (vs : List Version). first ∷ vs) xs i k

-- a node with other later versions of one block
pub node_set : (config : Numbers) (number : ℕ) (first : Version) (xs : List (List Version)) (i : ℕ) (k : List Version)
    → record { config = config; number = number; blocks = from_first first (slice_set xs i k) } ≡ with_versions (record { config = config; number = number; blocks = from_first first xs }) i (first ∷ k)
node_set config number first xs i k = ap (λ bs. record { config = config; number = number; blocks = bs }) (block_set first xs i k)

-- a node with the versions of one block that it has
pub node_same : (node : SeenNode) (i : ℕ) → node ≡ with_versions node i (versions_in node i)
node_same node i = ap (λ bs. record { config = node.config; number = node.number; blocks = bs }) (sym (set-get_or node.blocks i []))

not_first : (first v : Stamp) → first.time ≡ 0 → 1 ≤ v.time → same_stamp first v ≡ false
not_first first v z l =
    elim (cases_Bool (same_stamp first v))
    [ inl e ↦ absurd (let t : first.time ≡ v.time = ap (λ (s : Stamp). s.time) (same_stamp-≡ first v e) in omega arith) | inr e ↦ e ]

pub not_of_first : (v first : Stamp) → first.time ≡ 0 → 1 ≤ v.time → same_stamp v first ≡ false
not_of_first v first z l =
    elim (cases_Bool (same_stamp v first))
    [ inl e ↦ absurd (let t : v.time ≡ first.time = ap (λ (s : Stamp). s.time) (same_stamp-≡ v first e) in omega arith) | inr e ↦ e ]

-- a later stamp is kept where it is among the later versions
pub keeps_later : (first : Version) (vs : List Version) (stamp : Stamp) → first.stamp.time ≡ 0 → 1 ≤ stamp.time → keeps (first ∷ vs) stamp ≡ keeps vs stamp
keeps_later first vs stamp z l = rw (not_first first.stamp stamp z l) refl

-- a prune keeps the first version, and of the later ones the greatest up to the stamp and those above it
module _ (s : Setting) (stamp : Stamp) (first : Version) (vs : List Version) (is : first.stamp ≡ first_stamp s) (later : (v : Version) → Contains vs v → 1 ≤ v.stamp.time) where
  time_zero : first.stamp.time ≡ 0
  time_zero = ap (λ (t : Stamp). t.time) is

  carried : (v : Version) → Contains vs v → carries v.stamp (greatest_in (AtMost stamp) (first ∷ vs)) ≡ carries v.stamp (greatest_in (AtMost stamp) vs)
  carried v k = at (greatest_in (AtMost stamp) vs) refl
    where
      none : (b : Bool) → carries v.stamp (cond b (Some first) None) ≡ false
      none true = not_first first.stamp v.stamp time_zero (later v k)
      none false = refl

      at : (o : Option Version) → greatest_in (AtMost stamp) vs ≡ o → carries v.stamp (greatest_in (AtMost stamp) (first ∷ vs)) ≡ carries v.stamp o
      at None e = rw e (none (up_to first.stamp stamp))
      at (Some g) e = ap (carries v.stamp) (greatest_later (AtMost stamp) first g vs time_zero (later g (greatest_in_is (AtMost stamp) vs g e).0) e)

  pub pruned_later : pruned s stamp (first ∷ vs) ≡ first ∷ filter (λ v. carries v.stamp (greatest_in (AtMost stamp) vs) || before stamp v.stamp) vs
  pruned_later =
      let e : same_stamp first.stamp (first_stamp s) ≡ true = rw is (same_stamp-refl (first_stamp s)) in
      let rest = filter-same (outlives s stamp (first ∷ vs)) (λ v. carries v.stamp (greatest_in (AtMost stamp) vs) || before stamp v.stamp) vs
      (λ v k. rw (not_of_first v.stamp (first_stamp s) refl (later v k), carried v k) refl) in
      rw (e, rest) refl

-- what a test says where it fails
pub not_so : (r k : Bool) → (r ≡ true → k ≡ true) × (k ≡ true → r ≡ true) → r ≡ false → k ≡ false
not_so r k h e = elim (cases_Bool k) [ inl t ↦ absurd (let f = h.1 t in cc) | inr f ↦ f ]

-- an accepted version is added, unless its stamp is kept
module _ (config : Numbers) (number : ℕ) (first : Version) (xs : List (List Version)) (i : ℕ) (k : List Version) (v : Version) where
  abbrev Accepts : List Version → Type 0
  Accepts then =
      record { config = config; number = number; blocks = from_first first (slice_set xs i then) }
      ≡ with_versions (record { config = config; number = number; blocks = from_first first xs }) i (one_more (first ∷ k) (added None (first ∷ k) v))

  pub accepts_new : keeps (first ∷ k) v.stamp ≡ false → Accepts (k ++ v ∷ [])
  accepts_new e = rw e (node_set config number first xs i (k ++ v ∷ []))

  pub accepts_old : keeps (first ∷ k) v.stamp ≡ true → Accepts k
  accepts_old e = rw e (node_set config number first xs i k)
