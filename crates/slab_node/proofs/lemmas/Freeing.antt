-- Marks of slots may be taken away, each of them or not.
use Rattle.std.proofs.Common.{◌≡◌, inl, inr, ℕ, zero, suc, ◌+◌, ◌<◌, ◌≤◌, Bool, true, false, List, [], ◌∷◌, map, refl, arith}
use Rattle.std.specs.Prelude.{nat_lt}
use Rattle.std.proofs.lemmas.Bool.{cases_Bool}
use Rattle.protocol.specs.Messages.{Version}
use Rattle.slab_node.specs.Held.{Entry, counts, entries_from, put, in_order, entry_version, versions_of}
use Rattle.slab_node.specs.Freed.{KeepsSome, none, keeps, drops}

-- each number is greater
abbrev AreAbove : ℕ → List Entry → Type 0
AreAbove n [] = Unit {0}
AreAbove n (e ∷ es) = (n < e.head.number) × AreAbove n es

-- each number is that or greater
abbrev AreFrom : ℕ → List Entry → Type 0
AreFrom n [] = Unit {0}
AreFrom n (e ∷ es) = (n ≤ e.head.number) × AreFrom n es

abbrev AreSorted : List Entry → Type 0
AreSorted [] = Unit {0}
AreSorted (e ∷ es) = AreFrom e.head.number es × AreSorted es

above_from : (n m : ℕ) (es : List Entry) → n < m → AreFrom m es → AreAbove n es
above_from n m [] lt all = tt
above_from n m (e ∷ es) lt all = (omega (arith, lt, all.0), above_from n m es lt all.1)

from_less : (n m : ℕ) (es : List Entry) → n ≤ m → AreFrom m es → AreFrom n es
from_less n m [] le all = tt
from_less n m (e ∷ es) le all = (omega (arith, le, all.0), from_less n m es le all.1)

is_less : (a b : ℕ) → nat_lt a b ≡ true → a < b
is_less a b h = grind arith

is_from : (a b : ℕ) → nat_lt a b ≡ false → b ≤ a
is_from a b h = grind arith

put_from : (n : ℕ) (e : Entry) (es : List Entry) → n ≤ e.head.number → AreFrom n es → AreFrom n (put e es)
put_from n e [] le all = (le, tt)
put_from n e (x ∷ xs) le all = elim (cases_Bool (nat_lt e.head.number x.head.number)) [
  | inl before ↦ rw before (le, all)
  | inr behind ↦ rw behind (all.0, put_from n e xs le all.1)
]

put_sorted : (e : Entry) (es : List Entry) → AreSorted es → AreSorted (put e es)
put_sorted e [] sorted = (tt, tt)
put_sorted e (x ∷ xs) sorted = elim (cases_Bool (nat_lt e.head.number x.head.number)) [
  | inl before ↦ (let lt = is_less _ _ before in rw before ((omega (arith, lt), from_less e.head.number x.head.number xs (omega (arith, lt)) sorted.0), sorted))
  | inr behind ↦ (let le = is_from _ _ behind in rw behind (put_from x.head.number e xs le sorted.0, put_sorted e xs sorted.1))
]

order_sorted : (es : List Entry) → AreSorted (in_order es)
order_sorted [] = tt
order_sorted (e ∷ es) = put_sorted e (in_order es) (order_sorted es)

put_first : (e : Entry) (es : List Entry) → AreAbove e.head.number es → put e es ≡ e ∷ es
put_first e [] all = refl
put_first e (x ∷ xs) all =
    let before : nat_lt e.head.number x.head.number ≡ true = (let lt = all.0 in grind arith) in
    rw before refl

module _ (Go : Entry → Type 0) where
  part_from : (n : ℕ) (xs ys : List Entry) → KeepsSome Go xs ys → AreFrom n xs → AreFrom n ys
  part_from n _ _ none all = tt
  part_from n _ _ (keeps x xs ys some) all = (all.0, part_from n xs ys some all.1)
  part_from n _ _ (drops x xs ys go some) all = part_from n xs ys some all.1

  put_both : (e : Entry) (xs ys : List Entry) → KeepsSome Go xs ys → AreSorted xs → KeepsSome Go (put e xs) (put e ys)
  put_both e _ _ none sorted = keeps e [] [] none
  put_both e _ _ (keeps x xs ys some) sorted = elim (cases_Bool (nat_lt e.head.number x.head.number)) [
    | inl before ↦ rw before (keeps e _ _ (keeps x xs ys some))
    | inr behind ↦ rw behind (keeps x _ _ (put_both e xs ys some sorted.1))
  ]
  put_both e _ _ (drops x xs ys go some) sorted = elim (cases_Bool (nat_lt e.head.number x.head.number)) [
    | inl before ↦
        let lt = is_less _ _ before in
        let first = put_first e ys (above_from e.head.number x.head.number ys lt (part_from x.head.number xs ys some sorted.0)) in
        rw before (rw first (keeps e _ _ (drops x xs ys go some)))
    | inr behind ↦ rw behind (drops x _ _ go (put_both e xs ys some sorted.1))
  ]

  put_one : (e : Entry) (xs ys : List Entry) → Go e → KeepsSome Go xs ys → KeepsSome Go (put e xs) ys
  put_one e _ _ go none = drops e [] [] go none
  put_one e _ _ go (keeps x xs ys some) = elim (cases_Bool (nat_lt e.head.number x.head.number)) [
    | inl before ↦ rw before (drops e _ _ go (keeps x xs ys some))
    | inr behind ↦ rw behind (keeps x _ _ (put_one e xs ys go some))
  ]
  put_one e _ _ go (drops x xs ys gone some) = elim (cases_Bool (nat_lt e.head.number x.head.number)) [
    | inl before ↦ rw before (drops e _ _ go (drops x xs ys gone some))
    | inr behind ↦ rw behind (drops x _ _ gone (put_one e xs ys go some))
  ]

  order_part : (xs ys : List Entry) → KeepsSome Go xs ys → KeepsSome Go (in_order xs) (in_order ys)
  order_part _ _ none = none
  order_part _ _ (keeps x xs ys some) = put_both x (in_order xs) (in_order ys) (order_part xs ys some) (order_sorted xs)
  order_part _ _ (drops x xs ys go some) = put_one x (in_order xs) (in_order ys) go (order_part xs ys some)

  -- the marked slots, where some of the marks are taken away
  entries_part : (m m' : ℕ → Bool) (e : ℕ → Entry) (block top i n : ℕ) → i + n ≤ top
      → ((k : ℕ) → k < top → counts m' e block k ≡ true → counts m e block k ≡ true)
      → ((k : ℕ) → k < top → counts m e block k ≡ true → counts m' e block k ≡ false → Go (e k))
      → KeepsSome Go (entries_from m e block i n) (entries_from m' e block i n)
  entries_part m m' e block top i zero fits fewer goes = none
  entries_part m m' e block top i (suc n) fits fewer goes =
      let rest = entries_part m m' e block top (suc i) n (omega arith) fewer goes in
      elim (cases_Bool (counts m' e block i)) [
        | inl hit ↦ rw hit (rw (fewer i (omega arith) hit) (keeps (e i) _ _ rest))
        | inr miss ↦ elim (cases_Bool (counts m e block i)) [
          | inl was ↦ rw miss (rw was (drops (e i) _ _ (goes i (omega arith) was miss) rest))
          | inr never ↦ rw miss (rw never rest)
        ]
      ]

map_part : (nodes : ℕ) (Go : Version → Type 0) (xs ys : List Entry) → KeepsSome (λ e. Go (entry_version nodes e)) xs ys → KeepsSome Go (map (entry_version nodes) xs) (map (entry_version nodes) ys)
map_part nodes Go _ _ none = none
map_part nodes Go _ _ (keeps x xs ys some) = keeps (entry_version nodes x) _ _ (map_part nodes Go xs ys some)
map_part nodes Go _ _ (drops x xs ys go some) = drops (entry_version nodes x) _ _ go (map_part nodes Go xs ys some)

-- Where marks were taken away, the versions are those from before, without some of those that may go.
pub versions_part : (nodes : ℕ) (Go : Version → Type 0) (m m' : ℕ → Bool) (e : ℕ → Entry) (block n : ℕ)
    → ((k : ℕ) → k < n → counts m' e block k ≡ true → counts m e block k ≡ true)
    → ((k : ℕ) → k < n → counts m e block k ≡ true → counts m' e block k ≡ false → Go (entry_version nodes (e k)))
    → KeepsSome Go (versions_of nodes (entries_from m e block 0 n)) (versions_of nodes (entries_from m' e block 0 n))
versions_part nodes Go m m' e block n fewer goes =
    map_part nodes Go _ _ (order_part (λ e. Go (entry_version nodes e)) _ _ (entries_part (λ e. Go (entry_version nodes e)) m m' e block n 0 n (omega arith) fewer goes))
