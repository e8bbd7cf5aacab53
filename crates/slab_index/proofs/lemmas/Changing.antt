-- How the slots of a block change as one comes or goes.
use Rattle.std.proofs.Common.{◌≡◌, inl, inr, ℕ, zero, suc, ◌+◌, ◌<◌, ◌≤◌, ◌==◌, Bool, true, false, List, [], ◌∷◌, ◌++◌, refl, sym, ◌∙◌, ap, arith, eqb-true, eq-eqb}
use Rattle.std.specs.Prelude.{nat_lt, not, filter}
use Rattle.std.specs.List.{AllByRecursion}
use Rattle.std.proofs.lemmas.Bool.{cases_Bool, cases_lt, false≢true}
use Rattle.slab_layout.specs.declared.shape.Shape.{Shape}
use Rattle.slab_layout.specs.declared.head.Head.{Head}
use Rattle.slab_index.specs.Kept.{Kept, put_kept, is_elsewhere, without_slot}
use Rattle.slab_index.specs.Slots.{head_of, kept_of, is_of, slots_from, slots_by, SameSlots, OneMoreSlot, OneSlotLess, SlotsAreCounted}

-- ---- orders

abbrev pub AreBelow : ℕ → List Kept → Type 0
AreBelow n [] = Unit {0}
AreBelow n (k ∷ ks) = (k.number < n) × AreBelow n ks

abbrev AreFrom : ℕ → List Kept → Type 0
AreFrom n [] = Unit {0}
AreFrom n (k ∷ ks) = (n ≤ k.number) × AreFrom n ks

abbrev AreAbove : ℕ → List Kept → Type 0
AreAbove n [] = Unit {0}
AreAbove n (k ∷ ks) = (n < k.number) × AreAbove n ks

abbrev AreSorted : List Kept → Type 0
AreSorted [] = Unit {0}
AreSorted (k ∷ ks) = AreFrom k.number ks × AreSorted ks

not_less : (a b : ℕ) → b ≤ a → nat_lt a b ≡ false
not_less a b le = grind arith

less : (a b : ℕ) → a < b → nat_lt a b ≡ true
less a b lt = grind arith

is_less : (a b : ℕ) → nat_lt a b ≡ true → a < b
is_less a b h = grind arith

is_from : (a b : ℕ) → nat_lt a b ≡ false → b ≤ a
is_from a b h = grind arith

above_from : (n m : ℕ) (ks : List Kept) → n < m → AreFrom m ks → AreAbove n ks
above_from n m [] lt all = tt
above_from n m (k ∷ ks) lt all = (omega (arith, lt, all.0), above_from n m ks lt all.1)

from_less : (n m : ℕ) (ks : List Kept) → n ≤ m → AreFrom m ks → AreFrom n ks
from_less n m [] le all = tt
from_less n m (k ∷ ks) le all = (omega (arith, le, all.0), from_less n m ks le all.1)

put_from : (n : ℕ) (k : Kept) (ks : List Kept) → n ≤ k.number → AreFrom n ks → AreFrom n (put_kept k ks)
put_from n k [] le all = (le, tt)
put_from n k (x ∷ xs) le all = elim (cases_Bool (nat_lt k.number x.number)) [
  | inl before ↦ rw before (le, all)
  | inr behind ↦ rw behind (all.0, put_from n k xs le all.1)
]

put_sorted : (k : Kept) (ks : List Kept) → AreSorted ks → AreSorted (put_kept k ks)
put_sorted k [] sorted = (tt, tt)
put_sorted k (x ∷ xs) sorted = elim (cases_Bool (nat_lt k.number x.number)) [
  | inl before ↦ (let lt = is_less _ _ before in rw before ((omega (arith, lt), from_less k.number x.number xs (omega (arith, lt)) sorted.0), sorted))
  | inr behind ↦ (let le = is_from _ _ behind in rw behind (put_from x.number k xs le sorted.0, put_sorted k xs sorted.1))
]

put_below : (n : ℕ) (k : Kept) (ks : List Kept) → k.number < n → AreBelow n ks → AreBelow n (put_kept k ks)
put_below n k [] lt all = (lt, tt)
put_below n k (x ∷ xs) lt all = elim (cases_Bool (nat_lt k.number x.number)) [
  | inl before ↦ rw before (lt, all)
  | inr behind ↦ rw behind (all.0, put_below n k xs lt all.1)
]

put_first : (k : Kept) (ks : List Kept) → AreAbove k.number ks → put_kept k ks ≡ k ∷ ks
put_first k [] all = refl
put_first k (x ∷ xs) all = rw (less k.number x.number all.0) refl

pub put_last : (k : Kept) (ks : List Kept) → AreBelow k.number ks → put_kept k ks ≡ ks ++ k ∷ []
put_last k [] all = refl
put_last k (x ∷ xs) all = rw (not_less k.number x.number (omega (arith, all.0))) (ap (λ l. x ∷ l) (put_last k xs all.1))

put_before : (x k : Kept) (ks : List Kept) → x.number < k.number → put_kept x (ks ++ k ∷ []) ≡ put_kept x ks ++ k ∷ []
put_before x k [] lt = rw (less x.number k.number lt) refl
put_before x k (y ∷ ys) lt = elim (cases_Bool (nat_lt x.number y.number)) [
  | inl before ↦ rw before refl
  | inr behind ↦ rw behind (ap (λ l. y ∷ l) (put_before x k ys lt))
]

-- ---- without some

module _ (p : Kept → Bool) where
  above_filter : (n : ℕ) (ks : List Kept) → AreAbove n ks → AreAbove n (filter p ks)
  above_filter n [] all = tt
  above_filter n (k ∷ ks) all = elim (cases_Bool (p k)) [ inl stays ↦ rw stays (all.0, above_filter n ks all.1) | inr goes ↦ rw goes (above_filter n ks all.1) ]

  filter_stays : (k : Kept) (ks : List Kept) → AreSorted ks → p k ≡ true → filter p (put_kept k ks) ≡ put_kept k (filter p ks)
  filter_stays k [] sorted stays = rw stays refl
  filter_stays k (x ∷ xs) sorted stays = elim (cases_Bool (nat_lt k.number x.number)) [
    | inl before ↦
        let lt = is_less _ _ before in
        let above = above_filter k.number (x ∷ xs) (lt, above_from k.number x.number xs lt sorted.0) in
        rw before (rw stays (sym (put_first k (filter p (x ∷ xs)) above)))
    | inr behind ↦ elim (cases_Bool (p x)) [
      | inl kept ↦ rw behind (rw kept (rw behind (ap (λ l. x ∷ l) (filter_stays k xs sorted.1 stays))))
      | inr gone ↦ rw behind (rw gone (filter_stays k xs sorted.1 stays))
    ]
  ]

  filter_goes : (k : Kept) (ks : List Kept) → p k ≡ false → filter p (put_kept k ks) ≡ filter p ks
  filter_goes k [] goes = rw goes refl
  filter_goes k (x ∷ xs) goes = elim (cases_Bool (nat_lt k.number x.number)) [
    | inl before ↦ rw before (rw goes refl)
    | inr behind ↦ elim (cases_Bool (p x)) [
      | inl kept ↦ rw behind (rw kept (ap (λ l. x ∷ l) (filter_goes k xs goes)))
      | inr gone ↦ rw behind (rw gone (filter_goes k xs goes))
    ]
  ]

-- ---- slots

module _ (m m' : ℕ → Bool) (h h' : ℕ → Head) (block top : ℕ) where
  same_from : (i n : ℕ) → i + n ≤ top
      → ((k : ℕ) → k < top → is_of m' h' block k ≡ is_of m h block k)
      → ((k : ℕ) → k < top → is_of m h block k ≡ true → h' k ≡ h k)
      → slots_from m' h' block i n ≡ slots_from m h block i n
  same_from i zero fits alike same = refl
  same_from i (suc n) fits alike same =
      let rest = same_from (suc i) n (omega (arith, fits)) alike same in
      let here = alike i (omega (arith, fits)) in
      elim (cases_Bool (is_of m h block i)) [
        | inl hit ↦ rw (here ∙ hit) (rw hit (λ j. put_kept (kept_of i (same i (omega (arith, fits)) hit j)) (rest j)))
        | inr miss ↦ rw (here ∙ miss) (rw miss rest)
      ]

below_all : (m : ℕ → Bool) (h : ℕ → Head) (block top number : ℕ) (i n : ℕ) → i + n ≤ top → ((k : ℕ) → k < top → is_of m h block k ≡ true → (h k).number < number) → AreBelow number (slots_from m h block i n)
below_all m h block top number i zero fits each = tt
below_all m h block top number i (suc n) fits each =
    let rest = below_all m h block top number (suc i) n (omega (arith, fits)) each in
    elim (cases_Bool (is_of m h block i)) [
      | inl hit ↦ rw hit (put_below number (kept_of i (h i)) (slots_from m h block (suc i) n) (each i (omega (arith, fits)) hit) rest)
      | inr miss ↦ rw miss rest
    ]

module _ (m m' : ℕ → Bool) (h h' : ℕ → Head) (block top j : ℕ) (new : is_of m' h' block j ≡ true) (not_yet : is_of m h block j ≡ false)
    (others : (k : ℕ) → k < top → (k ≡ j → ⊥) → is_of m' h' block k ≡ is_of m h block k)
    (same : (k : ℕ) → k < top → is_of m h block k ≡ true → h' k ≡ h k)
    (greater : (k : ℕ) → k < top → is_of m h block k ≡ true → (h k).number < (h' j).number) where
  behind : (i n : ℕ) → i + n ≤ top → j < i → slots_from m' h' block i n ≡ slots_from m h block i n
  behind i zero fits lt = refl
  behind i (suc n) fits lt =
      let rest = behind (suc i) n (omega (arith, fits)) (omega (arith, lt)) in
      let here = others i (omega (arith, fits)) (λ it. omega (arith, it, lt)) in
      elim (cases_Bool (is_of m h block i)) [
        | inl hit ↦ rw (here ∙ hit) (rw hit (λ j. put_kept (kept_of i (same i (omega (arith, fits)) hit j)) (rest j)))
        | inr miss ↦ rw (here ∙ miss) (rw miss rest)
      ]

  last_of : (i n : ℕ) → i + n ≤ top → i ≤ j → j < i + n → slots_from m' h' block i n ≡ slots_from m h block i n ++ kept_of j (h' j) ∷ []
  last_of i zero fits low high = absurd (omega (arith, low, high))
  last_of i (suc n) fits low high = elim (cases_lt i j) [
    | inl lt ↦
        let rest = last_of (suc i) n (omega (arith, fits)) (omega (arith, lt)) (omega (arith, high)) in
        let here = others i (omega (arith, fits)) (λ it. omega (arith, it, lt)) in
        elim (cases_Bool (is_of m h block i)) [
          | inl hit ↦
              rw (here ∙ hit) (rw hit (
              (λ x. put_kept (kept_of i (same i (omega (arith, fits)) hit x)) (rest x))
              ∙ put_before (kept_of i (h i)) (kept_of j (h' j)) (slots_from m h block (suc i) n) (greater i (omega (arith, fits)) hit)))
          | inr miss ↦ rw (here ∙ miss) (rw miss rest)
        ]
    | inr le ↦
        let it : i ≡ j = omega (arith, le, low) in
        let below = below_all m h block top (h' j).number (suc j) n (omega (arith, fits, it)) greater in
        let rest = behind (suc j) n (omega (arith, fits, it)) (omega arith) in
        rw it (rw new (rw not_yet (ap (put_kept (kept_of j (h' j))) rest ∙ put_last (kept_of j (h' j)) (slots_from m h block (suc j) n) below)))
  ]

sorted_from : (m : ℕ → Bool) (h : ℕ → Head) (block i n : ℕ) → AreSorted (slots_from m h block i n)
sorted_from m h block i zero = tt
sorted_from m h block i (suc n) =
    let rest = sorted_from m h block (suc i) n in
    elim (cases_Bool (is_of m h block i)) [
      | inl hit ↦ rw hit (put_sorted (kept_of i (h i)) (slots_from m h block (suc i) n) rest)
      | inr miss ↦ rw miss rest
    ]

module _ (m m' : ℕ → Bool) (h : ℕ → Head) (block top j : ℕ) (gone : is_of m' h block j ≡ false)
    (others : (k : ℕ) → k < top → (k ≡ j → ⊥) → is_of m' h block k ≡ is_of m h block k) where
  less_from : (i n : ℕ) → i + n ≤ top → slots_from m' h block i n ≡ without_slot j (slots_from m h block i n)
  less_from i zero fits = refl
  less_from i (suc n) fits =
      let rest = less_from (suc i) n (omega (arith, fits)) in
      let more : List Kept = slots_from m h block (suc i) n in
      elim (cases_Bool (i == j)) [
        | inl it ↦
            let is : i ≡ j = eqb-true _ _ it in
            let out : is_of m' h block i ≡ false = ap (is_of m' h block) is ∙ gone in
            elim (cases_Bool (is_of m h block i)) [
              | inl hit ↦ rw out (rw hit (rest ∙ sym (filter_goes (is_elsewhere j) (kept_of i (h i)) more (ap not it))))
              | inr miss ↦ rw out (rw miss rest)
            ]
        | inr other ↦
            let here = others i (omega (arith, fits)) (λ e. false≢true (sym other ∙ eq-eqb _ _ e)) in
            elim (cases_Bool (is_of m h block i)) [
              | inl hit ↦
                  rw (here ∙ hit) (rw hit (
                  ap (put_kept (kept_of i (h i))) rest
                  ∙ sym (filter_stays (is_elsewhere j) (kept_of i (h i)) more (sorted_from m h block (suc i) n) (ap not other))))
              | inr miss ↦ rw (here ∙ miss) (rw miss rest)
            ]
      ]

abbrev IsCounted : (ℕ → Bool) → (ℕ → Head) → ℕ → ℕ → Kept → Type 0
IsCounted m h block top k = (k.slot < top) × (is_of m h block k.slot ≡ true) × (k ≡ kept_of k.slot (h k.slot))

put_all : (P : Kept → Type 0) (k : Kept) (ks : List Kept) → P k → AllByRecursion P ks → AllByRecursion P (put_kept k ks)
put_all P k [] it all = (it, tt)
put_all P k (x ∷ xs) it all = elim (cases_Bool (nat_lt k.number x.number)) [
  | inl before ↦ rw before (it, all)
  | inr behind ↦ rw behind (all.0, put_all P k xs it all.1)
]

counted_from : (m : ℕ → Bool) (h : ℕ → Head) (block top i n : ℕ) → i + n ≤ top → AllByRecursion (IsCounted m h block top) (slots_from m h block i n)
counted_from m h block top i zero fits = tt
counted_from m h block top i (suc n) fits =
    let rest = counted_from m h block top (suc i) n (omega (arith, fits)) in
    elim (cases_Bool (is_of m h block i)) [
      | inl hit ↦ rw hit (put_all (IsCounted m h block top) (kept_of i (h i)) (slots_from m h block (suc i) n) (omega (arith, fits), hit, refl) rest)
      | inr miss ↦ rw miss rest
    ]

-- ---- the laws

pub same_slots : (s : Shape) → SameSlots s
same_slots s m m' old new block alike same = same_from m m' (head_of s old) (head_of s new) block s.count 0 s.count (omega arith) alike same

pub one_more : (s : Shape) → OneMoreSlot s
one_more s m m' old new block j lt is_new not_yet others same greater =
    last_of m m' (head_of s old) (head_of s new) block s.count j is_new not_yet others same greater 0 s.count (omega arith) (omega arith) (omega (arith, lt))
    ∙ sym (put_last (kept_of j (head_of s new j)) (slots_by s m old block)
    (below_all m (head_of s old) block s.count (head_of s new j).number 0 s.count (omega arith) greater))

pub below_slots : (s : Shape) (m : ℕ → Bool) (bytes : List ℕ) (block number : ℕ) → ((k : ℕ) → k < s.count → is_of m (head_of s bytes) block k ≡ true → (head_of s bytes k).number < number)
    → AreBelow number (slots_by s m bytes block)
below_slots s m bytes block number each = below_all m (head_of s bytes) block s.count number 0 s.count (omega arith) each

pub one_less : (s : Shape) → OneSlotLess s
one_less s m m' bytes block j gone others = less_from m m' (head_of s bytes) block s.count j gone others 0 s.count (omega arith)

pub are_counted : (s : Shape) → SlotsAreCounted s
are_counted s marked bytes block = counted_from marked (head_of s bytes) block s.count 0 s.count (omega arith)
