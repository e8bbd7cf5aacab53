-- The blocks of a device as parts of its array.
use Rattle.std.proofs.Common.{◌≡◌, ℕ, zero, suc, ◌+◌, ◌-◌, ◌*◌, ◌<◌, ◌≤◌, List, [], ◌∷◌, ◌++◌, length, take, drop, refl, sym, ◌∙◌, ap, arith, slice_range, slice_set, slice_index_or}
use Rattle.std.proofs.lemmas.List.{append_assoc, append-nil, length-append, length-drop, drop-drop, take-append-le, drop-append-le, take-append-drop}
use Rattle.std.proofs.Math.Seq.{take-append-add, drop-append-add, take-length, take-add}
use Rattle.std.proofs.Math.Nat.{suc-mul}
use Rattle.std.proofs.lemmas.List.Edits.{paste-paste}
use lib.Seq.{paste}
use Rattle.block_device.specs.Device.{merged}
use Rattle.node_device.specs.Held.{Held}
use Rattle.nbd_front.specs.Arrays.{array_of}

-- the array by one of its blocks
pub record Parts (size : ℕ) (held : List Held) (k : ℕ) (d : Held) : Type 0 where
  pub front : List ℕ
  pub back : List ℕ
  pub is : array_of held ≡ front ++ ((slice_index_or held k d).value ++ back)
  pub set : (h : Held) → array_of (slice_set held k h) ≡ front ++ (h.value ++ back)
  pub long : length front ≡ k * size

pub parts : (size : ℕ) (held : List Held) (k : ℕ) (d : Held) → ((i : ℕ) → i < length held → length (slice_index_or held i d).value ≡ size) → k < length held → Parts size held k d
parts size [] k d sized there = absurd (omega (arith, there))
parts size (h ∷ t) zero d sized there = record { front = []; back = array_of t; is = refl; set = λ g. refl; long = omega arith }
parts size (h ∷ t) (suc k) d sized there =
    let p = parts size t k d (λ i l. sized (suc i) (omega (arith, l))) (omega (arith, there)) in
    let here : length h.value ≡ size = sized 0 (omega arith) in
    record {
      front = h.value ++ p.front;
      back = p.back;
      is = ap (λ z. h.value ++ z) p.is ∙ sym (append_assoc h.value p.front _);
      set = λ g. ap (λ z. h.value ++ z) (p.set g) ∙ sym (append_assoc h.value p.front _);
      long = omega (arith, length-append h.value p.front, here, p.long, suc-mul k size);
    }

pub array_len : (size : ℕ) (held : List Held) (d : Held) → ((i : ℕ) → i < length held → length (slice_index_or held i d).value ≡ size) → length (array_of held) ≡ length held * size
array_len size [] d sized = omega arith
array_len size (h ∷ t) d sized =
    let more = array_len size t d (λ i l. sized (suc i) (omega (arith, l))) in
    let here : length h.value ≡ size = sized 0 (omega arith) in
    omega (arith, length-append h.value (array_of t), here, more, suc-mul (length t) size)

-- a part of a list's middle
pub middle : (front mid back : List ℕ) (n from to i j : ℕ) → length front ≡ n → i ≡ n + from → j ≡ n + to → from ≤ to → to ≤ length mid → slice_range (front ++ (mid ++ back)) i j ≡ slice_range mid from to
middle front mid back n from to i j long first last order fits =
    let size : j - i ≡ to - from = omega arith in
    let start : i ≡ length front + from = omega arith in
    ap (λ m. take m (drop i (front ++ (mid ++ back)))) size
    ∙ ap (λ s. take (to - from) (drop s (front ++ (mid ++ back)))) start
    ∙ ap (take (to - from)) (drop-append-add front (mid ++ back) from)
    ∙ ap (take (to - from)) (drop-append-le from mid back (omega arith))
    ∙ take-append-le (to - from) (drop from mid) back (omega (arith, length-drop from mid))

-- bytes put into a list's middle
pub merged_middle : (front mid back bytes : List ℕ) (n at i : ℕ) → length front ≡ n → i ≡ n + at → at + length bytes ≤ length mid → front ++ (merged mid at bytes ++ back) ≡ merged (front ++ (mid ++ back)) i bytes
unfolding merged
merged_middle front mid back bytes n at i long first fits =
    let start : i ≡ length front + at = omega arith in
    let end : i + length bytes ≡ length front + (at + length bytes) = omega arith in
    let first_part : take i (front ++ (mid ++ back)) ≡ front ++ take at mid =
    ap (λ s. take s (front ++ (mid ++ back))) start ∙ take-append-add front (mid ++ back) at ∙ ap (λ z. front ++ z) (take-append-le at mid back (omega arith)) in
    let last_part : drop (i + length bytes) (front ++ (mid ++ back)) ≡ drop (at + length bytes) mid ++ back =
    ap (λ s. drop s (front ++ (mid ++ back))) end ∙ drop-append-add front (mid ++ back) (at + length bytes) ∙ drop-append-le (at + length bytes) mid back fits in
    rw (first_part, last_part)
    (ap (λ z. front ++ z) (append_assoc (take at mid ++ bytes) (drop (at + length bytes) mid) back)
    ∙ sym (append_assoc front (take at mid ++ bytes) _)
    ∙ ap (λ z. z ++ (drop (at + length bytes) mid ++ back)) (sym (append_assoc front (take at mid) bytes)))

pub merged_none : (old : List ℕ) (at : ℕ) → merged old at [] ≡ old
unfolding merged
merged_none old at = ap (λ n. take at old ++ [] ++ drop n old) (omega arith) ∙ ap (λ z. z ++ drop at old) (append-nil (take at old)) ∙ take-append-drop at old

-- two pieces, one after the other
pub merged_then : (old xs ys : List ℕ) (at n : ℕ) → n ≡ length xs → at ≤ length old → merged (merged old at xs) (at + n) ys ≡ merged old at (xs ++ ys)
unfolding merged
merged_then old xs ys at n e within =
    let both = xs ++ ys in
    let pasted : paste (paste old at xs (length xs)) (at + length xs) ys (length ys) ≡ paste old at both (length xs + length ys) = paste-paste old at xs ys (length xs) (length ys) refl refl within in
    let p = rw (take-length xs, take-length ys) at pasted in
    let q : paste old at both (length xs + length ys) ≡ merged old at both =
    ap (λ m. paste old at both m) (sym (length-append xs ys)) ∙ ap (λ z. take at old ++ z ++ drop (at + length both) old) (take-length both) in
    rw e (p ∙ q)

-- two parts of a list, one after the other
pub parts_then : (xs : List ℕ) (i j k : ℕ) → i ≤ j → j ≤ k → slice_range xs i j ++ slice_range xs j k ≡ slice_range xs i k
parts_then xs i j k low high =
    let from : i + (j - i) ≡ j = omega arith in
    let size : k - i ≡ (j - i) + (k - j) = omega arith in
    let rest : drop (j - i) (drop i xs) ≡ drop j xs = drop-drop (j - i) i xs ∙ ap (λ n. drop n xs) from in
    sym (ap (λ n. take n (drop i xs)) size ∙ take-add (j - i) (k - j) (drop i xs) ∙ ap (λ z. take (j - i) (drop i xs) ++ take (k - j) z) rest)

-- a list's beginning with the part after it
pub start_then : (xs : List ℕ) (i j : ℕ) → i ≤ j → take i xs ++ slice_range xs i j ≡ take j xs
start_then xs i j low =
    let size : j ≡ i + (j - i) = omega arith in
    sym (ap (λ n. take n xs) size ∙ take-add i (j - i) xs)
