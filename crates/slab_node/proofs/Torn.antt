-- What a crash leaves of a slab whose free slots, loose marks and bytes of asked blocks were written.
use Rattle.std.proofs.Common.{◌≡◌, inl, inr, ℕ, ◌+◌, ◌-◌, ◌*◌, ◌<◌, ◌≤◌, ◌==◌, ◌||◌, Bool, true, false, List, length, get_or, drop, refl, sym, ◌∙◌, ap, arith, length-take, length-drop}
use Rattle.std.proofs.lemmas.Bool.{cases_lt, false≢true}
use Rattle.std.proofs.lemmas.List.{ext_get_or, get_or-take, get_or-drop}
use native.Mathlib.Nat.{mul-le-mul_right}
use Rattle.sqlite_disk.specs.Disk.{Torn, Follows}
use Rattle.slab_layout.specs.declared.shape.Shape.{Shape}
use Rattle.slab_layout.specs.Shapes.{answer_at, mark_at, head_at, data_at, data_len, slab_len, part, is_marked}
use Rattle.slab_node.specs.Left.{IsInHead, IsInData, IsFree, MayBeWritten, head, body, mark, answer, Agrees, AllMay, IsLeft}

pub part_same : (old new : List ℕ) (at n : ℕ) → at + n ≤ length old → length old ≤ length new
    → ((k : ℕ) → at ≤ k → k < at + n → get_or new k 0 ≡ get_or old k 0) → part new at n ≡ part old at n
part_same old new at n fits longer same =
    let long_new : length (part new at n) ≡ n = omega (arith, length-take n (drop at new), length-drop at new) in
    let long_old : length (part old at n) ≡ n = omega (arith, length-take n (drop at old), length-drop at old) in
    ext_get_or 0 (part new at n) (part old at n) (long_new ∙ sym long_old) (λ i below.
    let low : i < n = omega (arith, long_new, below) in
    get_or-take n (drop at new) i 0 low ∙ get_or-drop at new i 0 ∙ same (at + i) (omega arith) (omega arith)
    ∙ sym (get_or-take n (drop at old) i 0 low ∙ get_or-drop at old i 0))

-- slots that share a byte of data are one
pub steps : (d i j : ℕ) → i < j → i * d + d ≤ j * d
steps d i j lt =
    let up : (i + 1) * d ≤ j * d = mul-le-mul_right d (omega arith) in
    omega (arith, up)

pub one_of : (d i j k : ℕ) → i * d ≤ k → k < i * d + d → j * d ≤ k → k < j * d + d → i ≡ j
one_of d i j k a b e f = elim (cases_lt i j) [
  | inl lt ↦ absurd (omega (arith, steps d i j lt))
  | inr le ↦ elim (cases_lt j i) [
    | inl lt ↦ absurd (omega (arith, steps d j i lt))
    | inr ge ↦ omega arith
  ]
]

-- bytes agree with themselves
pub agrees_with_itself : (s : Shape) (loose asked : ℕ → Bool) (bytes : List ℕ) → Agrees s loose asked bytes bytes
agrees_with_itself s loose asked bytes = record { no_shorter = omega arith; same = λ k below none. refl }

module _ (s : Shape) (loose asked : ℕ → Bool) where
  -- a torn write of bytes that may be written, step by step
  pub agrees_torn : (old : List ℕ) (at n : ℕ) (d c : List ℕ) → Agrees s loose asked old d → AllMay s loose asked old at n → Torn at n d c → Agrees s loose asked old c
  agrees_torn old at n d c was all torn = record {
    no_shorter = omega (arith, was.no_shorter, torn.no_shorter);
    same = λ k below none. elim (cases_lt k at) [
      | inl before ↦ torn.below k (omega (arith, was.no_shorter)) before ∙ was.same k below none
      | inr from ↦ elim (cases_lt k (at + n)) [
        | inl inside ↦ absurd (none (all k from inside))
        | inr behind ↦ torn.above k (omega (arith, was.no_shorter)) behind ∙ was.same k below none
      ]
    ];
  }

  -- so each thing that a crash after the write may leave agrees, if each that it might leave before it did
  pub agrees_follow : (old : List ℕ) (at n : ℕ) (before now : List ℕ → Type 0) → ((d : List ℕ) → before d → Agrees s loose asked old d) → AllMay s loose asked old at n → Follows (Torn at n) before now
      → (c : List ℕ) → now c → Agrees s loose asked old c
  agrees_follow old at n before now each all follows c may =
      let from = follows c may in agrees_torn old at n from.0 c (each from.0 from.1) all from.2

module _ (s : Shape) (loose asked : ℕ → Bool) (old left : List ℕ) (agrees : Agrees s loose asked old left) (long : slab_len s ≤ length old) where
  -- the data of a slot lies in the slab
  in_slab : (i : ℕ) → i < s.count → data_at s i + data_len s ≤ length old
  in_slab i lt = omega (arith, steps (data_len s) i s.count lt, long)

  same_at : (k : ℕ) → k < length old → (MayBeWritten s old loose asked k → ⊥) → get_or left k 0 ≡ get_or old k 0
  same_at = agrees.same

  no_mark : (i : ℕ) → i < s.count → loose i ≡ false → MayBeWritten s old loose asked (mark_at s i) → ⊥
  no_mark i lt firm (head j free inside) = omega arith
  no_mark i lt firm (body j free inside) = omega arith
  no_mark i lt firm (mark j below is_loose here) =
      let same : j ≡ i = omega arith in
      false≢true (sym firm ∙ ap loose (sym same) ∙ is_loose)
  no_mark i lt firm (answer b below is_asked here) = omega arith

  no_answer : (b : ℕ) → b < s.blocks → asked b ≡ false → MayBeWritten s old loose asked (answer_at s b) → ⊥
  no_answer b lt firm (head j free inside) = omega arith
  no_answer b lt firm (body j free inside) = omega arith
  no_answer b lt firm (mark j below is_loose here) = omega arith
  no_answer b lt firm (answer d below is_asked here) =
      let same : d ≡ b = omega arith in
      false≢true (sym firm ∙ ap asked (sym same) ∙ is_asked)

  -- a free slot is no marked or loose one
  not_free : (i j : ℕ) → (is_marked s old i || loose i) ≡ true → j ≡ i → IsFree s old loose asked j → ⊥
  not_free i j kept same free =
      let unmarked : is_marked s old i ≡ false = ap (is_marked s old) (sym same) ∙ free.unmarked in
      let firm : loose i ≡ false = ap loose (sym same) ∙ free.firm in
      false≢true (sym (ap (λ m. m || loose i) unmarked ∙ firm) ∙ kept)

  no_head : (i k : ℕ) → i < s.count → (is_marked s old i || loose i) ≡ true → IsInHead s i k → MayBeWritten s old loose asked k → ⊥
  no_head i k lt kept here (head j free inside) = not_free i j kept (omega arith) free
  no_head i k lt kept here (body j free inside) = omega (arith, steps 72 i s.count lt)
  no_head i k lt kept here (mark j below is_loose at) = omega arith
  no_head i k lt kept here (answer b below is_asked at) = omega arith

  no_data : (i k : ℕ) → i < s.count → (is_marked s old i || loose i) ≡ true → IsInData s i k → MayBeWritten s old loose asked k → ⊥
  no_data i k lt kept here (head j free inside) = omega (arith, steps 72 j s.count free.below)
  no_data i k lt kept here (body j free inside) =
      let base : ℕ = 4096 + s.blocks + 73 * s.count in
      let same : j ≡ i = one_of (data_len s) j i (k - base) (omega arith) (omega arith) (omega arith) (omega arith) in
      not_free i j kept same free
  no_data i k lt kept here (mark j below is_loose at) = omega arith
  no_data i k lt kept here (answer b below is_asked at) = omega arith

  pub is_left : IsLeft s loose asked old left
  is_left = record {
    marks = λ i lt firm. ap (λ b. b == 1) (same_at (mark_at s i) (omega (arith, long)) (no_mark i lt firm));
    answers = λ b lt firm. ap (λ n. n == 1) (same_at (answer_at s b) (omega (arith, long)) (no_answer b lt firm));
    heads = λ i lt kept.
        let ends : head_at s i + 72 ≤ length old = omega (arith, steps 72 i s.count lt, long) in
        part_same old left (head_at s i) 72 ends agrees.no_shorter
        (λ k from to. same_at k (omega arith) (no_head i k lt kept (from, to)));
    data_parts = λ i lt kept.
        let ends = in_slab i lt in
        part_same old left (data_at s i) (data_len s) ends agrees.no_shorter
        (λ k from to. same_at k (omega arith) (no_data i k lt kept (from, to)));
  }
