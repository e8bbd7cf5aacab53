-- How what is known grows, slot by slot from the last one.
use Rattle.std.proofs.Common.{◌≡◌, inl, inr, ℕ, zero, suc, ◌+◌, ◌-◌, ◌*◌, ◌<◌, ◌≤◌, ◌==◌, Bool, true, false, not, List, [], length, get_or, refl, sym, ◌∙◌, ap, subst, arith, eqb-true, eq-eqb}
use Rattle.std.specs.Prelude.{nat_lt, replicate, slice_range}
use Rattle.std.proofs.lemmas.Bool.{cases_Bool, cases_lt, eqb-false, false≢true}
use Rattle.std.proofs.lemmas.List.{get_or-set_same, get_or-set_other, length-set, length-replicate, get_or-replicate}
use Rattle.slab_layout.specs.declared.shape.Shape.{Shape}
use Rattle.slab_layout.specs.Shapes.{part, mark_at, head_at, is_marked}
use Rattle.slab_layout.specs.declared.head.Head.{Head}
use Rattle.slab_layout.specs.Heads.{head_in}
use Rattle.slab_index.specs.declared.kept.Kept.{Kept}
use Rattle.slab_index.specs.Kept.{put_kept, kept_in}
use Rattle.slab_index.specs.Slots.{head_of, kept_of, slots_from, with_slot, IsIndexOf}
use Rattle.slab_reading.specs.declared.opened.Opened.{Opened}
use Rattle.slab_reading.specs.Opened.{AreHead, HeadFits, IsOpenedFrom, IsEmpty, AddsFree, AddsMarked, AddsSlot, IsRun}
use Rattle.slab_reading.proofs.Pieces.{range_read}

abbrev the_none : List Kept
the_none = []

less : (a b : ℕ) → a < b → nat_lt a b ≡ true
less a b lt = grind arith

-- a slot in its own block, and in another one
slot_here : (i : ℕ) (h : Head) (index : List (List Kept)) → h.block < length index → kept_in (with_slot i h index) h.block ≡ put_kept (kept_of i h) (kept_in index h.block)
slot_here i h index lt = rw (less h.block (length index) lt) (get_or-set_same index h.block (put_kept (kept_of i h) (get_or index h.block [])) [] lt)

slot_same : (i : ℕ) (h : Head) (index : List (List Kept)) (block : ℕ) → h.block ≡ block → block < length index → kept_in (with_slot i h index) block ≡ put_kept (kept_of i h) (kept_in index block)
slot_same i h index block it lt =
    subst (λ (b : ℕ). kept_in (with_slot i h index) b ≡ put_kept (kept_of i h) (kept_in index b)) it (slot_here i h index (omega (arith, it, lt)))

slot_other : (i : ℕ) (h : Head) (index : List (List Kept)) (block : ℕ) → (block ≡ h.block → ⊥) → kept_in (with_slot i h index) block ≡ kept_in index block
slot_other i h index block differs = elim (cases_Bool (nat_lt h.block (length index))) [
  | inl low ↦ rw low (get_or-set_other index h.block block (put_kept (kept_of i h) (get_or index h.block [])) [] differs)
  | inr high ↦ rw high refl
]

length_slot : (i : ℕ) (h : Head) (index : List (List Kept)) → length (with_slot i h index) ≡ length index
length_slot i h index = elim (cases_Bool (nat_lt h.block (length index))) [
  | inl low ↦ rw low (length-set index h.block (put_kept (kept_of i h) (get_or index h.block [])))
  | inr high ↦ rw high refl
]

-- the slots of a block with one more in front
module _ (marked : ℕ → Bool) (head : ℕ → Head) (block slot n : ℕ) where
  marked_step : marked slot ≡ true → ((head slot).block == block) ≡ true → slots_from marked head block slot (suc n) ≡ put_kept (kept_of slot (head slot)) (slots_from marked head block (suc slot) n)
  marked_step counted same = rw counted (rw same refl)

  other_step : marked slot ≡ true → ((head slot).block == block) ≡ false → slots_from marked head block slot (suc n) ≡ slots_from marked head block (suc slot) n
  other_step counted other = rw counted (rw other refl)

  free_step : marked slot ≡ false → slots_from marked head block slot (suc n) ≡ slots_from marked head block (suc slot) n
  free_step unmarked = rw unmarked refl

module _ (s : Shape) (bytes : List ℕ) (block slot n : ℕ) (index : List (List Kept)) (lt : block < length index)
    (was : kept_in index block ≡ slots_from (is_marked s bytes) (head_of s bytes) block (suc slot) n) where
  one_marked : is_marked s bytes slot ≡ true → kept_in (with_slot slot (head_of s bytes slot) index) block ≡ slots_from (is_marked s bytes) (head_of s bytes) block slot (suc n)
  one_marked counted = elim (cases_Bool ((head_of s bytes slot).block == block)) [
    | inl same ↦
        slot_same slot (head_of s bytes slot) index block (eqb-true _ _ same) lt ∙ ap (put_kept (kept_of slot (head_of s bytes slot))) was
        ∙ sym (marked_step (is_marked s bytes) (head_of s bytes) block slot n counted same)
    | inr other ↦
        slot_other slot (head_of s bytes slot) index block (λ e. eqb-false _ _ other (sym e)) ∙ was
        ∙ sym (other_step (is_marked s bytes) (head_of s bytes) block slot n counted other)
  ]

-- the numbers of slots, as loops have them
abbrev block_slots : Shape → List ℕ → ℕ → ℕ → ℕ → List Kept
block_slots s bytes block i n = slots_from (is_marked s bytes) (head_of s bytes) block i n

module _ (s : Shape) (key : ℕ) (bytes : List ℕ) (slot : ℕ) (old new : Opened) (lt : slot < s.count) (was : IsOpenedFrom s key bytes (slot + 1) old) where
  here_or_above : (P : ℕ → Type 0) → P slot → ((i : ℕ) → slot + 1 ≤ i → i < s.count → P i) → (i : ℕ) → slot ≤ i → i < s.count → P i
  here_or_above P here above i low high = elim (cases_lt slot i) [
    | inl more ↦ above i (omega (arith, more)) high
    | inr le ↦ let it : slot ≡ i = omega (arith, le, low) in subst P it here
  ]

  rest_of : (block : ℕ) → block < s.blocks → kept_in old.index block ≡ block_slots s bytes block (suc slot) (s.count - (slot + 1))
  rest_of block low =
      let next : slot + 1 ≡ suc slot = omega arith in
      was.each block low ∙ ap (λ (k : ℕ). block_slots s bytes block k (s.count - (slot + 1))) next

  all_of : (block : ℕ) → block_slots s bytes block slot (suc (s.count - (slot + 1))) ≡ block_slots s bytes block slot (s.count - slot)
  all_of block =
      let more : suc (s.count - (slot + 1)) ≡ s.count - slot = omega (arith, lt) in
      ap (λ (n : ℕ). block_slots s bytes block slot n) more

  pub free_added : is_marked s bytes slot ≡ false → AddsFree slot old new → IsOpenedFrom s key bytes slot new
  free_added unmarked adds = record {
    blocks = ap length adds.index ∙ was.blocks;
    each = λ block low.
        ap (λ (x : List (List Kept)). kept_in x block) adds.index ∙ rest_of block low
        ∙ sym (free_step (is_marked s bytes) (head_of s bytes) block slot (s.count - (slot + 1)) unmarked) ∙ all_of block;
    free = record {
      count = ap length adds.free ∙ length-set old.free.items slot true ∙ was.free.count;
      each = here_or_above (λ i. get_or new.free.items i false ≡ not (is_marked s bytes i))
          (ap (λ (l : List Bool). get_or l slot false) adds.free ∙ get_or-set_same old.free.items slot true false (omega (arith, lt, was.free.count)) ∙ ap not (sym unmarked))
          (λ i above high.
          ap (λ (l : List Bool). get_or l i false) adds.free ∙ get_or-set_other old.free.items slot i true false (λ e. omega (arith, e, above))
          ∙ was.free.each i above high);
    };
    unread = λ i below.
        ap (λ (l : List Bool). get_or l i false) adds.free ∙ get_or-set_other old.free.items slot i true false (λ e. omega (arith, e, below))
        ∙ was.unread i (omega (arith, below));
    last = record {
      least = here_or_above (λ i. is_marked s bytes i ≡ true → (head_of s bytes i).number ≤ new.last_number) (λ marked. absurd (false≢true (sym unmarked ∙ marked)))
          (λ i above high marked. omega (arith, was.last.least i above high marked, adds.last));
      reached = elim was.last.reached [
        | inl none ↦ inl (adds.last ∙ none)
        | inr found ↦ inr (found.0, omega (arith, found.1), found.2, found.3, found.4 ∙ sym adds.last)
      ];
    };
    heads = here_or_above (λ i. is_marked s bytes i ≡ true → HeadFits s key bytes i) (λ marked. absurd (false≢true (sym unmarked ∙ marked))) was.heads;
  }

  pub marked_added : is_marked s bytes slot ≡ true → HeadFits s key bytes slot → AddsMarked slot (head_of s bytes slot) old new → IsOpenedFrom s key bytes slot new
  marked_added marked fits adds = record {
    blocks = ap length adds.index ∙ length_slot slot (head_of s bytes slot) old.index ∙ was.blocks;
    each = λ block low.
        ap (λ (x : List (List Kept)). kept_in x block) adds.index
        ∙ one_marked s bytes block slot (s.count - (slot + 1)) old.index (omega (arith, low, was.blocks)) (rest_of block low) marked ∙ all_of block;
    free = record {
      count = ap length adds.free ∙ was.free.count;
      each = here_or_above (λ i. get_or new.free.items i false ≡ not (is_marked s bytes i))
          (ap (λ (l : List Bool). get_or l slot false) adds.free ∙ was.unread slot (omega arith) ∙ ap not (sym marked))
          (λ i above high. ap (λ (l : List Bool). get_or l i false) adds.free ∙ was.free.each i above high);
    };
    unread = λ i below. ap (λ (l : List Bool). get_or l i false) adds.free ∙ was.unread i (omega (arith, below));
    last = record {
      least = here_or_above (λ i. is_marked s bytes i ≡ true → (head_of s bytes i).number ≤ new.last_number) (λ _. omega (arith, adds.last))
          (λ i above high counted. omega (arith, was.last.least i above high counted, adds.last));
      reached = elim (cases_lt old.last_number (head_of s bytes slot).number) [
        | inl more ↦ inr (slot, omega arith, lt, marked, omega (arith, adds.last, more))
        | inr le ↦ elim was.last.reached [
          | inl none ↦ inl (omega (arith, adds.last, none, le))
          | inr found ↦ inr (found.0, omega (arith, found.1), found.2, found.3, omega (arith, found.4, adds.last, le))
        ]
      ];
    };
    heads = here_or_above (λ i. is_marked s bytes i ≡ true → HeadFits s key bytes i) (λ _. fits) was.heads;
  }

-- nothing was read yet
pub none_opened : (s : Shape) (key : ℕ) (bytes : List ℕ) (o : Opened) → IsEmpty s o → IsOpenedFrom s key bytes s.count o
none_opened s key bytes o empty =
    let none : s.count - s.count ≡ 0 = omega arith in
    record {
      blocks = empty.blocks;
      each = λ block low. empty.each block ∙ sym (ap (λ (n : ℕ). block_slots s bytes block s.count n) none);
      free = record {
        count = ap length empty.free ∙ length-replicate s.count false;
        each = λ slot low high. absurd (omega (arith, low, high));
      };
      unread = λ slot below. ap (λ (l : List Bool). get_or l slot false) empty.free ∙ get_or-replicate s.count slot false false below;
      last = record { least = λ slot low high marked. absurd (omega (arith, low, high)); reached = inl empty.last };
      heads = λ slot low high marked. absurd (omega (arith, low, high));
    }

-- all slots were read
pub all_indexed : (s : Shape) (key : ℕ) (bytes : List ℕ) (o : Opened) → IsOpenedFrom s key bytes 0 o → IsIndexOf s bytes o.index
all_indexed s key bytes o is =
    let all : s.count - 0 ≡ s.count = omega arith in
    record { blocks = is.blocks; each = λ block low. is.each block low ∙ ap (λ (n : ℕ). block_slots s bytes block 0 n) all }

-- the slot at a place of a run
module _ (s : Shape) (bytes : List ℕ) (first place : ℕ) (marks heads : List ℕ) (within : place < length marks) (long : length heads ≡ 72 * length marks) (run : IsRun s bytes first marks heads) where
  mark_read : get_or bytes (mark_at s (first + place)) 0 ≡ get_or marks place 0
  mark_read =
      let here : mark_at s first + place ≡ mark_at s (first + place) = omega arith in
      ap (λ (k : ℕ). get_or bytes k 0) (sym here) ∙ run.its_marks.each place within

  pub slot_marked : get_or marks place 0 ≡ 1 → is_marked s bytes (first + place) ≡ true
  slot_marked is = eq-eqb (get_or bytes (mark_at s (first + place)) 0) 1 (mark_read ∙ is)

  pub slot_free : (get_or marks place 0 ≡ 1 → ⊥) → is_marked s bytes (first + place) ≡ false
  slot_free isnt = elim (cases_Bool (is_marked s bytes (first + place))) [
    | inr unmarked ↦ unmarked
    | inl marked ↦ absurd (isnt (sym mark_read ∙ eqb-true _ _ marked))
  ]

  pub head_read : get_or marks place 0 ≡ 1 → part bytes (head_at s (first + place)) 72 ≡ slice_range heads (72 * place) (72 * place + 72)
  head_read is =
      let here : head_at s first + 72 * place ≡ head_at s (first + place) = omega arith in
      let long_one : 72 * place + 72 - 72 * place ≡ 72 = omega arith in
      sym (λ i. part bytes (here i) (long_one i))
      ∙ range_read bytes heads (head_at s first) (72 * place) (72 * place + 72) (run.its_heads place within is) (omega arith) (omega (arith, within, long))

  pub slot_added : (key mark : ℕ) (head : List ℕ) (old new : Opened) → first + place < s.count → mark ≡ get_or marks place 0 → head ≡ slice_range heads (72 * place) (72 * place + 72)
      → AddsSlot key (first + place) mark head old new → IsOpenedFrom s key bytes (first + place + 1) old → IsOpenedFrom s key bytes (first + place) new
  slot_added key mark head old new lt is_mark is_head adds was = elim adds [
    | inr free ↦ free_added s key bytes (first + place) old new lt was (slot_free (λ e. free.0 (is_mark ∙ e))) free.1
    | inl marked ↦
        let one : get_or marks place 0 ≡ 1 = sym is_mark ∙ marked.0 in
        let same : head ≡ part bytes (head_at s (first + place)) 72 = is_head ∙ sym (head_read one) in
        let fits : HeadFits s key bytes (first + place) = subst (λ (b : List ℕ). AreHead key b) same marked.1 in
        let its : AddsMarked (first + place) (head_of s bytes (first + place)) old new = subst (λ (b : List ℕ). AddsMarked (first + place) (head_in b) old new) same marked.2 in
        marked_added s key bytes (first + place) old new lt was (slot_marked one) fits its
  ]

-- an index without slots
pub none_yet : (n block : ℕ) → kept_in (replicate n the_none) block ≡ []
none_yet n block = none n block
  where
    none : (n k : ℕ) → get_or (replicate n the_none) k [] ≡ []
    none zero k = refl
    none (suc n) zero = refl
    none (suc n) (suc k) = none n k

pub length_none : (n : ℕ) → length (replicate n the_none) ≡ n
length_none n = length-replicate n the_none
