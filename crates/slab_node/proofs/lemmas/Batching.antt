-- What the writes of a batch may write, and what they leave.
use Rattle.std.proofs.Common.{◌≡◌, ◌⊎◌, inl, inr, ℕ, zero, suc, ◌+◌, ◌<◌, ◌≤◌, ◌==◌, Bool, true, false, List, [], ◌∷◌, length, get_or, drop, refl, sym, ◌∙◌, ap, subst, arith, eq-eqb, eqb, eqb-true, length-take, length-drop}
use Rattle.std.specs.Prelude.{All}
use Rattle.std.proofs.lemmas.Bool.{or_left, or_right, cases_lt, cases_Bool, false≢true}
use Rattle.std.proofs.lemmas.List.{ext_get_or, get_or-take, get_or-drop}
use Rattle.sqlite_disk.specs.Disk.{Torn, Holds}
use Rattle.disk_model.specs.Crash.{LeavesOnly}
use Rattle.slab_file.proofs.lemmas.Moments.{leaves_now}
use Rattle.slab_layout.specs.declared.shape.Shape.{Shape}
use Rattle.slab_layout.specs.Shapes.{mark_at, head_at, data_at, data_len, slab_len, part, is_marked, answer_at, answers_for}
use Rattle.slab_node.specs.declared.batch.Fresh.{Fresh}
use Rattle.slab_node.specs.Left.{nothing}
use Rattle.slab_node.specs.Changes.{ChangesOnly, AreUnmarked}
use Rattle.slab_node.specs.Batches.{HasSizes, IsThere, is_in, IsHalfway, IsMidway, IsMidwayOver}
use Rattle.slab_node.proofs.Torn.{part_same, steps}
use Rattle.slab_node.proofs.lemmas.Changing.{itself_within, nothing_within, changes_more, changes_then, mark_same}

pub is_in_at : (fs : List Fresh) (i : ℕ) (d : Fresh) → i < length fs → is_in fs (get_or fs i d).slot ≡ true
is_in_at [] i d lt = absurd (omega arith)
is_in_at (f ∷ fs) zero d lt = or_left _ _ (eq-eqb f.slot f.slot refl)
is_in_at (f ∷ fs) (suc i) d lt = or_right _ _ (is_in_at fs i d (omega arith))

-- ---- what a crash leaves since a moment

module _ {F : Type 0} (moment : F → ℕ) (left_since : F → ℕ → List ℕ → Type 0) (may_leave : F → List ℕ → Type 0) where
  pub begins : (old : F) (P : List ℕ → Type 0) → ((bytes : List ℕ) → left_since old (moment old) bytes → may_leave old bytes) → ((c : List ℕ) → may_leave old c → P c) → LeavesOnly moment left_since old old P
  begins old P only each = leaves_now moment left_since may_leave old P (λ bytes left. each bytes (only bytes left))

  -- what a crash now leaves is of the run
  pub at_end : (old new : F) (P : List ℕ → Type 0) → LeavesOnly moment left_since old new P → ((t : ℕ) (bytes : List ℕ) → t ≤ moment new → may_leave new bytes → left_since new t bytes)
      → (c : List ℕ) → may_leave new c → P c
  at_end old new P so_far counts c may = so_far.each c (counts (moment old) c so_far.later may)

-- ---- what was written is there

part_torn : (at n from m : ℕ) (old new : List ℕ) → Torn at n old new → from + m ≤ length old → (from + m ≤ at) ⊎ (at + n ≤ from) → part new from m ≡ part old from m
part_torn at n from m old new torn fits apart = part_same old new from m fits torn.no_shorter (λ k low high. elim apart [
  | inl before ↦ torn.below k (omega (arith, low, high)) (omega (arith, low, high, before))
  | inr behind ↦ torn.above k (omega (arith, low, high)) (omega (arith, low, high, behind))
])

part_holds : (bytes : List ℕ) (at n : ℕ) (piece : List ℕ) → n ≡ length piece → Holds bytes at piece → part bytes at n ≡ piece
part_holds bytes at n piece long holds =
    let within = holds.within in
    let size : length (part bytes at n) ≡ length piece = omega (arith, length-take n (drop at bytes), length-drop at bytes, within, long) in
    ext_get_or 0 (part bytes at n) piece size (λ i below.
    get_or-take n (drop at bytes) i 0 (omega (arith, below, size, long)) ∙ get_or-drop at bytes i 0 ∙ holds.each i (omega (arith, below, size)))

below_other : (f g : ℕ) → f ≤ g → (g ≡ f → ⊥) → f < g
below_other f g le other = elim (cases_lt f g) [ inl lt ↦ lt | inr ge ↦ absurd (other (omega (arith, le, ge))) ]

-- first a head is written, at its place, and then data
module _ (s : Shape) (f : Fresh) (sizes : HasSizes s f) (zeroth first second : List ℕ) (long : slab_len s ≤ length zeroth)
    (head_place data_place head_size data_size : ℕ) (is_head : head_place ≡ head_at s f.slot) (is_data : data_place ≡ data_at s f.slot) (head_sized : head_size ≡ 72) (data_sized : data_size ≡ data_len s)
    (head_tears : Torn head_place head_size zeroth first) (data_tears : Torn data_place data_size first second) where
  head_torn : Torn (head_at s f.slot) 72 zeroth first
  head_torn = rw (← is_head) (rw (← head_sized) head_tears)

  data_torn : Torn (data_at s f.slot) (data_len s) first second
  data_torn = rw (← is_data) (rw (← data_sized) data_tears)

  first_long : slab_len s ≤ length first
  first_long = omega (arith, long, head_tears.no_shorter)

  -- another slot stays
  pub stays_there : (g : Fresh) → g.slot < s.count → (g.slot ≡ f.slot → ⊥) → IsThere s zeroth g → IsThere s second g
  stays_there g lt other was =
      let ends_head = steps 72 g.slot s.count lt in
      let ends_data = steps (data_len s) g.slot s.count lt in
      let its_head = steps 72 f.slot s.count sizes.slot in
      let heads : (head_at s g.slot + 72 ≤ head_at s f.slot) ⊎ (head_at s f.slot + 72 ≤ head_at s g.slot) =
      elim (cases_lt g.slot f.slot) [ inl less ↦ inl (omega (arith, steps 72 g.slot f.slot less)) | inr from ↦ inr (omega (arith, steps 72 f.slot g.slot (below_other f.slot g.slot from other))) ] in
      let bodies : (data_at s g.slot + data_len s ≤ data_at s f.slot) ⊎ (data_at s f.slot + data_len s ≤ data_at s g.slot) =
      elim (cases_lt g.slot f.slot) [
        | inl less ↦ inl (omega (arith, steps (data_len s) g.slot f.slot less))
        | inr from ↦ inr (omega (arith, steps (data_len s) f.slot g.slot (below_other f.slot g.slot from other)))
      ] in
      record {
        head =
            part_torn (data_at s f.slot) (data_len s) (head_at s g.slot) 72 first second data_torn (omega (arith, ends_head, first_long)) (inl (omega (arith, ends_head)))
            ∙ part_torn (head_at s f.slot) 72 (head_at s g.slot) 72 zeroth first head_torn (omega (arith, ends_head, long)) heads ∙ was.head;
        body =
            part_torn (data_at s f.slot) (data_len s) (data_at s g.slot) (data_len s) first second data_torn (omega (arith, ends_data, first_long)) bodies
            ∙ part_torn (head_at s f.slot) 72 (data_at s g.slot) (data_len s) zeroth first head_torn (omega (arith, ends_data, long)) (inr (omega (arith, its_head))) ∙ was.body;
      }

  -- the one that is written comes
  pub comes_there : (head_bytes data_bytes : List ℕ) → head_bytes ≡ f.head.items → data_bytes ≡ f.data.items → Holds first head_place head_bytes → Holds second data_place data_bytes → IsThere s second f
  comes_there head_bytes data_bytes heads datas head_holds data_holds =
      let ends_head = steps 72 f.slot s.count sizes.slot in
      let held_head : Holds first (head_at s f.slot) f.head.items = rw (← is_head) (rw (← heads) head_holds) in
      let held_data : Holds second (data_at s f.slot) f.data.items = rw (← is_data) (rw (← datas) data_holds) in
      record {
        head =
            part_torn (data_at s f.slot) (data_len s) (head_at s f.slot) 72 first second data_torn (omega (arith, ends_head, first_long)) (inl (omega (arith, ends_head)))
            ∙ part_holds first (head_at s f.slot) 72 f.head.items (sym sizes.head) held_head;
        body = part_holds second (data_at s f.slot) (data_len s) f.data.items (sym sizes.body) held_data;
      }

-- ---- marks

pub mark_comes : (s : Shape) (bytes : List ℕ) (at slot : ℕ) → at ≡ mark_at s slot → Holds bytes at (1 ∷ []) → is_marked s bytes slot ≡ true
mark_comes s bytes at slot place holds =
    let here : mark_at s slot ≡ at + 0 = omega (arith, place) in
    eq-eqb _ _ (ap (λ n. get_or bytes n 0) here ∙ holds.each 0 (omega arith))

pub mark_stays : (s : Shape) (old new : List ℕ) (at slot other : ℕ) → at ≡ mark_at s slot → Torn at 1 old new → mark_at s other < length old → (other ≡ slot → ⊥) → is_marked s old other ≡ true → is_marked s new other ≡ true
mark_stays s old new at slot other place torn within differs was =
    let same : get_or new (mark_at s other) 0 ≡ get_or old (mark_at s other) 0 = elim (cases_lt other slot) [
      | inl less ↦ torn.below (mark_at s other) within (omega (arith, place, less))
      | inr from ↦ torn.above (mark_at s other) within (omega (arith, place, below_other slot other from differs))
    ] in
    rw same was

-- a slot of the batch has the mark that all of them have
pub in_batch : (s : Shape) (bytes : List ℕ) (fs : List Fresh) (k : ℕ) → is_in fs k ≡ true → All (λ f. is_marked s bytes f.slot ≡ true) fs → is_marked s bytes k ≡ true
in_batch s bytes [] k never all = absurd (false≢true never)
in_batch s bytes (f ∷ fs) k is all = elim (cases_Bool (eqb f.slot k)) [
  | inl same ↦ subst (λ (n : ℕ). is_marked s bytes n ≡ true) (eqb-true _ _ same) (all 0 f (omega arith))
  | inr other ↦ (let rest : is_in fs k ≡ true = rw other at is in in_batch s bytes fs k rest (λ i d lt. all (suc i) d (omega (arith, lt))))
]

-- heads and data are there, and then marks were written
pub half_of : (s : Shape) (batch : List Fresh) (old mid left : List ℕ) → ChangesOnly s (is_in batch) nothing nothing old mid → All (λ f. IsThere s mid f) batch
    → ChangesOnly s nothing (is_in batch) nothing mid left → IsHalfway s nothing batch old left
half_of s batch old mid left before there marks = record {
  mid = mid;
  before = before;
  unmarked = λ i lt never. absurd (false≢true never);
  there = there;
  marks = marks;
}

-- ---- one byte

pub byte_comes : (bytes : List ℕ) (at place value : ℕ) → at ≡ place → Holds bytes at (value ∷ []) → get_or bytes place 0 ≡ value
byte_comes bytes at place value here holds =
    let there : place ≡ at + 0 = omega (arith, here) in
    ap (λ n. get_or bytes n 0) there ∙ holds.each 0 (omega arith)

pub byte_stays : (old new : List ℕ) (at place : ℕ) → Torn at 1 old new → place < length old → (place ≡ at → ⊥) → get_or new place 0 ≡ get_or old place 0
byte_stays old new at place torn within differs = elim (cases_lt place at) [
  | inl less ↦ torn.below place within less
  | inr from ↦ torn.above place within (omega (arith, below_other at place from differs))
]

-- of a mark that is taken away, and of another one
pub mark_goes : (s : Shape) (bytes : List ℕ) (at slot : ℕ) → at ≡ mark_at s slot → Holds bytes at (0 ∷ []) → is_marked s bytes slot ≡ false
mark_goes s bytes at slot place holds = rw (byte_comes bytes at (mark_at s slot) 0 place holds) refl

pub mark_same_at : (s : Shape) (old new : List ℕ) (at slot other : ℕ) → at ≡ mark_at s slot → Torn at 1 old new → mark_at s other < length old → (other ≡ slot → ⊥) → is_marked s new other ≡ is_marked s old other
mark_same_at s old new at slot other place torn within differs =
    ap (λ n. n == 1) (byte_stays old new at (mark_at s other) torn within (λ same. differs (omega (arith, same, place))))

-- of the byte of a block, and of another one
pub answer_comes : (s : Shape) (bytes : List ℕ) (at block value : ℕ) → at ≡ answer_at s block → Holds bytes at (value ∷ []) → answers_for s bytes block ≡ (value == 1)
answer_comes s bytes at block value place holds = ap (λ n. n == 1) (byte_comes bytes at (answer_at s block) value place holds)

pub answer_same_at : (s : Shape) (old new : List ℕ) (at block other : ℕ) → at ≡ answer_at s block → Torn at 1 old new → answer_at s other < length old → (other ≡ block → ⊥) → answers_for s new other ≡ answers_for s old other
answer_same_at s old new at block other place torn within differs =
    ap (λ n. n == 1) (byte_stays old new at (answer_at s other) torn within (λ same. differs (omega (arith, same, place))))

-- ---- marks are taken away, and then a batch is written

module _ (s : Shape) (batch : List Fresh) (going : ℕ → Bool) (old mid : List ℕ) (first : ChangesOnly s nothing going nothing old mid) where
  pub cleared_then : (left : List ℕ) → ChangesOnly s (is_in batch) going nothing mid left → ChangesOnly s (is_in batch) going nothing old left
  cleared_then left second =
      changes_then s (is_in batch) going nothing old mid left
      (changes_more s nothing going nothing (is_in batch) going nothing old mid (nothing_within (is_in batch)) (itself_within going) (itself_within nothing) first) second

  pub then_bodies : (left : List ℕ) → ChangesOnly s (is_in batch) nothing nothing mid left → ChangesOnly s (is_in batch) going nothing old left
  then_bodies left second =
      cleared_then left (changes_more s (is_in batch) nothing nothing (is_in batch) going nothing mid left (itself_within (is_in batch)) (nothing_within going) (itself_within nothing) second)

  -- no mark of them comes back by heads and data
  pub unmarked_still : (left : List ℕ) → slab_len s ≤ length mid → AreUnmarked s going mid → ChangesOnly s (is_in batch) nothing nothing mid left → AreUnmarked s going left
  unmarked_still left long unmarked second i lt is = mark_same s (is_in batch) nothing nothing mid left second long i lt refl ∙ unmarked i lt is

  pub half_over : (left : List ℕ) → slab_len s ≤ length mid → AreUnmarked s going mid → IsHalfway s nothing batch mid left → IsHalfway s going batch old left
  half_over left long unmarked half = record {
    mid = half.mid;
    before = then_bodies half.mid half.before;
    unmarked = unmarked_still half.mid long unmarked half.before;
    there = half.there;
    marks = half.marks;
  }

  pub midway_over : (left : List ℕ) → slab_len s ≤ length mid → AreUnmarked s going mid → IsMidway s going batch mid left → IsMidwayOver s going batch old left
  midway_over left long unmarked (inl changes) = inl (cleared_then left changes)
  midway_over left long unmarked (inr half) = inr (half_over left long unmarked half)
