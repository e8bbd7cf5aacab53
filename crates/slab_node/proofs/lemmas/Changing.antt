-- What changes, call by call.
use Rattle.std.proofs.Common.{◌≡◌, inl, inr, ℕ, zero, suc, ◌+◌, ◌-◌, ◌*◌, ◌<◌, ◌≤◌, ◌==◌, Bool, true, false, List, [], ◌∷◌, length, get_or, refl, sym, ◌∙◌, ap, arith, eq-eqb, eqb, eqb-true}
use Rattle.std.proofs.lemmas.Bool.{cases_lt, false≢true, or_left, or_right, or_cases}
use Rattle.sqlite_disk.specs.Disk.{Torn, Follows}
use Rattle.disk_model.specs.Crash.{LeavesOnly}
use Rattle.slab_file.specs.Moments.{Elapses}
use Rattle.slab_file.proofs.lemmas.Moments.{leaves_more}
use Rattle.slab_layout.specs.declared.shape.Shape.{Shape}
use Rattle.slab_layout.specs.Shapes.{answer_at, mark_at, head_at, data_at, data_len, slab_len, part, is_marked, answers_for}
use Rattle.slab_node.specs.Left.{IsInHead, IsInData, IsFree, MayBeWritten, head, body, mark, answer, Agrees, nothing}
use Rattle.slab_node.specs.Changes.{IsOneOf, its_head, its_data, its_mark, its_answer, ChangesOnly, AreAllOf, IsSubset, is_among}
use Rattle.slab_node.proofs.Torn.{steps, one_of, part_same}

pub itself_within : (set : ℕ → Bool) → IsSubset set set
itself_within set i is = is

pub nothing_within : (set : ℕ → Bool) → IsSubset nothing set
nothing_within set i never = absurd (false≢true never)

pub among_at : (xs : List ℕ) (i d : ℕ) → i < length xs → is_among xs (get_or xs i d) ≡ true
among_at [] i d lt = absurd (omega arith)
among_at (x ∷ xs) zero d lt = or_left _ _ (eq-eqb x x refl)
among_at (x ∷ xs) (suc i) d lt = or_right _ _ (among_at xs i d (omega arith))

-- one of a list stands at a place
pub among_place : (xs : List ℕ) (i : ℕ) → is_among xs i ≡ true → (k : ℕ) × (k < length xs) × ((d : ℕ) → get_or xs k d ≡ i)
among_place [] i never = absurd (false≢true never)
among_place (x ∷ xs) i is = elim (or_cases (eqb x i) (is_among xs i) is) [
  | inl here ↦ (0, omega arith, λ d. eqb-true x i here)
  | inr there ↦ (let rest = among_place xs i there in (suc rest.0, omega (arith, rest.1), rest.2))
]

module _ (s : Shape) where
  pub changes_nothing : (bodies marks answers : ℕ → Bool) (bytes : List ℕ) → ChangesOnly s bodies marks answers bytes bytes
  changes_nothing bodies marks answers bytes = record { no_shorter = omega arith; same = λ k below none. refl }

  one_of_more : (b m a b' m' a' : ℕ → Bool) → IsSubset b b' → IsSubset m m' → IsSubset a a' → (k : ℕ) → IsOneOf s b m a k → IsOneOf s b' m' a' k
  one_of_more b m a b' m' a' bs ms ans k (its_head i lt is inside) = its_head i lt (bs i is) inside
  one_of_more b m a b' m' a' bs ms ans k (its_data i lt is inside) = its_data i lt (bs i is) inside
  one_of_more b m a b' m' a' bs ms ans k (its_mark i lt is here) = its_mark i lt (ms i is) here
  one_of_more b m a b' m' a' bs ms ans k (its_answer i lt is here) = its_answer i lt (ans i is) here

  pub changes_more : (b m a b' m' a' : ℕ → Bool) (old new : List ℕ) → IsSubset b b' → IsSubset m m' → IsSubset a a' → ChangesOnly s b m a old new → ChangesOnly s b' m' a' old new
  changes_more b m a b' m' a' old new bs ms ans was = record {
    no_shorter = was.no_shorter;
    same = λ k below none. was.same k below (λ one. none (one_of_more b m a b' m' a' bs ms ans k one));
  }

  module _ (b m a : ℕ → Bool) where
    pub changes_then : (old mid new : List ℕ) → ChangesOnly s b m a old mid → ChangesOnly s b m a mid new → ChangesOnly s b m a old new
    changes_then old mid new first second = record {
      no_shorter = omega (arith, first.no_shorter, second.no_shorter);
      same = λ k below none. second.same k (omega (arith, below, first.no_shorter)) none ∙ first.same k below none;
    }

    -- both from the same bytes
    pub changes_between : (old mid new : List ℕ) → length mid ≤ length old → length mid ≤ length new → ChangesOnly s b m a old mid → ChangesOnly s b m a old new → ChangesOnly s b m a mid new
    changes_between old mid new fits longer first second = record {
      no_shorter = longer;
      same = λ k below none. second.same k (omega (arith, below, fits)) none ∙ sym (first.same k (omega (arith, below, fits)) none);
    }

    -- by a torn write
    pub changes_torn : (old : List ℕ) (at n : ℕ) (d c : List ℕ) → ChangesOnly s b m a old d → AreAllOf s b m a at n → Torn at n d c → ChangesOnly s b m a old c
    changes_torn old at n d c was all torn = record {
      no_shorter = omega (arith, was.no_shorter, torn.no_shorter);
      same = λ k below none. elim (cases_lt k at) [
        | inl before ↦ torn.below k (omega (arith, was.no_shorter, below)) before ∙ was.same k below none
        | inr from ↦ elim (cases_lt k (at + n)) [
          | inl inside ↦ absurd (none (all k from inside))
          | inr behind ↦ torn.above k (omega (arith, was.no_shorter, below)) behind ∙ was.same k below none
        ]
      ];
    }

    pub changes_follow : (old : List ℕ) (at n : ℕ) (before now : List ℕ → Type 0) → ((d : List ℕ) → before d → ChangesOnly s b m a old d) → AreAllOf s b m a at n → Follows (Torn at n) before now
        → (c : List ℕ) → now c → ChangesOnly s b m a old c
    changes_follow old at n before now each all follows c may =
        let from = follows c may in changes_torn old at n from.0 c (each from.0 from.1) all from.2

    pub writes_on : {F : Type 0} (moment : F → ℕ) (left_since : F → ℕ → List ℕ → Type 0) (may_leave : F → List ℕ → Type 0) (base : List ℕ) (at n : ℕ) (old mid new : F)
        → LeavesOnly moment left_since old mid (ChangesOnly s b m a base)
        → ((d : List ℕ) → may_leave mid d → ChangesOnly s b m a base d) → AreAllOf s b m a at n → Follows (Torn at n) (may_leave mid) (may_leave new)
        → Elapses moment left_since may_leave mid new → LeavesOnly moment left_since old new (ChangesOnly s b m a base)
    writes_on moment left_since may_leave base at n old mid new so_far each all follows time =
        leaves_more moment left_since may_leave old mid new (ChangesOnly s b m a base) so_far time (changes_follow base at n (may_leave mid) (may_leave new) each all follows)

  -- ---- what the writes are

  pub head_is : (b m a : ℕ → Bool) (slot at n : ℕ) → slot < s.count → b slot ≡ true → at ≡ head_at s slot → n ≡ 72 → AreAllOf s b m a at n
  head_is b m a slot at n lt is place long k from to = its_head slot lt is (omega (arith, place, from), omega (arith, place, long, to))

  pub data_is : (b m a : ℕ → Bool) (slot at n : ℕ) → slot < s.count → b slot ≡ true → at ≡ data_at s slot → n ≡ data_len s → AreAllOf s b m a at n
  data_is b m a slot at n lt is place long k from to = its_data slot lt is (omega (arith, place, from), omega (arith, place, long, to))

  pub mark_is : (b m a : ℕ → Bool) (slot at : ℕ) → slot < s.count → m slot ≡ true → at ≡ mark_at s slot → AreAllOf s b m a at 1
  mark_is b m a slot at lt is place k from to = its_mark slot lt is (omega (arith, place, from, to))

  pub answer_is : (b m a : ℕ → Bool) (block at : ℕ) → block < s.blocks → a block ≡ true → at ≡ answer_at s block → AreAllOf s b m a at 1
  answer_is b m a block at lt is place k from to = its_answer block lt is (omega (arith, place, from, to))

  -- ---- what stays

  module _ (b m a : ℕ → Bool) (old new : List ℕ) (changes : ChangesOnly s b m a old new) (long : slab_len s ≤ length old) where
    -- the data of a slot lie in the slab
    ends : (i : ℕ) → i < s.count → data_at s i + data_len s ≤ length old
    ends i lt = omega (arith, steps (data_len s) i s.count lt, long)

    no_mark : (i : ℕ) → i < s.count → m i ≡ false → IsOneOf s b m a (mark_at s i) → ⊥
    no_mark i lt firm (its_head j low is inside) = omega arith
    no_mark i lt firm (its_data j low is inside) = omega arith
    no_mark i lt firm (its_mark j low is here) = (let same : j ≡ i = omega arith in false≢true (sym firm ∙ ap m (sym same) ∙ is))
    no_mark i lt firm (its_answer j low is here) = omega arith

    no_answer : (i : ℕ) → i < s.blocks → a i ≡ false → IsOneOf s b m a (answer_at s i) → ⊥
    no_answer i lt firm (its_head j low is inside) = omega arith
    no_answer i lt firm (its_data j low is inside) = omega arith
    no_answer i lt firm (its_mark j low is here) = omega arith
    no_answer i lt firm (its_answer j low is here) = (let same : j ≡ i = omega arith in false≢true (sym firm ∙ ap a (sym same) ∙ is))

    no_head : (i k : ℕ) → i < s.count → b i ≡ false → IsInHead s i k → IsOneOf s b m a k → ⊥
    no_head i k lt firm here (its_head j low is inside) = (let same : j ≡ i = omega arith in false≢true (sym firm ∙ ap b (sym same) ∙ is))
    no_head i k lt firm here (its_data j low is inside) = omega (arith, steps 72 i s.count lt)
    no_head i k lt firm here (its_mark j low is at) = omega arith
    no_head i k lt firm here (its_answer j low is at) = omega arith

    no_data : (i k : ℕ) → i < s.count → b i ≡ false → IsInData s i k → IsOneOf s b m a k → ⊥
    no_data i k lt firm here (its_head j low is inside) = omega (arith, steps 72 j s.count low)
    no_data i k lt firm here (its_data j low is inside) =
        let base : ℕ = 4096 + s.blocks + 73 * s.count in
        let same : j ≡ i = one_of (data_len s) j i (k - base) (omega arith) (omega arith) (omega arith) (omega arith) in
        false≢true (sym firm ∙ ap b (sym same) ∙ is)
    no_data i k lt firm here (its_mark j low is at) = omega arith
    no_data i k lt firm here (its_answer j low is at) = omega arith

    byte_same : (k : ℕ) → k < length old → (IsOneOf s b m a k → ⊥) → get_or new k 0 ≡ get_or old k 0
    byte_same = changes.same

    pub mark_same : (i : ℕ) → i < s.count → m i ≡ false → is_marked s new i ≡ is_marked s old i
    mark_same i lt firm = ap (λ n. n == 1) (byte_same (mark_at s i) (omega (arith, long, lt)) (no_mark i lt firm))

    pub answer_same : (i : ℕ) → i < s.blocks → a i ≡ false → answers_for s new i ≡ answers_for s old i
    answer_same i lt firm = ap (λ n. n == 1) (byte_same (answer_at s i) (omega (arith, long, lt)) (no_answer i lt firm))

    pub head_same : (i : ℕ) → i < s.count → b i ≡ false → part new (head_at s i) 72 ≡ part old (head_at s i) 72
    head_same i lt firm =
        let fits : head_at s i + 72 ≤ length old = omega (arith, steps 72 i s.count lt, long) in
        part_same old new (head_at s i) 72 fits changes.no_shorter (λ k from to. byte_same k (omega (arith, to, fits)) (no_head i k lt firm (from, to)))

    pub data_same : (i : ℕ) → i < s.count → b i ≡ false → part new (data_at s i) (data_len s) ≡ part old (data_at s i) (data_len s)
    data_same i lt firm =
        let fits = ends i lt in
        part_same old new (data_at s i) (data_len s) fits changes.no_shorter (λ k from to. byte_same k (omega (arith, to, fits)) (no_data i k lt firm (from, to)))

  -- ---- to what agrees

  may_be : (b m a loose asked : ℕ → Bool) (base : List ℕ) → ((i : ℕ) → i < s.count → b i ≡ true → IsFree s base loose asked i) → IsSubset m loose → IsSubset a asked
      → (k : ℕ) → IsOneOf s b m a k → MayBeWritten s base loose asked k
  may_be b m a loose asked base free ms ans k (its_head i lt is inside) = head i (free i lt is) inside
  may_be b m a loose asked base free ms ans k (its_data i lt is inside) = body i (free i lt is) inside
  may_be b m a loose asked base free ms ans k (its_mark i lt is here) = mark i lt (ms i is) here
  may_be b m a loose asked base free ms ans k (its_answer i lt is here) = answer i lt (ans i is) here

  pub changes_agree : (b m a loose asked : ℕ → Bool) (old new : List ℕ) → ((i : ℕ) → i < s.count → b i ≡ true → IsFree s old loose asked i) → IsSubset m loose → IsSubset a asked
      → ChangesOnly s b m a old new → Agrees s loose asked old new
  changes_agree b m a loose asked old new free ms ans changes = record {
    no_shorter = changes.no_shorter;
    same = λ k below none. changes.same k below (λ one. none (may_be b m a loose asked old free ms ans k one));
  }
