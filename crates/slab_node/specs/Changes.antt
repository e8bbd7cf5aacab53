-- What a call changes of a slab.
use Rattle.std.specs.Prelude.{◌≡◌, ◌≤◌, ◌<◌, ℕ, ◌+◌, ◌==◌, ◌||◌, Bool, false, true, List, [], ◌∷◌, length, slice_index}
use Rattle.slab_layout.specs.declared.shape.Shape.{Shape}
use Rattle.slab_layout.specs.Shapes.{answer_at, mark_at, is_marked}
use Rattle.slab_node.specs.Left.{IsInHead, IsInData}

module _ (s : Shape) (bodies marks answers : ℕ → Bool) where
  -- Byte k belongs to the head or the data of a slot of the first set, is the mark of a slot of the second, or tells whether the node answers for
  -- a block of the third.
  pub data IsOneOf (k : ℕ) : Type 0 where
    its_head : (i : ℕ) → i < s.count → bodies i ≡ true → IsInHead s i k → IsOneOf k
    its_data : (i : ℕ) → i < s.count → bodies i ≡ true → IsInData s i k → IsOneOf k
    its_mark : (i : ℕ) → i < s.count → marks i ≡ true → k ≡ mark_at s i → IsOneOf k
    its_answer : (b : ℕ) → b < s.blocks → answers b ≡ true → k ≡ answer_at s b → IsOneOf k

-- Every other byte is as it was.
pub record ChangesOnly (s : Shape) (bodies marks answers : ℕ → Bool) (old new : List ℕ) : Type 0 where
  pub no_shorter : length old ≤ length new
  pub same : (k : ℕ) → k < length old → (IsOneOf s bodies marks answers k → ⊥) → slice_index new k ≡ slice_index old k

-- each byte of a range is one of them
abbrev pub AreAllOf : Shape → (ℕ → Bool) → (ℕ → Bool) → (ℕ → Bool) → ℕ → ℕ → Type 0
AreAllOf s bodies marks answers at n = (k : ℕ) → at ≤ k → k < at + n → IsOneOf s bodies marks answers k

-- the number is one of a list
abbrev pub is_among : List ℕ → ℕ → Bool
is_among [] i = false
is_among (x ∷ xs) i = x == i || is_among xs i

-- each number of the first set is in the second
abbrev pub IsSubset : (ℕ → Bool) → (ℕ → Bool) → Type 0
IsSubset few many = (i : ℕ) → few i ≡ true → many i ≡ true

-- no slot of a set is marked
abbrev pub AreUnmarked : Shape → (ℕ → Bool) → List ℕ → Type 0
AreUnmarked s set bytes = (i : ℕ) → i < s.count → set i ≡ true → is_marked s bytes i ≡ false
