-- What the bytes that a crash leaves have in slots that are marked.
use Rattle.std.proofs.Common.{◌≡◌, inl, inr, ℕ, ◌<◌, ◌==◌, ◌&&◌, ◌||◌, Bool, true, List, refl, ap, arith}
use Rattle.std.proofs.lemmas.Bool.{cases_Bool, and_parts}
use Rattle.slab_layout.specs.declared.shape.Shape.{Shape}
use Rattle.slab_layout.specs.Shapes.{is_marked}
use Rattle.slab_layout.specs.Heads.{head_in}
use Rattle.slab_node.specs.Held.{Entry, entry_at, entries}
use Rattle.slab_node.specs.Left.{IsLeft}
use Rattle.slab_node.proofs.Entries.{entries_same}

module _ (s : Shape) (loose asked : ℕ → Bool) (old left : List ℕ) (rest : IsLeft s loose asked old left) where
  pub kept_if_left : (i : ℕ) → i < s.count → is_marked s left i ≡ true → (is_marked s old i || loose i) ≡ true
  kept_if_left i lt now = elim (cases_Bool (loose i)) [
    | inl is_loose ↦ grind arith
    | inr firm ↦ (let was = rest.marks i lt firm in grind arith)
  ]

  -- a slot that is marked or loose has what it had
  pub entry_same : (i : ℕ) → i < s.count → (is_marked s old i || loose i) ≡ true → entry_at s left i ≡ entry_at s old i
  entry_same i lt kept = λ j. record { head = head_in (rest.heads i lt kept j); bytes = rest.data_parts i lt kept j }

  -- so the marked slots of a block are those that are marked now, with what they had
  pub marked_now : (block : ℕ) → entries s (is_marked s left) left block ≡ entries s (is_marked s left) old block
  marked_now block =
      entries_same (is_marked s left) (is_marked s left) (entry_at s old) (entry_at s left) block 0 s.count
      (λ k low high. elim (cases_Bool (is_marked s left k)) [
        | inl now ↦ ap (λ (e : Entry). is_marked s left k && (e.head.block == block)) (entry_same k (omega (arith, high)) (kept_if_left k (omega (arith, high)) now))
        | inr miss ↦ rw miss refl
      ])
      (λ k low high hit. entry_same k (omega (arith, high)) (kept_if_left k (omega (arith, high)) (and_parts _ _ hit).0))
