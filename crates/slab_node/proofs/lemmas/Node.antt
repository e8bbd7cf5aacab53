-- The node that the bytes hold which a crash leaves.
use Rattle.std.proofs.Common.{◌≡◌, inl, inr, ℕ, zero, suc, ◌+◌, ◌<◌, ◌≤◌, ◌==◌, ◌&&◌, Bool, true, false, List, [], ◌∷◌, length, get_or, refl, sym, ◌∙◌, ap, subst, arith, eqb-true}
use Rattle.std.proofs.lemmas.Bool.{cases_Bool, false≢true, and_parts, and_from}
use Rattle.quorum_rules.specs.Limits.{Numbers}
use Rattle.stamp_order.specs.declared.Stamp.{Stamp}
use Rattle.protocol.specs.Messages.{Version}
use Rattle.protocol.specs.Nodes.{first_version, outlives}
use Rattle.protocol.specs.Instance.{setting}
use Rattle.node_core.specs.Seen.{SeenNode, versions_in}
use Rattle.slab_layout.specs.declared.shape.Shape.{Shape}
use Rattle.slab_layout.specs.Shapes.{slab_len, is_marked, shape_of}
use Rattle.slab_node.specs.Held.{Entry, entry_at, entry_version, versions, versions_of, blocks_from, held_by, held, held_with, with_set}
use Rattle.slab_node.specs.Left.{Agrees, IsLeft, nothing}
use Rattle.slab_node.specs.Freed.{KeepsSome, keeps, IsPrunedInPart, ArePrunable, IsOf, IsLessSome}
use Rattle.slab_node.proofs.Entries.{marks_same}
use Rattle.slab_node.proofs.Torn.{is_left}
use Rattle.slab_node.proofs.Crash.{marked_now}
use Rattle.slab_node.proofs.lemmas.Freeing.{versions_part}

-- the versions of one of the blocks
block_in : (s : Shape) (m : ℕ → Bool) (bytes : List ℕ) (first : Version) (i n k : ℕ) → k < n → get_or (blocks_from s m bytes first i n) k [] ≡ first ∷ versions s m bytes (i + k)
block_in s m bytes first i zero k lt = absurd (omega arith)
block_in s m bytes first i (suc n) zero lt = ap (λ b. first ∷ versions s m bytes b) (omega arith)
block_in s m bytes first i (suc n) (suc k) lt =
    block_in s m bytes first (suc i) n k (omega arith) ∙ ap (λ b. first ∷ versions s m bytes b) (omega arith)

blocks_same : (s : Shape) (m m' : ℕ → Bool) (old new : List ℕ) (first : Version) (i n : ℕ) → ((b : ℕ) → versions s m' new b ≡ versions s m old b) → blocks_from s m' new first i n ≡ blocks_from s m old first i n
blocks_same s m m' old new first i zero same = refl
blocks_same s m m' old new first i (suc n) same = λ j. (first ∷ same i j) ∷ blocks_same s m m' old new first (suc i) n same j

length-blocks : (s : Shape) (m : ℕ → Bool) (bytes : List ℕ) (first : Version) (i n : ℕ) → length (blocks_from s m bytes first i n) ≡ n
length-blocks s m bytes first i zero = refl
length-blocks s m bytes first i (suc n) = ap suc (length-blocks s m bytes first (suc i) n)

module _ (c : Numbers) (number : ℕ) where
  abbrev first : Version
  first = first_version (setting c) number

  pub versions_at : (m : ℕ → Bool) (bytes : List ℕ) (block : ℕ) → block < c.blocks → versions_in (held_by (shape_of c) m c number bytes) block ≡ first ∷ versions (shape_of c) m bytes block
  versions_at m bytes block lt = block_in (shape_of c) m bytes first 0 c.blocks block lt ∙ ap (λ b. first ∷ versions (shape_of c) m bytes b) (omega arith)

  pub held_same : (m m' : ℕ → Bool) (old new : List ℕ) → ((b : ℕ) → versions (shape_of c) m' new b ≡ versions (shape_of c) m old b) → held_by (shape_of c) m' c number new ≡ held_by (shape_of c) m c number old
  held_same m m' old new same = ap (λ blocks. record { config = c; number = number; blocks = blocks }) (blocks_same (shape_of c) m m' old new first 0 c.blocks same)

  pub count_of : (m : ℕ → Bool) (bytes : List ℕ) → length (held_by (shape_of c) m c number bytes).blocks ≡ c.blocks
  count_of m bytes = length-blocks (shape_of c) m bytes first 0 c.blocks

-- a slot that counts is marked, and of the block
more_count : (now was same : Bool) → (now ≡ true → was ≡ true) → (now && same) ≡ true → (was && same) ≡ true
more_count now was same h hit = let parts = and_parts _ _ hit in and_from _ _ (h parts.0) parts.1

no_count : (now was same : Bool) → (was && same) ≡ true → (now && same) ≡ false → now ≡ false
no_count false was same hit miss = refl
no_count true was same hit miss = absurd (false≢true (sym miss ∙ (and_parts _ _ hit).1))

module _ (c : Numbers) (number : ℕ) (old left : List ℕ) (long : slab_len (shape_of c) ≤ length old) where
  -- the node that is left, by the marks that there are now and by what the slots had
  pub held_old : (loose asked : ℕ → Bool) → Agrees (shape_of c) loose asked old left → held c number left ≡ held_by (shape_of c) (is_marked (shape_of c) left) c number old
  held_old loose asked agrees =
      held_same c number (is_marked (shape_of c) left) (is_marked (shape_of c) left) old left
      (λ b. ap (versions_of c.n) (marked_now (shape_of c) loose asked old left (is_left (shape_of c) loose asked old left agrees long) b))

  -- where only free slots were written, it is as it was
  pub held_left : (asked : ℕ → Bool) → Agrees (shape_of c) nothing asked old left → held c number left ≡ held c number old
  held_left asked agrees =
      let rest = is_left (shape_of c) nothing asked old left agrees long in
      held_old nothing asked agrees
      ∙ held_same c number (is_marked (shape_of c) old) (is_marked (shape_of c) left) old old
      (λ b. ap (versions_of c.n) (marks_same (is_marked (shape_of c) old) (is_marked (shape_of c) left) (entry_at (shape_of c) old) b (shape_of c).count (λ k lt. rest.marks k lt refl)))

-- ---- marks that were taken away

module _ (c : Numbers) (number : ℕ) (old : List ℕ) (going : ℕ → Bool) (now : ℕ → Bool)
    (fewer : (k : ℕ) → k < (shape_of c).count → now k ≡ true → with_set going (is_marked (shape_of c) old) k ≡ true)
    (goes : (k : ℕ) → k < (shape_of c).count → with_set going (is_marked (shape_of c) old) k ≡ true → now k ≡ false → going k ≡ true) where
  abbrev before : ℕ → Bool
  before = with_set going (is_marked (shape_of c) old)

  abbrev slot : ℕ → Entry
  slot = entry_at (shape_of c) old

  some_of : (block : ℕ) → KeepsSome (IsOf c going old block) (versions (shape_of c) before old block) (versions (shape_of c) now old block)
  some_of block =
      versions_part c.n (IsOf c going old block) before now slot block (shape_of c).count
      (λ k low hit. more_count (now k) (before k) ((slot k).head.block == block) (fewer k low) hit)
      (λ k low hit miss.
      let parts = and_parts _ _ hit in
      (k, low, goes k low parts.0 (no_count (now k) (before k) ((slot k).head.block == block) hit miss), eqb-true _ _ parts.1, refl))

  pub less_some : IsLessSome c going old (held_with c number going old) (held_by (shape_of c) now c number old)
  less_some = record {
    config = refl;
    number = refl;
    count = count_of c number now old ∙ sym (count_of c number before old);
    each = λ block lt.
        let first : Version = first_version (setting c) number in
        subst (λ (vs : List Version). KeepsSome (IsOf c going old block) vs (versions_in (held_by (shape_of c) now c number old) block)) (sym (versions_at c number before old block lt))
        (subst (λ (vs : List Version). KeepsSome (IsOf c going old block) (first ∷ versions (shape_of c) before old block) vs) (sym (versions_at c number now old block lt))
        (keeps first (versions (shape_of c) before old block) (versions (shape_of c) now old block) (some_of block)));
  }

set_true : (going marked : ℕ → Bool) (k : ℕ) → (going k ≡ false → marked k ≡ true) → with_set going marked k ≡ true
set_true going marked k h = elim (cases_Bool (going k)) [ inl goes ↦ rw goes refl | inr stays ↦ rw stays (h stays) ]

set_goes : (going marked : ℕ → Bool) (k : ℕ) (now : Bool) → with_set going marked k ≡ true → now ≡ false → (going k ≡ false → now ≡ marked k) → going k ≡ true
set_goes going marked k now was gone same = elim (cases_Bool (going k)) [
  | inl goes ↦ goes
  | inr stays ↦ (let kept : marked k ≡ true = rw stays at was in absurd (false≢true (sym gone ∙ same stays ∙ kept)))
]

module _ (c : Numbers) (number : ℕ) (old left : List ℕ) (long : slab_len (shape_of c) ≤ length old) (going : ℕ → Bool) where
  -- each of them may be there still
  pub less_left : (asked : ℕ → Bool) → Agrees (shape_of c) going asked old left → IsLessSome c going old (held_with c number going old) (held c number left)
  less_left asked agrees =
      let rest = is_left (shape_of c) going asked old left agrees long in
      subst (λ (n : SeenNode). IsLessSome c going old (held_with c number going old) n) (sym (held_old c number old left long going asked agrees))
      (less_some c number old going (is_marked (shape_of c) left)
      (λ k lt now. set_true going (is_marked (shape_of c) old) k (λ stays. sym (rest.marks k lt stays) ∙ now))
      (λ k lt was gone. set_goes going (is_marked (shape_of c) old) k (is_marked (shape_of c) left k) was gone (rest.marks k lt)))

  -- or none is
  pub less_all : IsLessSome c going old (held_with c number going old) (held c number old)
  less_all =
      less_some c number old going (is_marked (shape_of c) old)
      (λ k lt now. set_true going (is_marked (shape_of c) old) k (λ stays. now))
      (λ k lt was gone. set_goes going (is_marked (shape_of c) old) k (is_marked (shape_of c) old k) was gone (λ stays. refl))

-- ---- marks of versions that a prune drops

module _ (c : Numbers) (number : ℕ) (old left : List ℕ) (long : slab_len (shape_of c) ≤ length old) (stamp : ℕ → Stamp) (going : ℕ → Bool) (prunable : ArePrunable c number old stamp going)
    (agrees : Agrees (shape_of c) going nothing old left) where
  abbrev node : SeenNode
  node = held c number old

  abbrev its : ℕ → Entry
  its = entry_at (shape_of c) old

  rest : IsLeft (shape_of c) going nothing old left
  rest = is_left (shape_of c) going nothing old left agrees long

  was_marked : (k : ℕ) → k < (shape_of c).count → is_marked (shape_of c) left k ≡ true → is_marked (shape_of c) old k ≡ true
  was_marked k lt now = elim (cases_Bool (going k)) [ inl goes ↦ prunable.marked k lt goes | inr stays ↦ sym (rest.marks k lt stays) ∙ now ]

  it_goes : (k : ℕ) → k < (shape_of c).count → is_marked (shape_of c) old k ≡ true → is_marked (shape_of c) left k ≡ false → going k ≡ true
  it_goes k lt was now = elim (cases_Bool (going k)) [ inl goes ↦ goes | inr stays ↦ absurd (false≢true (sym now ∙ rest.marks k lt stays ∙ was)) ]

  pub pruned_left : (block : ℕ) → block < c.blocks → IsPrunedInPart (setting c) (stamp block) (versions_in node block) (versions_in (held c number left) block)
  pruned_left block lt =
      let Go : Version → Type 0 = λ v. outlives (setting c) (stamp block) (versions_in node block) v ≡ false in
      let first : Version = first_version (setting c) number in
      let marks : ℕ → Bool = is_marked (shape_of c) old in
      let now : ℕ → Bool = is_marked (shape_of c) left in
      let some : KeepsSome Go (versions (shape_of c) marks old block) (versions (shape_of c) now old block) =
      versions_part c.n Go marks now its block (shape_of c).count
      (λ k low hit. more_count (now k) (marks k) ((its k).head.block == block) (was_marked k low) hit)
      (λ k low hit miss.
      let parts = and_parts _ _ hit in
      subst (λ (b : ℕ). outlives (setting c) (stamp b) (versions_in node b) (entry_version c.n (its k)) ≡ false) (eqb-true _ _ parts.1)
      (prunable.dropped k low (it_goes k low parts.0 (no_count (now k) (marks k) ((its k).head.block == block) hit miss)))) in
      subst (λ (vs : List Version). KeepsSome Go vs (versions_in (held c number left) block)) (sym (versions_at c number marks old block lt))
      (subst (λ (vs : List Version). KeepsSome Go (first ∷ versions (shape_of c) marks old block) vs)
      (sym (ap (λ n. versions_in n block) (held_old c number old left long going nothing agrees) ∙ versions_at c number now old block lt))
      (keeps first (versions (shape_of c) marks old block) (versions (shape_of c) now old block) some))
