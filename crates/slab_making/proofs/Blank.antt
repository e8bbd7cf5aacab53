-- What a new slab holds.
use Rattle.std.proofs.Common.{◌≡◌, ℕ, zero, suc, ◌+◌, ◌<◌, Bool, false, List, [], ◌∷◌, replicate, refl, ap, arith}
use Rattle.quorum_rules.specs.Limits.{Numbers}
use Rattle.protocol.specs.Messages.{Version}
use Rattle.protocol.specs.Nodes.{first_version}
use Rattle.protocol.specs.Instance.{setting}
use Rattle.slab_layout.specs.declared.shape.Shape.{Shape}
use Rattle.slab_layout.specs.Shapes.{shape_of, is_marked}
use Rattle.slab_node.specs.Held.{Entry, entry_at, entries_from, versions, versions_of, blocks_from}
use Rattle.slab_making.specs.Made.{NewSlabsAreNew}

no_entries : (m : ℕ → Bool) (e : ℕ → Entry) (block i n : ℕ) → ((k : ℕ) → k < i + n → m k ≡ false) → entries_from m e block i n ≡ []
no_entries m e block i zero free = refl
no_entries m e block i (suc n) free = rw (free i (omega arith)) (no_entries m e block (suc i) n (λ k lt. free k (omega (arith, lt))))

all_first : (s : Shape) (m : ℕ → Bool) (bytes : List ℕ) (first : Version) (i n : ℕ) → ((b : ℕ) → versions s m bytes b ≡ []) → blocks_from s m bytes first i n ≡ replicate n (first ∷ [])
all_first s m bytes first i zero none = refl
all_first s m bytes first i (suc n) none = λ j. (first ∷ none i j) ∷ all_first s m bytes first (suc i) n none j

pub new_slabs : (c : Numbers) (number key : ℕ) (answers : Bool) (bytes : List ℕ) → NewSlabsAreNew c number key answers bytes
new_slabs c number key answers bytes is =
    let s : Shape = shape_of c in
    ap (λ blocks. record { config = c; number = number; blocks = blocks })
    (all_first s (is_marked s bytes) bytes (first_version (setting c) number) 0 c.blocks
    (λ b. ap (versions_of c.n) (no_entries (is_marked s bytes) (entry_at s bytes) b 0 s.count (λ k lt. is.blank.unmarked k (omega (arith, lt))))))
