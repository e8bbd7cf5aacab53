-- What a node replies as it planned.
use Rattle.std.specs.Prelude.{◌≡◌, ◌<◌, ℕ, Bool, true, false, List, length, slice_index_or, Option, Some, IfSome, IfNone}
use Rattle.protocol.specs.Messages.{Version, Ask, Reply}
use Rattle.slab_index.specs.declared.kept.Kept.{Kept}
use Rattle.slab_engine.specs.declared.plan.Plan.{Plan}
use Rattle.slab_engine.specs.Plans.{said, IsUnsaid}

-- a reply is as planned; where there is none, the block is answered for no longer
pub record IsSaid (first : Version) (version : Kept → Version) (answers : ℕ → Bool) (ask : Ask) (plan : Plan) (reply : Option Reply) : Type 0 where
  pub some : IfSome reply (λ r. said first version plan ≡ Some r)
  pub none : IfNone reply (answers ask.block ≡ false)

-- the first few of the replies
pub record AreSaidBelow (first : Version) (version : Kept → Version) (answers : ℕ → Bool) (asks : List Ask) (plans : List Plan) (n : ℕ) (replies : List (Option Reply)) : Type 0 where
  pub count : length replies ≡ n
  pub each : (i : ℕ) (a : Ask) (p : Plan) (r : Option Reply) → i < n → IsSaid first version answers (slice_index_or asks i a) (slice_index_or plans i p) (slice_index_or replies i r)

-- all of them
abbrev pub AreSaid : Version → (Kept → Version) → (ℕ → Bool) → List Ask → List Plan → List (Option Reply) → Type 0
AreSaid first version answers asks plans replies = AreSaidBelow first version answers asks plans (length asks) replies

-- blocks are answered for no longer where one of the first few plans came to nothing
pub record AreLostBelow (asks : List Ask) (plans : List Plan) (n : ℕ) (before after : ℕ → Bool) : Type 0 where
  pub fewer : (block : ℕ) → after block ≡ true → before block ≡ true
  pub by : (block : ℕ) → before block ≡ true → after block ≡ false
      → (i : ℕ) × (i < n) × ((a : Ask) → (slice_index_or asks i a).block ≡ block) × ((p : Plan) → IsUnsaid (slice_index_or plans i p))

-- where one of all
abbrev pub AreLostBy : List Ask → List Plan → (ℕ → Bool) → (ℕ → Bool) → Type 0
AreLostBy asks plans before after = AreLostBelow asks plans (length asks) before after
