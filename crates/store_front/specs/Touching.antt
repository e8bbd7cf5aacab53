-- Which blocks the requests of a round touch.
use Rattle.std.specs.Prelude.{◌≡◌, ◌⊎◌, ℕ, ◌<◌, ◌≤◌, true, false}
use Rattle.quorum_rules.specs.Limits.{Numbers}
use Rattle.nbd_front.specs.declared.request.Request.{Request}
use Rattle.nbd_front.specs.Sessions.{read_kind}
use Rattle.store_front.specs.Requests.{changes}
use Rattle.store_front.specs.declared.round.Touched.{Touched}
use Rattle.store_front.specs.Blocks.{touches}
use Rattle.store_front.specs.Values.{written_of as has}

-- a request of this kind may touch the block: none writes it, and it reads it too, or none does
abbrev pub IsFree : Touched → ℕ → ℕ → Type 0
IsFree t kind k = (has t.written k ≡ false) × ((kind ≡ read_kind) ⊎ (has t.read k ≡ false))

-- so it may where no block was touched yet
abbrev pub HasRoom : Touched → ℕ → ℕ → Type 0
HasRoom t kind k = (t.count ≡ 0) ⊎ IsFree t kind k

-- it is known that a request of this kind touches the block
pub record Knows (t : Touched) (kind k : ℕ) : Type 0 where
  pub read : kind ≡ read_kind → has t.read k ≡ true
  pub written : changes kind ≡ true → has t.written k ≡ true

-- more is known
pub record KnowsMore (old new : Touched) : Type 0 where
  pub read : (k : ℕ) → has old.read k ≡ true → has new.read k ≡ true
  pub written : (k : ℕ) → has old.written k ≡ true → has new.written k ≡ true
  pub count : old.count ≤ new.count

-- the blocks of a request are known
abbrev pub HasTouched : Numbers → Touched → Request → Type 0
HasTouched c t r = (k : ℕ) → touches c r k ≡ true → Knows t r.kind k × (0 < t.count)
