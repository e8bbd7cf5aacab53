-- What is collected, with one number more.
use Rattle.std.proofs.Common.{◌≡◌, ℕ, ◌+◌, Option, refl, add-one}
use Rattle.protocol.specs.Count.{collect, one_more}

pub collect-next : {A : Type 0} (k : ℕ) (f : ℕ → Option A) → collect (k + 1) f ≡ one_more (collect k f) (f k)
collect-next k f = rw add-one refl
