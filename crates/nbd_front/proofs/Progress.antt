-- How far a walk over the blocks of a range has come.
use Rattle.std.proofs.Common.{◌≡◌, ℕ, ◌+◌, ◌-◌, ◌*◌, ◌<◌, ◌≤◌, min, max, inl, inr, arith}
use Rattle.std.proofs.lemmas.Bool.{cases_lt}
use Rattle.std.proofs.Math.Nat.{mul-le-mul_right}
use Rattle.quorum_rules.specs.Limits.{Numbers}
use Rattle.block_device.specs.Ranges.{Reaches}

-- the place that is reached before block k
abbrev pub reached : ℕ → ℕ → ℕ → ℕ → ℕ
reached size start end k = min end (max start (k * size))

pub up_to : (size j k : ℕ) → j ≤ k → j * size ≤ k * size
up_to size j k h = mul-le-mul_right size h

-- a block of the range
pub record IsStep (size start end blocks k place : ℕ) : Type 0 where
  pub block : k < blocks
  pub above : k * size < end
  pub low : k * size ≤ place
  pub high : place ≤ k * size + min (end - k * size) size
  pub first : start ≤ place
  pub last : place ≤ end
  pub fits : k * size + min (end - k * size) size ≤ end
  pub next : k * size + min (end - k * size) size ≡ reached size start end (k + 1)
  pub at : (start - k * size) + k * size ≡ place
  pub from : k * size - start ≡ place - start

pub step : (c : Numbers) (start len k : ℕ) → Reaches c start len k → IsStep c.size start (start + len) c.blocks k (reached c.size start (start + len) k)
step c start len k r =
    let more : (k + 1) * c.size ≡ k * c.size + c.size = omega arith in
    let above = r.below in
    let below = r.above in
    record {
      block = r.there;
      above = above;
      low = omega (arith, above);
      high = omega (arith, above, below, more);
      first = omega arith;
      last = omega arith;
      fits = omega (arith, above);
      next = omega (arith, more, above, below);
      at = omega (arith, above);
      from = omega (arith, above);
    }

pub begins : (size start len k : ℕ) → k * size ≤ start → reached size start (start + len) k ≡ start
begins size start len k low = omega (arith, low)

pub ends : (size start len k : ℕ) → (0 < len → start + len ≤ k * size) → reached size start (start + len) k ≡ start + len
ends size start len k last = elim (cases_lt 0 len) [
  | inl some ↦ (let all = last some in omega (arith, all))
  | inr none ↦ omega (arith, none)
]

-- where the bytes of block k end among those of the range
pub ends_at : (c : Numbers) (start len k : ℕ) → Reaches c start len k → min ((k + 1) * c.size - start) len ≡ k * c.size + min (start + len - k * c.size) c.size - start
ends_at c start len k r =
    let more : (k + 1) * c.size ≡ k * c.size + c.size = omega arith in
    let above = r.below in
    let below = r.above in
    omega (arith, more, above, below)
