-- A slab is small.
use Rattle.std.proofs.Common.{ℕ, ◌+◌, ◌*◌, ◌^◌, ◌<◌, ◌≤◌, ◌≡◌, arith}
use native.Mathlib.Nat.{mul-le-mul_left}
use Rattle.slab_layout.specs.Shapes.{Shape, data_len, slab_len}

-- where there are at most 2 ^ 28 blocks, 16 nodes, and 65536 bytes in a fragment
pub slab_is_small : (s : Shape) → s.count ≡ 2 * s.blocks + 64 → s.blocks ≤ 268435456 → s.nodes ≤ 16 → s.share ≤ 65536 → slab_len s < 2 ^ 63
slab_is_small s count blocks nodes share =
    let each : data_len s ≤ 66048 = omega (arith, nodes, share) in
    let all : s.count * data_len s ≤ s.count * 66048 = mul-le-mul_left s.count each in
    omega (arith, count, blocks, all)
