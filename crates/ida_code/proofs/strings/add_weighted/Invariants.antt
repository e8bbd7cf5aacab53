use Rattle.std.proofs.Common.{◌≡◌, ◌<◌, ℕ, length, map, get_or}
use Rattle.gf_field.specs.Polynomials.{sum_below}
use Rattle.ida_code.proofs.Summed.{summand}
use Rattle.ida_code.proofs.strings.add_weighted.Given as goal

abbrev pub invariant-loop-k : goal.invariant-loop-k
invariant-loop-k g l =
    (j : ℕ) → j < length l.out → get_or l.out j 0 ≡ sum_below l.k (summand l.points.numbers.items (map g.S.ByteString.string l.strings) l.x j)
