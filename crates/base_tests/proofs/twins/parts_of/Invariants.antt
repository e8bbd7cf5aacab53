use Rattle.std.proofs.Common.{◌≡◌, ◌<◌, ◌≤◌, length, All}
use Rattle.gf_field.specs.Polynomials.{AreDistinct}
use Rattle.cross_sum.specs.Parts.{numbers, strings}
use Rattle.base_tests.proofs.twins.parts_of.Given as goal

abbrev pub invariant-loop-number : goal.invariant-loop-number
invariant-loop-number l =
    (l.least ≤ l.n) × All (λ x. x < l.least) (numbers l.parts) × AreDistinct (numbers l.parts) × All (λ s. length s ≡ l.len) (strings l.parts)
