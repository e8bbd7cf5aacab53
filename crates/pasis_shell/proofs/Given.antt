-- A source that gave nothing.
use Rattle.std.proofs.Common.{ℕ, List, [], refl, arith}
use Rattle.std.specs.Prelude.{Option, None, Some}
use Rattle.outside_io.specs.Given.{GaveAtMost}

-- a source that was left as it was gave no more than any number of bytes
pub gave_none : (known : Option (List ℕ)) (most : ℕ) → GaveAtMost most known known
gave_none None most = ([], tt, omega arith)
gave_none (Some bytes) most = ([], refl, omega arith)
