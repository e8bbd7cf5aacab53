use Rattle.std.proofs.Common.{◌≡◌, map}
use Rattle.std.specs.List.{range_with_len, concat}
use Rattle.gf_field.specs.Fragments.{string_at}
use Rattle.cross_sum.specs.Parts.{strings}
use Rattle.ida_code.proofs.shape.CodeShape.decode.Given as goal

abbrev pub invariant-loop-k : goal.invariant-loop-k
invariant-loop-k g l = l.out.items ≡ concat (map (string_at l.len l.points.numbers.items (strings l.parts)) (range_with_len 0 l.k))
