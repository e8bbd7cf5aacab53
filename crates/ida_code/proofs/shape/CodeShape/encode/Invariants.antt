use Rattle.std.proofs.Common.{◌≡◌, map}
use Rattle.std.specs.List.{range_with_len}
use Rattle.gf_field.specs.Fragments.{string_at, rows_of}
use Rattle.ida_code.proofs.shape.CodeShape.encode.Given as goal

abbrev pub invariant-loop-i : goal.invariant-loop-i
invariant-loop-i g l =
    l.shares ≡ map (string_at l.len (range_with_len 0 l.m) (rows_of l.m l.block)) (range_with_len 0 l.i)
