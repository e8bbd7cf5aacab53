use Rattle.std.proofs.Common.{◌≡◌, ◌*◌, map, drop}
use Rattle.std.specs.List.{range_with_len}
use Rattle.gf_field.specs.Fragments.{row}
use Rattle.ida_code.proofs.rows.rows_of.Given as goal

abbrev pub invariant-loop : goal.invariant-loop
invariant-loop l = (l.rows ≡ map (row l.m l.block) (range_with_len 0 l.counter)) × (l.rest ≡ drop (l.counter * l.len) l.block)
