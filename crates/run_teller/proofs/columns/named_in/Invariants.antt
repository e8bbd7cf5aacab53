use Rattle.std.proofs.Common.{◌≡◌, ◌++◌, drop}
use Rattle.run_teller.specs.Columns.{named_in}
use Rattle.run_teller.proofs.columns.named_in.Given as goal

abbrev pub invariant-loop-line : goal.invariant-loop-line
invariant-loop-line l = named_in l.lines ≡ l.named.items ++ named_in (drop l.line-index l.lines)
