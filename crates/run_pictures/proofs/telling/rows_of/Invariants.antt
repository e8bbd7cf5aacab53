use Rattle.std.proofs.Common.{◌≡◌, ◌++◌, map, drop}
use Rattle.run_pictures.specs.Shown.{line_of, shown_line}
use Rattle.run_pictures.proofs.telling.rows_of.Given as goal

abbrev pub invariant-loop-line : goal.invariant-loop-line
invariant-loop-line l = record {
  lines : map line_of l.rows.items ++ map shown_line (drop l.line-index l.lines) ≡ map shown_line l.lines;
  cluster : l.replayer.config ≡ l.initial.replayer.config;
}
