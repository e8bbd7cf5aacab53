use Rattle.std.proofs.Common.{◌≡◌, take}
use Rattle.script_text.proofs.Printed.{front_text}
use Rattle.script_text.proofs.replay.print_replay.Given as goal

abbrev pub invariant-loop-line : goal.invariant-loop-line
invariant-loop-line l = l.text ≡ front_text l.replay.config l.replay.liars (take l.line-index l.replay.lines)
