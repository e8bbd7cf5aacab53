use Rattle.std.proofs.Common.{◌≡◌, ◌++◌, drop}
use Rattle.text_lines.specs.Lines.{text_of_lines}
use Rattle.command_texts.specs.Shown.{fragment_lines}
use Rattle.command_texts.proofs.sum.add_fragments.Given as goal

abbrev pub invariant-loop-i : goal.invariant-loop-i
invariant-loop-i l = l.fn.text ++ text_of_lines (fragment_lines 0 l.fragments) ≡ l.text ++ text_of_lines (fragment_lines l.i (drop l.i l.fragments))
