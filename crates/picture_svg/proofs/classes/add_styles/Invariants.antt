use Rattle.text_lines.specs.Lines.{Lacks}
use Rattle.picture_svg.proofs.classes.add_styles.Given as goal

abbrev pub invariant-loop-class : goal.invariant-loop-class
invariant-loop-class l = Lacks 60 l.styles
