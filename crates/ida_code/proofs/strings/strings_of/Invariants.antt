use Rattle.std.proofs.Common.{◌≡◌, take}
use Rattle.gf_field.specs.Fragments.{HaveElements}
use Rattle.cross_sum.specs.Parts.{strings}
use Rattle.ida_code.specs.Lent.{lent}
use Rattle.ida_code.proofs.strings.strings_of.Given as goal

abbrev pub invariant-loop-part : goal.invariant-loop-part
invariant-loop-part l = (lent l.strings.items ≡ strings (take l.part-index l.parts)) × HaveElements (lent l.strings.items)
