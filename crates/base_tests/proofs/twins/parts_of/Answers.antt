use Rattle.std.proofs.Common.{length, get_or, ap, sym, ◌∙◌}
use Rattle.cross_sum.specs.declared.part.Part.{Part}
use Rattle.base_tests.proofs.Chosen.{chosen-more}
use Rattle.base_tests.proofs.twins.parts_of.Goals as goal

pub loop-number-preserved : goal.loop-number-preserved
loop-number-preserved c =
    let before = c.loop-number.invariant in
    let part : Part = record { number = get_or c.args.chosen.now c.loop-number.number-index 0; bytes = c.in_ok-bytes.bytes } in
    chosen-more c.args.n c.loop-number.least c.args.len c.loop-number.parts c.push.new.self part before.1 before.2 before.3
    c.if-number-least.false c.if-n-number.false (ap length c.in_ok-bytes.ensures ∙ sym c.len.ensures ∙ c.if-len.false) c.in_ok-push.ensures.ok
