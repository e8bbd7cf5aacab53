use Rattle.std.proofs.Common.{◌∙◌}
use Rattle.outside_io.proofs.lemmas.Known.{adds_more, adds_prefix, place_within_text}
use Rattle.outside_io.proofs.writing.write_all.Goals as goal

pub returns-in_err-at-clause-prefix : goal.returns-in_err-at-clause-prefix
returns-in_err-at-clause-prefix g c = adds_prefix _ _ _ c.args.text.now c.loop-at.at c.loop-at.invariant.0 c.in_err-at.ensures.nothing

pub loop-at-preserved : goal.loop-at-preserved
loop-at-preserved g c = (adds_more _ _ _ c.args.text.now c.loop-at.at c.in_ok-at.field-0 c.loop-at.invariant.0 c.in_ok-at.ensures.bytes, c.in_ok-at.ensures.cause.calm ∙ c.loop-at.invariant.1, place_within_text c.args.text.now c.loop-at.at c.in_ok-at.field-0 c.in_ok-at.ensures.bound c.loop-at.invariant.2, c.in_ok-at.ensures.unflushed ∙ c.loop-at.invariant.3)
