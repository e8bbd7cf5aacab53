use Rattle.std.proofs.Common.{◌+◌, ◌<◌, ◌++◌, take, get_or, length, sym, ◌∙◌, ap, subst, arith}
use Rattle.std.specs.declared.option.Option.TheVariants.{None, Some}
use Rattle.std.proofs.lemmas.Option.{slice_get-get_or}
use Rattle.std.proofs.lemmas.List.Elements.{All-get_or}
use Rattle.plan_followed.specs.declared.prunes.BlockStamp.{BlockStamp}
use Rattle.plan_followed.specs.Tops.{AreTops}
use Rattle.plan_followed.proofs.Raising.{none_named, heard_more, passed_more}
use Rattle.plan_followed.proofs.prunes.raise.Goals.{in-Some, in_default}
use Rattle.plan_followed.proofs.prunes.raise.Goals as goal

pub loop-read-preserved : goal.loop-read-preserved
loop-read-preserved c = λ late reads h.
    let x : BlockStamp = get_or c.args.given.now c.loop-read.read-index none_named in
    let fits : x.block < length c.args.tops.now = All-get_or (λ x. x.block < length c.args.tops.now) c.args.given.now c.loop-read.read-index none_named c.loop-read-test.true c.requires in
    let low : x.block < length c.loop-read.tops = omega (arith, fits, c.loop-read.auto.tops) in
    let at = slice_get-get_or c.loop-read.tops x.block None low in
    elim c.match-tops-block.branch [
      | in-Some w ↦ subst (AreTops late (reads ++ take (c.loop-read.read-index + 1) c.args.given.now)) (sym w.tops-is) (heard_more c.args.given.now c.loop-read.read-index none_named c.loop-read-test.true late reads c.loop-read.tops w.in-Some.top w.greater.result (c.loop-read.invariant late reads h) (at ∙ ap Some w.in-Some.is) w.greater.ensures.one w.greater.ensures.top w.greater.ensures.stamp)
      | in_default w ↦ subst (AreTops late (reads ++ take (c.loop-read.read-index + 1) c.args.given.now)) (sym w.tops-is) (passed_more c.args.given.now c.loop-read.read-index none_named c.loop-read-test.true late reads c.loop-read.tops (c.loop-read.invariant late reads h) (at ∙ ap Some w.in_default.is))
    ]
