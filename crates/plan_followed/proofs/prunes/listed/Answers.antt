use Rattle.std.proofs.Common.{◌+◌, ◌<◌, length, refl, sym, ◌∙◌, ap, subst, arith}
use Rattle.std.specs.declared.option.Option.TheVariants.{None, Some}
use Rattle.std.proofs.lemmas.Option.{slice_get-get_or}
use Rattle.plan_followed.specs.Tops.{AreListed}
use Rattle.plan_followed.proofs.Listing.{none_listed, left_out, put_in}
use Rattle.plan_followed.proofs.prunes.listed.Goals.{in-Some+in_ok-push, in_default}
use Rattle.plan_followed.proofs.prunes.listed.Goals as goal

pub loop-block-init : goal.loop-block-init
loop-block-init c = subst (AreListed 0 c.args.tops.now) (sym c.new-listed.ensures.items) (none_listed c.args.tops.now)

pub loop-block-preserved : goal.loop-block-preserved
loop-block-preserved c =
    let low : c.loop-block.block < length c.args.tops.now = omega (arith, c.requires) in
    let at = slice_get-get_or c.args.tops.now c.loop-block.block None low in
    elim c.match-tops-block.branch [
      | in-Some+in_ok-push w ↦ subst (AreListed (c.loop-block.block + 1) c.args.tops.now) (sym (ap (λ v. v.items) w.listed-is ∙ w.in_ok-push.ensures.items))
          (put_in c.loop-block.block c.args.tops.now c.loop-block.listed.items (record { block = c.loop-block.block; stamp = w.in-Some.stamp }) c.loop-block.invariant refl (at ∙ ap Some w.in-Some.is))
      | in_default w ↦ subst (AreListed (c.loop-block.block + 1) c.args.tops.now) (sym (ap (λ v. v.items) w.listed-is)) (left_out c.loop-block.block c.args.tops.now c.loop-block.listed.items c.loop-block.invariant (at ∙ ap Some w.in_default.is))
    ]
