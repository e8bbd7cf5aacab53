use Rattle.std.proofs.Common.{◌≡◌, ◌<◌, get_or, length, Option, refl, sym, ◌∙◌, ap, arith, rules}
use Rattle.std.specs.declared.option.Option.TheVariants.{None, Some}
use Rattle.std.proofs.lemmas.List.{length-set}
use Rattle.std.proofs.lemmas.List.Elements.{All-get_or}
use Rattle.std.proofs.lemmas.Option.{slice_get-get_or}
use Rattle.stamp_order.specs.declared.Stamp.{Stamp}
use Rattle.plan_followed.specs.declared.prunes.BlockStamp.{BlockStamp}
use Rattle.plan_followed.proofs.Raising.{none_named, none_noted, noted_more}
use Rattle.plan_followed.proofs.prunes.tops_of.Goals as goal

-- a copy of None is None
no_other : (copies : Option Stamp → Type 0) → ((s : Stamp) → copies (Some s) → ⊥) → (y : Option Stamp) → copies y → y ≡ None
no_other copies none None e = refl
no_other copies none (Some s) e = absurd (none s e)

pub loop-read-init : goal.loop-read-init
loop-read-init c =
    let all = c.in_ok-tops.ensures.items_if_clones_equal (no_other _ (λ s k. k)) in
    record { count = search rules; tops = none_noted c.args.blocks c.in_ok-tops.tops.items all }

pub loop-read-preserved : goal.loop-read-preserved
loop-read-preserved c =
    let x : BlockStamp = get_or c.args.given.now c.loop-read.read-index none_named in
    let fits : x.block < c.args.blocks = All-get_or (λ x. x.block < c.args.blocks) c.args.given.now c.loop-read.read-index none_named c.loop-read-test.true c.requires in
    let low : x.block < length c.loop-read.tops.items = omega (arith, fits, c.loop-read.invariant.count) in
    let at = slice_get-get_or c.loop-read.tops.items x.block c.index.result.now low in
    record {
      count = length-set c.loop-read.tops.items x.block (Some c.greater.result) ∙ c.loop-read.invariant.count;
      tops = noted_more c.args.given.now c.loop-read.read-index none_named c.loop-read-test.true c.loop-read.tops.items c.index.result.now c.greater.result c.loop-read.invariant.tops (at ∙ ap Some (sym c.index.ensures)) c.greater.ensures.one c.greater.ensures.top c.greater.ensures.stamp;
    }
