use Rattle.std.proofs.Common.{◌≡◌, ◌++◌, List, drop, length, Option, sym, ◌∙◌, subst, arith}
use Rattle.std.proofs.lemmas.List.{take_all, take-append-le}
use Rattle.std.proofs.lemmas.Result.{IfOk-weaker}
use Rattle.stamp_order.specs.declared.Stamp.{Stamp}
use Rattle.plan_followed.specs.declared.prunes.BlockStamp.{BlockStamp}
use Rattle.plan_followed.specs.Prunings.{ArePrunings}
use Rattle.plan_followed.specs.Tops.{AreTops, AreListed}
use Rattle.plan_followed.proofs.Listing.{pruned}
use Rattle.plan_followed.proofs.prunes.prunings.Goals as goal

pub returns : goal.returns
returns c =
    let late : List BlockStamp = c.args.late.now in
    let early : List BlockStamp = c.args.early.now in
    let tops : List (Option Stamp) = c.raise.new.tops in
    let first : AreTops late late c.deref_mut.result.now = subst (AreTops late late) (sym c.deref_mut.ensures.value) c.in_ok-tops.ensures.tops in
    let long : length tops ≡ c.in_ok-tops.tops.len = omega (arith, c.raise.auto.tops, c.deref_mut.ensures.len) in
    let same : c.deref.result.now ≡ tops = c.deref.ensures.value ∙ take-append-le c.in_ok-tops.tops.len tops (drop (length tops) c.in_ok-tops.tops.items) (omega (arith, long)) ∙ take_all c.in_ok-tops.tops.len tops (omega (arith, long)) in
    IfOk-weaker c.listed.result (λ ps. AreListed c.args.blocks c.deref.result.now ps.items) (λ ps. ArePrunings (late ++ early) late ps.items) (λ ps listed.
    pruned late early c.args.blocks tops ps.items (c.raise.ensures late late first) (subst (λ (l : List (Option Stamp)). AreListed c.args.blocks l ps.items) same listed)
    (omega (arith, long, c.in_ok-tops.tops.ok.0, c.in_ok-tops.ensures.length)) c.requires.late) c.listed.ensures
