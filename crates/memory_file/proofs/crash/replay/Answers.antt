use Rattle.std.proofs.Common.{◌≡◌, ◌<◌, ◌+◌, List, [], ◌∷◌, ◌++◌, length, take, sym, ◌∙◌, ap, subst, arith}
use Rattle.std.proofs.lemmas.List.{take_more, take_all}
use Rattle.memory_file.specs.declared.step.Step.{Step}
use Rattle.memory_file.specs.Steps.{replayed, seen_after, LeftBy}
use Rattle.memory_file.proofs.Recording.{replayed_more, left_step}
use Rattle.memory_file.proofs.crash.replay.Goals as goal

pub loop-step-preserved : goal.loop-step-preserved
loop-step-preserved c =
    let i = c.loop-step.step-index in
    let steps = c.args.steps.now in
    let first = c.args.first.now in
    let s = c.step-item.result in
    let inv = c.loop-step.invariant in
    let lt : i < length steps = omega (arith, c.loop-step-test.true, c.loop-step.auto.step-index-end) in
    let more : take (i + 1) steps ≡ take i steps ++ s ∷ [] = take_more steps i s lt ∙ ap (λ (x : Step). take i steps ++ x ∷ []) (sym c.step-item.is) in
    record {
      seen =
          c.in_ok-play.ensures.seen ∙ ap (seen_after s) inv.seen ∙ sym (replayed_more first (take i steps) s) ∙ ap (replayed first) (sym more);
      left =
          subst (λ (ss : List Step). LeftBy first (λ b. b ≡ first) ss c.play.new.left.items) (sym more)
          (left_step first (take i steps) s c.loop-step.seen.items c.loop-step.left.items c.play.new.left.items inv.seen inv.left c.in_ok-play.ensures.left);
    }

pub returns : goal.returns
returns c =
    subst (λ (ss : List Step). LeftBy c.args.first.now (λ b. b ≡ c.args.first.now) ss c.loop-step.left.items)
    (take_all c.loop-step.step-index c.args.steps.now (omega (arith, c.loop-step-test.false))) c.loop-step.invariant.left
