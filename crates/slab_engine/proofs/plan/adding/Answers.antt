use Rattle.std.proofs.Common.{◌≡◌, ◌+◌, List, get_or, sym, ◌∙◌, subst, ℕ}
use Rattle.std.proofs.lemmas.List.{get_or_default}
use Rattle.slab_engine.specs.Batches.{AreAddingBelow}
use Rattle.slab_engine.specs.declared.plan.Plan.{Plan}
use Rattle.slab_engine.specs.declared.plan.Plan.TheVariants.{Silent, Adds}
use Rattle.slab_engine.proofs.Picking.{adding_other, adding_more}
use Rattle.slab_engine.proofs.plan.adding.Goals as goal
use Rattle.slab_engine.proofs.plan.adding.Goals.{then-is_adding+in_ok-push, else-is_adding}

pub loop-i-preserved : goal.loop-i-preserved
loop-i-preserved c =
    let plans : List Plan = c.args.plans.now in
    let i = c.loop-i.i in
    let so_far = c.loop-i.invariant in
    elim c.if-is_adding.branch [
      | then-is_adding+in_ok-push w ↦
          let is : get_or plans i Silent ≡ Adds = c.is_adding.ensures.yes w.if-is_adding.true in
          subst (λ (xs : List ℕ). AreAddingBelow plans (i + 1) xs) (sym ((λ j. (w.added-is j).items) ∙ w.in_ok-push.ensures.items))
          (adding_more plans i c.loop-i.added.items so_far (λ d. get_or_default plans i d Silent c.loop-i-test.true ∙ is))
      | else-is_adding w ↦
          let not : get_or plans i Silent ≡ Adds → ⊥ = c.is_adding.ensures.not w.if-is_adding.false in
          subst (λ (xs : List ℕ). AreAddingBelow plans (i + 1) xs) (sym (λ j. (w.added-is j).items))
          (adding_other plans i c.loop-i.added.items so_far (λ d is. not (get_or_default plans i Silent d c.loop-i-test.true ∙ is)))
    ]
