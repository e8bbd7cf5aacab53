use Rattle.std.proofs.Common.{◌≡◌, false, sym, subst, ap, ◌∙◌, rules}
use Rattle.std.specs.Prelude.{IfOk}
use Rattle.journals.specs.Acts.{NodeState, handles, late_act, is_spent}
use Rattle.locked_nodes.proofs.Acting.{late_handles}
use Rattle.locked_nodes.proofs.state.CellState.act_late.Goals as goal

pub returns-in-Honest-clause-act : goal.returns-in-Honest-clause-act
returns-in-Honest-clause-act c = λ ask rest oldest.
    let s = c.args.self.now in
    let up : s.crashed ≡ false = ap (λ (x : NodeState). x.crashed) (sym c.self.view_is) ∙ c.if-self.false in
    let more : is_spent s.crash_after ≡ false = search rules in
    let same : handles s c.args.nature ask ≡ late_act s c.args.nature ask = sym (late_handles s c.args.nature ask up more) in
    subst (λ x. IfOk c.deliver.result (λ act. act ≡ x)) (ap (λ k. handles s k ask) (sym c.in-Honest.is) ∙ same) (c.deliver.ensures.act ask rest oldest)
