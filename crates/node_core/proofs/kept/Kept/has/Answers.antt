use Rattle.std.proofs.Common.{sym, ◌∙◌}
use Rattle.node_core.proofs.Finding.{keeps-is_some}
use Rattle.node_core.proofs.kept.Kept.has.Goals as goal

pub returns : goal.returns
returns c =
    let listed = keeps-is_some _ _ c.self.invariant c.args.stamp.now in
    let kept = rw c.self.view_is at listed in
    let same = c.contains_key.ensures ∙ sym kept in
    (λ h. sym same ∙ h, λ h. same ∙ h)
