use Rattle.std.proofs.Common.{◌≡◌, ◌∷◌, length, sym, ◌∙◌, ap, arith}
use Rattle.std.proofs.Math.Seq.{take-length}
use Rattle.node_core.proofs.Finding.{listed_stamps}
use Rattle.node_core.proofs.kept.Kept.stamps.Goals as goal

pub returns : goal.returns
returns c =
    let all : c.loop-stamp.stamp-index ≡ length c.deref-stamp-items.result.now = omega arith in
    let pushed = rw (all, take-length, c.deref-stamp-items.ensures.value) at c.loop-stamp.invariant in
    let listed = rw c.self.view_is at (listed_stamps _ _ c.self.invariant) in
    pushed ∙ ap (λ s. c.args.first.now ∷ s) (sym listed)
