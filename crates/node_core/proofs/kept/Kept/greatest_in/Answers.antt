use Rattle.node_core.proofs.Finding.{greatest-is, found-later}
use Rattle.node_core.proofs.kept.Kept.greatest_in.Goals as goal

pub returns-clause-greatest : goal.returns-clause-greatest
returns-clause-greatest c =
    rw (← c.self.view_is) (greatest-is _ _ c.self.invariant (λ x. x.0.now) (λ x. x.1.now) _ _ c.last_in.ensures.some c.last_in.ensures.none)

pub returns-clause-later : goal.returns-clause-later
returns-clause-later c = found-later _ _ c.self.invariant (λ x. x.0.now) (λ x. x.1.now) _ _ c.last_in.ensures.some
