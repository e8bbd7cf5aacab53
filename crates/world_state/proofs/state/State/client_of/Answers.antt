use Rattle.std.proofs.Common.{◌≤◌, ◌∙◌, ap, subst}
use Rattle.protocol.specs.Seen.{client_at, phase_of}
use Rattle.world_state.specs.Changes.{client_in}
use Rattle.world_state.proofs.ChangedClients.{slot-is}
use Rattle.world_state.proofs.HeardEffects.{slot-fits, fits-phase}
use Rattle.world_state.proofs.state.State.client_of.Goals as goal

pub returns-clause-same : goal.returns-clause-same
returns-clause-same c =
    slot-is c.self.inside c.self.invariant.0 c.args.client c.requires c.index.result.now c.index.ensures ∙ ap (λ v. client_in v c.args.client) c.self.view_is

pub returns-clause-phase : goal.returns-clause-phase
returns-clause-phase c =
    subst (λ v. phase_of (client_at v.seen c.args.client).task ≤ v.seen.place) c.self.view_is
    (fits-phase _ _ _ (slot-fits c.self.inside c.self.invariant.0 c.args.client c.requires))
