use Rattle.std.proofs.Common.{Vec, sym, subst, All}
use Rattle.batch_clients.specs.declared.run.Run.{Run}
use Rattle.batch_clients.specs.Parts.{IsRun}
use Rattle.batch_clients.proofs.batch.Batch.hear.Goals as goal

pub invariant_of-self-2 : goal.invariant_of-self-2
invariant_of-self-2 g c =
    let config = c.self.inside.config in
    let phases = c.self.inside.phases in
    c.in_ok-runs.ensures.are_runs phases (subst (λ (v : Vec Run _). All (IsRun config phases) v.items) (sym c.replace-runs.ensures.value) c.self.invariant)
