use Rattle.std.proofs.Common.{◌≤◌, ◌+◌, ◌∙◌, ap, replicate, None}
use Rattle.operation_core.proofs.Keeping.{no_answer, rounds_few}
use Rattle.operation_core.proofs.operation.Operation.go_on.Goals as goal

pub invariant_of-self : goal.invariant_of-self
invariant_of-self c =
    let i = c.self.inside in
    let none = c.clear.ensures ∙ ap (λ k. replicate k None) c.self.invariant.places in
    let few : c.rounds_after-self-inside.result ≤ i.phase + 1 = rw c.rounds_after-self-inside.ensures (rounds_few c.args.stage i.rounds i.phase c.self.invariant.few) in
    let fits = rw (← c.self.view_is) at c.requires.may.fits in
    no_answer i.config (i.phase + 1) c.rounds_after-self-inside.result c.args.stage c.self.invariant.valid few fits c.clear.new.answers.items none
