use Rattle.std.proofs.Common.{◌≡◌, ap, subst, ◌∙◌}
use Rattle.std.specs.Prelude.{IfOk}
use Rattle.client_desks.specs.Desks.{DeskView, asks_of}
use Rattle.client_desks.proofs.lemmas.Desking.{asks_at, asks_some, asks_to}
use Rattle.client_desks.proofs.desk.Desk.asks.Goals as goal

pub returns-clause-asked : goal.returns-clause-asked
returns-clause-asked c =
    let was = c.self.inside in
    let same = asks_at was.config was.id was.entries.items was.client c.args.node c.self.invariant.left ∙ ap (λ (d : DeskView). asks_of d c.args.node) c.self.view_is in
    subst (λ asked. IfOk c.outstanding.result (λ ask. ask ≡ asked)) same c.outstanding.ensures

pub returns-clause-to : goal.returns-clause-to
returns-clause-to c = asks_to c.outstanding.result c.args.self.now c.args.node (returns-clause-asked c)

pub returns-clause-some : goal.returns-clause-some
returns-clause-some c = λ can. asks_some c.outstanding.result (asks_of c.args.self.now c.args.node) (returns-clause-asked c) can.asks
