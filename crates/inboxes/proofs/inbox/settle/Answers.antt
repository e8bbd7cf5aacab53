use Rattle.std.proofs.Common.{◌≡◌, All, rules}
use Rattle.std.proofs.lemmas.List.Elements.{All-weaker}
use Rattle.inboxes.specs.Sides.{Putting, IsSettled, took, items_from}
use Rattle.inboxes.proofs.TakenInOrder.{settled_items}
use Rattle.inboxes.proofs.inbox.settle.Goals as goal

pub returns-clause-items : goal.returns-clause-items
returns-clause-items g c =
    let t = c.args.taker.now in
    let settled : All (IsSettled t) c.args.sents = search rules in
    let Q : Putting g.row.T.Denot g.row.T-Place.Denot → Type 0 = λ s. items_from s.number (took t) ≡ s.put in
    All-weaker (IsSettled t) Q (settled_items t) c.args.sents settled
