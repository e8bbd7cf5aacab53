use Rattle.std.proofs.Common.{sym, ap, subst, ◌∙◌}
use Rattle.wire_forms.specs.Ops.{Fits}
use Rattle.operation_core.specs.Clients.{ClientView, started}
use Rattle.batch_clients.specs.Parts.{lists_of}
use Rattle.batch_clients.proofs.Adding.{added_first}
use Rattle.batch_clients.proofs.batch.begin_one.Goals as goal

pub start-requires-clause-fits : goal.start-requires-clause-fits
start-requires-clause-fits c = c.of_bytes.ensures.value c.sibling-client.result.config (subst (λ (x : ClientView). Fits x.config c.args.op.now) (sym c.sibling-client.ensures) c.requires.fits)

pub deal-requires : goal.deal-requires
deal-requires c = record {
  count = (c.sibling-client.result, started c.sibling-client.result c.args.op.now, c.in_ok-mail.ensures.mail, c.requires.nodes ∙ sym (ap (λ (x : ClientView). x.config.n) c.sibling-client.ensures));
}

pub returns : goal.returns
returns c =
    let client = c.sibling-client.result in
    let op = c.args.op.now in
    added_first c.args.idle.now.config c.args.id op c.args.runs.now.items c.push.new.self.items (lists_of c.args.asks.now.items) (lists_of c.deal.new.asks.items) client c.start.new.self c.sibling-client.ensures c.in_ok-mail.ensures.ok
    (c.in_ok-deal.ensures client (started client op) c.in_ok-mail.ensures.mail (c.requires.nodes ∙ sym (ap (λ (x : ClientView). x.config.n) c.sibling-client.ensures)))
    c.in_ok-push.ensures.items
