use Rattle.std.proofs.Common.{◌∙◌, sym, ap}
use Rattle.protocol.specs.Seen.{SeenOperation}
use Rattle.operation_core.specs.Counting.{counts_in, ends_in}
use Rattle.operation_core.proofs.lemmas.PhaseEnds.{hears_one}
use Rattle.client_core.specs.Clients.{operation_of}
use Rattle.client_core.proofs.client.Client.step_by.Goals as goal

pub returns : goal.returns
returns c =
    let o = operation_of c.args.self.now in
    let a = c.args in
    let same = c.in-Some.ensures in
    let counts = ap (λ (x : SeenOperation). counts_in x a.node a.tag a.reply.now) (sym same) ∙ sym c.counts.ensures ∙ c.if-not-counts.false in
    let ends = ap (λ (x : SeenOperation). ends_in x a.node a.tag a.reply.now) (sym same) ∙ sym c.ends_phase.ensures ∙ c.if-ends_phase.false in
    let one = hears_one o a.node a.tag a.reply.now counts ends in
    (one.0, one.1, rw c.in_ok-reply.ensures one.1)
