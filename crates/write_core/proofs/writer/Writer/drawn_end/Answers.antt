use Rattle.std.proofs.Common.{◌≡◌, ◌∙◌, ap, subst}
use Rattle.quorum_rules.specs.Limits.{Numbers}
use Rattle.protocol.specs.Seen.{SeenOperation}
use Rattle.write_core.specs.Writers.{IsWriter}
use Rattle.write_core.proofs.Drawing.{spent, begun}
use Rattle.write_core.proofs.writer.Writer.drawn_end.Goals as goal

pub returns-then-time : goal.returns-then-time
returns-then-time c =
    let o = c.args.self.now in
    let v : c.self.inside.operation ≡ o = c.self.view_is in
    let w = subst IsWriter v c.self.invariant.writer in
    let answers = rw (v, ← c.as_slice.ensures.value) at c.in_ok-answers.ensures.answers in
    let places = rw (v, ← c.as_slice.ensures.value) at c.in_ok-answers.ensures.places in
    let lying : c.b.result ≡ o.config.b = c.b.ensures.is ∙ ap (λ (n : Numbers). n.b) c.config.ensures ∙ ap (λ (x : SeenOperation). x.config.b) v in
    spent o w c.args.node c.args.tag c.args.reply.now c.requires.ends c.requires.asks c.as_slice.result.now answers places c.b.result lying c.drawn-time.result c.drawn-time.ensures c.if-time.true

pub returns : goal.returns
returns c =
    let o = c.args.self.now in
    let v : c.self.inside.operation ≡ o = c.self.view_is in
    let w = subst IsWriter v c.self.invariant.writer in
    let answers = rw (v, ← c.as_slice.ensures.value) at c.in_ok-answers.ensures.answers in
    let places = rw (v, ← c.as_slice.ensures.value) at c.in_ok-answers.ensures.places in
    let lying : c.b.result ≡ o.config.b = c.b.ensures.is ∙ ap (λ (n : Numbers). n.b) c.config.ensures ∙ ap (λ (x : SeenOperation). x.config.b) v in
    let mail = rw v at c.in_ok-mail.ensures in
    begun o w c.args.node c.args.tag c.args.reply.now c.requires.ends c.requires.asks c.as_slice.result.now answers places c.b.result lying c.drawn-time.result c.drawn-time.ensures c.if-time.false
    c.in_ok-storing_under.field-0 c.in_ok-storing_under.ensures.stored c.in_ok-storing_under.ensures.encoded c.in_ok-mail.mail mail
