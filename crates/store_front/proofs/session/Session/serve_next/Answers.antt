use Rattle.std.proofs.Common.{rules, ◌≡◌, ◌∙◌, ◌+◌, Ok, Err, ap, subst}
use Rattle.quorum_rules.specs.Limits.{Numbers}
use Rattle.store_front.specs.declared.waiting.Came.{Came}
use Rattle.store_front.specs.Refusals.{IsRefused, RefusesWrite}
use Rattle.store_front.specs.Sessions.{EndsWait, told_place}
use Rattle.store_front.proofs.RefusedWrites.{refused, not_refused}
use Rattle.store_front.proofs.session.Session.serve_next.Goals as goal

pub returns-in_err-refuse-in-Refused-clause-turn : goal.returns-in_err-refuse-in-Refused-clause-turn
returns-in_err-refuse-in-Refused-clause-turn g c =
    let x = c.in_err-refuse-in-Refused.field-0.0 in
    let result : c.from_residual-in_err-refuse-in-Refused.result ≡ Err x = first_of (search rules, cc) in
    let r = c.in-Refused.request in
    let place = c.args.self.now.place in
    let read = c.wait.new.self.input in
    let mid = g.S.Source.left c.wait.new.source in
    let left = g.S.Source.left c.refuse.new.source in
    let taken = g.K.Sink.taken c.args.sink.now in
    let took = g.K.Sink.taken c.refuse.new.sink in
    let config = c.args.store.now.config in
    let waited = subst (λ (z : Came). EndsWait c.config.result.now (Ok z) place c.args.self.now.input read (g.S.Source.left c.args.source.now) mid) c.in-Refused.is c.in_ok-wait.ensures.waited in
    let is = subst (λ (k : Numbers). IsRefused k read r) c.config.ensures waited.1 in
    let there = subst (λ p. RefusesWrite c.config-in-Refused.result.now r p read mid left taken took (Err x)) c.wait.ensures.place c.in_err-refuse-in-Refused.ensures.refused in
    let refuses = subst (λ (k : Numbers). RefusesWrite k r place read mid left taken took (Err x)) c.config-in-Refused.ensures there in
    rw result (not_refused g.D.Disk.pending g.D.Disk.seen g.D.Disk.most g.D.Disk.moment g.D.Disk.left_since config c.args.self.now read r is c.args.store.now (g.S.Source.left c.args.source.now) mid left taken took waited.0 c.refuse.new.self x refuses)

pub returns-in_ok-refuse-in-Refused-clause-turn : goal.returns-in_ok-refuse-in-Refused-clause-turn
returns-in_ok-refuse-in-Refused-clause-turn g c =
    let len = c.in_ok-refuse-in-Refused.field-0 in
    let e = c.in_ok-refuse-in-Refused.ensures in
    let r = c.in-Refused.request in
    let place = c.args.self.now.place in
    let read = c.wait.new.self.input in
    let mid = g.S.Source.left c.wait.new.source in
    let left = g.S.Source.left c.refuse.new.source in
    let taken = g.K.Sink.taken c.args.sink.now in
    let took = g.K.Sink.taken c.refuse.new.sink in
    let config = c.args.store.now.config in
    let waited = subst (λ (z : Came). EndsWait c.config.result.now (Ok z) place c.args.self.now.input read (g.S.Source.left c.args.source.now) mid) c.in-Refused.is c.in_ok-wait.ensures.waited in
    let is = subst (λ (k : Numbers). IsRefused k read r) c.config.ensures waited.1 in
    let there = subst (λ p. RefusesWrite c.config-in-Refused.result.now r p read mid left taken took (Ok len)) c.wait.ensures.place c.in_ok-refuse-in-Refused.ensures.refused in
    let refuses = subst (λ (k : Numbers). RefusesWrite k r place read mid left taken took (Ok len)) c.config-in-Refused.ensures there in
    refused g.D.Disk.pending g.D.Disk.seen g.D.Disk.most g.D.Disk.moment g.D.Disk.left_since config c.args.self.now read r is c.args.store.now (g.S.Source.left c.args.source.now) mid left taken took waited.0 c.refuse.new.self len refuses e.served (e.place ∙ ap (λ p. told_place (p + len)) c.wait.ensures.place)
