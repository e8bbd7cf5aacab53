use Rattle.std.proofs.Common.{rules, ◌≡◌, ◌*◌, Ok, Err, subst, sym, replicate}
use Rattle.std.proofs.lemmas.Grind.{common_steps}
use Rattle.std.proofs.Common.{arith}
use Rattle.outside_io.specs.Causes.{Rose}
use Rattle.outside_io.specs.Written.{Adds, TakesPrefix}
use Rattle.outside_io.proofs.lemmas.Known.{Consumes-none}
use Rattle.quorum_rules.specs.Limits.{Numbers}
use Rattle.nbd_front.specs.Replies.{greeting}
use Rattle.nbd_front.specs.declared.ending.Served.TheVariants.{Over}
use Rattle.nbd_front.specs.declared.ending.SessionEnd.TheVariants.{NoMemory, WriteFault}
use Rattle.nbd_front.specs.Sessions.{EndsSo}
use Rattle.nbd_front.proofs.Runs.{not_greeted, not_made}
use Rattle.nbd_front.proofs.Stepping.{greeted, ended_over, ended_so}
use Rattle.nbd_front.proofs.session.serve.Goals as goal

pub returns-in_err-server-clause-ended : goal.returns-in_err-server-clause-ended
returns-in_err-server-clause-ended g c =
    let is : c.from_residual.result ≡ Err NoMemory = first_of (search rules, grind (arith, common_steps), cc) in
    rw is (not_made _ _ _ _ (Consumes-none (g.S.Source.left c.args.source.now)))

pub returns-in_err-greet-clause-ended : goal.returns-in_err-greet-clause-ended
returns-in_err-greet-clause-ended g c =
    let x = c.in_err-greet.field-0.0 in
    let is : c.from_residual-in_err-greet.result ≡ Err x = first_of (search rules, cc) in
    let written : c.from_residual-in_err-greet.result ≡ Err WriteFault = first_of (search rules, cc) in
    let prefix = subst (λ (k : Numbers). TakesPrefix (g.K.Sink.taken c.args.sink.now) (g.K.Sink.taken c.greet.new.sink) (greeting (k.size * k.blocks))) c.in_ok-server.ensures.config c.in_err-greet.ensures.prefix in
    rw written (not_greeted _ _ _ _ _ (Consumes-none (g.S.Source.left c.args.source.now)) prefix)

pub returns-in-Ok-clause-done : goal.returns-in-Ok-clause-done
returns-in-Ok-clause-done g c =
    let s = c.in_ok-server.server in
    let made = c.in_ok-server.ensures in
    let size = c.args.config.now.size * c.args.config.now.blocks in
    let adds = subst (λ (k : Numbers). Adds (g.K.Sink.taken c.args.sink.now) (g.K.Sink.taken c.greet.new.sink) (greeting (k.size * k.blocks))) made.config c.in_ok-greet.ensures.whole in
    greeted (greeting size) (replicate size 0) s (Ok Over) _ _ _ _ _ made.zeros made.fresh.0 made.fresh.1 adds c.in-Ok.ensures.session

pub returns-clause-ended : goal.returns-clause-ended
returns-clause-ended g c =
    let s = c.in_ok-server.server in
    let made = c.in_ok-server.ensures in
    let size = c.args.config.now.size * c.args.config.now.blocks in
    let adds = subst (λ (k : Numbers). Adds (g.K.Sink.taken c.args.sink.now) (g.K.Sink.taken c.greet.new.sink) (greeting (k.size * k.blocks))) made.config c.in_ok-greet.ensures.whole in
    greeted (greeting size) (replicate size 0) s (Err c.in-Err.stopped.end) _ _ _ _ _ made.zeros made.fresh.0 made.fresh.1 adds c.in-Err.ensures.session

pub returns-in-Ok-clause-complete : goal.returns-in-Ok-clause-complete
returns-in-Ok-clause-complete g c input end told so no_read no_write =
    let made = c.in_ok-server.ensures in
    let served = subst (λ n. EndsSo end n 0 input) (sym made.fresh.0) so in
    let placed = subst (λ n. EndsSo end c.in_ok-server.server.served n input) (sym made.fresh.1) served in
    ended_over end (c.in-Ok.ensures.complete input end told placed no_read (λ rose. no_write (subst (λ n. Rose g.K.Sink.last n (g.K.Sink.faults c.serve.new.sink)) c.in_ok-greet.ensures.calm rose)))

pub returns-clause-complete : goal.returns-clause-complete
returns-clause-complete g c input end told so no_read no_write =
    let made = c.in_ok-server.ensures in
    let served = subst (λ n. EndsSo end n 0 input) (sym made.fresh.0) so in
    let placed = subst (λ n. EndsSo end c.in_ok-server.server.served n input) (sym made.fresh.1) served in
    ended_so end c.in-Err.stopped.end (c.in-Err.ensures.complete input end told placed no_read (λ rose. no_write (subst (λ n. Rose g.K.Sink.last n (g.K.Sink.faults c.serve.new.sink)) c.in_ok-greet.ensures.calm rose)))
