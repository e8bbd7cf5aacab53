use Rattle.std.proofs.Common.{rules, ◌≡◌, ◌≢◌, ◌∙◌, Ok, Err, Some, ap, sym, subst, ℕ, []}
use Rattle.outside_io.specs.Causes.{Rose}
use Rattle.nbd_front.specs.declared.ending.Served.TheVariants.{Next, Over}
use Rattle.nbd_front.specs.Servers.{HasStepped}
use Rattle.nbd_front.proofs.Stepping.{next_gone, finished, step_ended}
use Rattle.nbd_front.proofs.Completing.{completes}
use Rattle.nbd_front.specs.Outcomes.{closing}
use Rattle.nbd_front.proofs.server.Server.serve.Goals as goal

pub returns-in_err-next-clause-session : goal.returns-in_err-next-clause-session
returns-in_err-next-clause-session g c =
    let x = c.in_err-next.field-0.0 in
    let is : c.from_residual.result ≡ Err x = first_of (search rules, cc) in
    let calls = c.in_err-next.ensures in
    rw is (step_ended c.args.self c.loop-next.server c.loop-next.server _ _ _ _ _ _ c.loop-next.invariant.gone x.end x.server (λ n. ap g.K.Sink.taken (calls.unwritten (λ e. cc) (λ e. n cc))) calls.step)

pub returns-in_err-next-clause-write_fault : goal.returns-in_err-next-clause-write_fault
returns-in_err-next-clause-write_fault g c e =
    let x = c.in_err-next.field-0.0 in
    let is : c.from_residual.result ≡ Err x = first_of (search rules, cc) in
    let write_at = λ (n : ℕ). Rose g.K.Sink.last n (g.K.Sink.faults c.serve_one.new.sink) in
    subst write_at c.loop-next.invariant.writes (c.in_err-next.ensures.write_fault (sym (ap closing is) ∙ e))

pub loop-next-preserved : goal.loop-next-preserved
loop-next-preserved g c =
    let calls = c.in_ok-next.ensures in
    let inv = c.loop-next.invariant in
    let step : HasStepped c.loop-next.server (Some c.in_ok-next.field-0.0) (g.S.Source.left c.loop-next.source) (g.S.Source.left c.serve_one.new.source) (g.K.Sink.taken c.loop-next.sink) (g.K.Sink.taken c.serve_one.new.sink) (Ok Next) = rw c.in_default-Next.is-1 at calls.step in
    record {
      gone = next_gone c.args.self c.loop-next.server c.in_ok-next.field-0.0 _ _ _ _ _ _ inv.gone step;
      reads = calls.calm_source (λ e. cc) ∙ inv.reads;
      writes = calls.calm_sink (λ e. cc) ∙ inv.writes;
      flushed = λ h. calls.flushed (ap Ok c.in_default-Next.is-1);
    }

pub returns-in_default-Over-clause-session : goal.returns-in_default-Over-clause-session
returns-in_default-Over-clause-session g c =
    let calls = c.in_ok-next.ensures in
    let step : HasStepped c.loop-next.server (Some c.in_ok-next.field-0.0) (g.S.Source.left c.loop-next.source) (g.S.Source.left c.serve_one.new.source) (g.K.Sink.taken c.loop-next.sink) (g.K.Sink.taken c.serve_one.new.sink) (Ok Over) = rw c.in_default-Over.is-1 at calls.step in
    let other : Over ≢ Next = λ e. cc in
    let same = calls.unwritten (λ e. other cc) (λ e. cc) in
    finished c.args.self c.loop-next.server c.loop-next.server _ _ _ _ _ _ c.loop-next.invariant.gone (Ok Over) (λ e. cc) (λ e. cc) (ap g.K.Sink.taken same) step.0

pub returns-in_err-next-clause-complete : goal.returns-in_err-next-clause-complete
returns-in_err-next-clause-complete g c input end told so no_read no_write =
    let x = c.in_err-next.field-0.0 in
    let calls = c.in_err-next.ensures in
    let inv = c.loop-next.invariant in
    let is : c.from_residual.result ≡ Err x = first_of (search rules, cc) in
    let ended = step_ended c.args.self c.loop-next.server c.loop-next.server _ _ _ _ _ _ inv.gone x.end x.server (λ n. ap g.K.Sink.taken (calls.unwritten (λ e. cc) (λ e. n cc))) calls.step in
    let read_at = λ (n : ℕ). Rose g.S.Source.last n (g.S.Source.faults c.serve_one.new.source) in
    let write_at = λ (n : ℕ). Rose g.K.Sink.last n (g.K.Sink.faults c.serve_one.new.sink) in
    rw is (completes [] _ _ _ input _ _ _ _ told end so (Err x.end) ended (λ e. no_read (subst read_at inv.reads (calls.read_fault e))) (λ e. no_write (subst write_at inv.writes (calls.write_fault e))))

pub returns-in_default-Over-clause-complete : goal.returns-in_default-Over-clause-complete
returns-in_default-Over-clause-complete g c input end told so no_read no_write =
    let calls = c.in_ok-next.ensures in
    let step : HasStepped c.loop-next.server (Some c.in_ok-next.field-0.0) (g.S.Source.left c.loop-next.source) (g.S.Source.left c.serve_one.new.source) (g.K.Sink.taken c.loop-next.sink) (g.K.Sink.taken c.serve_one.new.sink) (Ok Over) = rw c.in_default-Over.is-1 at calls.step in
    let other : Over ≢ Next = λ e. cc in
    let same = calls.unwritten (λ e. other cc) (λ e. cc) in
    let done = finished c.args.self c.loop-next.server c.loop-next.server _ _ _ _ _ _ c.loop-next.invariant.gone (Ok Over) (λ e. cc) (λ e. cc) (ap g.K.Sink.taken same) step.0 in
    completes [] _ _ _ input _ _ _ _ told end so (Ok Over) done (λ e. cc) (λ e. cc)
