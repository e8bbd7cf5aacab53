use Rattle.std.proofs.Common.{rules, ◌≡◌, ◌∙◌, ℕ, List, Ok, Err, ap, sym, refl, subst}
use Rattle.std.specs.Prelude.{IsErrOf}
use Rattle.std.specs.Io.KnownBytes.{Consumes}
use Rattle.outside_io.specs.Causes.{Rose}
use Rattle.nbd_handshake.specs.declared.ending.HandshakeFault.TheVariants.{ReadFault, WriteFault}
use Rattle.nbd_handshake.specs.Options.{flags_of, leaves_zeros_out}
use Rattle.nbd_handshake.specs.Handshakes.{End, AreFlags}
use Rattle.nbd_handshake.proofs.Opening.{nobody_came, not_flagged, not_greeted, no_write, flagged}
use Rattle.nbd_handshake.proofs.OneEnd.{completes}
use Rattle.nbd_handshake.proofs.handshake.shake_hands.Goals as goal

pub returns-in_err-send-clause-handshake : goal.returns-in_err-send-clause-handshake
returns-in_err-send-clause-handshake g c =
    let is : c.from_residual.result ≡ Err WriteFault = first_of (search rules, cc) in
    rw is (not_greeted c.args.export.now (g.S.Source.left c.args.source.now) (g.K.Sink.taken c.args.sink.now) (g.K.Sink.taken c.send.new.sink) c.in_err-send.ensures.prefix)

pub returns-in_err-short-clause-handshake : goal.returns-in_err-short-clause-handshake
returns-in_err-short-clause-handshake g c =
    let x = c.in_err-short.field-0.0 in
    let is : c.from_residual-in_err-short.result ≡ Err x = first_of (search rules, cc) in
    rw is (not_flagged c.args.export.now (g.S.Source.left c.args.source.now) (g.S.Source.left c.read_flags.new.source) (g.K.Sink.taken c.args.sink.now) (g.K.Sink.taken c.send.new.sink) c.in_ok-send.ensures.whole x c.in_err-short.ensures.failed)

pub returns-in_err-short-clause-complete : goal.returns-in_err-short-clause-complete
returns-in_err-short-clause-complete g c input end told so no_read no_sink =
    let x = c.in_err-short.field-0.0 in
    let is : c.from_residual-in_err-short.result ≡ Err x = first_of (search rules, cc) in
    let h = not_flagged c.args.export.now (g.S.Source.left c.args.source.now) (g.S.Source.left c.read_flags.new.source) (g.K.Sink.taken c.args.sink.now) (g.K.Sink.taken c.send.new.sink) c.in_ok-send.ensures.whole x c.in_err-short.ensures.failed in
    is ∙ completes c.args.export.now input (g.S.Source.left c.args.source.now) (g.S.Source.left c.read_flags.new.source) (g.K.Sink.taken c.args.sink.now) (g.K.Sink.taken c.send.new.sink) told end so (Err x) h
    (λ e. no_read (c.in_err-short.ensures.fault cc)) (λ e. no_write x (g.S.Source.left c.args.source.now) (g.S.Source.left c.read_flags.new.source) (cc) c.in_err-short.ensures.failed)

pub returns-in-Some-clause-handshake : goal.returns-in-Some-clause-handshake
returns-in-Some-clause-handshake g c =
    let short = c.in-Some.short in
    let f : (flags : List ℕ) × Consumes (g.S.Source.left c.args.source.now) (g.S.Source.left c.read_flags.new.source) flags × AreFlags flags × (short ≡ leaves_zeros_out (flags_of flags)) = rw c.in-Some.is at c.in_ok-short.ensures.some in
    flagged c.args.export.now short (g.S.Source.left c.args.source.now) (g.S.Source.left c.read_flags.new.source) (g.S.Source.left c.haggle.new.source) (g.K.Sink.taken c.args.sink.now) (g.K.Sink.taken c.send.new.sink) (g.K.Sink.taken c.haggle.new.sink) c.in_ok-send.ensures.whole f.0 f.1 f.2 f.3 c.haggle.result c.haggle.ensures.haggle

pub returns-in-Some-clause-complete : goal.returns-in-Some-clause-complete
returns-in-Some-clause-complete g c input end told so no_read no_sink =
    let short = c.in-Some.short in
    let f : (flags : List ℕ) × Consumes (g.S.Source.left c.args.source.now) (g.S.Source.left c.read_flags.new.source) flags × AreFlags flags × (short ≡ leaves_zeros_out (flags_of flags)) = rw c.in-Some.is at c.in_ok-short.ensures.some in
    let h = flagged c.args.export.now short (g.S.Source.left c.args.source.now) (g.S.Source.left c.read_flags.new.source) (g.S.Source.left c.haggle.new.source) (g.K.Sink.taken c.args.sink.now) (g.K.Sink.taken c.send.new.sink) (g.K.Sink.taken c.haggle.new.sink) c.in_ok-send.ensures.whole f.0 f.1 f.2 f.3 c.haggle.result c.haggle.ensures.haggle in
    let read_at = λ (n : ℕ). Rose g.S.Source.last n (g.S.Source.faults c.haggle.new.source) in
    let write_at = λ (n : ℕ). Rose g.K.Sink.last n (g.K.Sink.faults c.haggle.new.sink) in
    completes c.args.export.now input (g.S.Source.left c.args.source.now) (g.S.Source.left c.haggle.new.source) (g.K.Sink.taken c.args.sink.now) (g.K.Sink.taken c.haggle.new.sink) told end so c.haggle.result h
    (λ e. no_read (subst read_at (c.in_ok-short.ensures.calm (λ k. cc)) (c.haggle.ensures.read_fault (subst (λ (r : End). IsErrOf r ReadFault) (sym e) refl))))
    (λ e. no_sink (subst write_at c.in_ok-send.ensures.calm (c.haggle.ensures.write_fault (subst (λ (r : End). IsErrOf r WriteFault) (sym e) refl))))

pub returns-in-None-clause-handshake : goal.returns-in-None-clause-handshake
returns-in-None-clause-handshake g c =
    let gone = c.in_ok-short.ensures.none (ap Ok c.in-None.is) in
    nobody_came c.args.export.now (g.S.Source.left c.args.source.now) (g.S.Source.left c.read_flags.new.source) (g.K.Sink.taken c.args.sink.now) (g.K.Sink.taken c.send.new.sink) c.in_ok-send.ensures.whole gone.0 gone.1
