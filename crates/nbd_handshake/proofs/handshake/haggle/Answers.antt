use Rattle.std.proofs.Common.{rules, ◌≡◌, ◌∙◌, Ok, Err, refl}
use Rattle.outside_io.proofs.lemmas.Known.{Consumes-none}
use Rattle.nbd_handshake.specs.declared.turn.Turn.TheVariants as turns
use Rattle.nbd_handshake.specs.Steps.{HasStepped, IsNear}
use Rattle.nbd_handshake.proofs.Going.{begun, goes_on, agreed, departed, failed}
use Rattle.nbd_handshake.proofs.handshake.haggle.Goals as goal

pub loop-count-init : goal.loop-count-init
loop-count-init g c = record {
  gone = begun c.args.export.now c.args.short (g.S.Source.left c.args.source.now) (g.K.Sink.taken c.args.sink.now) (Consumes-none (g.S.Source.left c.args.source.now));
  reads = refl;
  writes = refl;
  flushed = λ h. h;
}

pub loop-count-preserved : goal.loop-count-preserved
loop-count-preserved g c =
    let inv = c.loop-count.invariant in
    let calls = c.in_ok-len.ensures in
    let step : HasStepped c.args.export.now c.args.short c.loop-count.place (g.S.Source.left c.loop-count.source) (g.S.Source.left c.take_turn.new.source) (g.K.Sink.taken c.loop-count.sink) (g.K.Sink.taken c.take_turn.new.sink) (Ok (turns.More c.in-More.len)) = rw c.in-More.is at calls.step in
    let near : IsNear (turns.More c.in-More.len) = rw c.in-More.is at calls.near in
    record {
      gone = goes_on c.args.export.now c.args.short c.loop-count._count c.loop-count.place (g.S.Source.left c.args.source.now) (g.S.Source.left c.loop-count.source) (g.S.Source.left c.take_turn.new.source) (g.K.Sink.taken c.args.sink.now) (g.K.Sink.taken c.loop-count.sink) (g.K.Sink.taken c.take_turn.new.sink) inv.gone c.in-More.len near step;
      reads = calls.calm_source (λ e. cc) ∙ inv.reads;
      writes = calls.calm_sink (λ e. cc) ∙ inv.writes;
      flushed = λ h. calls.flushed (λ e. cc) (inv.flushed h);
    }

pub returns-in_err-len-clause-haggle : goal.returns-in_err-len-clause-haggle
returns-in_err-len-clause-haggle g c =
    let x = c.in_err-len.field-0.0 in
    let is : c.from_residual.result ≡ Err x = first_of (search rules, cc) in
    rw is (failed c.args.export.now c.args.short c.loop-count._count c.loop-count.place (g.S.Source.left c.args.source.now) (g.S.Source.left c.loop-count.source) (g.S.Source.left c.take_turn.new.source) (g.K.Sink.taken c.args.sink.now) (g.K.Sink.taken c.loop-count.sink) (g.K.Sink.taken c.take_turn.new.sink) c.loop-count.invariant.gone c.loop-count-test.true x c.in_err-len.ensures.step)

pub returns-in-Transmit-clause-haggle : goal.returns-in-Transmit-clause-haggle
returns-in-Transmit-clause-haggle g c =
    let step : HasStepped c.args.export.now c.args.short c.loop-count.place (g.S.Source.left c.loop-count.source) (g.S.Source.left c.take_turn.new.source) (g.K.Sink.taken c.loop-count.sink) (g.K.Sink.taken c.take_turn.new.sink) (Ok turns.Transmit) = rw c.in-Transmit.is at c.in_ok-len.ensures.step in
    agreed c.args.export.now c.args.short c.loop-count._count c.loop-count.place (g.S.Source.left c.args.source.now) (g.S.Source.left c.loop-count.source) (g.S.Source.left c.take_turn.new.source) (g.K.Sink.taken c.args.sink.now) (g.K.Sink.taken c.loop-count.sink) (g.K.Sink.taken c.take_turn.new.sink) c.loop-count.invariant.gone c.loop-count-test.true step

pub returns-in-Leave-clause-haggle : goal.returns-in-Leave-clause-haggle
returns-in-Leave-clause-haggle g c =
    let step : HasStepped c.args.export.now c.args.short c.loop-count.place (g.S.Source.left c.loop-count.source) (g.S.Source.left c.take_turn.new.source) (g.K.Sink.taken c.loop-count.sink) (g.K.Sink.taken c.take_turn.new.sink) (Ok turns.Leave) = rw c.in-Leave.is at c.in_ok-len.ensures.step in
    departed c.args.export.now c.args.short c.loop-count._count c.loop-count.place (g.S.Source.left c.args.source.now) (g.S.Source.left c.loop-count.source) (g.S.Source.left c.take_turn.new.source) (g.K.Sink.taken c.args.sink.now) (g.K.Sink.taken c.loop-count.sink) (g.K.Sink.taken c.take_turn.new.sink) c.loop-count.invariant.gone c.loop-count-test.true step
