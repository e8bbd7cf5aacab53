use Rattle.std.proofs.Common.{Err, ap, refl}
use Rattle.pasis_shell.specs.Calls.{call_of}
use Rattle.pasis_shell.proofs.Doing.{unread_faults, unread_does, made_faults, made_does}
use Rattle.pasis_shell.proofs.top.in_threads.Goals as goal

pub returns-in-Ok-clause-does : goal.returns-in-Ok-clause-does
returns-in-Ok-clause-does g c =
    let call = call_of g.S.Source g.K.Sink c.args.source.now c.input_of.new.source c.args.sink.now c.written.new.sink in
    let made = c.text_in_threads in
    let done = c.written.ensures in
    let faults = made_faults c.args.command call c.written.result made.result done.written (c.in-Ok.ensures.calm (λ e. cc)) done.fault done.calm in
    made_does c.args.command call c.written.result made.result done.written c.in-Ok.input c.in-Ok.ensures.given made.ensures.text made.ensures.refused done.untouched c.in-Ok.ensures.most faults

pub returns-in-Err-clause-does : goal.returns-in-Err-clause-does
returns-in-Err-clause-does g c =
    let call = call_of g.S.Source g.K.Sink c.args.source.now c.input_of.new.source c.args.sink.now c.args.sink.now in
    let status = c.in-Err.status in
    let own = c.in-Err.ensures in
    let faults = unread_faults c.args.command call status own.stops refl (λ e. own.read_fault (ap Err e)) (λ no. own.calm (λ e. no cc)) in
    unread_does c.args.command call status own.stops refl own.most faults
