use Rattle.pasis_shell.specs.Calls.{call_of}
use Rattle.pasis_shell.proofs.Sessions.{serves, session_faults}
use Rattle.pasis_shell.proofs.session.serve_device.Goals as goal

pub returns-clause-does : goal.returns-clause-does
returns-clause-does g c =
    let call = call_of g.S.Source g.K.Sink c.args.source.now c.serve.new.source c.args.sink.now c.serve.new.sink in
    let done = c.serve.ensures in
    serves c.args.config.now call c.of_session.result c.serve.result c.of_session.ensures.done c.of_session.ensures.end done.done done.ended done.flushed done.complete

pub returns-clause-faults : goal.returns-clause-faults
returns-clause-faults g c =
    let call = call_of g.S.Source g.K.Sink c.args.source.now c.serve.new.source c.args.sink.now c.serve.new.sink in
    let done = c.serve.ensures in
    session_faults c.args.config.now call c.of_session.result c.serve.result c.of_session.ensures.done c.of_session.ensures.end done.read_fault done.write_fault done.calm_source done.calm_sink
