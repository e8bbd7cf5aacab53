-- What a thread is to do may go to it.
use denote.Param.Send.{sendable}
use Rattle.client_duties.proofs.lemmas.Sending.{work_send}
use Rattle.node_workers.proofs.run.fn.run_workers.phase.Goals as goal

pub run_mail_phase-requires-send-T : goal.run_mail_phase-requires-send-T
run_mail_phase-requires-send-T g c κs within = search (sendable, work_send) depth 40
