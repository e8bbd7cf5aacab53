-- What a thread is to do may go to it.
use denote.Param.Send.{sendable}
use Rattle.client_duties.proofs.lemmas.Sending.{work_send}
use Rattle.client_threads.proofs.run.fn.run_plan.phase.Goals as goal

pub run_phase-requires-send-T : goal.run_phase-requires-send-T
run_phase-requires-send-T g c κs within = search (sendable, work_send) depth 40
