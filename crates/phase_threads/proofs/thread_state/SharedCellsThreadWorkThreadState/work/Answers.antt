use Rattle.std.proofs.Common.{sym, subst}
use Rattle.phase_threads.specs.declared.thread_state.ThreadState.{ThreadState}
use Rattle.phase_threads.specs.declared.thread_state.ThreadState.TheVariants.{Client}
use Rattle.phase_threads.specs.ThreadStates.{HasDone, DidWork}
use Rattle.phase_threads.proofs.thread_state.SharedCellsThreadWorkThreadState.work.Goals as goal

pub returns-in-Client : goal.returns-in-Client
returns-in-Client g c =
    let after = c.work.new.endpoint in
    let left = c.work.new.self in
    let is : HasDone g.T.Duty.done c.in-Client.endpoint c.in-Client.duty after left = record { goes = record { later = c.work.ensures.later; stays = c.work.ensures.stays }; done = c.work.ensures.done } in
    subst (λ (p : ThreadState g.row.T.Denot). DidWork g.T.Duty.done p (Client after left)) (sym c.in-Client.is) is
