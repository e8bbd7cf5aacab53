-- Lemmas of `Places` and `Sending`.
use denote.Param.Send.{sendable}
use Rattle.std.proofs.Common.{◌≡◌, ℕ, length, sym, subst, ◌∙◌, All}
use Rattle.phase_threads.specs.declared.thread_state.ThreadState.{ThreadState}
use Rattle.phase_threads.specs.ThreadStates.{CanWork, DidWork}
use Rattle.thread_work.specs.Pairwise.{Beside}
use Rattle.thread_work.proofs.lemmas.Places.{written_back, made_beside}
use Rattle.client_endpoints.proofs.lemmas.Sending.{shared_cells_sync}
use Rattle.phase_threads.proofs.lemmas.Sending.{state_send}
use Rattle.phase_threads.proofs.thread_state.work_all.Goals as goal

pub each-requires-send-P : goal.each-requires-send-P
each-requires-send-P g c κs within = let s = c.type_bounds.send-T in search (sendable, state_send) depth 40

pub each-requires-sync-C : goal.each-requires-sync-C
each-requires-sync-C g c κs within = search (sendable, shared_cells_sync) depth 40

pub each-requires-clause-can : goal.each-requires-clause-can
each-requires-clause-can g c κs within = subst (All (CanWork g.T.Duty.ready c.args.shared_cells.now)) (sym c.as_mut_slice.ensures.value) c.requires

pub returns : goal.returns
returns g c =
    let new = c.each.new.states in
    let old = c.args.states.items in
    let value = c.as_mut_slice.ensures.value in
    let len : length new ≡ c.args.states.len = c.each.ensures.count ∙ c.as_mut_slice.ensures.len in
    let R : ℕ → ThreadState g.row.T.Denot → ThreadState g.row.T.Denot → Type 0 = λ i p q. DidWork g.T.Duty.done p q in
    let beside = made_beside R (R 0) c.as_mut_slice.result.now new c.each.ensures.count c.each.ensures.done (λ i x y r. r) in
    subst (Beside R old) (sym (written_back c.args.states.len new old len)) (subst (λ l. Beside R l new) value beside)
