-- Lemmas of `Working`.
use Rattle.std.proofs.Common.{sym, ap, subst, ◌∙◌}
use Rattle.client_desks.specs.Desks.{DeskView}
use Rattle.client_desks.specs.Later.{IsLater}
use Rattle.client_endpoints.specs.Endpoint.{Fixed}
use Rattle.node_workers.specs.declared.thread_state.ThreadState.{ThreadState}
use Rattle.node_workers.specs.declared.thread_state.ThreadState.TheVariants.{Client}
use Rattle.node_workers.specs.ThreadStates.{HasDone, DidWork}
use Rattle.node_workers.proofs.Working.{taken_all}
use Rattle.node_workers.proofs.thread_state.SharedCellsThreadWorkThreadState.work.Goals as goal

pub returns-in-Client : goal.returns-in-Client
returns-in-Client g c =
    let endpoint = c.in-Client.endpoint in
    let duty = c.in-Client.duty in
    let mid = c.work.new.endpoint in
    let after = c.end.new.self in
    let left = c.work.new.self in
    let is : HasDone g.T.Duty.done endpoint duty after left = record {
      later = subst (IsLater endpoint.desk) (sym c.end.ensures.desk) c.work.ensures.later;
      began = c.end.ensures.began ∙ ap (λ (f : Fixed). f.began) c.work.ensures.stays;
      done = λ none. subst (λ (d : DeskView). g.T.Duty.done duty endpoint.desk left d) (sym c.end.ensures.desk) (c.work.ensures.done (c.end.ensures.refused none));
      all = taken_all endpoint mid after.transport c.work.ensures.stays c.end.ensures.ended;
    } in
    subst (λ (p : ThreadState g.row.T.Denot). DidWork g.T.Duty.done p (Client after left)) (sym c.in-Client.is) is
