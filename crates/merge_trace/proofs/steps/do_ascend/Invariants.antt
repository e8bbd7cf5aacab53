use Rattle.std.proofs.Common.{take}
use Rattle.merge_trace.proofs.Clients.{clients_of, IsLeast}
use Rattle.merge_trace.proofs.steps.do_ascend.Given as goal

-- the clients so far ascend, and this is the least one that may follow
abbrev pub invariant-loop-desk : goal.invariant-loop-desk
invariant-loop-desk l = IsLeast (clients_of (take l.desk-index l.desks)) l.least
