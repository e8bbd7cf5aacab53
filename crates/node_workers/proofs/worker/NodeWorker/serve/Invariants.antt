use Rattle.node_workers.proofs.Answering.{IsServing}
use Rattle.node_workers.proofs.worker.NodeWorker.serve.Given as goal

-- what was asked so far is answered
abbrev pub invariant-loop : goal.invariant-loop
invariant-loop g l = IsServing l.initial.self l.self
