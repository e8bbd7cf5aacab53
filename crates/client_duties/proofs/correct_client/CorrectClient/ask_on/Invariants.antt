use Rattle.client_duties.proofs.Running.{IsAsking}
use Rattle.client_duties.proofs.correct_client.CorrectClient.ask_on.Given as goal

abbrev pub invariant-loop : goal.invariant-loop
invariant-loop g l =
    (goal.iterator-loop g).can_next l.iterator' × (goal.iterator-loop g).is_finite l.iterator' × IsAsking l.fn.self l.self l.fn.endpoint l.endpoint l.shared_cells l.block
