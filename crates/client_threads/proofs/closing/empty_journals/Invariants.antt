use Rattle.std.proofs.Common.{◌≡◌, []}
use Rattle.std.specs.Prelude.{replicate}
use Rattle.client_threads.proofs.closing.empty_journals.Given as goal

abbrev pub invariant-loop : goal.invariant-loop
invariant-loop l = l.nodes ≡ replicate l.counter []
