use Rattle.std.proofs.Common.{◌≡◌, ℕ, ◌+◌, ◌++◌}
use Rattle.run_teller.specs.Columns.{clients_among}
use Rattle.run_teller.proofs.columns.add_clients.Given as goal

abbrev pub invariant-loop-client : goal.invariant-loop-client
invariant-loop-client l = (count : ℕ) × (1 + count ≡ l.client) × (l.columns.items ≡ l.fn.columns.items ++ clients_among count l.liars l.named)
