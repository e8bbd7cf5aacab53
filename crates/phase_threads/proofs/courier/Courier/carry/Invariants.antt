use Rattle.std.proofs.Common.{◌≡◌, length}
use Rattle.client_endpoints.specs.Endpoint.{vaults_of}
use Rattle.phase_threads.specs.Carried.{HasCarried}
use Rattle.phase_threads.proofs.courier.Courier.carry.Given as goal

-- the chits after the turns so far
abbrev pub invariant-loop-round : goal.invariant-loop-round
invariant-loop-round g l = HasCarried l.fn.self l.self

abbrev pub invariant-loop-place : goal.invariant-loop-place
invariant-loop-place g l = HasCarried l.fn.self l.self × (l.place-end ≡ length (vaults_of l.shared_cells))
