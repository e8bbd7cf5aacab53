use Rattle.std.proofs.Common.{◌≡◌}
use Rattle.rand_pcg.specs.Lcg.{advance}
use Rattle.rand_pcg.specs.Pcg.{multiplier_64}
use Rattle.soak_loads.specs.MadePlans.{generator, work_of}
use Rattle.soak_loads.proofs.load.work_of.Given as goal

abbrev pub invariant-loop-j : goal.invariant-loop-j
invariant-loop-j l = (l.words ≡ advance 64 multiplier_64 l.j (generator l.number)) × (l.work ≡ work_of l.number l.clients l.j)
