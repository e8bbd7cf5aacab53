use Rattle.std.proofs.Common.{sym, subst, All}
use Rattle.batch_clients.specs.Parts.{IsRun}
use Rattle.batch_clients.proofs.batch.Batch.asking.Goals as goal

pub count_asking-requires : goal.count_asking-requires
count_asking-requires c = (c.self.inside.config, c.self.inside.phases, subst (All (IsRun c.self.inside.config c.self.inside.phases)) (sym c.deref.ensures.value) c.self.invariant)
