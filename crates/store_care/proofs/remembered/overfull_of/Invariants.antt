use Rattle.std.proofs.Common.{◌≡◌, filter, take}
use Rattle.store_care.specs.Pruning.{is_overfull}
use Rattle.store_care.proofs.remembered.overfull_of.Given as goal

abbrev pub invariant-loop-prune : goal.invariant-loop-prune
invariant-loop-prune g l = record {
  same : l.store ≡ l.fn.store;
  found : l.found.items ≡ filter (λ p. is_overfull l.fn.store l.most p.block) (take l.prune-index l.prunes);
}
