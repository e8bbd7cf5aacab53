use Rattle.std.proofs.Common.{◌≡◌, vec_len}
use Rattle.version_disk.specs.Undone.{undone, LeadTo}
use Rattle.version_disk.proofs.batch.take_back.Given as goal

abbrev pub invariant-loop-last : goal.invariant-loop-last
invariant-loop-last l = record {
  undone : undone l.node l.added.items ≡ undone l.fn.node l.fn.added.items;
  led : LeadTo l.node l.added.items;
}

abbrev pub decreases-loop-last : goal.decreases-loop-last
decreases-loop-last l = vec_len l.added
