use Rattle.std.proofs.Common.{◌≡◌, drop, fold}
use Rattle.std.specs.List.{filter_map}
use Rattle.std.specs.Ordering.{nat_cmp}
use Rattle.std.specs.BTreeSet.{insert_key}
use Rattle.plan_words.specs.Named.{job_client}
use Rattle.client_duties.proofs.named.add_working.Given as goal

abbrev pub invariant-loop-job : goal.invariant-loop-job
invariant-loop-job l = fold (insert_key nat_cmp) l.named.keys (filter_map job_client (drop l.job-index l.work)) ≡ fold (insert_key nat_cmp) l.fn.named.keys (filter_map job_client l.work)
