use Rattle.std.proofs.Common.{rules}
use Rattle.std.proofs.lemmas.List.Sorted.{ranks_by, IsPermutation-map, answers_always}
use Rattle.protocol.proofs.lemmas.Entries.{entry_total}
use Rattle.history_making.specs.Drafts.{entry_of, entries_of}
use Rattle.history_making.proofs.Sorting.{is_below, sorted_drafts, starts_permuted}
use Rattle.history_making.proofs.sweep.sort.Goals as goal

pub returns-clause-sorted : goal.returns-clause-sorted
returns-clause-sorted c =
    let p = IsPermutation-map entry_of c.args.drafts.now c.sort_unstable_by.new.self c.sort_unstable_by.ensures.permutation in
    sorted_drafts c.sort_unstable_by.new.self
    (c.sort_unstable_by.ensures.sorted is_below (ranks_by entry_total entry_of) (answers_always _ _ _ (λ f a r q k. search rules)))
    (starts_permuted (entries_of c.args.drafts.now) (entries_of c.sort_unstable_by.new.self) p c.requires)

pub returns-clause-permutation : goal.returns-clause-permutation
returns-clause-permutation c = IsPermutation-map entry_of c.args.drafts.now c.sort_unstable_by.new.self c.sort_unstable_by.ensures.permutation
