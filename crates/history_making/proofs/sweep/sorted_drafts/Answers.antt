use Rattle.std.proofs.Common.{map, ap, ◌∙◌}
use Rattle.protocol.specs.Seen.{record_of}
use Rattle.history_making.specs.Drafts.{entries_of}
use Rattle.history_making.proofs.Drafting.{drafts_start}
use Rattle.history_making.proofs.sweep.sorted_drafts.Goals as goal

pub sort-requires : goal.sort-requires
sort-requires c = drafts_start (map record_of c.args.records.now) c.as_mut_slice.result.now c.requires (ap entries_of c.as_mut_slice.ensures.value ∙ c.in_ok-drafts.ensures)
