-- Lemmas of `Counting`.
use Rattle.journal_records.proofs.Counting.{lines_there, lines_counted, last_place_is}
use Rattle.journal_records.proofs.laws.merged_lines.Goals as goal

pub returns : goal.returns
returns c = record {
  there = lines_there c.merged_runs.ensures.run c.one_merge.ensures.ordered;
  counted = lines_counted;
  place = last_place_is;
}
