-- Lemmas of `Owning`.
use Rattle.journal_records.proofs.Owning.{worlds_have, records_are}
use Rattle.journal_records.proofs.laws.all_records.Goals as goal

pub returns : goal.returns
returns c =
    let known = c.open_records.ensures in
    let had = worlds_have c.merged_runs.ensures.reach c.merged_runs.ensures.recorded known.tell known.recorded known.correct c.records.ensures.starts in
    record { had = had; are = records_are had }
