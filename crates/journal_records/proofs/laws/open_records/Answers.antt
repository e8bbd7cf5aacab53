-- The lemma of `Ongoing`.
use Rattle.journal_records.proofs.lemmas.Ongoing.{are_told}
use Rattle.journal_records.proofs.laws.open_records.Goals as goal

pub returns : goal.returns
returns c =
    let told = are_told c.replacements.ensures c.refusals.ensures.exact c.runs.ensures in
    record {
      tell = λ n ln lc cluster lines w run. (told n ln lc cluster lines w run).0;
      recorded = λ n ln lc cluster lines w run. (told n ln lc cluster lines w run).1;
      correct = λ n ln lc cluster lines w run. (told n ln lc cluster lines w run).2;
    }
