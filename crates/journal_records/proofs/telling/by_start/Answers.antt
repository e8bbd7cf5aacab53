use Rattle.std.proofs.Common.{◌≡◌, sym, ◌∙◌, ap, map, subst, List}
use Rattle.std.proofs.lemmas.List.{take_at}
use Rattle.std.proofs.lemmas.List.Sorted.{length_permutation}
use Rattle.std.specs.List.Sorted.{IsPermutation}
use Rattle.run_words.specs.declared.record.Record.{Record}
use Rattle.protocol.specs.Seen.{record_of}
use Rattle.journals.specs.Records.{AreTold}
use Rattle.journal_records.specs.Records.{AreAllRecords}
use Rattle.journal_records.proofs.Together.{are_all}
use Rattle.journal_records.proofs.telling.by_start.Goals as goal

pub returns : goal.returns
returns c = λ conduct j of_run order told.
    let was = c.into_vec-records.result.items in
    let sorted = c.sort.new.records in
    let moved : IsPermutation was sorted = subst (λ (l : List Record). IsPermutation l sorted) c.as_mut_slice.ensures.value c.sort.ensures.permutation in
    let same : c.from_vec.result ≡ sorted = c.from_vec.ensures ∙ take_at sorted _ c.into_vec-records.result.len (length_permutation was sorted moved ∙ sym c.into_vec-records.result.ok.0) in
    let before : AreTold j (map record_of was) = ap (map record_of) c.into_vec-records.ensures ∙ told in
    subst (λ (l : List Record). AreAllRecords j (map record_of l)) (sym same) (are_all conduct j of_run order was sorted before moved c.sort.ensures.sorted)
