use Rattle.std.proofs.Common.{◌≡◌, sym, ◌∙◌}
use Rattle.std.specs.Prelude.{codes}
use Rattle.std.proofs.lemmas.Slice.Eq.{bytes_eq-Decides}
use Rattle.history_book.proofs.OtherLines.{first_field}
use Rattle.history_book.proofs.reading.line_in.Goals as goal

pub spent_in-requires : goal.spent_in-requires
spent_in-requires c =
    let is : c.in-Some.word.now.now ≡ codes "spent" = (bytes_eq-Decides c.in-Some.word.now.now (codes "spent")).0 (rw c.as_slice.ensures at (sym c.if-eq.ensures)) in
    first_field c.args.fields.now c.in-Some.word.now c.in-Some.ensures.value ∙ is

pub counts_in-requires : goal.counts_in-requires
counts_in-requires c =
    let is : c.in-Some.word.now.now ≡ codes "end" = (bytes_eq-Decides c.in-Some.word.now.now (codes "end")).0 (rw c.as_slice-else-eq.ensures at (sym c.if-eq-2.ensures)) in
    first_field c.args.fields.now c.in-Some.word.now c.in-Some.ensures.value ∙ is
