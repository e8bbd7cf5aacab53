use Rattle.std.proofs.Common.{◌≡◌, ℕ, List, [], get_or, Some, None, false, sym, ap, subst, ◌∙◌, arith}
use Rattle.std.specs.Prelude.{codes}
use Rattle.std.specs.Borrow.{Bor}
use Rattle.text_lines.specs.Lines.{texts}
use Rattle.line_forms.specs.Kinds.{has_empty_field}
use Rattle.line_forms.specs.Tables.{first_of}
use Rattle.history_book.specs.Reports.{end_fields}
use Rattle.history_book.specs.ReportTexts.{field, count_numbers, end_causes, has_other_name, done_count, AreCounts}
use Rattle.history_book.proofs.OtherLines.{counts_right}
use Rattle.history_book.proofs.end_line.counts_in.Goals as goal
use Rattle.line_forms.proofs.lemmas.Texts.{six_texts}

pub returns : goal.returns
returns c =
    let d : Bor (List ℕ) = record { ref_ptr = (0, 0); now = [] } in
    let fields = c.args.fields.now in
    let f : ℕ → List ℕ = λ i. (get_or fields i d).now in
    let x = c.in-Some.counts in
    let entries = c.args.entries.now in
    let spent = c.args.spent.now in
    let split = six_texts fields d (let low = c.in-len6.len_at_least in let high = c.in-len6.len_below in omega arith) in
    let word : f 0 ≡ codes "end" = ap (λ (fs : List (List ℕ)). field fs 0) (sym split) ∙ c.requires in
    let names : has_other_name (texts fields) ≡ false = sym c.has_other_name.ensures ∙ c.if-has_other_name.false in
    let full : has_empty_field (texts fields) ≡ false = sym c.has_empty.ensures ∙ c.if-has_empty.false in
    let told : count_numbers (f 1) (f 2) (f 3) (f 4) (f 5) ≡ Some x = sym c.counts_of.ensures ∙ c.in-Some.is in
    let done : x.done ≡ done_count entries = c.if-counts-count_done.false ∙ c.count_done.ensures in
    subst (λ (fs : List (List ℕ)). (first_of (end_causes entries spent fs) ≡ None) × ((end_fields x ≡ fs) × AreCounts entries spent x × Unit {0})) (sym split)
    (counts_right entries spent (f 0) (f 1) (f 2) (f 3) (f 4) (f 5) x word (ap has_other_name (sym split) ∙ names) (ap has_empty_field (sym split) ∙ full) told done c.if-counts-spent.false)
