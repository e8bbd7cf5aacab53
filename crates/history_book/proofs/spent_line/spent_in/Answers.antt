use Rattle.std.proofs.Common.{◌≡◌, ℕ, List, [], get_or, Some, None, false, sym, ap, subst, ◌∙◌, arith}
use Rattle.std.specs.Prelude.{codes, not}
use Rattle.std.specs.Borrow.{Bor}
use Rattle.text_lines.specs.Lines.{texts}
use Rattle.line_forms.specs.Kinds.{has_empty_field}
use Rattle.line_forms.specs.Tables.{first_of}
use Rattle.history_book.specs.Reports.{spent_fields}
use Rattle.history_book.specs.ReportTexts.{field, spent_numbers, spent_told, spent_causes, is_not_later, last_of, MayFollowSpent}
use Rattle.history_book.proofs.OtherLines.{spent_right, four_texts}
use Rattle.history_book.proofs.spent_line.spent_in.Goals as goal

pub returns : goal.returns
returns c =
    let d : Bor (List ℕ) = record { ref_ptr = (0, 0); now = [] } in
    let fields = c.args.fields.now in
    let f : ℕ → List ℕ = λ i. (get_or fields i d).now in
    let x = c.in-Some.other in
    let spent = c.args.spent.now in
    let split = four_texts fields d (let low = c.in-len4.len_at_least in let high = c.in-len4.len_below in omega arith) in
    let word : f 0 ≡ codes "spent" = ap (λ (fs : List (List ℕ)). field fs 0) (sym split) ∙ c.requires in
    let full : has_empty_field (texts fields) ≡ false = sym c.has_empty.ensures ∙ c.if-has_empty.false in
    let told : spent_numbers (f 1) (f 2) (f 3) ≡ Some x = sym c.spent_of.ensures ∙ c.in-Some.is in
    let later : is_not_later (last_of spent) (Some x) ≡ false = c.is_later.ensures ∙ ap not c.if-not-is_later.false in
    subst (λ (fs : List (List ℕ)). (first_of (spent_causes spent fs) ≡ None) × ((spent_fields x ≡ fs) × MayFollowSpent spent x × (spent_told fs ≡ Some x))) (sym split)
    (spent_right spent (f 0) (f 1) (f 2) (f 3) x word (ap has_empty_field (sym split) ∙ full) told later)
