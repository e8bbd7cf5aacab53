use Rattle.std.proofs.Common.{◌≡◌, ℕ, List, [], get_or, Some, None, false, sym, ap, ◌∙◌, arith}
use Rattle.std.specs.Borrow.{Bor}
use Rattle.std.proofs.lemmas.Grind.{common_steps}
use Rattle.text_lines.specs.Lines.{texts}
use Rattle.text_lines.specs.Fields.{value_of}
use Rattle.line_forms.specs.Kinds.{has_empty_field}
use Rattle.line_forms.specs.Tables.{first_of}
use Rattle.line_forms.proofs.lemmas.Tables.{gives_same}
use Rattle.history_making.specs.declared.entry.Entry.{Entry}
use Rattle.history_book.specs.Reports.{entry_fields}
use Rattle.history_book.specs.ReportTexts.{kind_told, numbers_told, entry_with, entry_causes, entry_told, value_causes, MayFollow, IsRightAfter}
use Rattle.history_book.proofs.EntryLines.{Seven, no_numbers, with_numbers, follows}
use Rattle.history_book.proofs.entry_line.entry_in.Goals as goal
use Rattle.line_forms.proofs.lemmas.Texts.{seven_texts}

pub returns-in_default-numbers_of : goal.returns-in_default-numbers_of
returns-in_default-numbers_of c =
    let d : Bor (List ℕ) = record { ref_ptr = (0, 0); now = [] } in
    let fields = c.args.fields.now in
    let f : ℕ → List ℕ = λ i. (get_or fields i d).now in
    let kind = c.in-Some-kind_of.kind in
    let split = seven_texts fields d (let low = c.in-len7.len_at_least in let high = c.in-len7.len_below in omega arith) in
    let none : c.args.spent.now ≡ [] = grind (arith, common_steps, c.if-not-is_empty.ensures) in
    let third : get_or fields 2 d ≡ c.in-Some.word.now = sym (c.in-Some.ensures.lookup.3.1 d) in
    let told : kind_told (f 2) ≡ Some kind = ap (λ (x : Bor (List ℕ)). kind_told x.now) third ∙ sym c.in-Some-kind_of.ensures in
    let full : has_empty_field (texts fields) ≡ false = sym c.has_empty.ensures ∙ c.if-has_empty.false in
    let bad : numbers_told kind (f 0) (f 1) (f 3) (f 4) (f 5) ≡ None = sym c.numbers_of.ensures ∙ c.in_default-numbers_of.is in
    let seven : Seven c.args.entries.now c.args.spent.now kind (f 0) (f 1) (f 2) (f 3) (f 4) (f 5) (f 6) = record { none = none; word = told; full = ap has_empty_field (sym split) ∙ full } in
    ap (λ (fs : List (List ℕ)). first_of (entry_causes c.args.entries.now c.args.spent.now fs)) split
    ∙ no_numbers c.args.entries.now c.args.spent.now kind (f 0) (f 1) (f 2) (f 3) (f 4) (f 5) (f 6) seven bad

pub returns : goal.returns
returns c =
    let d : Bor (List ℕ) = record { ref_ptr = (0, 0); now = [] } in
    let fields = c.args.fields.now in
    let f : ℕ → List ℕ = λ i. (get_or fields i d).now in
    let entries = c.args.entries.now in
    let kind = c.in-Some-kind_of.kind in
    let n = c.in-Some-numbers_of.numbers in
    let split = seven_texts fields d (let low = c.in-len7.len_at_least in let high = c.in-len7.len_below in omega arith) in
    let none : c.args.spent.now ≡ [] = grind (arith, common_steps, c.if-not-is_empty.ensures) in
    let third : get_or fields 2 d ≡ c.in-Some.word.now = sym (c.in-Some.ensures.lookup.3.1 d) in
    let told : kind_told (f 2) ≡ Some kind = ap (λ (x : Bor (List ℕ)). kind_told x.now) third ∙ sym c.in-Some-kind_of.ensures in
    let full : has_empty_field (texts fields) ≡ false = sym c.has_empty.ensures ∙ c.if-has_empty.false in
    let some : numbers_told kind (f 0) (f 1) (f 3) (f 4) (f 5) ≡ Some n = sym c.numbers_of.ensures ∙ c.in-Some-numbers_of.is in
    let seven : Seven entries c.args.spent.now kind (f 0) (f 1) (f 2) (f 3) (f 4) (f 5) (f 6) = record { none = none; word = told; full = ap has_empty_field (sym split) ∙ full } in
    gives_same
    (λ (e : Entry). (v : List ℕ) × (e ≡ entry_with kind n v) × (value_of (f 6) ≡ Some v) × IsRightAfter entries e)
    (λ (e : Entry). (entry_fields e ≡ texts fields) × (MayFollow entries e × (c.args.spent.now ≡ [])) × (entry_told (texts fields) ≡ Some e))
    (first_of (value_causes entries kind n (value_of (f 6))))
    (first_of (entry_causes entries c.args.spent.now (texts fields)))
    c.entry_after.result
    (λ e h. let r = follows entries kind (f 0) (f 1) (f 2) (f 3) (f 4) (f 5) (f 6) n e told some h in (r.0 ∙ sym split, (r.1, none), ap entry_told split ∙ r.2))
    (ap (λ (fs : List (List ℕ)). first_of (entry_causes entries c.args.spent.now fs)) split ∙ with_numbers entries c.args.spent.now kind (f 0) (f 1) (f 2) (f 3) (f 4) (f 5) (f 6) n seven some)
    c.entry_after.ensures
