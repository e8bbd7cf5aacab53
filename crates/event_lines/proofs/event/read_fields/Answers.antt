use Rattle.std.proofs.Common.{◌≡◌, ℕ, List, [], ◌∷◌, length, get_or, ap, ◌∙◌, arith, rules}
use Rattle.std.specs.Prelude.{codes}
use Rattle.std.specs.Borrow.{Bor}
use Rattle.std.proofs.lemmas.Grind.{common_steps}
use Rattle.line_forms.specs.Tables.{Gives}
use Rattle.event_lines.specs.Forms.{fields_cause, forms_of}
use Rattle.event_lines.specs.Lines.{IsSpelled}
use Rattle.event_lines.specs.Rests.{field_count}
use Rattle.event_lines.specs.declared.word.Form.TheVariants.{Mix}
use Rattle.event_lines.proofs.event.read_fields.Goals as goal
use Rattle.line_forms.proofs.lemmas.Texts.{six_texts}

pub returns-in-Resend : goal.returns-in-Resend
returns-in-Resend c = let h = c.resend.ensures c.args.config.now in first_of (search rules, grind (arith, common_steps))

pub returns-in-Hear : goal.returns-in-Hear
returns-in-Hear c = let h = c.hear.ensures c.args.config.now in first_of (search rules, grind (arith, common_steps))

pub returns-in-Put : goal.returns-in-Put
returns-in-Put c = let h = c.put.ensures c.args.config.now in first_of (search rules, grind (arith, common_steps))

pub returns-in-Get : goal.returns-in-Get
returns-in-Get c = let h = c.get.ensures c.args.config.now in first_of (search rules, grind (arith, common_steps))

pub returns-in-Next : goal.returns-in-Next
returns-in-Next c = let h = c.next.ensures c.args.config.now in first_of (search rules, grind (arith, common_steps))

pub returns-in-Mix : goal.returns-in-Mix
returns-in-Mix c =
    let d : Bor (List ℕ) = record { ref_ptr = (0, 0); now = [] } in
    let xs = c.args.fields.now in
    let numbers = c.args.config.now in
    let fs : List (List ℕ) = (get_or xs 0 d).now ∷ (get_or xs 1 d).now ∷ (get_or xs 2 d).now ∷ (get_or xs 3 d).now ∷ (get_or xs 4 d).now ∷ (get_or xs 5 d).now ∷ [] in
    let h : Gives (IsSpelled numbers (codes "mix" ∷ fs)) (fields_cause (forms_of numbers Mix) fs) c.mix.result = c.mix.ensures in
    let is : c.args.form ≡ Mix = search rules in
    let len : length xs ≡ 6 = c.if-fields-count.false ∙ c.count.ensures ∙ ap field_count is in
    rw (is, six_texts xs d len) h
