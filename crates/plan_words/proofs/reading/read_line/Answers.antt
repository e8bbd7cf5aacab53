use Rattle.std.proofs.Common.{◌≡◌, sym, ap, ◌∙◌}
use Rattle.text_lines.specs.Lines.{fields_of, texts}
use Rattle.text_lines.proofs.lemmas.Joined.{line_from_fields}
use Rattle.line_forms.proofs.lemmas.Tables.{gives_same}
use Rattle.plan_words.specs.Forms.{line_cause}
use Rattle.plan_words.specs.Lines.{IsPlanLine, IsSpelled, line_fields, line_text}
use Rattle.plan_words.specs.declared.line.PlanLine.{PlanLine}
use Rattle.plan_words.proofs.reading.read_line.Goals as goal

pub returns : goal.returns
returns c =
    let config = c.args.config.now in
    let line = c.args.line.now in
    let split : texts c.as_slice.result.now ≡ fields_of line = rw (sym c.as_slice.ensures.value) at c.in_ok-fields.ensures in
    gives_same (IsSpelled config (texts c.as_slice.result.now)) (λ (l : PlanLine). IsPlanLine config l × (line_text l ≡ line)) _ _ c.line_in.result
    (λ l s. (s.0, sym (line_from_fields line (line_fields l) (sym (s.1 ∙ split))))) (ap (line_cause config) (sym split)) c.line_in.ensures
