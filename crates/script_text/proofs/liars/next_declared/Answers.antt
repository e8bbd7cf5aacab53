use Rattle.std.proofs.Common.{◌≡◌, sym, ◌∙◌}
use Rattle.text_lines.specs.Lines.{fields_of}
use Rattle.text_lines.proofs.lemmas.Joined.{line_from_fields}
use Rattle.line_forms.proofs.lemmas.Tables.{gives_cause}
use Rattle.script_text.specs.Replays.{liar_fields, liar_line, IsDeclarable}
use Rattle.script_text.proofs.Causes.{gives_refusal, liar_refused, liar_again}
use Rattle.script_text.proofs.liars.next_declared.Goals as goal

pub returns-in_err-declared : goal.returns-in_err-declared
returns-in_err-declared c =
    λ ds a.
    gives_refusal (λ d. (liar_fields d ≡ fields_of c.args.line.now) × IsDeclarable c.args.config.now d) _ _ _ c.from_residual.result _ c.from_residual.ensures.1 c.in_err-declared.ensures
    (λ cause h. liar_refused c.args.config.now ds c.args.liars.now c.args.line.now cause a c.requires h)

pub returns-in_err-refuse_again : goal.returns-in_err-refuse_again
returns-in_err-refuse_again c =
    λ ds a.
    let read = c.in_ok-declared.ensures in
    let line : liar_line c.in_ok-declared.declared ≡ c.args.line.now = sym (line_from_fields c.args.line.now (liar_fields c.in_ok-declared.declared) (sym read.1.0)) in
    gives_cause _ _ _ c.from_residual-in_err-refuse_again.result (liar_again c.args.config.now ds c.args.liars.now c.in_ok-declared.declared c.args.line.now a c.requires read.0 read.1.1 line ∙ c.in_err-refuse_again.ensures.err) c.from_residual-in_err-refuse_again.ensures.1

pub returns : goal.returns
returns c =
    λ ds a.
    let read = c.in_ok-declared.ensures in
    let line : liar_line c.in_ok-declared.declared ≡ c.args.line.now = sym (line_from_fields c.args.line.now (liar_fields c.in_ok-declared.declared) (sym read.1.0)) in
    let free = c.in_ok-refuse_again.ensures.ok in
    (liar_again c.args.config.now ds c.args.liars.now c.in_ok-declared.declared c.args.line.now a c.requires read.0 read.1.1 line ∙ free, (line, read.1.1, free))
