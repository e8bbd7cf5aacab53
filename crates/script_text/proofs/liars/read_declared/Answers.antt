use Rattle.std.proofs.Common.{◌≡◌, ◌∷◌, List, ℕ, drop, get_or, [], ap, sym, ◌∙◌}
use Rattle.std.specs.Prelude.{codes}
use Rattle.text_lines.specs.Lines.{fields_of, texts}
use Rattle.line_forms.proofs.lemmas.Tables.{gives_same}
use Rattle.event_lines.specs.Forms.{fields_cause}
use Rattle.script_text.specs.Replays.{liar_fields, liar_forms, IsDeclarable}
use Rattle.script_text.proofs.Declarations.{first_is_liar}
use Rattle.script_text.proofs.liars.read_declared.Goals as goal

pub returns : goal.returns
returns c =
    let word = c.in-Some._word.now.now in
    let rest = texts c.in-Some.fields.now in
    let split : fields_of c.args.line.now ≡ word ∷ rest = sym c.in_ok-fields.ensures ∙ ap texts (sym c.as_slice.ensures.value ∙ c.in-Some.ensures.cases.0) in
    let is : word ≡ codes "liar" = ap (λ (fs : List (List ℕ)). get_or fs 0 []) (sym split) ∙ first_is_liar c.args.line.now c.requires in
    let whole : codes "liar" ∷ rest ≡ fields_of c.args.line.now = ap (λ (w : List ℕ). w ∷ rest) (sym is) ∙ sym split in
    gives_same (λ d. (liar_fields d ≡ codes "liar" ∷ rest) × IsDeclarable c.args.config.now d) (λ d. (liar_fields d ≡ fields_of c.args.line.now) × IsDeclarable c.args.config.now d) _ _ c.declared_in.result
    (λ d h. (h.0 ∙ whole, h.1)) (ap (λ (fs : List (List ℕ)). fields_cause (liar_forms c.args.config.now) (drop 1 fs)) split) c.declared_in.ensures
