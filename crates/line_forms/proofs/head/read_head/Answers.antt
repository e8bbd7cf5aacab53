use Rattle.std.proofs.Common.{◌≡◌, Some, sym, ap, ◌∙◌}
use Rattle.quorum_rules.specs.Limits.{Numbers, is_of_scripts}
use Rattle.text_lines.specs.Lines.{fields_of}
use Rattle.line_forms.specs.Heads.{script, IsSpelled, edition_in}
use Rattle.line_forms.proofs.Heads.{bad_header, header_read, names_scripts, cluster_fault, head_read}
use Rattle.line_forms.proofs.lemmas.Tables.{refusal_here}
use Rattle.line_forms.proofs.lemmas.Texts.{rest_of_two}
use Rattle.line_forms.proofs.head.read_head.Goals as goal

pub returns-in_default-clause-fault : goal.returns-in_default-clause-fault
returns-in_default-clause-fault c =
    λ body. rw c.refused.ensures (bad_header body c.args.text.now c.in_ok-first.first.now c.in_ok-first.rest.now c.in_ok-first.ensures.parts (sym c.edition_in.ensures ∙ c.in_default.is))

pub returns-in-Ok-clause-head : goal.returns-in-Ok-clause-head
returns-in-Ok-clause-head c =
    let first = c.in_ok-first.first.now in
    let line = c.in_ok-line.line.now in
    let rest = c.in_ok-first.rest.now in
    let after = c.in_ok-line.rest.now in
    let edition = c.in-Some.edition in
    let named : edition_in first ≡ Some edition = sym c.edition_in.ensures ∙ c.in-Some.is in
    let next = c.in_ok-line.ensures.parts in
    λ body.
    let read = header_read body c.args.text.now first rest edition c.in_ok-first.ensures.parts named in
    rw (rest_of_two c.args.text.now first rest line after c.in_ok-first.ensures.parts next)
    (head_read body c.args.text.now first line rest after edition c.in-Ok.config read named next c.in-Ok.ensures.0 c.in-Ok.ensures.1)

pub returns-in-Ok-clause-of_scripts : goal.returns-in-Ok-clause-of_scripts
returns-in-Ok-clause-of_scripts c =
    let named : edition_in c.in_ok-first.first.now ≡ Some c.in-Some.edition = sym c.edition_in.ensures ∙ c.in-Some.is in
    ap is_of_scripts c.in-Ok.ensures.1.0 ∙ names_scripts c.in_ok-first.first.now c.in-Some.edition named

pub returns-in-Err-clause-fault : goal.returns-in-Err-clause-fault
returns-in-Err-clause-fault c =
    let first = c.in_ok-first.first.now in
    let line = c.in_ok-line.line.now in
    let rest = c.in_ok-first.rest.now in
    let edition = c.in-Some.edition in
    let named : edition_in first ≡ Some edition = sym c.edition_in.ensures ∙ c.in-Some.is in
    λ body.
    let read = header_read body c.args.text.now first rest edition c.in_ok-first.ensures.parts named in
    rw c.refused-in-Err.ensures (refusal_here {X = Numbers} (IsSpelled edition (fields_of line)) (script body) c.args.text.now 2 _ c.in-Err.refusal c.in-Err.ensures
    (λ cause h. cluster_fault body c.args.text.now first line rest c.in_ok-line.rest.now edition cause read named c.in_ok-line.ensures.parts h))
