use Rattle.std.proofs.Common.{◌≡◌, Some, ap, sym, ◌∙◌}
use Rattle.text_lines.specs.Lines.{fields_of, texts}
use Rattle.line_forms.specs.Heads.{cluster_fields}
use Rattle.line_forms.proofs.lemmas.Accepted.{cluster_apart}
use Rattle.cluster_file.proofs.Printed.{other_line}
use Rattle.cluster_file.proofs.reading.config_in.Goals as goal
use Rattle.cluster_file.proofs.reading.config_in.Goals.{in_default-via-in-Some+in_ok-is_cluster_line+else-branch, in_default-via-in_default}

pub returns-clause-none : goal.returns-clause-none
returns-clause-none c = λ k is e.
    let fields : texts c.as_slice.result.now ≡ cluster_fields k = ap texts c.as_slice.ensures.value ∙ c.in_ok-fields.ensures ∙ ap fields_of e ∙ cluster_apart k is.valid in
    let found : c.config_of.result ≡ Some k = c.config_of.ensures.only k is fields in
    elim c.in_default.branch [
      | in_default-via-in-Some+in_ok-is_cluster_line+else-branch w ↦ other_line w.in-Some.config k c.args.line.now (sym w.in-Some.is ∙ found) e (let f = w.if-branch.false in let g = w.in_ok-is_cluster_line.ensures in cc)
      | in_default-via-in_default w ↦ let none = w.in_default.is in absurd cc
    ]
