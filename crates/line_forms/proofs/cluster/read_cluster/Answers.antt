use Rattle.std.proofs.Common.{◌≡◌, ℕ, List, ap, subst, ◌∙◌}
use Rattle.text_lines.specs.Lines.{fields_of, texts}
use Rattle.line_forms.specs.Heads.{IsSpelled, cluster_cause}
use Rattle.line_forms.specs.Tables.{Gives}
use Rattle.line_forms.proofs.cluster.read_cluster.Goals as goal

pub returns : goal.returns
returns c =
    let edition = c.args.edition in
    let same : texts c.as_slice.result.now ≡ fields_of c.args.line.now = ap texts c.as_slice.ensures.value ∙ c.in_ok-fields.ensures in
    subst (λ (fs : List (List ℕ)). Gives (IsSpelled edition fs) (cluster_cause edition fs) c.config_in.result) same c.config_in.ensures
