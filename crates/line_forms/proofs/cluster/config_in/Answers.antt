use Rattle.std.proofs.Common.{◌≡◌, ◌≢◌, ◌∷◌, ◌⊎◌, length, true, ap, sym, ◌∙◌, inl, inr}
use Rattle.std.specs.Prelude.{codes}
use Rattle.std.proofs.lemmas.Bool.{not-false}
use Rattle.std.proofs.lemmas.List.{length-map}
use Rattle.std.proofs.lemmas.Slice.Eq.{bytes_eq-Decides}
use Rattle.quorum_rules.specs.Limits.{Numbers, IsValid}
use Rattle.text_lines.specs.Lines.{texts}
use Rattle.line_forms.specs.Kinds.{has_empty_field}
use Rattle.line_forms.specs.Heads.{cluster_fields}
use Rattle.line_forms.proofs.lemmas.Clusters.{wrong_count, bad_number, cluster_spelled}
use Rattle.line_forms.specs.declared.cause.Cause.TheVariants.{BadNumber}
use Rattle.line_forms.proofs.lemmas.Tables.{gives_same, gives_cause}
use Rattle.line_forms.proofs.cluster.config_in.Goals as goal
use Rattle.line_forms.proofs.cluster.config_in.Goals.{then-fields-ne7-via-then-fields-ne7, then-fields-ne7-via-else-fields-ne7+then-has_empty}

pub returns-then-fields-ne7 : goal.returns-then-fields-ne7
returns-then-fields-ne7 c =
    let split : texts c.args.fields.now ≡ c.in-Some.word.now.now ∷ texts c.in-Some.fields.now = ap texts c.in-Some.ensures.cases.0 in
    let is : c.in-Some.word.now.now ≡ codes "cluster" = (bytes_eq-Decides c.in-Some.word.now.now (codes "cluster")).0 (rw c.as_slice.ensures at (not-false _ (sym c.if-ne.ensures))) in
    let bad : (length (texts c.in-Some.fields.now) ≢ 7) ⊎ (has_empty_field (texts c.in-Some.fields.now) ≡ true) = elim c.then-fields-ne7.branch [
      | then-fields-ne7-via-then-fields-ne7 w ↦ inl (λ e. w.if-fields-ne7.true (sym (length-map c.in-Some.fields.now _) ∙ e))
      | then-fields-ne7-via-else-fields-ne7+then-has_empty w ↦ inr (sym w.if-has_empty.ensures)
    ] in
    rw split (wrong_count c.args.edition c.in-Some.word.now.now (texts c.in-Some.fields.now) is bad)

pub returns-in_err-read_numbers : goal.returns-in_err-read_numbers
returns-in_err-read_numbers c =
    let word = c.in-Some.word.now.now in
    let fields = texts c.in-Some.fields.now in
    let split : texts c.args.fields.now ≡ word ∷ fields = ap texts c.in-Some.ensures.cases.0 in
    let is : word ≡ codes "cluster" = (bytes_eq-Decides word (codes "cluster")).0 (rw c.as_slice.ensures at (not-false _ (sym c.if-ne.ensures))) in
    let len : length fields ≡ 7 = length-map c.in-Some.fields.now _ ∙ c.if-fields-ne7.false in
    let err = c.in_err-read_numbers.ensures.err in
    let res = c.from_residual.ensures in
    rw split (gives_cause _ _ BadNumber c.from_residual.result (bad_number c.args.edition word fields is len (sym c.if-has_empty.ensures) err.1) (rw err.0 at res.1))

pub returns : goal.returns
returns c =
    let word = c.in-Some.word.now.now in
    let fields = texts c.in-Some.fields.now in
    let split : texts c.args.fields.now ≡ word ∷ fields = ap texts c.in-Some.ensures.cases.0 in
    let is : word ≡ codes "cluster" = (bytes_eq-Decides word (codes "cluster")).0 (rw c.as_slice.ensures at (not-false _ (sym c.if-ne.ensures))) in
    let len : length fields ≡ 7 = length-map c.in-Some.fields.now _ ∙ c.if-fields-ne7.false in
    let ok = c.in_ok-read_numbers.ensures in
    let s = cluster_spelled c.args.edition word fields c.read_numbers.new.numbers is len (sym c.if-has_empty.ensures) ok.ok ok.numbers in
    rw split (gives_same (λ config. (config ≡ _) × IsValid config) _ _ _ c.config_of.result (λ config h. (ap (λ (k : Numbers). k.edition) h.0, ap cluster_fields h.0 ∙ s.text, h.1)) s.cause c.config_of.ensures)
