use Rattle.std.proofs.Common.{◌≡◌, ◌∷◌, ap, sym}
use Rattle.std.specs.Prelude.{codes}
use Rattle.std.proofs.lemmas.Slice.Eq.{bytes_eq-Decides}
use Rattle.text_lines.specs.Lines.{texts}
use Rattle.plan_words.proofs.FormCauses.{crash_node_cause, crash_client_cause}
use Rattle.plan_words.proofs.forms.crash.Goals as goal

pub returns-then-eq : goal.returns-then-eq
returns-then-eq c =
    let what = c.in-Some.what.now.now in
    let rest = texts c.in-Some.rest.now in
    let split : texts c.args.fields.now ≡ what ∷ rest = ap texts c.in-Some.ensures.cases.0 in
    let is : what ≡ codes "node" = (bytes_eq-Decides what (codes "node")).0 (rw c.as_slice.ensures at (sym c.if-eq.ensures)) in
    rw (split, is, crash_node_cause c.args.config.now rest) c.crash_node.ensures

pub returns-then-eq-2 : goal.returns-then-eq-2
returns-then-eq-2 c =
    let what = c.in-Some.what.now.now in
    let rest = texts c.in-Some.rest.now in
    let split : texts c.args.fields.now ≡ what ∷ rest = ap texts c.in-Some.ensures.cases.0 in
    let is : what ≡ codes "client" = (bytes_eq-Decides what (codes "client")).0 (rw c.as_slice-2.ensures at (sym c.if-eq-2.ensures)) in
    rw (split, is, crash_client_cause c.args.config.now rest) (c.crash_client.ensures c.args.config.now)
