use Rattle.std.proofs.Common.{◌≡◌, ◌∷◌, [], ◌<◌, List, ℕ, ap, sym, subst, ◌∙◌}
use Rattle.quorum_rules.specs.Limits.{Numbers}
use Rattle.text_lines.specs.Lines.{parts_of}
use Rattle.cluster_file.specs.declared.membership.Membership.{Membership}
use Rattle.cluster_file.specs.Texts.{IsMembership, IsConfig, IsId, is_of_stores, header, cluster_line, node_line, id_line, text_of}
use Rattle.cluster_file.proofs.Printed.{lines_apart, config_as, next_line, no_next, told_bad, passed_on, one_config, text_of_four}
use Rattle.cluster_file.proofs.membership.Membership.read.Goals as goal

pub returns-in_err-first-clause-none : goal.returns-in_err-first-clause-none
returns-in_err-first-clause-none c =
    told_bad ((m : Membership) → IsMembership m → c.args.text.now ≡ text_of m → ⊥) c.from_residual.result (λ m h t.
    let all = ap parts_of t ∙ lines_apart m h in
    no_next (parts_of c.args.text.now) c.args.text.now (header m.config.edition) (cluster_line m.config) (node_line m.node ∷ id_line m.id ∷ [] ∷ []) c.in_err-first.ensures.none all)

pub returns-in_err-second-clause-none : goal.returns-in_err-second-clause-none
returns-in_err-second-clause-none c =
    told_bad ((m : Membership) → IsMembership m → c.args.text.now ≡ text_of m → ⊥) c.from_residual-in_err-second.result (λ m h t.
    let all = ap parts_of t ∙ lines_apart m h in
    let l1 = next_line (parts_of c.args.text.now) c.in_ok-first.first.now (header m.config.edition) (parts_of c.in_ok-first.rest.now) (cluster_line m.config ∷ node_line m.node ∷ id_line m.id ∷ [] ∷ []) c.in_ok-first.ensures.parts all in
    no_next (parts_of c.in_ok-first.rest.now) c.in_ok-first.rest.now (cluster_line m.config) (node_line m.node) (id_line m.id ∷ [] ∷ []) c.in_err-second.ensures.none l1.1)

pub returns-in_err-third-clause-none : goal.returns-in_err-third-clause-none
returns-in_err-third-clause-none c =
    told_bad ((m : Membership) → IsMembership m → c.args.text.now ≡ text_of m → ⊥) c.from_residual-in_err-third.result (λ m h t.
    let all = ap parts_of t ∙ lines_apart m h in
    let l1 = next_line (parts_of c.args.text.now) c.in_ok-first.first.now (header m.config.edition) (parts_of c.in_ok-first.rest.now) (cluster_line m.config ∷ node_line m.node ∷ id_line m.id ∷ [] ∷ []) c.in_ok-first.ensures.parts all in
    let l2 = next_line (parts_of c.in_ok-first.rest.now) c.in_ok-second.second.now (cluster_line m.config) (parts_of c.in_ok-second.rest.now) (node_line m.node ∷ id_line m.id ∷ [] ∷ []) c.in_ok-second.ensures.parts l1.1 in
    no_next (parts_of c.in_ok-second.rest.now) c.in_ok-second.rest.now (node_line m.node) (id_line m.id) ([] ∷ []) c.in_err-third.ensures.none l2.1)

pub returns-in_err-fourth-clause-none : goal.returns-in_err-fourth-clause-none
returns-in_err-fourth-clause-none c =
    told_bad ((m : Membership) → IsMembership m → c.args.text.now ≡ text_of m → ⊥) c.from_residual-in_err-fourth.result (λ m h t.
    let all = ap parts_of t ∙ lines_apart m h in
    let l1 = next_line (parts_of c.args.text.now) c.in_ok-first.first.now (header m.config.edition) (parts_of c.in_ok-first.rest.now) (cluster_line m.config ∷ node_line m.node ∷ id_line m.id ∷ [] ∷ []) c.in_ok-first.ensures.parts all in
    let l2 = next_line (parts_of c.in_ok-first.rest.now) c.in_ok-second.second.now (cluster_line m.config) (parts_of c.in_ok-second.rest.now) (node_line m.node ∷ id_line m.id ∷ [] ∷ []) c.in_ok-second.ensures.parts l1.1 in
    let l3 = next_line (parts_of c.in_ok-second.rest.now) c.in_ok-third.third.now (node_line m.node) (parts_of c.in_ok-third.rest.now) (id_line m.id ∷ [] ∷ []) c.in_ok-third.ensures.parts l2.1 in
    no_next (parts_of c.in_ok-third.rest.now) c.in_ok-third.rest.now (id_line m.id) [] [] c.in_err-fourth.ensures.none l3.1)

pub returns-in_err-edition-clause-none : goal.returns-in_err-edition-clause-none
returns-in_err-edition-clause-none c =
    told_bad ((m : Membership) → IsMembership m → c.args.text.now ≡ text_of m → ⊥) c.from_residual-in_err-edition.result (λ m h t.
    let all = ap parts_of t ∙ lines_apart m h in
    let l1 = next_line (parts_of c.args.text.now) c.in_ok-first.first.now (header m.config.edition) (parts_of c.in_ok-first.rest.now) (cluster_line m.config ∷ node_line m.node ∷ id_line m.id ∷ [] ∷ []) c.in_ok-first.ensures.parts all in
    c.in_err-edition.ensures.none m.config.edition l1.0)

pub returns-in_err-node-clause-none : goal.returns-in_err-node-clause-none
returns-in_err-node-clause-none c =
    told_bad ((m : Membership) → IsMembership m → c.args.text.now ≡ text_of m → ⊥) c.from_residual-in_err-node.result (λ m h t.
    let all = ap parts_of t ∙ lines_apart m h in
    let l1 = next_line (parts_of c.args.text.now) c.in_ok-first.first.now (header m.config.edition) (parts_of c.in_ok-first.rest.now) (cluster_line m.config ∷ node_line m.node ∷ id_line m.id ∷ [] ∷ []) c.in_ok-first.ensures.parts all in
    let l2 = next_line (parts_of c.in_ok-first.rest.now) c.in_ok-second.second.now (cluster_line m.config) (parts_of c.in_ok-second.rest.now) (node_line m.node ∷ id_line m.id ∷ [] ∷ []) c.in_ok-second.ensures.parts l1.1 in
    let l3 = next_line (parts_of c.in_ok-second.rest.now) c.in_ok-third.third.now (node_line m.node) (parts_of c.in_ok-third.rest.now) (id_line m.id ∷ [] ∷ []) c.in_ok-third.ensures.parts l2.1 in
    let same : c.in_ok-config.config ≡ m.config =
    one_config c.in_ok-edition.edition c.in_ok-config.config m.config c.in_ok-config.ensures.ok
    (config_as m c.in_ok-edition.edition c.in_ok-first.first.now h c.in_ok-edition.ensures.ok c.in_ok-edition.ensures.line l1.0) (sym c.in_ok-config.ensures.line ∙ l2.0) in
    c.in_err-node.ensures.none m.node (subst (λ (k : Numbers). m.node < k.n) (sym same) h.node) l3.0)

pub returns-in_err-last_line-clause-none : goal.returns-in_err-last_line-clause-none
returns-in_err-last_line-clause-none c =
    told_bad ((m : Membership) → IsMembership m → c.args.text.now ≡ text_of m → ⊥) c.from_residual-in_err-last_line.result (λ m h t.
    let all = ap parts_of t ∙ lines_apart m h in
    let l1 = next_line (parts_of c.args.text.now) c.in_ok-first.first.now (header m.config.edition) (parts_of c.in_ok-first.rest.now) (cluster_line m.config ∷ node_line m.node ∷ id_line m.id ∷ [] ∷ []) c.in_ok-first.ensures.parts all in
    let l2 = next_line (parts_of c.in_ok-first.rest.now) c.in_ok-second.second.now (cluster_line m.config) (parts_of c.in_ok-second.rest.now) (node_line m.node ∷ id_line m.id ∷ [] ∷ []) c.in_ok-second.ensures.parts l1.1 in
    let l3 = next_line (parts_of c.in_ok-second.rest.now) c.in_ok-third.third.now (node_line m.node) (parts_of c.in_ok-third.rest.now) (id_line m.id ∷ [] ∷ []) c.in_ok-third.ensures.parts l2.1 in
    let l4 = next_line (parts_of c.in_ok-third.rest.now) c.in_ok-fourth.fourth.now (id_line m.id) (parts_of c.in_ok-fourth.rest.now) ([] ∷ []) c.in_ok-fourth.ensures.parts l3.1 in
    c.in_err-last_line.ensures.err.1 l4.1)

pub returns-in_err-config-clause-none : goal.returns-in_err-config-clause-none
returns-in_err-config-clause-none c =
    passed_on ((m : Membership) → IsMembership m → c.args.text.now ≡ text_of m → ⊥) ((k : Numbers) → IsConfig c.in_ok-edition.edition k → c.in_ok-second.second.now ≡ cluster_line k → ⊥) c.from_residual-in_err-config.result c.in_err-config.field-0.0 c.from_residual-in_err-config.ensures.1 c.in_err-config.ensures.none (λ q m h t.
    let all = ap parts_of t ∙ lines_apart m h in
    let l1 = next_line (parts_of c.args.text.now) c.in_ok-first.first.now (header m.config.edition) (parts_of c.in_ok-first.rest.now) (cluster_line m.config ∷ node_line m.node ∷ id_line m.id ∷ [] ∷ []) c.in_ok-first.ensures.parts all in
    let l2 = next_line (parts_of c.in_ok-first.rest.now) c.in_ok-second.second.now (cluster_line m.config) (parts_of c.in_ok-second.rest.now) (node_line m.node ∷ id_line m.id ∷ [] ∷ []) c.in_ok-second.ensures.parts l1.1 in
    q m.config (config_as m c.in_ok-edition.edition c.in_ok-first.first.now h c.in_ok-edition.ensures.ok c.in_ok-edition.ensures.line l1.0) l2.0)

pub returns-in_err-id-clause-none : goal.returns-in_err-id-clause-none
returns-in_err-id-clause-none c =
    passed_on ((m : Membership) → IsMembership m → c.args.text.now ≡ text_of m → ⊥) ((i : List ℕ) → IsId i → c.in_ok-fourth.fourth.now ≡ id_line i → ⊥) c.from_residual-in_err-id.result c.in_err-id.field-0.0 c.from_residual-in_err-id.ensures.1 c.in_err-id.ensures.none (λ q m h t.
    let all = ap parts_of t ∙ lines_apart m h in
    let l1 = next_line (parts_of c.args.text.now) c.in_ok-first.first.now (header m.config.edition) (parts_of c.in_ok-first.rest.now) (cluster_line m.config ∷ node_line m.node ∷ id_line m.id ∷ [] ∷ []) c.in_ok-first.ensures.parts all in
    let l2 = next_line (parts_of c.in_ok-first.rest.now) c.in_ok-second.second.now (cluster_line m.config) (parts_of c.in_ok-second.rest.now) (node_line m.node ∷ id_line m.id ∷ [] ∷ []) c.in_ok-second.ensures.parts l1.1 in
    let l3 = next_line (parts_of c.in_ok-second.rest.now) c.in_ok-third.third.now (node_line m.node) (parts_of c.in_ok-third.rest.now) (id_line m.id ∷ [] ∷ []) c.in_ok-third.ensures.parts l2.1 in
    let l4 = next_line (parts_of c.in_ok-third.rest.now) c.in_ok-fourth.fourth.now (id_line m.id) (parts_of c.in_ok-fourth.rest.now) ([] ∷ []) c.in_ok-fourth.ensures.parts l3.1 in
    q m.id h.id l4.0)

pub returns-clause-text : goal.returns-clause-text
returns-clause-text c =
    let named : c.in_ok-first.first.now ≡ header c.in_ok-config.config.edition = c.in_ok-edition.ensures.line ∙ ap header (sym c.in_ok-config.ensures.ok.edition) in
    let first = c.in_ok-first.ensures.parts ∙ ap (λ (l : List ℕ). l ∷ parts_of c.in_ok-first.rest.now) named in
    let second = c.in_ok-second.ensures.parts ∙ ap (λ (l : List ℕ). l ∷ parts_of c.in_ok-second.rest.now) c.in_ok-config.ensures.line in
    let third = c.in_ok-third.ensures.parts ∙ ap (λ (l : List ℕ). l ∷ parts_of c.in_ok-third.rest.now) c.in_ok-node.ensures.line in
    let fourth = c.in_ok-fourth.ensures.parts ∙ ap (λ (l : List ℕ). l ∷ parts_of c.in_ok-fourth.rest.now) c.in_ok-id.ensures.line in
    text_of_four c.args.text.now (header c.in_ok-config.config.edition) (cluster_line c.in_ok-config.config) (node_line c.in_ok-node.node) (id_line c.in_ok-id.id)
    c.in_ok-first.rest.now c.in_ok-second.rest.now c.in_ok-third.rest.now c.in_ok-fourth.rest.now first second third fourth c.in_ok-last_line.ensures.ok

pub returns-clause-ok : goal.returns-clause-ok
returns-clause-ok c = record {
  edition = ap is_of_stores c.in_ok-config.ensures.ok.edition ∙ c.in_ok-edition.ensures.ok;
  valid = c.in_ok-config.ensures.ok.valid;
  node = c.in_ok-node.ensures.ok;
  id = c.in_ok-id.ensures.ok;
}
