use Rattle.std.proofs.Common.{◌≡◌, ◌<◌, ◌++◌, ℕ, List, sym, refl, ap, ◌∙◌, arith}
use Rattle.std.specs.Prelude.{codes, decimal}
use Rattle.std.proofs.lemmas.List.Elements.{recursion_from_All}
use Rattle.script_text.specs.Replays.{liar_line}
use Rattle.script_text.specs.declared.liars.Declared.TheVariants.{Node}
use Rattle.script_text.proofs.lemmas.Ascending.{below_zero, below_all}
use Rattle.script_text.proofs.Printed.{written, none_written, all_written, number_skipped, pieces_written}
use Rattle.script_text.proofs.liars.add_nodes.Goals as goal
use Rattle.script_text.proofs.liars.add_nodes.Goals.{then-node+in_ok-add+in_ok-add_number+in_ok-add_newline, else-node}

abbrev line : ℕ → List ℕ
line k = liar_line (Node k)

pub loop-node-init : goal.loop-node-init
loop-node-init c = none_written line c.args.text.now c.args.liars.now.nodes 0 (below_zero c.args.liars.now.nodes)

pub loop-node-preserved : goal.loop-node-preserved
loop-node-preserved c =
    let old = c.args.text.now in
    let ks = c.args.liars.now.nodes in
    let k = c.loop-node.node in
    elim c.if-node.branch [
      | then-node+in_ok-add+in_ok-add_number+in_ok-add_newline w ↦
          pieces_written line old ks (codes "liar node ") (decimal k) c.loop-node.text w.add.new.self w.add_number.new.self _ k c.requires.ascending.0 (sym c.node.ensures ∙ w.if-node.true) refl c.loop-node.invariant
          w.in_ok-add.ensures.ok (w.in_ok-add_number.ensures.ok ∙ ap (λ (n : ℕ). w.add.new.self ++ decimal n) w.from.ensures) (w.text-is ∙ w.in_ok-add_newline.ensures.ok)
      | else-node w ↦ w.text-is ∙ c.loop-node.invariant ∙ number_skipped line old ks k c.requires.ascending.0 (sym c.node.ensures ∙ w.if-node.false)
    ]

pub returns : goal.returns
returns c =
    let old = c.args.text.now in
    let ks = c.args.liars.now.nodes in
    let n = c.args.config.now.n in
    let high = c.loop-node-test.false in
    let low = c.loop-node.auto.node-end in
    let is = c.n-node-end.ensures.is in
    let end : c.loop-node.node ≡ n = omega arith in
    c.loop-node.invariant ∙ ap (λ (k : ℕ). written line old k ks) end ∙ all_written line old ks n (below_all n ks (recursion_from_All (λ k. k < n) ks c.requires.may_lie.nodes))
