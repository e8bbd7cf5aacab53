use Rattle.std.proofs.Common.{◌≡◌, ◌<◌, ◌%◌, true, sym, subst, ap, ◌∙◌, rules}
use Rattle.journals.specs.declared.node.NodeAct.TheVariants.{Pruned}
use Rattle.journals.specs.Acts.{can_prune}
use Rattle.locked_nodes.specs.Cells.{CellView}
use Rattle.locked_nodes.proofs.lemmas.Growing.{MayJoin, cell_joins, block_there}
use Rattle.locked_nodes.proofs.cell.NodeCell.prune.Goals as goal

pub prune-requires : goal.prune-requires
prune-requires c =
    let was = c.self.inside in
    let block = subst (λ (v : CellView). c.args.block < v.charter.config.blocks) (sym c.self.view_is) c.requires.block.0 in
    block_there was.terms was.state was.journal.items was.pass c.args.block c.self.invariant block

pub invariant_of-self-2 : goal.invariant_of-self-2
invariant_of-self-2 c =
    let was = c.self.inside in
    let pruned = Pruned c.args.block c.args.stamp.now in
    let yes : can_prune was.state c.nature.result ≡ true = search rules in
    let can : can_prune was.state was.terms.nature ≡ true = ap (λ k. can_prune was.state k) (sym c.nature.ensures) ∙ yes in
    let block = subst (λ (v : CellView). c.args.block < v.charter.config.blocks) (sym c.self.view_is) c.requires.block.0 in
    let share = subst (λ (v : CellView). c.args.block % v.charter.shards ≡ v.charter.shard) (sym c.self.view_is) c.requires.block.1 in
    let may : was.terms.prunes ≡ true = ap (λ (v : CellView). v.charter.prunes) c.self.view_is ∙ c.requires.may in
    let joins : MayJoin was.terms was.state pruned = record {
      is = c.acts.ensures.prunes was.terms.nature was.state c.args.block c.args.stamp.now can (block_there was.terms was.state was.journal.items was.pass c.args.block c.self.invariant block);
      share = share;
      calm = λ none prune. absurd (let a = may in let b = none in cc);
    } in
    cell_joins was.terms was.state was.journal.items was.pass c.add_entry-number.result pruned c.prune.new.self c.reserve.new.self.items c.add_entry-number.new.journal.items c.add_entry-number.new.pass
    c.self.invariant joins c.add_entry-number.ensures.later.0 c.prune.ensures c.reserve.ensures.items c.add_entry-number.ensures.journal c.add_entry-number.ensures.pass
