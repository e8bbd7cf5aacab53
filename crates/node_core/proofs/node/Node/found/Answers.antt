use Rattle.std.proofs.Common.{◌≡◌, sym, ap, arith}
use Rattle.wire_forms.specs.declared.message.Reply.TheVariants.{Found}
use Rattle.node_core.proofs.lemmas.Blocks.{block_at, greatest_later}
use Rattle.node_core.proofs.node.Node.found.Goals as goal

pub returns-in_ok-version-in-Some : goal.returns-in_ok-version-in-Some
returns-in_ok-version-in-Some c =
    let there = rw (← c.self.view_is) at c.requires in
    let listed = block_at c.self.inside.first c.self.inside.blocks.items c.args.block _ (omega (arith, there, c.self.invariant.count)) c.index.ensures in
    let zero : c.self.inside.first.stamp.time ≡ 0 = ap (λ v. v.stamp.time) c.self.invariant.begins in
    let greatest = greatest_later c.args.bound.now c.self.inside.first _ c.index.result.now zero c.in-Some.ensures.later (sym c.in-Some.ensures.greatest) in
    rw (← c.self.view_is, listed, greatest) (ap Found c.in_ok-version-in-Some.ensures)
