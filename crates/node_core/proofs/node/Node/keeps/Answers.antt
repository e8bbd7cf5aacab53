use Rattle.std.proofs.Common.{◌≡◌, ◌∙◌, Bool, true, false, ◌||◌, refl, sym, ap, arith}
use Rattle.std.specs.Ordering.{is_eq}
use Rattle.node_core.proofs.lemmas.Blocks.{block_at, not_so}
use Rattle.node_core.proofs.lemmas.Changes.{same_by_fields}
use Rattle.node_core.proofs.node.Node.keeps.Goals as goal

either : (a b : Bool) → b ≡ true → a || b ≡ true
either true b e = refl
either false b e = e

first_alone : (a b r : Bool) → b ≡ false → r ≡ a → r ≡ a || b
first_alone true b r e f = f
first_alone false b r e f = f ∙ sym e

pub returns-then-has : goal.returns-then-has
returns-then-has c =
    let there = rw (← c.self.view_is) at c.requires in
    let listed = block_at c.self.inside.first c.self.inside.blocks.items c.args.block _ (omega (arith, there, c.self.invariant.count)) c.index.ensures in
    rw (← c.self.view_is, listed) (c.if-has.true ∙ sym (either _ _ (c.has.ensures.0 c.if-has.true)))

pub returns-else-has : goal.returns-else-has
returns-else-has c =
    let there = rw (← c.self.view_is) at c.requires in
    let listed = block_at c.self.inside.first c.self.inside.blocks.items c.args.block _ (omega (arith, there, c.self.invariant.count)) c.index.ensures in
    let same = c.is_eq.ensures ∙ ap is_eq c.cmp.ensures ∙ same_by_fields _ _ in
    rw (← c.self.view_is, listed) (first_alone _ _ _ (not_so _ _ c.has.ensures c.if-has.false) same)
