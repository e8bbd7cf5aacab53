use Rattle.std.proofs.Common.{◌≡◌, ◌++◌, ◌∷◌, [], ◌∙◌, sym, ap, arith}
use Rattle.std.specs.declared.option.Option.TheVariants.{Some}
use Rattle.protocol.specs.Instance.{setting}
use Rattle.node_core.specs.Seen.{accepts_of, versions_in}
use Rattle.node_core.specs.contracts.node.Node.{the_view}
use Rattle.node_core.proofs.lemmas.Accepting.{accepted_is_new}
use Rattle.node_core.proofs.lemmas.Blocks.{block_at, node_set, keeps_later}
use Rattle.node_core.proofs.node.Node.commit.Goals as goal

pub index_mut-kept-requires : goal.index_mut-kept-requires
index_mut-kept-requires c =
    let e : accepts_of (the_view c.self.inside) c.args.ask.now ≡ Some c.in-Some.version = rw (← c.self.view_is) at (sym c.requires ∙ c.in-Some.is) in
    let is = accepted_is_new (setting c.self.inside.config) c.self.inside.number (versions_in (the_view c.self.inside) c.args.ask.now.block) c.args.ask.now c.in-Some.version e in
    omega (arith, is.there, c.self.invariant.count)

pub add-requires : goal.add-requires
add-requires c =
    let e : accepts_of (the_view c.self.inside) c.args.ask.now ≡ Some c.in-Some.version = rw (← c.self.view_is) at (sym c.requires ∙ c.in-Some.is) in
    let is = accepted_is_new (setting c.self.inside.config) c.self.inside.number (versions_in (the_view c.self.inside) c.args.ask.now.block) c.args.ask.now c.in-Some.version e in
    let listed = block_at c.self.inside.first c.self.inside.blocks.items c.args.ask.now.block _ (omega (arith, is.there, c.self.invariant.count)) c.index_mut-kept.ensures.value in
    let zero : c.self.inside.first.stamp.time ≡ 0 = ap (λ v. v.stamp.time) c.self.invariant.begins in
    record {
      new = sym (keeps_later c.self.inside.first c.index_mut-kept.result.now c.in-Some.version.stamp zero is.later) ∙ (rw listed at is.new);
      later = is.later;
    }

pub returns-clause-ok : goal.returns-clause-ok
returns-clause-ok c =
    let e : accepts_of (the_view c.self.inside) c.args.ask.now ≡ Some c.in-Some.version = rw (← c.self.view_is) at (sym c.requires ∙ c.in-Some.is) in
    let is = accepted_is_new (setting c.self.inside.config) c.self.inside.number (versions_in (the_view c.self.inside) c.args.ask.now.block) c.args.ask.now c.in-Some.version e in
    let listed = block_at c.self.inside.first c.self.inside.blocks.items c.args.ask.now.block _ (omega (arith, is.there, c.self.invariant.count)) c.index_mut-kept.ensures.value in
    rw (← c.self.view_is, e, listed, c.in_ok-add.ensures.ok)
    (node_set c.self.inside.config c.self.inside.number c.self.inside.first c.self.inside.blocks.items c.args.ask.now.block (c.index_mut-kept.result.now ++ c.in-Some.version ∷ []))
