use Rattle.std.proofs.Common.{◌≡◌, ◌∙◌, true, refl, arith}
use Rattle.store_front.specs.Rounds.{needs}
use Rattle.store_front.proofs.Touching.{added_new, added_still}
use Rattle.store_front.proofs.round.Touched.add_block.Goals as goal

pub returns-clause-more : goal.returns-clause-more
returns-clause-more c = record {
  read = λ k h. added_still _ c.args.self.now.read c.add_if-2.new.blocks c.args.block k c.in_ok-add_if-2.ensures h;
  written = λ k h. added_still _ c.args.self.now.written c.add_if.new.blocks c.args.block k c.in_ok-add_if.ensures h;
  count = omega arith;
}

pub returns-clause-known : goal.returns-clause-known
returns-clause-known c =
    let r = c.args.request.now in
    record {
      read = λ e. let is : needs c.args.config.now r c.args.block ≡ true = rw e refl in added_new _ c.args.self.now.read c.add_if-2.new.blocks c.args.block c.in_ok-add_if-2.ensures (c.needs_read.ensures ∙ is);
      written = λ e. added_new _ c.args.self.now.written c.add_if.new.blocks c.args.block c.in_ok-add_if.ensures (c.changes.ensures ∙ e);
    }
