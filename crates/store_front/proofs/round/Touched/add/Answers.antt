use Rattle.std.proofs.Common.{arith}
use Rattle.std.proofs.lemmas.Bool.{cases_lt}
use Rattle.std.proofs.Common.{◌≡◌, inl, inr, subst}
use Rattle.store_front.specs.Rounds.{needs}
use Rattle.store_front.specs.Touching.{Knows}
use Rattle.store_front.proofs.Rounding.{one_more}
use Rattle.store_front.proofs.Touching.{knows_more, knows_still, touches_from, touches_to}
use Rattle.store_front.proofs.round.Touched.add.Goals as goal

pub add_block-requires : goal.add_block-requires
add_block-requires c = c.blocks_of-blocks.ensures.reached c.loop-block.block c.loop-block.auto.block c.loop-block-test.true

pub loop-block-preserved : goal.loop-block-preserved
loop-block-preserved c =
    let inv = c.loop-block.invariant in
    let e = c.in_ok-add_block.ensures in
    let r = c.args.request.now in
    record {
      read = one_more (needs c.args.config.now r) c.args.self.now.read.keys c.loop-block.self.read.keys c.add_block.new.self.read.keys c.blocks_of-blocks.result.first c.loop-block.block c.loop-block.auto.block inv.read e.read;
      more = knows_more c.args.self.now c.loop-block.self c.add_block.new.self inv.more e.more;
      known = λ k low high. elim (cases_lt k c.loop-block.block) [
        | inl before ↦ knows_still c.loop-block.self c.add_block.new.self r.kind k e.more (inv.known k low before)
        | inr now ↦ (let same : c.loop-block.block ≡ k = omega (arith, now, high) in subst (Knows c.add_block.new.self r.kind) same e.known)
      ];
      count = omega (arith, inv.count, e.count);
    }

pub returns-clause-touched : goal.returns-clause-touched
returns-clause-touched c =
    let b = c.blocks_of-blocks.ensures in
    let inv = c.loop-block.invariant in
    λ k there.
    let low = touches_from c.args.config.now c.args.request.now k there in
    let high = touches_to c.args.config.now c.args.request.now k there in
    let knows = inv.known k (omega (arith, b.first, low)) (omega (arith, b.end, high, c.loop-block-test.false)) in
    (record { read = λ e. knows.read e; written = λ e. knows.written e }, omega (arith, b.first, b.end, low, high))
