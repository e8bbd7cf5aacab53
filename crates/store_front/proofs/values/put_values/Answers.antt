use Rattle.store_front.specs.Rounds.{left_at}
use Rattle.store_front.specs.Values.{read_of}
use Rattle.store_front.proofs.Valuing.{one_value_more}
use Rattle.store_front.proofs.values.put_values.Goals as goal

pub put_block-requires-clause-reaches : goal.put_block-requires-clause-reaches
put_block-requires-clause-reaches c = c.blocks_of-blocks.ensures.reached c.loop-block.block c.loop-block.auto.block c.loop-block-test.true

pub loop-block-preserved : goal.loop-block-preserved
loop-block-preserved c = record {
  blocks = c.in_ok-put_block.ensures.blocks;
  put = one_value_more (left_at c.args.config.now (read_of c.args.found.now) c.args.asked.now.bytes.now) c.args.values.now.entries c.loop-block.values.entries c.put_block.new.values.entries c.blocks_of-blocks.result.first c.loop-block.block c.loop-block.auto.block c.loop-block.invariant.put c.in_ok-put_block.ensures.put;
}
