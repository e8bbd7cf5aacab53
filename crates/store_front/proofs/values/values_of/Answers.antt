use Rattle.store_front.specs.Rounds.{left_by}
use Rattle.store_front.specs.Values.{read_of}
use Rattle.store_front.proofs.Valuing.{one_left_at}
use Rattle.store_front.proofs.values.values_of.Goals as goal

pub loop-one-preserved : goal.loop-one-preserved
loop-one-preserved c = record {
  blocks = c.in_ok-put_values.ensures.blocks;
  put = one_left_at (left_by c.args.config.now (read_of c.args.found.now)) c.loop-one.values.entries c.put_values.new.values.entries c.args.asked.now c.loop-one.one-index _ c.loop-one-test.true c.loop-one.invariant.put c.in_ok-put_values.ensures.put;
}
