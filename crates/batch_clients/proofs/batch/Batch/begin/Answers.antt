use Rattle.std.proofs.Common.{subst, arith}
use Rattle.quorum_rules.specs.Limits.{Numbers}
use Rattle.protocol.specs.Instance.{setting}
use Rattle.protocol.specs.Seen.{block_of, work_of, seen_begun}
use Rattle.batch_clients.specs.Batches.Stand.{Asks as AsksOne}
use Rattle.batch_clients.specs.Parts.{lists_of, IsAdded}
use Rattle.batch_clients.proofs.Adding.{one_begun, one_asked, one_run}
use Rattle.batch_clients.proofs.batch.Batch.begin.Goals as goal

pub loop-op-preserved : goal.loop-op-preserved
loop-op-preserved c =
    let config = c.args.config.now in
    let ops = c.args.ops.now in
    let i = c.loop-op.op-index in
    let id = c.loop-op.id in
    let op = c.op-item.result in
    let inv = c.loop-op.invariant in
    let runs = c.loop-op.runs.items in
    let new = c.begin_one.new.runs.items in
    let asks = lists_of c.loop-op.asks.items in
    let more = lists_of c.begin_one.new.asks.items in
    let a = subst (λ (x : Numbers). IsAdded x (record { client = id; stand = AsksOne (seen_begun (setting x) 1 (block_of op) (work_of op)) }) 1 runs new asks more) c.requires.cluster c.in_ok-begin_one.ensures in
    record {
      number = (let e = inv.number in omega (arith, e));
      made = one_begun config ops i id op c.loop-op-test.true c.op-item.is runs new asks more a inv.made;
      asked = one_asked config ops i id op c.loop-op-test.true c.op-item.is runs new asks more a inv.asked;
      runs = one_run config ops i id op c.loop-op-test.true c.op-item.is runs new asks more a inv.runs;
    }
