use Rattle.locked_nodes.proofs.lemmas.Aside.{aside_then}
use Rattle.node_workers.proofs.worker.bring_all.Goals as goal

pub loop-preserved : goal.loop-preserved
loop-preserved g c = aside_then c.args.cell.now c.loop.cell c.bring_one.new.cell c.loop.invariant c.bring_one.ensures

pub returns-then-not-bring_one : goal.returns-then-not-bring_one
returns-then-not-bring_one g c = aside_then c.args.cell.now c.loop.cell c.bring_one.new.cell c.loop.invariant c.bring_one.ensures
