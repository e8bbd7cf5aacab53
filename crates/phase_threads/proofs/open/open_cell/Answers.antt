use Rattle.phase_threads.proofs.Opening.{all_new}
use Rattle.phase_threads.proofs.open.open_cell.Goals as goal

pub returns-clause-chits : goal.returns-clause-chits
returns-clause-chits c = all_new c.new.result c.args.count c.new.ensures.all c.new.ensures.each
