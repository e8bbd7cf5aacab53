use Rattle.journals.specs.Journals.{setting_for}
use Rattle.merge_trace.proofs.Fitting.{start_fits}
use Rattle.merge_trace.proofs.lines.fits_desk.Goals as goal

pub returns-in-Start : goal.returns-in-Start
returns-in-Start c = start_fits (setting_for c.args.journals.now) c.args.client c.in-Start.op c.args.act.now c.fits_op.result c.in-Start.is c.fits_op.ensures
