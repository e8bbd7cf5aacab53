use Rattle.journals.specs.Journals.{setting_for}
use Rattle.merge_trace.proofs.Fitting.{prune_fits}
use Rattle.merge_trace.proofs.lines.fits_node.Goals as goal

pub returns-in-Pruned : goal.returns-in-Pruned
returns-in-Pruned c = prune_fits (setting_for c.args.journals.now) c.blocks-in-Pruned.result c.blocks-in-Pruned.ensures.is c.args.node c.in-Pruned.block _ c.args.act.now c.in-Pruned.is
