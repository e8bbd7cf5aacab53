use Rattle.journals.specs.Journals.{setting_for}
use Rattle.journals.specs.Steps.Step.{AtNode}
use Rattle.merge_trace.proofs.Adding.{refused, one_new_fits}
use Rattle.merge_trace.proofs.steps.add_node_entry.Goals as goal

pub returns-then-not-fits_node-clause-fine : goal.returns-then-not-fits_node-clause-fine
returns-then-not-fits_node-clause-fine c = refused _ (λ new. let k = c.fits_node.ensures.1 (one_new_fits (setting_for c.args.journals.now) c.args.numbers.now c.args.entry.now.number (AtNode c.args.node c.args.entry.now.act) new) in cc)
