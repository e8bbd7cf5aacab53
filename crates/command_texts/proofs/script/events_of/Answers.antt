use Rattle.std.proofs.Common.{length, ap, ◌∙◌}
use Rattle.std.specs.Vec.Iter.{into_iter_items, into_iter_len}
use Rattle.command_texts.proofs.Events.{begins, is_next, goes_on, ends}
use Rattle.command_texts.proofs.script.events_of.Goals as goal

pub loop-line-init : goal.loop-line-init
loop-line-init c =
    let gives = c.into_iter-line-iterator.ensures.into_iter_gives in
    let vec = c.into_vec-line-items.ensures in
    begins c.args.config.now c.args.lines (into_iter_items c.into_iter-line-iterator.result) (into_iter_len c.into_iter-line-iterator.result) c.new-events.result (gives.0 ∙ vec) (gives.1 ∙ c.into_vec-line-items.result.ok.0 ∙ ap length vec) c.new-events.ensures c.requires

pub form_line-requires : goal.form_line-requires
form_line-requires c =
    is_next c.args.config.now c.args.lines (into_iter_items c.loop-line.line-iterator) (into_iter_items c.next.new.self) (into_iter_len c.loop-line.line-iterator) c.in-Some.line c.loop-line.events c.in-Some.ensures.steps.0 c.loop-line.invariant

pub loop-line-preserved : goal.loop-line-preserved
loop-line-preserved c =
    let steps = c.in-Some.ensures.steps in
    goes_on c.args.config.now c.args.lines (into_iter_items c.loop-line.line-iterator) (into_iter_items c.next.new.self) (into_iter_len c.loop-line.line-iterator) (into_iter_len c.next.new.self) c.in-Some.line c.loop-line.events c.push.new.self steps.0 steps.1 c.in_ok-push.ensures.ok c.form_line.ensures c.loop-line.invariant

pub returns-clause-lines : goal.returns-clause-lines
returns-clause-lines c =
    ends c.args.config.now c.args.lines (into_iter_items c.loop-line.line-iterator) (into_iter_len c.loop-line.line-iterator) c.loop-line.events c.in-None.ensures.steps.0 c.loop-line.invariant

pub returns-clause-events : goal.returns-clause-events
returns-clause-events c = c.loop-line.invariant.fine
