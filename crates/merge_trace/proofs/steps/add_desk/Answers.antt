use Rattle.std.proofs.Common.{take, drop, ◌+◌}
use Rattle.journals.specs.declared.desk.DeskEntry.{DeskEntry}
use Rattle.journals.specs.Journals.{setting_for}
use Rattle.merge_trace.specs.Numbered.{own_step, desk_steps}
use Rattle.merge_trace.proofs.Adding.{gone_more, not_all, refused, flat_one_more, flat_cut}
use Rattle.merge_trace.proofs.steps.add_desk.Goals as goal

pub loop-entry-preserved : goal.loop-entry-preserved
loop-entry-preserved c =
    let e = c.entry-item.result in
    gone_more (setting_for c.args.journals.now) c.args.numbers.now c.loop-entry.numbers c.add_desk_entry.new.numbers (desk_steps c.args.client (take c.loop-entry.entry-index c.args.entries.now)) (own_step c.args.client e.number e.act)
    (desk_steps c.args.client (take (c.loop-entry.entry-index + 1) c.args.entries.now)) (flat_one_more (λ (x : DeskEntry). own_step c.args.client x.number x.act) c.args.entries.now c.loop-entry.entry-index e c.loop-entry-test.true c.entry-item.is)
    c.loop-entry.invariant (c.in_ok-add_desk_entry.ensures.fine.0 c.if-not-branch.false) (c.in_ok-add_desk_entry.ensures.numbers c.if-not-branch.false)

pub returns-then-not-branch-clause-fine : goal.returns-then-not-branch-clause-fine
returns-then-not-branch-clause-fine c =
    let e = c.entry-item.result in
    refused _ (not_all (setting_for c.args.journals.now) c.args.numbers.now c.loop-entry.numbers (desk_steps c.args.client (take c.loop-entry.entry-index c.args.entries.now)) (own_step c.args.client e.number e.act)
    (desk_steps c.args.client (drop (c.loop-entry.entry-index + 1) c.args.entries.now)) (desk_steps c.args.client c.args.entries.now)
    (flat_cut (λ (x : DeskEntry). own_step c.args.client x.number x.act) c.args.entries.now c.loop-entry.entry-index e c.loop-entry-test.true c.entry-item.is) c.loop-entry.invariant
    (λ new. let k = c.in_ok-add_desk_entry.ensures.fine.1 new in cc))
