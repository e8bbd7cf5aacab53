use Rattle.std.proofs.Common.{List, take, drop, ◌+◌, subst, sym}
use Rattle.journals.specs.declared.desk.DeskJournal.{DeskJournal}
use Rattle.journals.specs.declared.desk.DeskEntry.{DeskEntry}
use Rattle.journals.specs.Journals.{setting_for}
use Rattle.merge_trace.specs.Numbered.{desk_steps, all_desk_steps, AreNew, AreAdded}
use Rattle.merge_trace.proofs.Adding.{gone_more, not_all, refused, flat_one_more, flat_cut}
use Rattle.merge_trace.proofs.steps.add_desks.Goals as goal

pub loop-desk-preserved : goal.loop-desk-preserved
loop-desk-preserved c =
    let d = c.desk-item.result in
    gone_more (setting_for c.args.journals.now) c.args.numbers.now c.loop-desk.numbers c.add_desk.new.numbers (all_desk_steps (take c.loop-desk.desk-index c.args.desks.now)) (desk_steps d.client d.entries)
    (all_desk_steps (take (c.loop-desk.desk-index + 1) c.args.desks.now)) (flat_one_more (λ (d : DeskJournal). desk_steps d.client d.entries) c.args.desks.now c.loop-desk.desk-index d c.loop-desk-test.true c.desk-item.is)
    c.loop-desk.invariant
    (subst (λ (es : List DeskEntry). AreNew (setting_for c.args.journals.now) c.loop-desk.numbers (desk_steps d.client es)) c.as_slice.ensures (c.in_ok-add_desk.ensures.fine.0 c.if-not-branch.false))
    (subst (λ (es : List DeskEntry). AreAdded c.loop-desk.numbers c.add_desk.new.numbers (desk_steps d.client es)) c.as_slice.ensures (c.in_ok-add_desk.ensures.numbers c.if-not-branch.false))

pub returns-then-not-branch-clause-fine : goal.returns-then-not-branch-clause-fine
returns-then-not-branch-clause-fine c =
    let d = c.desk-item.result in
    refused _ (not_all (setting_for c.args.journals.now) c.args.numbers.now c.loop-desk.numbers (all_desk_steps (take c.loop-desk.desk-index c.args.desks.now)) (desk_steps d.client d.entries)
    (all_desk_steps (drop (c.loop-desk.desk-index + 1) c.args.desks.now)) (all_desk_steps c.args.desks.now)
    (flat_cut (λ (d : DeskJournal). desk_steps d.client d.entries) c.args.desks.now c.loop-desk.desk-index d c.loop-desk-test.true c.desk-item.is) c.loop-desk.invariant
    (λ new. let k = c.in_ok-add_desk.ensures.fine.1 (subst (λ (es : List DeskEntry). AreNew (setting_for c.args.journals.now) c.loop-desk.numbers (desk_steps d.client es)) (sym c.as_slice.ensures) new) in cc))
