use Rattle.std.proofs.Common.{◌≤◌, List, map, length, subst, sym, arith}
use Rattle.std.specs.Prelude.{IsTrue, ◌↔◌}
use Rattle.std.proofs.lemmas.Result.{IfOk-weaker}
use Rattle.protocol.specs.Report.{Ascend}
use Rattle.journals.specs.declared.desk.DeskJournal.{DeskJournal}
use Rattle.journals.specs.declared.node.NodeEntry.{NodeEntry}
use Rattle.journals.specs.Journals.{setting_for}
use Rattle.merge_trace.specs.RunSteps.{IsOnce}
use Rattle.merge_trace.specs.Numbered.{all_node_steps, all_desk_steps, AreNew, AreAdded, CanMerge}
use Rattle.merge_trace.proofs.Adding.{refused}
use Rattle.merge_trace.proofs.Entries.{are_once, can, nodes_new, desks_new, empty_has}
use Rattle.merge_trace.proofs.steps.can_merge.Goals as goal

pub returns-then-not-branch-clause-exact : goal.returns-then-not-branch-clause-exact
returns-then-not-branch-clause-exact c =
    refused _ (λ m.
    let new : AreNew (setting_for c.args.journals.now) c.new-numbers.result (all_node_steps 0 c.as_slice-2.result.now) =
    subst (λ (ns : List (List NodeEntry)). AreNew (setting_for c.args.journals.now) c.new-numbers.result (all_node_steps 0 ns)) (sym c.as_slice-2.ensures) (nodes_new c.args.journals.now c.new-numbers.result (empty_has c.new-numbers.result c.new-numbers.ensures.empty) m) in
    let k = c.in_ok-add_nodes.ensures.fine.1 new in
    cc)

pub returns-clause-exact : goal.returns-clause-exact
returns-clause-exact c =
    let j = c.args.journals.now in
    let few : length j.nodes ≤ 256 = omega (arith, c.if-len-gt256.false, c.len.ensures) in
    let up : Ascend (map (λ d. d.client) j.desks) = subst (λ (ds : List DeskJournal). Ascend (map (λ d. d.client) ds)) c.as_slice.ensures (c.do_ascend.ensures.0 c.if-not-do_ascend.false) in
    let nodes : AreNew (setting_for j) c.new-numbers.result (all_node_steps 0 j.nodes) =
    subst (λ (ns : List (List NodeEntry)). AreNew (setting_for j) c.new-numbers.result (all_node_steps 0 ns)) c.as_slice-2.ensures (c.in_ok-add_nodes.ensures.fine.0 c.if-not-branch.false) in
    let added : AreAdded c.new-numbers.result c.add_nodes.new.numbers (all_node_steps 0 j.nodes) =
    subst (λ (ns : List (List NodeEntry)). AreAdded c.new-numbers.result c.add_nodes.new.numbers (all_node_steps 0 ns)) c.as_slice-2.ensures (c.in_ok-add_nodes.ensures.numbers c.if-not-branch.false) in
    let Desks : List DeskJournal → Type 0 = λ ds. AreNew (setting_for j) c.add_nodes.new.numbers (all_desk_steps ds) in
    IfOk-weaker c.add_desks.result (λ fine. IsTrue fine ↔ Desks c.as_slice-3.result.now) (λ fine. IsTrue fine ↔ CanMerge j) (λ fine told. (
      (λ yes. can j c.new-numbers.result c.add_nodes.new.numbers few up nodes added (subst Desks c.as_slice-3.ensures (told.0 yes))),
      (λ m. told.1 (subst Desks (sym c.as_slice-3.ensures) (desks_new j c.new-numbers.result c.add_nodes.new.numbers (empty_has c.new-numbers.result c.new-numbers.ensures.empty) added m))),
    ))
    c.add_desks.ensures.fine

pub returns-clause-once : goal.returns-clause-once
returns-clause-once c = IfOk-weaker c.add_desks.result (λ can. IsTrue can ↔ CanMerge c.args.journals.now) (λ can. IsTrue can → IsOnce c.args.journals.now) (λ can told yes. are_once c.args.journals.now (told.0 yes).once) (returns-clause-exact c)
