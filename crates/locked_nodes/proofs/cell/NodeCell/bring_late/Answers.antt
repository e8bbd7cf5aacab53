use Rattle.std.proofs.Common.{◌≡◌, ◌≤◌, [], ap, subst, ◌∙◌, rules}
use Rattle.event_clock.specs.Passes.{Holder, drew}
use Rattle.locked_nodes.specs.declared.answers.Late.TheVariants.{Delivered, Lost}
use Rattle.locked_nodes.specs.Cells.{BroughtLate}
use Rattle.locked_nodes.proofs.Keeping.{late_asks}
use Rattle.locked_nodes.proofs.lemmas.Aside.{aside_late}
use Rattle.locked_nodes.proofs.lemmas.Growing.{cell_late, cell_lates, oldest_of, late_came, told_delivered, told_lost}
use Rattle.locked_nodes.proofs.cell.NodeCell.bring_late.Goals as goal

pub act_late-requires-clause-asks : goal.act_late-requires-clause-asks
act_late-requires-clause-asks c =
    let was = c.self.inside in
    late_asks was.terms was.state.late (cell_late was.terms was.state was.journal.items was.pass c.self.invariant)

pub invariant_of-self-2 : goal.invariant_of-self-2
invariant_of-self-2 c =
    let was = c.self.inside in
    let some : was.state.late ≡ [] → ⊥ = search rules in
    let mail = oldest_of was.state.late some in
    let n = c.add_entry-number.result in
    let drawn = c.add_entry-number.ensures.pass ∙ ap (λ (p : Holder). drew p n) c.note-note.ensures.pass in
    let later = subst (λ (p : Holder). p.seen ≤ n) c.note-note.ensures.pass c.add_entry-number.ensures.later.0 in
    cell_lates c.acts.ensures.late was.terms was.state was.journal.items was.pass c.nature-nature.result mail.0 mail.1 n c.in_ok-act.act c.act_late.new.self c.reserve.new.self.items c.add_entry-number.new.journal.items c.add_entry-number.new.pass
    c.self.invariant c.nature-nature.ensures mail.2 later (c.in_ok-act.ensures.act mail.0 mail.1 mail.2) (c.in_ok-act.ensures.ok mail.0 mail.1 mail.2) c.reserve.ensures.items c.add_entry-number.ensures.journal drawn

pub returns-clause-delivered : goal.returns-clause-delivered
returns-clause-delivered c = λ n e.
    let was = c.self.inside in
    let some : was.state.late ≡ [] → ⊥ = search rules in
    let mail = oldest_of was.state.late some in
    let told : c.late_told.result ≡ Delivered n = cc in
    let is = told_delivered c.loses-lost.result c.add_entry-number.result n c.late_told.result c.late_told.ensures told in
    let drawn = c.add_entry-number.ensures.pass ∙ ap (λ (p : Holder). drew p c.add_entry-number.result) c.note-note.ensures.pass in
    let came = late_came c.args.self.now was.terms was.state was.journal.items was.pass c.nature-nature.result mail.0 mail.1 c.add_entry-number.result c.in_ok-act.act c.reserve.new.self.items c.add_entry-number.new.journal.items c.add_entry-number.new.pass c.loses-lost.result
    c.self.view_is c.self.invariant c.nature-nature.ensures mail.2 (c.in_ok-act.ensures.act mail.0 mail.1 mail.2) c.reserve.ensures.items c.add_entry-number.ensures.journal drawn c.loses-lost.ensures in
    (subst (λ k. BroughtLate c.args.self.now k (record { charter = was.terms; journal = c.add_entry-number.new.journal.items; pass = c.add_entry-number.new.pass })) is.1 came.0, came.1 ∙ is.0)

pub returns-clause-lost : goal.returns-clause-lost
returns-clause-lost c = λ n e.
    let was = c.self.inside in
    let some : was.state.late ≡ [] → ⊥ = search rules in
    let mail = oldest_of was.state.late some in
    let told : c.late_told.result ≡ Lost n = cc in
    let is = told_lost c.loses-lost.result c.add_entry-number.result n c.late_told.result c.late_told.ensures told in
    let drawn = c.add_entry-number.ensures.pass ∙ ap (λ (p : Holder). drew p c.add_entry-number.result) c.note-note.ensures.pass in
    let came = late_came c.args.self.now was.terms was.state was.journal.items was.pass c.nature-nature.result mail.0 mail.1 c.add_entry-number.result c.in_ok-act.act c.reserve.new.self.items c.add_entry-number.new.journal.items c.add_entry-number.new.pass c.loses-lost.result
    c.self.view_is c.self.invariant c.nature-nature.ensures mail.2 (c.in_ok-act.ensures.act mail.0 mail.1 mail.2) c.reserve.ensures.items c.add_entry-number.ensures.journal drawn c.loses-lost.ensures in
    (subst (λ k. BroughtLate c.args.self.now k (record { charter = was.terms; journal = c.add_entry-number.new.journal.items; pass = c.add_entry-number.new.pass })) is.1 came.0, came.1 ∙ is.0)

pub returns-clause-aside : goal.returns-clause-aside
returns-clause-aside c =
    let was = c.self.inside in
    let some : was.state.late ≡ [] → ⊥ = search rules in
    let mail = oldest_of was.state.late some in
    let drawn = c.add_entry-number.ensures.pass ∙ ap (λ (p : Holder). drew p c.add_entry-number.result) c.note-note.ensures.pass in
    let came = late_came c.args.self.now was.terms was.state was.journal.items was.pass c.nature-nature.result mail.0 mail.1 c.add_entry-number.result c.in_ok-act.act c.reserve.new.self.items c.add_entry-number.new.journal.items c.add_entry-number.new.pass c.loses-lost.result
    c.self.view_is c.self.invariant c.nature-nature.ensures mail.2 (c.in_ok-act.ensures.act mail.0 mail.1 mail.2) c.reserve.ensures.items c.add_entry-number.ensures.journal drawn c.loses-lost.ensures in
    aside_late c.args.self.now (record { charter = was.terms; journal = c.add_entry-number.new.journal.items; pass = c.add_entry-number.new.pass }) c.add_entry-number.result came.0
