use Rattle.std.proofs.Common.{◌≡◌, ◌≢◌, [], refl, ap, subst, ◌∙◌, None, arith}
use Rattle.std.proofs.lemmas.Grind.{common_steps}
use Rattle.line_forms.proofs.lemmas.Tables.{refusal_here}
use Rattle.plan_words.specs.declared.plan.Plan.{Plan}
use Rattle.plan_words.specs.declared.line.PlanLine.{PlanLine}
use Rattle.plan_words.specs.Lines.{IsPlanLine, line_text}
use Rattle.plan_text.specs.Marks.{Marks, line_marks}
use Rattle.plan_text.specs.Plans.{plan_script}
use Rattle.plan_text.specs.Reading.{seen_cause, with_liar}
use Rattle.plan_text.proofs.Bodies.{body_begins, body_fault, body_cut, body_more, body_spelled, body_faultless}
use Rattle.plan_text.proofs.Steps.{IsNoted, steps_fit}
use Rattle.plan_text.proofs.Fitting.{body_fits}
use Rattle.plan_text.proofs.plan.read_body.Goals as goal

pub loop-rest-init : goal.loop-rest-init
loop-rest-init c =
    let plan : Plan = record { config = c.args.config; liars = c.none.result; rules = c.new.result; work = c.new-2.result } in
    body_begins c.args.text.now plan c.nothing-seen.result c.args.at c.requires.valid c.requires.of_scripts c.new.ensures c.new-2.ensures c.none.ensures.nodes c.none.ensures.clients c.nothing-seen.ensures c.requires.within c.requires.head

pub note-requires-clause-steps : goal.note-requires-clause-steps
note-requires-clause-steps c =
    let config = c.loop-rest.plan.config in
    steps_fit config c.loop-rest.seen c.of-marks.result (ap (seen_cause config c.loop-rest.seen) c.of-marks.ensures ∙ c.in-Ok.ensures.1.2)

pub returns-in_default-clause-fault : goal.returns-in_default-clause-fault
returns-in_default-clause-fault c =
    let some : c.loop-rest.rest.now ≢ [] = λ e. grind (arith, common_steps, c.loop-rest-test.ensures, c.loop-rest-test.true, c.is_empty.ensures, e) in
    rw c.refused.ensures (body_cut c.args.text.now c.loop-rest.plan c.loop-rest.seen c.loop-rest.rest.now c.loop-rest.number c.loop-rest.invariant some c.in_default.ensures.parts)

pub returns-in-Err-clause-fault : goal.returns-in-Err-clause-fault
returns-in-Err-clause-fault c =
    let config = c.loop-rest.plan.config in
    let line = c.in-Some.line.now in
    rw c.refused-in-Err.ensures (refusal_here {X = PlanLine} (λ l. IsPlanLine config l × (line_text l ≡ line) × (seen_cause config c.loop-rest.seen (line_marks config l) ≡ None)) plan_script c.args.text.now c.loop-rest.number _ c.in-Err.refusal c.in-Err.ensures
    (λ cause wrong. body_fault c.args.text.now c.loop-rest.plan c.loop-rest.seen c.loop-rest.rest.now line c.in-Some.after.now c.loop-rest.number cause c.loop-rest.invariant c.in-Some.ensures.parts wrong))

pub loop-rest-preserved : goal.loop-rest-preserved
loop-rest-preserved c =
    let plan = c.loop-rest.plan in
    let line = c.in-Ok.line in
    let read = c.in-Ok.ensures in
    let note = c.in_ok-note.ensures in
    let push = c.in_ok-push.ensures in
    let given : IsNoted c.loop-rest.seen c.note.new.seen c.of-marks.result = record {
      faulty = note.faulty;
      crashing = note.crashing;
      dropped = note.dropped;
      held = note.held;
      lying = note.lying;
      asking = note.asking;
      clients = note.clients;
      lying_nodes = note.lying_nodes;
      faulty_nodes = note.faulty_nodes;
      floods = note.floods;
      phases = note.phases;
      steps = note.steps;
    } in
    let noted = subst (λ (m : Marks). IsNoted c.loop-rest.seen c.note.new.seen m) c.of-marks.ensures given in
    let liars = push.liars ∙ ap (with_liar plan.liars) c.of-marks.ensures in
    body_more c.args.text.now plan c.push.new.plan c.loop-rest.seen c.note.new.seen c.loop-rest.rest.now c.in-Some.line.now c.in-Some.after.now c.loop-rest.number _ line c.loop-rest.invariant c.in-Some.ensures.parts c.in-Some.ensures.shorter
    read.0 read.1 noted push.config push.rules push.work liars refl

pub returns-clause-fits : goal.returns-clause-fits
returns-clause-fits c = body_fits c.args.text.now c.loop-rest.plan c.loop-rest.seen c.loop-rest.rest.now c.loop-rest.number c.loop-rest.invariant

pub returns-clause-spelled : goal.returns-clause-spelled
returns-clause-spelled c =
    let none : c.loop-rest.rest.now ≡ [] = grind (arith, common_steps, c.loop-rest-test.ensures, c.loop-rest-test.false, c.is_empty.ensures) in
    body_spelled c.args.text.now c.loop-rest.plan c.loop-rest.seen c.loop-rest.rest.now c.loop-rest.number c.loop-rest.invariant none

pub returns-clause-faultless : goal.returns-clause-faultless
returns-clause-faultless c =
    let none : c.loop-rest.rest.now ≡ [] = grind (arith, common_steps, c.loop-rest-test.ensures, c.loop-rest-test.false, c.is_empty.ensures) in
    body_faultless c.args.text.now c.loop-rest.plan c.loop-rest.seen c.loop-rest.rest.now c.loop-rest.number c.loop-rest.invariant none
