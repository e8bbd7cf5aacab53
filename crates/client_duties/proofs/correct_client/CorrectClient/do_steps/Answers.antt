use Rattle.std.proofs.Common.{rules, ◌≡◌, ◌∙◌, sym, subst, inr}
use Rattle.std.specs.declared.option.Option.TheVariants.{None}
use Rattle.client_desks.specs.Desks.{CanStart}
use Rattle.client_duties.specs.ClientDuty.{StepsFit}
use Rattle.client_duties.proofs.Running.{same_on, whole_on}
use Rattle.client_duties.proofs.Ending.{amid_off, amid_on, amid_more, fit_more, step_next, step_there}
use Rattle.client_duties.proofs.correct_client.CorrectClient.do_steps.Goals as goal

pub returns-then-not-can_start-clause-done : goal.returns-then-not-can_start-clause-done
returns-then-not-can_start-clause-done g c ok =
    let not : CanStart c.loop-step.endpoint.desk → ⊥ = λ can. (let t = c.can_start.ensures.1 (subst CanStart (sym c.desk.ensures) can) in let n = c.if-not-can_start.true in search rules) in
    inr (amid_off c.loop-step.self c.loop-step.steps c.loop-step.endpoint.desk c.loop-step.invariant.goes.its.correct c.loop-step.invariant.steps not c.loop-step.invariant.amid)

pub do_step-requires-clause-next : goal.do_step-requires-clause-next
do_step-requires-clause-next g c =
    let can : CanStart c.loop-step.endpoint.desk = search rules in
    step_next c.loop-step.self c.loop-step.steps c.in-Some.step c.next.new.self c.loop-step.endpoint.desk c.loop-step.invariant.goes can c.in-Some.ensures.steps c.loop-step.invariant.steps c.loop-step.invariant.amid

pub do_step-requires-clause-fits : goal.do_step-requires-clause-fits
do_step-requires-clause-fits g c = step_there c.loop-step.self c.loop-step.steps c.in-Some.step c.next.new.self c.in-Some.ensures.steps c.loop-step.invariant.steps

pub do_step-requires-clause-whole : goal.do_step-requires-clause-whole
do_step-requires-clause-whole g c = whole_on c.args.self.now c.loop-step.self c.args.shared_cells.now.cell_shards c.loop-step.invariant.same c.requires.whole

pub loop-step-preserved : goal.loop-step-preserved
loop-step-preserved g c =
    let sound : c.do_step.new.endpoint.refused ≡ None = search rules in
    let can : CanStart c.loop-step.endpoint.desk = search rules in
    let h = c.do_step.ensures.stepped sound in
    let w = c.loop-step.self in
    let d = c.loop-step.endpoint.desk in
    let step = c.in-Some.step in
    let left = c.next.new.self in
    let i = c.loop-step.invariant in
    record {
      stays = c.do_step.ensures.stays ∙ i.stays;
      fit = c.do_step.ensures.fit;
      sound = sound;
      later = c.desks_go_on.ensures.on c.args.endpoint.now.desk d c.do_step.new.endpoint.desk i.later c.do_step.ensures.later;
      same = same_on c.args.self.now w c.do_step.new.self i.same h.same;
      phases = h.phases ∙ i.phases;
      goes = h.goes;
      amid = amid_more w c.do_step.new.self d c.do_step.new.endpoint.desk h step left (amid_on w c.loop-step.steps step left d i.goes can c.in-Some.ensures.steps i.amid);
      steps = fit_more w c.do_step.new.self d c.do_step.new.endpoint.desk h step left (subst (StepsFit w.plan.value w.client w.phases.items) c.in-Some.ensures.steps i.steps);
    }
