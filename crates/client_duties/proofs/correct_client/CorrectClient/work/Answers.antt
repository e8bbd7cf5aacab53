use Rattle.std.proofs.Common.{◌⊎◌, sym, subst, List}
use Rattle.block_device.specs.declared.steps.BlockStep.{BlockStep}
use Rattle.plan_followed.specs.Clients.{IsCutOff}
use Rattle.client_duties.specs.ClientDuty.{HasSteps, StepsFit, IsAmid}
use Rattle.client_duties.proofs.Phasing.{phase_amid, phase_steps}
use Rattle.client_duties.proofs.Ending.{worked}
use Rattle.client_duties.proofs.correct_client.CorrectClient.work.Goals as goal

pub do_steps-requires-clause-amid : goal.do_steps-requires-clause-amid
do_steps-requires-clause-amid g c =
    let w = c.args.self.now in
    let d = c.args.endpoint.now.desk in
    let rest = c.pop_front.new.self.items in
    subst (λ (s : List BlockStep). IsAmid w.plan.value w.client rest s d ⊎ IsCutOff w.plan.value w.client d.entries) (sym c.of.ensures)
    (phase_amid w d c.in-Some.steps rest c.in-Some.ensures.items c.requires.ready.stands)

pub do_steps-requires-clause-steps : goal.do_steps-requires-clause-steps
do_steps-requires-clause-steps g c =
    let w = c.args.self.now in
    let rest = c.pop_front.new.self.items in
    subst (StepsFit w.plan.value w.client rest) (sym c.of.ensures)
    (phase_steps w.plan.value w.client c.in-Some.steps rest (subst (HasSteps w.plan.value w.client) c.in-Some.ensures.items c.requires.ready.stands.steps))

pub returns-in-Some-clause-done : goal.returns-in-Some-clause-done
returns-in-Some-clause-done g c ok =
    let s = c.do_steps.ensures.same ok in
    worked c.args.self.now c.do_steps.new.self c.in-Some.steps c.pop_front.new.self.items c.args.endpoint.now.desk c.do_steps.new.endpoint.desk c.in-Some.ensures.items s.1
    (record { plan = s.0.plan; client = s.0.client }) c.requires.ready.stands (c.do_steps.ensures.goes ok) (c.do_steps.ensures.done ok)
