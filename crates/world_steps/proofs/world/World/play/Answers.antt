use Rattle.std.proofs.Common.{subst, sym, ◌∙◌, ◌≡◌, ◌<◌, OnOk, IsErrOf}
use Rattle.std.specs.declared.option.Option.TheVariants.{None, Some}
use Rattle.protocol.specs.Lines.{fault, plays, FitsLine}
use Rattle.run_words.specs.declared.line.StepFault.{StepFault as Faults}
use Rattle.world_state.specs.Worlds.{setting_in, world_in}
use Rattle.world_steps.specs.Reached.{IsReached}
use Rattle.world_steps.proofs.world.World.play.Goals as goal
use Rattle.world_steps.specs.declared.refusal.StepRefusal.TheVariants as StepRefusals
use Rattle.std.proofs.lemmas.Result.{on_ok_weaker}
use Rattle.world_state.proofs.lemmas.Became.{same_setting}
use Rattle.world_steps.proofs.Reached.{still_reached}

pub invariant_of-self : goal.invariant_of-self
invariant_of-self c =
    let v = sym (c.deref_mut.ensures.value ∙ c.self.view_is) in
    still_reached c.play.result c.deref_mut.result.now c.play.new.state c.args.place c.args.line.now (subst IsReached (sym c.deref_mut.ensures.value) c.self.invariant)
    (subst (λ z. z.seen.place < c.args.place) v c.requires.later)
    (subst (λ z. FitsLine (setting_in z) c.args.line.now) v c.requires.fits)
    c.play.ensures.allowed c.play.ensures.ok c.play.ensures.unchanged

pub returns-clause-allowed : goal.returns-clause-allowed
returns-clause-allowed c = subst (λ z. OnOk c.play.result (fault (setting_in z) (world_in z) c.args.line.now ≡ None)) (c.deref_mut.ensures.value ∙ c.self.view_is) c.play.ensures.allowed

pub returns-clause-ok : goal.returns-clause-ok
returns-clause-ok c = subst (λ z. OnOk c.play.result (world_in c.play.new.state ≡ plays (setting_in z) (world_in z) c.args.place c.args.line.now)) (c.deref_mut.ensures.value ∙ c.self.view_is) (on_ok_weaker c.play.result (λ h. h.now) c.play.ensures.ok)

pub returns-clause-cluster : goal.returns-clause-cluster
returns-clause-cluster c = subst (λ z. OnOk c.play.result (c.play.new.state.config ≡ z.config)) (c.deref_mut.ensures.value ∙ c.self.view_is) (on_ok_weaker c.play.result (λ h. h.config) c.play.ensures.ok)

pub returns-clause-setting : goal.returns-clause-setting
returns-clause-setting c =
    subst (λ z. OnOk c.play.result (setting_in c.play.new.state ≡ setting_in z)) (c.deref_mut.ensures.value ∙ c.self.view_is)
    (on_ok_weaker c.play.result (λ h. same_setting c.deref_mut.result.now c.play.new.state _ h) c.play.ensures.ok)

pub returns-clause-fault : goal.returns-clause-fault
returns-clause-fault c = subst (λ z. (f : Faults) → IsErrOf c.play.result (StepRefusals.Fault f) → fault (setting_in z) (world_in z) c.args.line.now ≡ Some f) (c.deref_mut.ensures.value ∙ c.self.view_is) c.play.ensures.fault
