-- A phase that ends, and a step that ends.
use Rattle.std.proofs.Common.{◌≡◌, ◌⊎◌, ℕ, ◌+◌, true, false, List, [], ◌∷◌, length, sym, ap, subst, ◌∙◌, arith, inl, inr}
use Rattle.std.specs.declared.option.Option.TheVariants.{None, Some}
use Rattle.std.specs.Prelude.{slice_get}
use Rattle.block_device.specs.declared.steps.BlockStep.{BlockStep}
use Rattle.block_device.specs.Steps.{Fits}
use Rattle.journals.specs.Desks.{DeskState}
use Rattle.client_desks.specs.Desks.{DeskView, CanStart, state_at, task_at}
use Rattle.plan_words.specs.declared.plan.Plan.{Plan}
use Rattle.plan_followed.specs.Clients.{IsCutOff, times, starts}
use Rattle.client_duties.specs.declared.correct_client.CorrectClient.{CorrectClient}
use Rattle.client_duties.specs.ClientDuty.{every_step, HasSteps, StepsFit, Goes, Stands, IsSame, HasWorked, IsAmid, IsAmidOrOff, DidStep, HasStepped, HasAskedOn}
use Rattle.client_duties.proofs.Going.{state_is}
use Rattle.client_duties.proofs.Phasing.{phases_rest, phase_done, one_done, steps_rest, can_go, next_step, step_fits}

-- the phase that the worker began is done
pub worked : (old new : CorrectClient) (steps : List BlockStep) (rest : List (List BlockStep)) (d d' : DeskView) → old.phases.items ≡ steps ∷ rest → new.phases.items ≡ rest → IsSame old new → Stands old d → Goes new d' → IsAmidOrOff new [] d' → HasWorked old new d'
worked old new steps rest d d' was now same s g a = record {
  same = same;
  stands = record {
    goes = g;
    done = phase_done new d' g a;
    steps = subst (λ (p : Plan). HasSteps p new.client new.phases.items) (sym same.plan) (subst (λ (c : ℕ). HasSteps old.plan.value c new.phases.items) (sym same.client)
        (subst (HasSteps old.plan.value old.client) (sym now) (phases_rest old.plan.value old.client steps rest (subst (HasSteps old.plan.value old.client) was s.steps))));
  };
  one = (let a = ap length was in let b = ap length now in omega arith);
}

-- a client that can't start, amid its steps, has crashed
pub amid_off : (w : CorrectClient) (left : List BlockStep) (d : DeskView) → d.lying ≡ false → StepsFit w.plan.value w.client w.phases.items left → (CanStart d → ⊥) → IsAmidOrOff w left d → IsCutOff w.plan.value w.client d.entries
amid_off w left d correct f not (inl a) = absurd (not (can_go w.plan.value w.client w.phases.items left d correct f a))
amid_off w left d correct f not (inr off) = off

-- a client that can start is amid its steps
pub amid_on : (w : CorrectClient) (xs : List BlockStep) (step : BlockStep) (left : List BlockStep) (d : DeskView) → Goes w d → CanStart d → xs ≡ step ∷ left → IsAmidOrOff w xs d → IsAmid w.plan.value w.client w.phases.items (step ∷ left) d
amid_on w xs step left d g can e (inl a) = subst (λ (ys : List BlockStep). IsAmid w.plan.value w.client w.phases.items ys d) e a
amid_on w xs step left d g can e (inr off) =
    let down : (state_at d).crashed ≡ true = ap (λ (x : DeskState). x.crashed) (sym (state_is w d g.its)) ∙ off.down in
    let up = can.up.up in
    absurd (cc)

pub step_next : (w : CorrectClient) (xs : List BlockStep) (step : BlockStep) (left : List BlockStep) (d : DeskView) → Goes w d → CanStart d → xs ≡ step ∷ left → StepsFit w.plan.value w.client w.phases.items xs → IsAmidOrOff w xs d
    → slice_get (every_step w.plan.value w.client) (times starts d.entries) ≡ Some step
step_next w xs step left d g can e f a =
    next_step w.plan.value w.client w.phases.items step left d (subst (StepsFit w.plan.value w.client w.phases.items) e f) (amid_on w xs step left d g can e a)

pub step_there : (w : CorrectClient) (xs : List BlockStep) (step : BlockStep) (left : List BlockStep) → xs ≡ step ∷ left → StepsFit w.plan.value w.client w.phases.items xs → Fits w.plan.value.config step
step_there w xs step left e f = step_fits w.plan.value w.client w.phases.items step left (subst (StepsFit w.plan.value w.client w.phases.items) e f)

module _ (old new : CorrectClient) (before d : DeskView) (h : HasStepped old before new d) where
  phases_items : new.phases.items ≡ old.phases.items
  phases_items = h.phases

  -- from step to step
  pub amid_more : (step : BlockStep) (left : List BlockStep) → IsAmid old.plan.value old.client old.phases.items (step ∷ left) before → IsAmidOrOff new left d
  amid_more step left a = at h.over
    where
      at : DidStep before d ⊎ IsCutOff new.plan.value new.client d.entries → IsAmidOrOff new left d
      at (inl s) = inl (subst (λ (p : Plan). IsAmid p new.client new.phases.items left d) (sym h.same.plan) (subst (λ (c : ℕ). IsAmid old.plan.value c new.phases.items left d) (sym h.same.client)
          (subst (λ (ps : List (List BlockStep)). IsAmid old.plan.value old.client ps left d) (sym phases_items) (one_done old.plan.value old.client old.phases.items step left before d a s))))
      at (inr off) = inr off

  pub fit_more : (step : BlockStep) (left : List BlockStep) → StepsFit old.plan.value old.client old.phases.items (step ∷ left) → StepsFit new.plan.value new.client new.phases.items left
  fit_more step left f =
      subst (λ (p : Plan). StepsFit p new.client new.phases.items left) (sym h.same.plan) (subst (λ (c : ℕ). StepsFit old.plan.value c new.phases.items left) (sym h.same.client)
      (subst (λ (ps : List (List BlockStep)). StepsFit old.plan.value old.client ps left) (sym phases_items) (steps_rest old.plan.value old.client old.phases.items step left f)))

-- an operation was asked to its end: a step is done
pub stepped : (old new : CorrectClient) (before mid d : DeskView) → times starts mid.entries ≡ times starts before.entries + 1 → HasAskedOn old mid new d → HasStepped old before new d
stepped old new before mid d e h = record { same = h.same; phases = h.phases; goes = h.goes; over = at h.over }
  where
    at : ((task_at d ≡ None) × ((state_at d).crashed ≡ false)) ⊎ IsCutOff new.plan.value new.client d.entries → DidStep before d ⊎ IsCutOff new.plan.value new.client d.entries
    at (inl s) = inl (record { one = h.starts ∙ e; idle = s.0; up = s.1 })
    at (inr off) = inr off
