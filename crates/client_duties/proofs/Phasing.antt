-- From step to step, and from phase to phase.
use Rattle.std.proofs.Common.{◌≡◌, ◌⊎◌, ℕ, suc, ◌+◌, ◌≤◌, false, List, [], ◌∷◌, ◌++◌, length, take, All, refl, sym, ap, subst, ◌∙◌, arith, inl, inr, append_assoc, length-append}
use Rattle.std.specs.declared.option.Option.TheVariants.{Some}
use Rattle.std.specs.Prelude.{slice_get}
use Rattle.std.proofs.lemmas.List.{append-nil}
use Rattle.std.proofs.lemmas.List.Elements.{All-from_recursion, recursion_from_All}
use Rattle.block_device.specs.declared.steps.BlockStep.{BlockStep}
use Rattle.block_device.specs.Steps.{Fits}
use Rattle.protocol.specs.Seen.{block_of}
use Rattle.wire_forms.specs.declared.op.Op.{Op}
use Rattle.plan_words.specs.declared.plan.Plan.{Plan}
use Rattle.journals.specs.declared.desk.DeskAct.TheVariants.{Start}
use Rattle.journals.specs.Desks.{DeskState, new_desk}
use Rattle.client_desks.specs.Desks.{DeskView, CanStart, state_at, with_own, desk_entry}
use Rattle.plan_followed.specs.Clients.{IsCutOff, IsDone, times, starts}
use Rattle.client_duties.specs.Phases.{all_steps}
use Rattle.client_duties.specs.declared.correct_client.CorrectClient.{CorrectClient}
use Rattle.client_duties.specs.ClientDuty.{phase_in, steps_of_first, every_step, HasSteps, StepsFit, Goes, Stands, IsAmid, IsAmidOrOff, IsOn, DidStep}
use Rattle.client_duties.proofs.Heard.{numbered}
use Rattle.client_duties.proofs.Going.{state_is, more_times}
use Rattle.journals.proofs.lemmas.Lists.{state_snoc}

-- ---- steps

pub first_left : (xs : List BlockStep) (taken : List BlockStep) (step : BlockStep) (left : List BlockStep) → xs ≡ taken ++ step ∷ left → slice_get xs (length taken) ≡ Some step
first_left xs taken step left e = subst (λ (ys : List BlockStep). slice_get ys (length taken) ≡ Some step) (sym e) (at taken)
  where
    at : (ts : List BlockStep) → slice_get (ts ++ step ∷ left) (length ts) ≡ Some step
    at [] = refl
    at (t ∷ ts) = at ts

-- the step that is next of all steps
pub next_step : (plan : Plan) (c : ℕ) (phases : List (List BlockStep)) (step : BlockStep) (left : List BlockStep) (d : DeskView) → StepsFit plan c phases (step ∷ left) → IsAmid plan c phases (step ∷ left) d → slice_get (every_step plan c) (times starts d.entries) ≡ Some step
next_step plan c phases step left d f a =
    let e : every_step plan c ≡ a.taken ++ step ∷ (left ++ f.more) =
    f.all ∙ ap (λ (x : List BlockStep). x ++ f.more) a.steps ∙ append_assoc a.taken (step ∷ left) f.more in
    ap (slice_get (every_step plan c)) a.count ∙ first_left (every_step plan c) a.taken step (left ++ f.more) e

-- the steps that are left after the next one
pub steps_rest : (plan : Plan) (c : ℕ) (phases : List (List BlockStep)) (step : BlockStep) (left : List BlockStep) → StepsFit plan c phases (step ∷ left) → StepsFit plan c phases left
steps_rest plan c phases step left f = record { more = f.more; all = f.all; few = f.few; fit = All-from_recursion (Fits plan.config) left (recursion_from_All (Fits plan.config) (step ∷ left) f.fit).1 }

pub step_fits : (plan : Plan) (c : ℕ) (phases : List (List BlockStep)) (step : BlockStep) (left : List BlockStep) → StepsFit plan c phases (step ∷ left) → Fits plan.config step
step_fits plan c phases step left f = (recursion_from_All (Fits plan.config) (step ∷ left) f.fit).0

pub one_done : (plan : Plan) (c : ℕ) (phases : List (List BlockStep)) (step : BlockStep) (left : List BlockStep) (before d : DeskView) → IsAmid plan c phases (step ∷ left) before → DidStep before d → IsAmid plan c phases left d
one_done plan c phases step left before d a s = record {
  taken = a.taken ++ step ∷ [];
  count = (let e = length-append a.taken (step ∷ []) in let f = a.count in let g = s.one in omega arith);
  steps = a.steps ∙ sym (append_assoc a.taken (step ∷ []) left);
  idle = s.idle;
  up = s.up;
}

-- ---- phases

-- a client amid its steps can start the next one
pub can_go : (plan : Plan) (c : ℕ) (phases : List (List BlockStep)) (left : List BlockStep) (d : DeskView) → d.lying ≡ false → StepsFit plan c phases left → IsAmid plan c phases left d → CanStart d
can_go plan c phases left d correct f a =
    let n = (numbered d.config d.id d.entries).started in
    let few : times starts d.entries ≤ 4000 =
    (let e = ap length f.all in let g = ap length a.steps in let h = length-append (steps_of_first plan c (phase_in plan phases)) f.more in let i = length-append a.taken left in let j = a.count in let k = f.few in omega arith) in
    record { up = record { correct = correct; up = a.up }; idle = a.idle; fresh = omega arith }

-- a phase begins
pub phase_amid : (w : CorrectClient) (d : DeskView) (steps : List BlockStep) (rest : List (List BlockStep)) → w.phases.items ≡ steps ∷ rest → Stands w d → IsAmid w.plan.value w.client rest steps d ⊎ IsCutOff w.plan.value w.client d.entries
phase_amid w d steps rest e s =
    let plan = w.plan.value in
    let c = w.client in
    let h : HasSteps plan c (steps ∷ rest) = subst (HasSteps plan c) e s.steps in
    let done : IsDone plan c (steps_of_first plan c (phase_in plan (steps ∷ rest))) d.entries = subst (λ (x : List (List BlockStep)). IsDone plan c (steps_of_first plan c (phase_in plan x)) d.entries) e s.done in
    let k : phase_in plan (steps ∷ rest) + 1 ≡ phase_in plan rest = (let l = h.fewer in omega arith) in
    elim done [
      | inl f ↦ inl (record {
        taken = steps_of_first plan c (phase_in plan (steps ∷ rest));
        count = f.started;
        steps = ap (steps_of_first plan c) (sym k) ∙ h.next 1 ∙ ap (λ (x : List BlockStep). steps_of_first plan c (phase_in plan (steps ∷ rest)) ++ x) (append-nil steps);
        idle = ap (λ (x : DeskState). x.client.seen.task) (sym (state_is w d s.goes.its)) ∙ f.ended;
        up = ap (λ (x : DeskState). x.crashed) (sym (state_is w d s.goes.its)) ∙ f.up;
      })
      | inr f ↦ inr f
    ]

pub phase_steps : (plan : Plan) (c : ℕ) (steps : List BlockStep) (rest : List (List BlockStep)) → HasSteps plan c (steps ∷ rest) → StepsFit plan c rest steps
phase_steps plan c steps rest h =
    let k : phase_in plan (steps ∷ rest) + 1 ≡ phase_in plan rest = (let l = h.fewer in omega arith) in
    let first = steps_of_first plan c (phase_in plan (steps ∷ rest)) in
    let next : steps_of_first plan c (phase_in plan rest) ≡ first ++ steps = ap (steps_of_first plan c) (sym k) ∙ h.next 1 ∙ ap (λ (x : List BlockStep). first ++ x) (append-nil steps) in
    record {
      more = all_steps rest;
      all = h.all ∙ sym (append_assoc first steps (all_steps rest)) ∙ ap (λ (x : List BlockStep). x ++ all_steps rest) (sym next);
      few = h.few;
      fit = (recursion_from_All (All (Fits plan.config)) (steps ∷ rest) h.fit).0;
    }

pub phases_rest : (plan : Plan) (c : ℕ) (steps : List BlockStep) (rest : List (List BlockStep)) → HasSteps plan c (steps ∷ rest) → HasSteps plan c rest
phases_rest plan c steps rest h =
    let k : phase_in plan (steps ∷ rest) + 1 ≡ phase_in plan rest = (let l = h.fewer in omega arith) in
    let first = steps_of_first plan c (phase_in plan (steps ∷ rest)) in
    let next : steps_of_first plan c (phase_in plan rest) ≡ first ++ steps = ap (steps_of_first plan c) (sym k) ∙ h.next 1 ∙ ap (λ (x : List BlockStep). first ++ x) (append-nil steps) in
    record {
      fewer = (let l = h.fewer in omega arith);
      next = λ j.
          let at : phase_in plan (steps ∷ rest) + suc j ≡ phase_in plan rest + j = omega arith in
          ap (steps_of_first plan c) (sym at) ∙ h.next (suc j) ∙ sym (append_assoc first steps (all_steps (take j rest))) ∙ ap (λ (x : List BlockStep). x ++ all_steps (take j rest)) (sym next);
      all = h.all ∙ sym (append_assoc first steps (all_steps rest)) ∙ ap (λ (x : List BlockStep). x ++ all_steps rest) (sym next);
      few = h.few;
      fit = All-from_recursion (All (Fits plan.config)) rest (recursion_from_All (All (Fits plan.config)) (steps ∷ rest) h.fit).1;
    }

-- a phase ends
pub phase_done : (w : CorrectClient) (d : DeskView) → Goes w d → IsAmidOrOff w [] d → IsDone w.plan.value w.client (steps_of_first w.plan.value w.client (phase_in w.plan.value w.phases.items)) d.entries
phase_done w d g (inl a) =
    let plan = w.plan.value in
    let c = w.client in
    inl (record {
      started = a.count ∙ ap length (sym (a.steps ∙ append-nil a.taken));
      ended = ap (λ (x : DeskState). x.client.seen.task) (state_is w d g.its) ∙ a.idle;
      up = ap (λ (x : DeskState). x.crashed) (state_is w d g.its) ∙ a.up;
      few = g.counts.few;
    })
phase_done w d g (inr f) = inr f

-- ---- starts

pub start_on : (d : DeskView) (n : ℕ) (op : Op) (block : ℕ) → block_of op ≡ block → IsOn block (with_own d n (Start op))
start_on d n op block e =
    let now = state_snoc (new_desk d.config d.id) d.entries (desk_entry n (Start op)) in
    (Rattle.operation_core.specs.Clients.started (state_at d).client op, ap (λ (x : DeskState). x.client.seen.task) now, e)

pub start_up : (d : DeskView) (n : ℕ) (op : Op) → (state_at d).crashed ≡ false → (state_at (with_own d n (Start op))).crashed ≡ false
start_up d n op e = ap (λ (x : DeskState). x.crashed) (state_snoc (new_desk d.config d.id) d.entries (desk_entry n (Start op))) ∙ e

pub start_counts : (d : DeskView) (n : ℕ) (op : Op) → times starts (with_own d n (Start op)).entries ≡ times starts d.entries + 1
start_counts d n op = more_times starts d.entries (desk_entry n (Start op)) refl
