-- Command queues of which one changes.
use Rattle.std.proofs.Common.{◌≡◌, ℕ, ◌<◌, ◌≤◌, zero, suc, Bool, true, false, not, ◌&&◌, leb, List, [], ◌∷◌, refl, sym, ap, subst, ◌∙◌, length, get_or, replicate, inl, inr, arith}
use Rattle.std.specs.Prelude.{nat_le, option_map, slice_index_or, slice_get, slice_set, IfSome, IfNone, Option, Result, Ok, Err, OnOk}
use Rattle.std.specs.List.{All}
use Rattle.std.specs.declared.option.Option.TheVariants.{None, Some}
use Rattle.std.proofs.lemmas.Bool.Decides.{nat_tests}
use Rattle.std.proofs.lemmas.List.{length-set, length-replicate, get_or_read}
use Rattle.std.proofs.lemmas.List.Elements.{All-head, All-tail}
use Rattle.std.proofs.lemmas.Option.{get_or_from_slice_get, slice_get-get_or, slice_get_within}
use Rattle.quorum_rules.specs.Limits.{Numbers}
use Rattle.protocol.specs.Count.{update}
use Rattle.protocol.specs.Setting.{Setting}
use Rattle.protocol.specs.World.{World}
use Rattle.run_words.specs.declared.line.Line.{Line}
use Rattle.run_words.specs.declared.line.Line.TheVariants.{Write, Read, Resend, Call, Give, Hear, Lost, CrashNode, CrashClient, Lie, Tell, Poke, False, Sound, Mix, Prune, Back, Restart}
use Rattle.protocol.specs.Lines.{StepFault, fault}
use Rattle.line_forms.specs.declared.cause.Cause.TheVariants.{Step}
use Rattle.protocol.proofs.lemmas.Playing.{no_fault}
use Rattle.protocol.proofs.lemmas.Counting.{update-cases}
use Rattle.protocol.proofs.lemmas.Seeing.{funext, at_list, at_replicate}
use Rattle.block_device.specs.declared.steps.BlockStep.{BlockStep}
use Rattle.block_device.specs.Steps.{Fits}
use Rattle.script_run.specs.Performing.{CommandQueues, returning, without}
use Rattle.script_run.specs.CommandQueues.{AreQueues}

-- no step
abbrev none : List BlockStep
none = []

-- queues with this world
abbrev pub with_left : World → (ℕ → List BlockStep) → CommandQueues
with_left w left = record { world = w; left = left }

-- what follows where something took place
pub on_ok : {T E A B : Type 0} (r : Result T E) → (A → B) → OnOk r A → OnOk r B
on_ok (Ok x) f h = f h
on_ok (Err e) f h = tt

-- another world, and other steps
pub both : (w z : World) (f g : ℕ → List BlockStep) → w ≡ z → f ≡ g → with_left w f ≡ with_left z g
both w z f g e h i = with_left (e i) (h i)

-- nobody has a step left
pub none_left : (n : ℕ) (left : List (List BlockStep)) → left ≡ replicate n none → ◌≡◌ {A = ℕ → List BlockStep} (λ k. slice_index_or left k none) (λ k. none)
none_left n left e = funext _ _ (λ k. ap (λ (z : List (List BlockStep)). slice_index_or z k none) e ∙ at_replicate n none k)

-- the steps of one queue are others
pub left_set : (left : List (List BlockStep)) (i : ℕ) (steps : List BlockStep) → i < length left
    → ◌≡◌ {A = ℕ → List BlockStep} (λ k. slice_index_or (slice_set left i steps) k none) (update (λ (k : ℕ). slice_index_or left k none) i steps)
left_set left i steps l = funext _ _ (λ j. at_list left none steps i l j)

-- a client, if there is one, drops its steps
pub left_without : (left new : List (List BlockStep)) (o : Option ℕ) → IfSome o (λ k. k < length left) → IfNone o (new ≡ left) → IfSome o (λ k. new ≡ slice_set left k none)
    → ◌≡◌ {A = ℕ → List BlockStep} (λ k. slice_index_or new k none) (without (λ k. slice_index_or left k none) o)
left_without left new None within kept dropped = ap {B = ℕ → List BlockStep} (λ (z : List (List BlockStep)) (k : ℕ). slice_index_or z k none) kept
left_without left new (Some i) within kept dropped = ap {B = ℕ → List BlockStep} (λ (z : List (List BlockStep)) (k : ℕ). slice_index_or z k none) dropped ∙ left_set left i none within

-- who comes back is a client
pub returning_there : (s : Setting) (w : World) (line : Line) → fault s w line ≡ None → IfSome (returning line) (λ k. k ≤ 1000)
returning_there s w (Write c block value) fine = tt
returning_there s w (Read c block) fine = tt
returning_there s w (Resend c) fine = tt
returning_there s w (Call c i) fine = tt
returning_there s w (Give i k) fine = tt
returning_there s w (Hear c k) fine = tt
returning_there s w (Lost c i) fine = tt
returning_there s w (CrashNode i) fine = tt
returning_there s w (CrashClient c) fine = tt
returning_there s w (Lie m) fine = tt
returning_there s w (Tell m) fine = tt
returning_there s w (Poke m) fine = tt
returning_there s w (False c i rule) fine = tt
returning_there s w (Sound c i block time value) fine = tt
returning_there s w (Mix c i block time value other) fine = tt
returning_there s w (Prune i block) fine = tt
returning_there s w (Restart i) fine = tt
returning_there s w (Back k) fine = client_is k (no_fault s w (Back k) fine).actors.0
  where
    client_is : (k : ℕ) → not (nat_le 1 k && nat_le k 1000) ≡ false → k ≤ 1000
    client_is k e = at (leb 1 k) (leb k 1000) refl e
      where
        at : (a b : Bool) → leb k 1000 ≡ b → not (a && b) ≡ false → k ≤ 1000
        at true true f g = grind (arith, nat_tests)
        at true false f g = absurd (cc)
        at false b f g = absurd (cc)

unmapped : (o : Option StepFault) → option_map Step o ≡ None → o ≡ None
unmapped None e = refl
unmapped (Some f) e = absurd (cc)

-- and has a queue
pub returning_within : (s : Setting) (w : World) (line : Line) (left : List (List BlockStep)) → option_map Step (fault s w line) ≡ None → length left ≡ 1001 → IfSome (returning line) (λ k. k < length left)
returning_within s w line left fine count = at (returning line) (returning_there s w line (unmapped (fault s w line) fine))
  where
    at : (o : Option ℕ) → IfSome o (λ k. k ≤ 1000) → IfSome o (λ k. k < length left)
    at None h = tt
    at (Some k) h = omega (arith, count, h)

module _ (c : Numbers) where
  all_of_none : All (Fits c) none
  all_of_none k d l = absurd (omega arith)

  pub none_fit : (n k : ℕ) (steps : List BlockStep) → slice_get (replicate n none) k ≡ Some steps → All (Fits c) steps
  none_fit zero k steps e = absurd cc
  none_fit (suc n) zero steps e = let is : none ≡ steps = cc in subst (λ (z : List BlockStep). All (Fits c) z) is all_of_none
  none_fit (suc n) (suc k) steps e = none_fit n k steps e

  -- queues with nothing left
  pub new_queues : (left : List (List BlockStep)) → left ≡ replicate 1001 none → AreQueues c left
  new_queues left e = subst (AreQueues c) (sym e) (record { count = length-replicate 1001 none; fit = none_fit 1001 })

  -- the steps of a queue fit
  pub queue_fits : (left : List (List BlockStep)) (i : ℕ) → AreQueues c left → i < length left → All (Fits c) (get_or left i none)
  queue_fits left i h l = h.fit i (get_or left i none) (slice_get-get_or left i none l)

  -- one queue has other steps, which fit
  pub set_queue : (left : List (List BlockStep)) (i : ℕ) (steps : List BlockStep) → AreQueues c left → i < length left → All (Fits c) steps → AreQueues c (slice_set left i steps)
  set_queue left i steps h l fits = record {
    count = length-set left i steps ∙ h.count;
    fit = λ k x e.
        let at : get_or (slice_set left i steps) k none ≡ x = get_or_from_slice_get (slice_set left i steps) k x none e in
        let within : k < length (slice_set left i steps) = slice_get_within (slice_set left i steps) k x e in
        let same : length (slice_set left i steps) ≡ length left = length-set left i steps in
        let both : get_or (slice_set left i steps) k none ≡ update (λ (j : ℕ). slice_index_or left j none) i steps k = at_list left none steps i l k in
        elim (update-cases (λ (j : ℕ). slice_index_or left j none) i steps k) [
          | inl f ↦ subst (λ (z : List BlockStep). All (Fits c) z) (sym f.1 ∙ sym both ∙ at) fits
          | inr f ↦ subst (λ (z : List BlockStep). All (Fits c) z) (sym f.1 ∙ sym both ∙ at) (queue_fits left k h (omega (arith, same, within)))
        ];
  }

  pub queues_without : (left new : List (List BlockStep)) (o : Option ℕ) → IfSome o (λ k. k < length left) → IfNone o (new ≡ left) → IfSome o (λ k. new ≡ slice_set left k none) → AreQueues c left → AreQueues c new
  queues_without left new None within kept dropped h = subst (AreQueues c) (sym kept) h
  queues_without left new (Some i) within kept dropped h = subst (AreQueues c) (sym dropped) (set_queue left i none h within all_of_none)

  module _ (left : List (List BlockStep)) (i : ℕ) (step : BlockStep) (more : List BlockStep) (h : AreQueues c left) (l : i < length left) (x : List BlockStep) (at : x ≡ get_or left i x) (is : x ≡ step ∷ more) where
    -- the steps of a queue whose first one is taken
    pub queue_is : get_or left i none ≡ step ∷ more
    queue_is = sym (get_or_read left i x l at none) ∙ is

    all_fit : All (Fits c) (step ∷ more)
    all_fit = subst (λ (z : List BlockStep). All (Fits c) z) queue_is (queue_fits left i h l)

    -- the one taken fits, and so do the queues that are left
    pub step_fits : Fits c step
    step_fits = All-head (Fits c) step more all_fit

    pub queues_stay : AreQueues c (slice_set left i more)
    queues_stay = set_queue left i more h l (All-tail (Fits c) step more all_fit)
