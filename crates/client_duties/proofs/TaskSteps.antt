-- The phases of some work: how many there are, which steps they have, and how many steps these are.
use Rattle.std.proofs.Common.{◌≡◌, ℕ, zero, suc, ◌+◌, ◌≤◌, ◌==◌, Bool, true, false, cond, List, [], ◌∷◌, ◌++◌, length, take, count_by, sum_by, Option, refl, sym, ap, ◌∙◌, arith, append_assoc, length-append}
use Rattle.std.specs.declared.option.Option.TheVariants.{None, Some}
use Rattle.std.specs.List.{AllByRecursion}
use Rattle.std.proofs.lemmas.List.{append-nil}
use Rattle.std.proofs.lemmas.List.Sums.{sum_by-cons}
use Rattle.quorum_rules.specs.Limits.{Numbers}
use Rattle.line_forms.specs.declared.cause.DeviceFault.{DeviceFault}
use Rattle.wire_forms.specs.declared.device.DeviceOp.{DeviceOp}
use Rattle.block_device.specs.declared.steps.BlockStep.{BlockStep}
use Rattle.block_device.specs.Ranges.{fault_of}
use Rattle.block_device.specs.Ops.{step_of}
use Rattle.block_device.specs.Steps.{steps_of}
use Rattle.plan_words.specs.declared.job.Job.{Job}
use Rattle.plan_words.specs.declared.job.Job.TheVariants.{Block, Device, Phase}
use Rattle.plan_words.specs.Named.{is_phase}
use Rattle.plan_words.specs.Plans.{step_count, steps_unless, step_limit, device_fault}
use Rattle.plan_followed.specs.Asked.{steps_in, steps_for, first_phases}
use Rattle.client_duties.specs.Phases.{all_steps, with_steps, phases_in}

take_none : (k : ℕ) → ◌≡◌ {A = List (List BlockStep)} (take k []) []
take_none zero = refl
take_none (suc k) = refl

first_more : (steps : List BlockStep) (phases : List (List BlockStep)) (k : ℕ) → all_steps (take (suc k) (with_steps steps phases)) ≡ steps ++ all_steps (take (suc k) phases)
first_more steps [] k = ap (λ (x : List (List BlockStep)). steps ++ all_steps x) (take_none k)
first_more steps (phase ∷ phases) k = append_assoc steps phase (all_steps (take k phases))

-- the first phases have the steps of as many phases of the work
pub first_steps : (config : Numbers) (c : ℕ) (work : List Job) (k : ℕ) → all_steps (take k (phases_in config c work)) ≡ steps_for config c (first_phases k work)
first_steps config c work zero = refl
first_steps config c [] (suc k) = ap all_steps (take_none k)
first_steps config c (Phase ∷ work) (suc k) = first_steps config c work k
first_steps config c (Block client op ∷ work) (suc k) = first_more (steps_in config c (Block client op)) (phases_in config c work) k ∙ ap (λ (x : List BlockStep). steps_in config c (Block client op) ++ x) (first_steps config c work (suc k))
first_steps config c (Device client op ∷ work) (suc k) = first_more (steps_in config c (Device client op)) (phases_in config c work) k ∙ ap (λ (x : List BlockStep). steps_in config c (Device client op) ++ x) (first_steps config c work (suc k))

all_more : (steps : List BlockStep) (phases : List (List BlockStep)) → all_steps (with_steps steps phases) ≡ steps ++ all_steps phases
all_more steps [] = refl
all_more steps (phase ∷ phases) = append_assoc steps phase (all_steps phases)

-- all phases have all steps
pub every_step : (config : Numbers) (c : ℕ) (work : List Job) → all_steps (phases_in config c work) ≡ steps_for config c work
every_step config c [] = refl
every_step config c (Phase ∷ work) = every_step config c work
every_step config c (Block client op ∷ work) = all_more (steps_in config c (Block client op)) (phases_in config c work) ∙ ap (λ (x : List BlockStep). steps_in config c (Block client op) ++ x) (every_step config c work)
every_step config c (Device client op ∷ work) = all_more (steps_in config c (Device client op)) (phases_in config c work) ∙ ap (λ (x : List BlockStep). steps_in config c (Device client op) ++ x) (every_step config c work)

as_many : (steps : List BlockStep) (phases : List (List BlockStep)) (n : ℕ) → length phases ≡ n + 1 → length (with_steps steps phases) ≡ n + 1
as_many steps [] n e = absurd (omega arith)
as_many steps (phase ∷ phases) n e = e

-- there is one phase more than there are ends of phases
pub count_phases : (config : Numbers) (c : ℕ) (work : List Job) → length (phases_in config c work) ≡ count_by is_phase work + 1
count_phases config c [] = refl
count_phases config c (Phase ∷ work) = let e = count_phases config c work in let s = sum_by-cons (λ job. cond (is_phase job) 1 0) Phase work in omega arith
count_phases config c (Block client op ∷ work) = as_many (steps_in config c (Block client op)) (phases_in config c work) (count_by is_phase work) (count_phases config c work)
count_phases config c (Device client op ∷ work) = as_many (steps_in config c (Device client op)) (phases_in config c work) (count_by is_phase work) (count_phases config c work)

one_at_most : (b : Bool) (step : BlockStep) → length (cond b (step ∷ []) []) ≤ 1
one_at_most true step = omega arith
one_at_most false step = omega arith

own_at_most : (config : Numbers) (b : Bool) (op : DeviceOp) (o : Option DeviceFault) → o ≡ None → length (cond b (steps_of config op) []) ≤ steps_unless config op o
own_at_most config true op None e = omega arith
own_at_most config false op None e = omega arith
own_at_most config b op (Some fault) e = absurd (cc)

job_steps : (config : Numbers) (c : ℕ) (job : Job) → device_fault config job ≡ None → length (steps_in config c job) ≤ step_count config job
job_steps config c (Block client op) e = one_at_most (c == client) (step_of op)
job_steps config c (Device client op) e = own_at_most config (c == client) op (fault_of config op) e
job_steps config c Phase e = omega arith

few_for : (config : Numbers) (c : ℕ) (work : List Job) → AllByRecursion (λ job. device_fault config job ≡ None) work → length (steps_for config c work) ≤ sum_by (step_count config) work
few_for config c [] h = omega arith
few_for config c (job ∷ work) h =
    let a = job_steps config c job h.0 in
    let b = few_for config c work h.1 in
    let e = length-append (steps_in config c job) (steps_for config c work) in
    let s = sum_by-cons (step_count config) job work in
    omega arith

-- no client has more steps than the work has operations
pub few_steps : (config : Numbers) (c : ℕ) (work : List Job) → AllByRecursion (λ job. device_fault config job ≡ None) work → length (all_steps (phases_in config c work)) ≤ sum_by (step_count config) work
few_steps config c work h = let e = ap length (every_step config c work) in let f = few_for config c work h in omega arith

-- ---- from job to job

with_both : (s t : List BlockStep) (phases : List (List BlockStep)) → with_steps (s ++ t) phases ≡ with_steps s (with_steps t phases)
with_both s t [] = refl
with_both s t (phase ∷ phases) = ap (λ (x : List BlockStep). x ∷ phases) (append_assoc s t phase)

-- the steps of a job stand before those of the work after it
pub job_more : (config : Numbers) (c : ℕ) (steps : List BlockStep) (job : Job) (work : List Job) → is_phase job ≡ false → with_steps (steps ++ steps_in config c job) (phases_in config c work) ≡ with_steps steps (phases_in config c (job ∷ work))
job_more config c steps (Block client op) work e = with_both steps (steps_in config c (Block client op)) (phases_in config c work)
job_more config c steps (Device client op) work e = with_both steps (steps_in config c (Device client op)) (phases_in config c work)
job_more config c steps Phase work e = absurd (cc)

with_none : (phases : List (List BlockStep)) (n : ℕ) → length phases ≡ n + 1 → with_steps [] phases ≡ phases
with_none [] n e = absurd (omega arith)
with_none (phase ∷ phases) n e = refl

pub no_steps : (config : Numbers) (c : ℕ) (work : List Job) → with_steps [] (phases_in config c work) ≡ phases_in config c work
no_steps config c work = with_none (phases_in config c work) (count_by is_phase work) (count_phases config c work)

-- where a phase ends the next one begins
pub phase_more : (config : Numbers) (c : ℕ) (phases : List (List BlockStep)) (steps : List BlockStep) (job : Job) (work : List Job) → is_phase job ≡ true
    → (phases ++ steps ∷ []) ++ with_steps [] (phases_in config c work) ≡ phases ++ with_steps steps (phases_in config c (job ∷ work))
phase_more config c phases steps (Block client op) work e = absurd (cc)
phase_more config c phases steps (Device client op) work e = absurd (cc)
phase_more config c phases steps Phase work e =
    append_assoc phases (steps ∷ []) (with_steps [] (phases_in config c work))
    ∙ ap (λ (x : List (List BlockStep)). phases ++ steps ∷ x) (no_steps config c work)
    ∙ ap (λ (x : List BlockStep). phases ++ x ∷ phases_in config c work) (sym (append-nil steps))

-- a plan has at most 4000 operations
pub limit_most : (config : Numbers) → step_limit config ≤ 4000
limit_most config = omega arith
