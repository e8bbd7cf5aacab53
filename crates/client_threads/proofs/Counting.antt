-- A run's phases, counted by the plan's work, and a refusal that is handed on.
use Rattle.std.proofs.Common.{◌≡◌, ℕ, ◌+◌, ◌<◌, ◌≤◌, false, cond, List, length, take, get_or, refl, sym, ◌∙◌, ap, Err, Ok, take_all}
use Rattle.std.specs.Prelude.{count_by, Result}
use Rattle.std.specs.Result.{IsErrAnd}
use Rattle.std.proofs.lemmas.List.Sums.{count_by_more_yes, count_by_more_no, sum_by-take-le}
use Rattle.event_clock.specs.Passes.{HasFullPass, Tally}
use Rattle.plan_words.specs.Named.{is_phase}
use Rattle.plan_words.specs.declared.job.Job.{Job}
use Rattle.plan_words.specs.declared.job.Job.TheVariants.{Block, Device, Phase}
use Rattle.event_clock.specs.declared.refusal.RunRefusal.{RunRefusal}
use Rattle.event_clock.specs.declared.refusal.RunRefusal.TheVariants.{ClockFull}

-- a full clock has a full pass
abbrev pub ShowsFull : RunRefusal → Type 0
ShowsFull e = (drawn : Tally) → e ≡ ClockFull drawn → HasFullPass drawn

pub handed_on : {T : Type 0} (r : Result T RunRefusal) (e : RunRefusal) → IsErrAnd r (λ d. d ≡ e) → ShowsFull e → (drawn : Tally) → r ≡ Err (ClockFull drawn) → HasFullPass drawn
handed_on (Ok x) e h full drawn is = absurd h
handed_on (Err d) e h full drawn is = (let same : d ≡ ClockFull drawn = cc in full drawn (sym h ∙ same))

-- the phases that end in the first jobs
abbrev pub phases_in : List Job → ℕ → ℕ
phases_in work i = count_by is_phase (take i work)

pub one_phase_more : (work : List Job) (i : ℕ) (d : Job) → i < length work → get_or work i d ≡ Phase → phases_in work (i + 1) ≡ phases_in work i + 1
one_phase_more work i d lt is = count_by_more_yes is_phase work i d lt (ap is_phase is)

-- a job that is no end of a phase
pub no_phase : (j : Job) → (j ≡ Phase → ⊥) → is_phase j ≡ false
no_phase Phase h = absurd (h refl)
no_phase (Block client op) h = refl
no_phase (Device client op) h = refl

pub no_phase_more : (work : List Job) (i : ℕ) (d : Job) → i < length work → is_phase (get_or work i d) ≡ false → phases_in work (i + 1) ≡ phases_in work i
no_phase_more work i d lt is = count_by_more_no is_phase work i d lt is

-- all jobs' phases
pub all_phases : (work : List Job) (i : ℕ) → length work ≤ i → phases_in work i ≡ count_by is_phase work
all_phases work i le = ap (count_by is_phase) (take_all i work le)

-- the first jobs' phases are no more
pub few_phases : (work : List Job) (i : ℕ) → phases_in work i ≤ count_by is_phase work
few_phases work i = sum_by-take-le (λ (x : Job). cond (is_phase x) 1 0) work i
