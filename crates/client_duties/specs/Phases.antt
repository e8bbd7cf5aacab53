-- A client's steps, phase by phase.
use Rattle.std.specs.Prelude.{ℕ, List, [], ◌∷◌, ◌++◌}
use Rattle.std.specs.List.{flat_map}
use Rattle.quorum_rules.specs.Limits.{Numbers}
use Rattle.block_device.specs.declared.steps.BlockStep.{BlockStep}
use Rattle.plan_words.specs.declared.job.Job.{Job}
use Rattle.plan_words.specs.declared.job.Job.TheVariants.{Block, Device, Phase}
use Rattle.plan_followed.specs.Asked.{steps_in}

-- the steps of some phases, one phase after the other
abbrev pub all_steps : List (List BlockStep) → List BlockStep
all_steps phases = flat_map (λ phase. phase) phases

-- phases of which the first has these steps more at its front
abbrev pub with_steps : List BlockStep → List (List BlockStep) → List (List BlockStep)
with_steps steps [] = steps ∷ []
with_steps steps (phase ∷ phases) = (steps ++ phase) ∷ phases

-- the client's steps in each phase of some work
abbrev pub phases_in : Numbers → ℕ → List Job → List (List BlockStep)
phases_in config c [] = [] ∷ []
phases_in config c (Phase ∷ work) = [] ∷ phases_in config c work
phases_in config c (Block client op ∷ work) = with_steps (steps_in config c (Block client op)) (phases_in config c work)
phases_in config c (Device client op ∷ work) = with_steps (steps_in config c (Device client op)) (phases_in config c work)
