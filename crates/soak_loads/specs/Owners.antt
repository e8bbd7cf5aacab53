-- Whose the blocks of a load are.
use Rattle.std.specs.Prelude.{◌≡◌, ◌+◌, ◌%◌, ◌≤◌, ℕ}
use Rattle.std.specs.List.{AllByRecursion}
use Rattle.wire_forms.specs.declared.op.Op.{Op}
use Rattle.wire_forms.specs.declared.op.Op.TheVariants.{Read, Write}
use Rattle.plan_words.specs.declared.job.Job.{Job}
use Rattle.plan_words.specs.declared.job.Job.TheVariants.{Block, Device, Phase}
use Rattle.soak_loads.specs.MadePlans.{work_of}

abbrev pub on_block : Op → ℕ
on_block (Read block) = block
on_block (Write block value) = block

-- an operation of the one client that its block has
abbrev pub IsOwned : ℕ → Job → Type 0
IsOwned clients (Block client op) = client ≡ 1 + on_block op % clients
IsOwned clients (Device client op) = ⊥
IsOwned clients Phase = ⊥

-- a load has nothing but such operations
abbrev pub BlocksHaveOneClient : Type 0
BlocksHaveOneClient = (number clients ops : ℕ) → 1 ≤ clients → AllByRecursion (IsOwned clients) (work_of number clients ops)
