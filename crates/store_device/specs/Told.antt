-- What a call tells of its operations, by what nodes kept before it and keep after it.
use Rattle.std.specs.Prelude.{◌≡◌, ◌≢◌, ℕ, suc, ◌<◌, ⊤, Bool, List, [], ◌∷◌, map, Option}
use Rattle.std.specs.declared.option.Option.TheVariants.{None, Some}
use Rattle.std.specs.List.{AllByRecursion, AllPairs}
use Rattle.quorum_rules.specs.Limits.{Numbers}
use Rattle.wire_forms.specs.declared.op.Op.{Op}
use Rattle.protocol.specs.Instance.{setting}
use Rattle.protocol.specs.Operations.{Outcome}
use Rattle.protocol.specs.Seen.{block_of, work_of}
use Rattle.node_core.specs.Seen.{versions_in}
use Rattle.block_phases.specs.Phases.{Keeps}
use Rattle.block_phases.specs.Executions.{StampedValue, IsCompleted, IsGivenUp}
use Rattle.store_device.specs.Stores.{Nodes}

-- no two of the operations are on one block
abbrev pub AreApart : List Op → Type 0
AreApart ops = AllPairs (λ op other. block_of op ≢ block_of other) ops

-- what each node keeps of a block
abbrev pub kept_of : Nodes → ℕ → Keeps
kept_of nodes block i = versions_in (nodes i) block

-- no outcome of any operation was told
abbrev pub untold : List Op → List (Option Outcome)
untold ops = map (λ op. None) ops

module _ (c : Numbers) (away : ℕ → Bool) where
  -- A client's operation was completed with the outcome that was told, or was given up if none was; its last phase stores this. Nodes
  -- kept `old` before it, and keep `new`; those that are away answered nothing.
  abbrev pub IsDone : ℕ → Op → Option Outcome → Option StampedValue → Nodes → Nodes → Type 0
  IsDone client op (Some outcome) stored old new =
      IsCompleted (setting c) away (block_of op) client (work_of op) outcome (kept_of old (block_of op)) (kept_of new (block_of op))
  IsDone client op None stored old new =
      IsGivenUp (setting c) away (block_of op) client (work_of op) stored (kept_of old (block_of op)) (kept_of new (block_of op))

  -- so was each operation; the clients are numbered from this one on
  abbrev pub AreDone : ℕ → List Op → List (Option Outcome) → List (Option StampedValue) → Nodes → Nodes → Type 0
  AreDone client [] [] [] old new = ⊤
  AreDone client (op ∷ ops) (outcome ∷ outcomes) (value ∷ stored) old new =
      IsDone client op outcome value old new × AreDone (suc client) ops outcomes stored old new
  AreDone client _ _ _ old new = ⊥

  -- on each other block nodes keep what they kept
  abbrev pub OthersStay : List Op → Nodes → Nodes → Type 0
  OthersStay ops old new =
      (block i : ℕ) → AllByRecursion (λ op. block_of op ≢ block) ops → i < c.n → versions_in (new i) block ≡ versions_in (old i) block

  -- the operations were done as told, and nothing else was
  pub record IsTold (ops : List Op) (outcomes : List (Option Outcome)) (stored : List (Option StampedValue)) (old new : Nodes) : Type 0 where
    pub done : AreDone 1 ops outcomes stored old new
    pub others : OthersStay ops old new
