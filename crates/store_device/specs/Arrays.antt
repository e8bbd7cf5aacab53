-- A plain array of blocks, and lives that are answered as one answers them.
use Rattle.std.specs.Prelude.{◌≡◌, ◌==◌, ◌<◌, ◌^◌, ◌++◌, if◌then◌else◌, ℕ, ⊤, length, List, [], ◌∷◌, Option}
use Rattle.std.specs.declared.option.Option.TheVariants.{None, Some}
use Rattle.quorum_rules.specs.Limits.{Numbers, IsValid}
use Rattle.wire_forms.specs.declared.op.Op.{Op}
use Rattle.wire_forms.specs.declared.op.Op.TheVariants.{Read as ReadOp, Write as WriteOp}
use Rattle.protocol.specs.Setting.{zeros}
use Rattle.protocol.specs.Instance.{setting}
use Rattle.protocol.specs.Operations.{Outcome}
use Rattle.run_words.specs.declared.outcome.Outcome.TheVariants.{Wrote, Gave}
use Rattle.store_device.specs.Lives.{Turn, Moment, IsLife, NoneClash, WasTold}
use Rattle.store_device.specs.Lives.Turn.{Performed}

-- what each block holds
abbrev pub Contents : Type 0
Contents = ℕ → List ℕ

-- and when an operation was done
abbrev pub contents_after : Op → Contents → Contents
contents_after (ReadOp block) a = a
contents_after (WriteOp block value) a = λ other. if other == block then value else a other

-- the operation was done: a read gave what the block holds, a write was written
abbrev pub IsAnswered : Contents → Op → Option Outcome → Type 0
IsAnswered a (ReadOp block) (Some (Gave stamp value how rounds)) = value ≡ a block
IsAnswered a (WriteOp block value) (Some (Wrote stamp)) = ⊤
IsAnswered a _ _ = ⊥

-- so was each of them, one after the other
abbrev pub AreAnswered : Contents → List (Op × Option Outcome) → Type 0
AreAnswered a [] = ⊤
AreAnswered a (p ∷ ps) = IsAnswered a p.0 p.1 × AreAnswered (contents_after p.0 a) ps

-- the operations of a batch, with what was told of them
abbrev pub with_outcomes : List Op → List (Option Outcome) → List (Op × Option Outcome)
with_outcomes (op ∷ ops) (outcome ∷ outcomes) = (op, outcome) ∷ with_outcomes ops outcomes
with_outcomes _ _ = []

abbrev pub operations_in : Turn → List (Op × Option Outcome)
operations_in (Performed ops outcomes stored) = with_outcomes ops outcomes
operations_in _ = []

-- and those of a life, in order
abbrev pub operations_of : List Moment → List (Op × Option Outcome)
operations_of [] = []
operations_of (m ∷ life) = operations_in m.turn ++ operations_of life

-- an outcome was told
abbrev pub IsTold : Option Outcome → Type 0
IsTold None = ⊥
IsTold (Some outcome) = ⊤

-- the read returned a value, or the write wrote
abbrev pub WasDone : Op → Option Outcome → Type 0
WasDone (ReadOp block) (Some (Gave stamp value how rounds)) = ⊤
WasDone (WriteOp block value) (Some (Wrote stamp)) = ⊤
WasDone _ _ = ⊥

module _ (c : Numbers) where
  -- each operation that was acknowledged was done, where no two strings clash and the life isn't too long
  abbrev pub AcknowledgedAreDone : Type 0
  AcknowledgedAreDone =
      IsValid c
      → (life : List Moment)
      → IsLife c life
      → length life < 2 ^ 60
      → ((block : ℕ) → block < c.blocks → NoneClash c block life)
      → (k : ℕ) (op : Op) (outcome : Option Outcome)
      → WasTold life k op outcome
      → IsTold outcome
      → WasDone op outcome

  -- if each operation of a life was acknowledged, they are answered as by an array that holds zeros at first
  abbrev pub LivesAreArrays : Type 0
  LivesAreArrays =
      IsValid c
      → (life : List Moment)
      → IsLife c life
      → length life < 2 ^ 60
      → ((block : ℕ) → block < c.blocks → NoneClash c block life)
      → ((k : ℕ) (op : Op) (outcome : Option Outcome) → WasTold life k op outcome → IsTold outcome)
      → AreAnswered (λ block. zeros (setting c)) (operations_of life)
