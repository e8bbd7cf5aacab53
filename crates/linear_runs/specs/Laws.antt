-- What is said of every run.
use Rattle.std.specs.Prelude.{◌≡◌, ℕ, false, List}
use Rattle.std.specs.declared.option.Option.TheVariants.{Some}
use Rattle.std.specs.List.{Contains}
use Rattle.stamp_order.specs.declared.Stamp.{Stamp}
use Rattle.protocol.specs.Setting.{Setting, Sound, zeros, first_stamp}
use Rattle.protocol.specs.World.{World}
use Rattle.protocol.specs.Lines.{Line, Run, IsRun}
use Rattle.protocol.specs.History.{NoClash, HasLie}
use Rattle.linear_runs.specs.Linear.{Operation, Linearizable, IsLinearAsOne}
use Rattle.linear_runs.specs.Durable.{IsDurable}
use Rattle.linear_runs.specs.Meaning.{value_of}
use Rattle.linear_runs.specs.Of.{operations, known, unknown, crashes_of}

module _ (s : Setting) (w : World) where
  -- where no two different strings that were seen share a digest, the operations are linearizable
  abbrev pub IsLinearizable : Type 0
  IsLinearizable =
      NoClash s w
      → Linearizable (zeros s) (operations s w)

  -- and in one order of all blocks
  abbrev pub IsLinearizableAsOne : Type 0
  IsLinearizableAsOne =
      NoClash s w
      → IsLinearAsOne (zeros s) (operations s w)

  -- and durably so, across the crashes at the run's lines
  abbrev pub IsDurablyLinearizable : Type 0
  IsDurablyLinearizable =
      (lines : List (ℕ × Line))
      → IsRun s lines w
      → NoClash s w
      → IsDurable (zeros s) (crashes_of lines) (operations s w)

  -- what has ended stands among the operations of each longer run as it ended
  abbrev pub EndedAreKept : Type 0
  EndedAreKept =
      (more : List (ℕ × Line)) (last : World) (o : Operation) (end : ℕ)
      → Run s w more last
      → Contains (known w.records) o
      → o.end ≡ Some end
      → Contains (known last.records) o

  -- of each write that nobody known made, a lying client sent a Write on its block, of a stamp that is for its value
  abbrev pub UnknownWereLied : Type 0
  UnknownWereLied =
      (o : Operation)
      → Contains (unknown (first_stamp s) w.records) o
      → (stamp : Stamp) × HasLie s w o.block stamp × Sound s stamp (value_of o.act)

  -- where no client lies, there are no operations but those of correct clients
  abbrev pub AllAreKnown : Type 0
  AllAreKnown =
      ((client : ℕ) → s.lying_client client ≡ false)
      → operations s w ≡ known w.records
