-- What holds of each life.
use Rattle.std.specs.Prelude.{◌≡◌, ◌⊎◌, ℕ, ◌<◌, ◌^◌, ⊤, List, ◌∷◌, length}
use Rattle.std.specs.List.{Contains}
use Rattle.protocol.specs.Setting.{Setting, IsBlock, zeros, first_stamp}
use Rattle.protocol.specs.Operations.{Work, Outcome}
use Rattle.protocol.specs.Operations.Work.{Reads, Writes}
use Rattle.run_words.specs.declared.outcome.Outcome.TheVariants.{Wrote, Gave}
use Rattle.linear_runs.specs.Linear.{IsLinear}
use Rattle.block_phases.specs.Executions.{StampedValue}
use Rattle.block_turns.specs.Turns.Turn.{Did}
use Rattle.block_turns.specs.Turns.{Moment, first_standing, standing_at, told, turns_of}
use Rattle.block_turns.specs.Lives.{IsLife}
use Rattle.block_turns.specs.Strings.{NoClash}

-- the read returned a value, or the write wrote
abbrev pub IsDone : Work → Outcome → Type 0
IsDone Reads (Gave stamp value how rounds) = ⊤
IsDone (Writes value) (Wrote stamp) = ⊤
IsDone _ _ = ⊥

module _ (s : Setting) where
  -- where no two strings of a life clash, its operations are linearizable, in the order of their turns
  abbrev pub LivesAreLinearizable : Type 0
  LivesAreLinearizable =
      (block : ℕ) (life : List Moment)
      → IsLife s block life
      → NoClash s life
      → IsLinear (zeros s) (told block 0 (turns_of life))

  -- each acknowledged operation was done: no read was outvoted, and no write ran out of times
  abbrev pub AcknowledgedAreDone : Type 0
  AcknowledgedAreDone =
      (block : ℕ) (life : List Moment)
      → IsLife s block life
      → NoClash s life
      → length life < 2 ^ 60
      → (m : Moment)
      → Contains life m
      → (client : ℕ) (work : Work) (outcome : Outcome)
      → m.turn ≡ Did client work outcome
      → IsDone work outcome

  -- What the latest acknowledged operation read or wrote is a block, under the first stamp or one of a later time.
  abbrev pub LatestAreBlocks : Type 0
  LatestAreBlocks =
      (block : ℕ) (life : List Moment)
      → IsLife s block life
      → NoClash s life
      → (x : StampedValue) (earlier : List StampedValue)
      → (standing_at (first_standing s) life).ended ≡ x ∷ earlier
      → IsBlock s x.value × ((0 < x.stamp.time) ⊎ (x.stamp ≡ first_stamp s))
