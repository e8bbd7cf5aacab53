-- The lives of all blocks together, where each turn has a number in one sequence; and crashes.
use Rattle.std.specs.Prelude.{◌≡◌, ℕ, suc, ◌<◌, ◌≤◌, Bool, List, [], ◌∷◌, ◌++◌}
use Rattle.std.specs.List.{Contains}
use Rattle.protocol.specs.Count.{count}
use Rattle.protocol.specs.Setting.{Setting, zeros}
use Rattle.linear_runs.specs.Linear.{Operation, IsLinearAsOne, on_block}
use Rattle.linear_runs.specs.Durable.{Crash, IsDurable}
use Rattle.block_turns.specs.Turns.{Turn, Moment, told_by, told, turns_of}
use Rattle.block_turns.specs.Lives.{IsLife}
use Rattle.block_turns.specs.Strings.{NoClash}

-- the operations of a block's turns, the first of which is turn k; each starts and ends at its turn's number in the
-- sequence
abbrev pub told_as : (ℕ → ℕ) → ℕ → ℕ → List Turn → List Operation
told_as number block k [] = []
told_as number block k (turn ∷ turns) = told_by block (number k) turn ++ told_as number block (suc k) turns

module _ (s : Setting) where
  -- the setting of a block where these nodes lie at the beginning
  abbrev pub setting_on : (ℕ → Bool) → Setting
  setting_on lying = record s { lying_node = lying }

  -- Each block has a life, and its own liars at the beginning. The operations of all blocks carry the numbers of
  -- their turns.
  pub record AreLives (lying : ℕ → ℕ → Bool) (lives : ℕ → List Moment) (number : ℕ → ℕ → ℕ) (ops : List Operation) : Type 0 where
    pub few : (block : ℕ) → block < s.blocks → count s.n (lying block) ≤ s.b
    pub each : (block : ℕ) → block < s.blocks → IsLife (setting_on (lying block)) block (lives block)
    pub apart : (block : ℕ) → block < s.blocks → NoClash (setting_on (lying block)) (lives block)
    pub rises : (block j k : ℕ) → block < s.blocks → j ≤ k → number block j ≤ number block k
    pub inside : (o : Operation) → Contains ops o → o.block < s.blocks
    pub of_lives : (block : ℕ) → block < s.blocks → on_block block ops ≡ told_as (number block) block 0 (turns_of (lives block))

  -- the operations on all blocks are linearizable in one order
  abbrev pub LivesAreLinearAsOne : Type 0
  LivesAreLinearAsOne =
      (lying : ℕ → ℕ → Bool) (lives : ℕ → List Moment) (number : ℕ → ℕ → ℕ) (ops : List Operation)
      → AreLives lying lives number ops
      → IsLinearAsOne (zeros s) ops

  -- and durably so, whichever clients crash between whichever turns: a crash leaves an operation without an end
  -- (`Left`)
  abbrev pub LivesAreDurable : Type 0
  LivesAreDurable =
      (lying : ℕ → ℕ → Bool) (lives : ℕ → List Moment) (number : ℕ → ℕ → ℕ) (ops : List Operation) (crashes : List Crash)
      → AreLives lying lives number ops
      → IsDurable (zeros s) crashes ops

  -- the same of one block
  abbrev pub OneLifeIsDurable : Type 0
  OneLifeIsDurable =
      (block : ℕ) (life : List Moment) (crashes : List Crash)
      → IsLife s block life
      → NoClash s life
      → IsDurable (zeros s) crashes (told block 0 (turns_of life))
