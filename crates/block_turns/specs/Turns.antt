-- The turns of a block's life, and what is known between two turns.
use Rattle.std.specs.Prelude.{ℕ, suc, Bool, true, false, ◌||◌, List, [], ◌∷◌, ◌++◌, map, Option}
use Rattle.std.specs.declared.option.Option.TheVariants.{None, Some}
use Rattle.stamp_order.specs.declared.Stamp.{Stamp}
use Rattle.protocol.specs.Count.{update}
use Rattle.protocol.specs.Setting.{Setting}
use Rattle.protocol.specs.Operations.{Work, Outcome}
use Rattle.protocol.specs.Operations.Work.{Reads, Writes}
use Rattle.run_words.specs.declared.outcome.Outcome.TheVariants.{Wrote, Gave}
use Rattle.linear_runs.specs.Linear.{Act, Operation}
use Rattle.linear_runs.specs.Linear.Act.{Read, Write}
use Rattle.block_phases.specs.Phases.{Keeps}
use Rattle.block_phases.specs.Executions.{StampedValue}

-- what happens to the block
pub data Turn : Type 0 where
  -- a client's operation was acknowledged with this outcome
  Did : (client : ℕ) → Work → Outcome → Turn
  -- A client's operation began and was never acknowledged: a crash cut it off, or too few nodes answered. Its last
  -- phase stores this value, or none.
  Left : (client : ℕ) → Work → (stored : Option StampedValue) → Turn
  -- Nodes pruned the block, wholly, in part or not at all. The stamp is that of any acknowledged operation.
  Pruned : Stamp → Turn
  -- something other than a client changed what lying or lost nodes keep
  Changed : Turn
  -- The node is out of reach. It keeps what it has and answers nothing, but may still store what the latest operation
  -- asked. After a later operation the turn is repeated if that one may have asked the node too.
  Gone : (node : ℕ) → Turn
  -- the node is back with what it kept, and maybe with some of what it could still store
  Back : (node : ℕ) → Turn
  -- the node answers nothing, and what it keeps doesn't count
  Lost : (node : ℕ) → Turn
  -- the node lies from now on
  Failed : (node : ℕ) → Turn
  -- The node was rebuilt: it keeps the first version and that of the latest acknowledged operation. It is present and
  -- honest.
  Renewed : (node : ℕ) → Turn

-- a turn, and what each node keeps after it
pub record Moment : Type 0 where
  pub turn : Turn
  pub kept : Keeps

-- the stamp and value that an operation read or wrote
abbrev pub stamped_by : Work → Outcome → Option StampedValue
stamped_by Reads (Gave stamp value how rounds) = Some (record { stamp = stamp; value = value })
stamped_by (Writes value) (Wrote stamp) = Some (record { stamp = stamp; value = value })
stamped_by _ _ = None

-- what is known between two turns
pub record Standing : Type 0 where
  -- what acknowledged operations read or wrote, the latest first
  pub ended : List StampedValue
  -- what the latest operation, acknowledged or not, asked nodes to store
  pub asked : Option StampedValue
  -- which nodes are out of reach, and what each of them may still store
  pub gone : ℕ → Bool
  pub late : ℕ → List StampedValue
  -- which nodes are lost, and which lie
  pub lost : ℕ → Bool
  pub lies : ℕ → Bool

-- the value, if there is one, before the others
abbrev pub with_one : Option StampedValue → List StampedValue → List StampedValue
with_one None xs = xs
with_one (Some x) xs = x ∷ xs

-- at first all nodes are present, and those lie that are declared lying
abbrev pub first_standing : Setting → Standing
first_standing s = record { ended = []; asked = None; gone = λ i. false; late = λ i. []; lost = λ i. false; lies = s.lying_node }

-- what is known after a turn
abbrev pub standing_after : Standing → Turn → Standing
standing_after b (Did client work outcome) =
    record b { ended = with_one (stamped_by work outcome) b.ended; asked = stamped_by work outcome }
standing_after b (Left client work stored) = record b { asked = stored }
standing_after b (Gone node) = record b { gone = update b.gone node true; late = update b.late node (with_one b.asked (b.late node)) }
standing_after b (Back node) = record b { gone = update b.gone node false; late = update b.late node [] }
standing_after b (Lost node) =
    record b { gone = update b.gone node false; late = update b.late node []; lost = update b.lost node true }
standing_after b (Failed node) = record b { lies = update b.lies node true }
standing_after b (Renewed node) =
    record b {
      gone = update b.gone node false;
      late = update b.late node [];
      lost = update b.lost node false;
      lies = update b.lies node false;
    }
standing_after b _ = b

-- and after these turns
abbrev pub standing_at : Standing → List Moment → Standing
standing_at b [] = b
standing_at b (m ∷ life) = standing_at (standing_after b m.turn) life

-- what each node keeps after these turns
abbrev pub kept_at : Keeps → List Moment → Keeps
kept_at old [] = old
kept_at old (m ∷ life) = kept_at m.kept life

-- nodes that are out of reach or lost answer nothing
abbrev pub away_in : Standing → ℕ → Bool
away_in b i = b.gone i || b.lost i

-- ---- the operations of a life

-- what an acknowledged operation did
abbrev pub act_of : Work → Outcome → Option Act
act_of Reads (Gave stamp value how rounds) = Some (Read value)
act_of (Writes value) (Wrote stamp) = Some (Write value)
act_of _ _ = None

-- what an operation may have done that was not acknowledged: a write may have taken place
abbrev pub act_left : Work → Option Act
act_left Reads = None
act_left (Writes value) = Some (Write value)

-- the one operation that did this, if it did something
abbrev pub operation : ℕ → ℕ → ℕ → Option ℕ → Option Act → List Operation
operation block client start end None = []
operation block client start end (Some act) = record { block = block; act = act; client = Some client; start = Some start; end = end } ∷ []

-- the operation of turn k: it starts at k, and ends at k if it was acknowledged
abbrev pub told_by : ℕ → ℕ → Turn → List Operation
told_by block k (Did client work outcome) = operation block client k (Some k) (act_of work outcome)
told_by block k (Left client work stored) = operation block client k None (act_left work)
told_by block k _ = []

-- the operations of these turns, the first of which is turn k
abbrev pub told : ℕ → ℕ → List Turn → List Operation
told block k [] = []
told block k (turn ∷ turns) = told_by block k turn ++ told block (suc k) turns

abbrev pub turns_of : List Moment → List Turn
turns_of life = map (λ m. m.turn) life

-- the value to write
abbrev pub to_write : Work → Option (List ℕ)
to_write Reads = None
to_write (Writes value) = Some value

-- the value that the turn's operation was to write, acknowledged or not
abbrev pub written_in : Turn → Option (List ℕ)
written_in (Did client work outcome) = to_write work
written_in (Left client work stored) = to_write work
written_in _ = None
