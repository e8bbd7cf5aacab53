-- What an honest node's answer says of the stamps that the node had accepted when it answered.
use Rattle.std.specs.Prelude.{◌≡◌, ℕ, ◌<◌, ◌≤◌, true, List, [], ◌∷◌, ◌++◌, length, Option, slice_get}
use Rattle.std.specs.declared.option.Option.TheVariants.{None, Some}
use Rattle.std.specs.List.{Contains, cons_option}
use Rattle.stamp_order.specs.declared.Stamp.{Stamp}
use Rattle.stamp_order.specs.declared.Bound.{Bound}
use Rattle.stamp_order.specs.Stamps.{has, ◌≼◌}
use Rattle.protocol.specs.Messages.{Version, Request, Reply, Message}
use Rattle.wire_forms.specs.declared.Request.TheVariants.{Time, Read, Write}
use Rattle.wire_forms.specs.declared.Reply.TheVariants.{TimeIs, Found}
use Rattle.protocol.specs.Setting.{Setting}
use Rattle.protocol.specs.Operations.{Task}
use Rattle.protocol.specs.World.{World, start_world, under_way, greatest_given}
use Rattle.protocol.specs.Lines.{Line, Run, plays}
use Rattle.run_words.specs.declared.line.Line.TheVariants.{Prune}

-- a prune that took place: of a node's block, at a place, by a stamp
pub record Pruning : Type 0 where
  pub node : ℕ
  pub block : ℕ
  pub place : ℕ
  pub stamp : Stamp

-- a prune by the stamp, if there is one
abbrev pub pruning_by : ℕ → ℕ → ℕ → Option Stamp → Option Pruning
pruning_by i block place None = None
pruning_by i block place (Some stamp) = Some (record { node = i; block = block; place = place; stamp = stamp })

-- the prune that a line makes, if it makes one
abbrev pub pruning_of : World → ℕ → Line → Option Pruning
pruning_of w place (Prune i block) = pruning_by i block place (greatest_given block w.records)
pruning_of w place _ = None

-- the reply tells a time of at least the stamp's, or finds at least the stamp where the bound has it and is wide
abbrev pub IsNotBehind : (Bound → Type 0) → Stamp → Request → Reply → Type 0
IsNotBehind wide stamp Time reply = (time : ℕ) × (reply ≡ TimeIs time) × (stamp.time ≤ time)
IsNotBehind wide stamp (Read bound) reply =
    has bound stamp ≡ true → wide bound → (v : Version) × (reply ≡ Found v) × (stamp ≼ v.stamp)
IsNotBehind wide stamp (Write v) reply = Unit {0}

module _ (s : Setting) where
  -- the prunes that the lines make from this world on
  abbrev pub prunings : World → List (ℕ × Line) → List Pruning
  prunings w [] = []
  prunings w (l ∷ ls) = cons_option (pruning_of w l.0 l.1) (prunings (plays s w l.0 l.1) ls)

  -- the bound has each stamp by which node i pruned the block at one of a run's lines, before this place
  abbrev pub HasPruned : List (ℕ × Line) → ℕ → ℕ → ℕ → Bound → Type 0
  HasPruned lines i block place bound =
      (p : Pruning)
      → Contains (prunings (start_world s) lines) p
      → p.node ≡ i
      → p.block ≡ block
      → p.place < place
      → has bound p.stamp ≡ true

  -- message k is sent at a line that is taken in this world
  pub record IsSentAt (w : World) (place : ℕ) (line : Line) (k : ℕ) (m : Message) : Type 0 where
    pub new : length w.pool ≤ k
    pub sent : slice_get (plays s w place line).pool k ≡ Some m

  -- message k was sent at one of the lines, while the operation that its tag names was under way
  pub record IsSentDuring (w : World) (lines : List (ℕ × Line)) (k : ℕ) (m : Message) (task : Task) : Type 0 where
    pub before : List (ℕ × Line)
    pub place : ℕ
    pub line : Line
    pub after : List (ℕ × Line)
    pub split : lines ≡ before ++ (place, line) ∷ after
    -- the world in which that line is taken
    pub world : World
    pub run : Run s w before world
    pub at : IsSentAt world place line k m
    pub busy : under_way world m.client ≡ Some task
    pub op : m.tag.op ≡ task.op
