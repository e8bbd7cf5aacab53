-- How a life begins and goes on, and what a node that is out of reach may still store.
use Rattle.std.specs.Prelude.{◌≡◌, ℕ, ◌<◌, Bool, true, filter, List, [], ◌∷◌, ◌++◌}
use Rattle.std.specs.List.{Contains}
use Rattle.std.specs.declared.option.Option.TheVariants.{Some}
use Rattle.stamp_order.specs.declared.Stamp.{Stamp}
use Rattle.protocol.specs.Messages.{Version}
use Rattle.protocol.specs.Setting.{Setting}
use Rattle.protocol.specs.Nodes.{after, outlives}
use Rattle.protocol.specs.Seen.{SeenTask}
use Rattle.block_phases.specs.Executions.{StampedValue, value_stored}
use Rattle.block_phases.specs.Phases.{ask_to}
use Rattle.block_turns.specs.Turns.{Moment, first_standing}
use Rattle.block_turns.specs.Lives.{HasTaken, KeepsSome, Takes, IsLife, first_kept}
use Rattle.block_turns.specs.Strings.{NoClash}
use Rattle.block_turns.specs.Turns.{standing_at, kept_at}

module _ (s : Setting) where
  -- before anything was done
  abbrev pub LivesBegin : Type 0
  LivesBegin = (block : ℕ) → block < s.blocks → IsLife s block []

  -- one more turn
  abbrev pub LivesGoOn : Type 0
  LivesGoOn =
      (block : ℕ) (life : List Moment) (m : Moment)
      → IsLife s block life
      → Takes s block (standing_at (first_standing s) life) (kept_at (first_kept s) life) m.turn m.kept
      → IsLife s block (life ++ m ∷ [])

  -- a beginning of a life is a life, with fewer strings
  abbrev pub EarlierAreLives : Type 0
  EarlierAreLives = (block : ℕ) (before after : List Moment) → IsLife s block (before ++ after) → IsLife s block before

  abbrev pub EarlierDoNotClash : Type 0
  EarlierDoNotClash = (before after : List Moment) → NoClash s (before ++ after) → NoClash s before

  -- A node that does late what a phase asked has only stored what it could still store.
  abbrev pub LateAsksAreTaken : Type 0
  LateAsksAreTaken =
      (task : SeenTask) (late : List StampedValue) (i : ℕ) (kept : List Version)
      → ((x : StampedValue) → value_stored task.stage ≡ Some x → Contains late x)
      → HasTaken s late i kept (after s i kept (ask_to s task i))

  -- so has a node that does nothing, or does one ask after the other
  abbrev pub NothingIsTaken : Type 0
  NothingIsTaken = (late : List StampedValue) (i : ℕ) (kept : List Version) → HasTaken s late i kept kept

  abbrev pub MoreIsTaken : Type 0
  MoreIsTaken =
      (late : List StampedValue) (i : ℕ) (old now then : List Version)
      → HasTaken s late i old now
      → HasTaken s late i now then
      → HasTaken s late i old then

  -- a node that keeps all that the prune keeps, and some of the rest, has pruned in part
  abbrev pub PrunesKeepSome : Type 0
  PrunesKeepSome =
      (stamp : Stamp) (old : List Version) (stays : Version → Bool)
      → ((v : Version) → Contains old v → outlives s stamp old v ≡ true → stays v ≡ true)
      → KeepsSome s stamp old (filter stays old)

  abbrev pub UndonePrunesKeepAll : Type 0
  UndonePrunesKeepAll = (stamp : Stamp) (old : List Version) → KeepsSome s stamp old old
