-- What the word `status` says of nodes.
use Rattle.std.specs.Prelude.{◌≡◌, ℕ, ◌-◌, ◌^◌, false, min, Option}
use Rattle.std.specs.declared.option.Option.TheVariants.{None, Some}
use Rattle.file_disk.specs.OnFile.{OnFile}
use Rattle.version_disk.specs.Stored.{Stored}
use Rattle.version_disk.specs.Compacted.{slots_len}
use Rattle.store_care.specs.Pruning.{later_in}
use Rattle.store_words.specs.declared.down.Down.{Down}
use Rattle.store_words.specs.declared.down.Down.TheVariants.{Gone}
use Rattle.store_words.specs.declared.lines.NodeLine.{NodeLine}
use Rattle.store_words.specs.declared.lines.NodeLine.TheVariants.{Up, Down as IsDown}

-- The line of a node that is down for this reason; where it is for none, of the node that sits there: how many versions it keeps beside the
-- first ones, and how long its journal is.
abbrev pub IsLine : {F : Type 0} → (blocks number : ℕ) → Option Down → Option (Stored (OnFile F)) → NodeLine → Type 0
IsLine blocks number (Some why) seat line = line ≡ IsDown number why
IsLine blocks number None None line = line ≡ IsDown number Gone
IsLine blocks number None (Some node) line =
    node.broken ≡ false
    → line ≡ Up number (min (later_in (Some node) blocks) (2 ^ 64 - 1)) (min (slots_len node.node node.disk.bytes) (2 ^ 64 - 1))
