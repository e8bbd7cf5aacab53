-- Many asks that a node answers at once, and many prunes.
use Rattle.std.specs.Prelude.{◌≡◌, ℕ, List, [], ◌∷◌, ◌++◌, length, map}
use Rattle.quorum_rules.specs.Limits.{Numbers}
use Rattle.protocol.specs.Messages.{Ask}
use Rattle.node_core.specs.Seen.{SeenNode}
use Rattle.slot_disk.specs.Slots.{Slot, prune_slot, pieces_of}
use Rattle.version_disk.specs.Held.{held}
use Rattle.version_disk.specs.Kept.{AreGoodIn}
use Rattle.version_disk.specs.Deeds.{Deed, after_asks, replies_of, slots_by_all, slots_by_deeds}
use Rattle.version_disk.specs.declared.prune.Prune.{Prune}
use Rattle.version_disk.specs.declared.batch.Batch.{Batch}

-- A node that has answered these asks since a start, what it tells, and the pieces of the slots that it writes.
pub record IsBatchOf (start : SeenNode) (asks : List Ask) (node : SeenNode) (batch : Batch) : Type 0 where
  pub state : node ≡ after_asks start asks
  pub replies : batch.replies ≡ replies_of start asks
  pub pieces : batch.pieces.items ≡ pieces_of (slots_by_all start asks)
  pub count : length batch.added.items ≡ length (slots_by_all start asks)
  pub good : AreGoodIn start.config start.number (slots_by_all start asks)

-- one ask more was answered, whichever were answered before
abbrev pub IsOneMore : SeenNode → Batch → Ask → SeenNode → Batch → Type 0
IsOneMore node old ask then new = (start : SeenNode) (asks : List Ask) → IsBatchOf start asks node old → IsBatchOf start (asks ++ ask ∷ []) then new

-- the pieces of the slots that the deeds write, from a node on, and how many slots those are
pub record AreWritten (start : SeenNode) (deeds : List Deed) (written : List ℕ) (many : ℕ) : Type 0 where
  pub pieces : written ≡ pieces_of (slots_by_deeds start deeds)
  pub count : many ≡ length (slots_by_deeds start deeds)
  pub good : AreGoodIn start.config start.number (slots_by_deeds start deeds)

-- the node that bytes hold, of this cluster and number
pub record IsFrom (c : Numbers) (number : ℕ) (bytes : List ℕ) (start : SeenNode) : Type 0 where
  pub config : c ≡ start.config
  pub numbered : number ≡ start.number
  pub state : start ≡ held start.config start.number bytes

-- the slots of prunes, whether they drop a version or not
abbrev pub prune_slots : Numbers → List Prune → List Slot
prune_slots c prunes = map (λ p. prune_slot c p.block p.stamp) prunes
