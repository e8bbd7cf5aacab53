-- The shortest journal of a node.
use Rattle.std.specs.Prelude.{◌≡◌, ◌≤◌, ℕ, suc, ◌+◌, ◌*◌, List, [], ◌∷◌, ◌++◌, length, map, drop, None}
use Rattle.std.specs.List.{AllByRecursion}
use Rattle.quorum_rules.specs.Limits.{Numbers, share_of}
use Rattle.protocol.specs.Messages.{Version, Ask}
use Rattle.node_core.specs.Seen.{SeenNode}
use Rattle.slot_disk.specs.Bodies.{bodies, IsClosedAt}
use Rattle.slot_disk.specs.Slots.{Slot, version_slot, body_of, body_len, Fits}
use Rattle.version_disk.specs.Held.{held, slots_of, first_bad}
use Rattle.version_disk.specs.Deeds.{replies_of}

-- the slots of a block's versions after the first one, in order of acceptance
abbrev pub slots_in : ℕ → List Version → List Slot
slots_in block vs = map (version_slot block) (drop 1 vs)

-- the slots of the versions that are kept beside the first ones, block by block, the first of the blocks being number i
abbrev pub slots_from : ℕ → List (List Version) → List Slot
slots_from i [] = []
slots_from i (vs ∷ blocks) = slots_in i vs ++ slots_from (suc i) blocks

abbrev pub kept_slots : SeenNode → List Slot
kept_slots node = slots_from 0 node.blocks

-- the bytes of open slots
abbrev pub open_slots : List Slot → List ℕ
open_slots [] = []
open_slots (s ∷ slots) = (1 ∷ body_of s) ++ open_slots slots

-- how many bytes so many slots have, and the closed gate behind them
abbrev pub journal_len : ℕ → ℕ → ℕ
journal_len body count = count * (body + 1) + 1

-- how many bytes the shortest journal of a node has
abbrev pub compacted_len : SeenNode → ℕ
compacted_len node = journal_len (body_len node.config) (length (kept_slots node))

-- how many bytes the open slots of a node's disk have, and the closed gate behind them
abbrev pub slots_len : SeenNode → List ℕ → ℕ
slots_len node bytes = journal_len (body_len node.config) (length (bodies (body_len node.config) bytes))

-- these bytes of a disk that has so much room are the shortest journal of a node: they hold it in good slots, and the gate behind them is closed
pub record IsJournalOf (node : SeenNode) (bytes : List ℕ) (most : ℕ) : Type 0 where
  pub state : held node.config node.number bytes ≡ node
  pub good : first_bad node.config node.number bytes ≡ None
  pub closed : IsClosedAt (body_len node.config) bytes (length (kept_slots node))
  pub fits : compacted_len node ≤ most

-- Bytes whose slots are the versions that a disk's node keeps hold the same node, and that answers any asks alike.
pub record IsAlike (c : Numbers) (number : ℕ) (old new : List ℕ) : Type 0 where
  pub state : held c number new ≡ held c number old
  pub replies : (asks : List Ask) → replies_of (held c number new) asks ≡ replies_of (held c number old) asks

abbrev pub AnswersAlike : Numbers → ℕ → List ℕ → List ℕ → Type 0
AnswersAlike c number old new = slots_of c new ≡ kept_slots (held c number old) → IsAlike c number old new

-- it has as many digests as there are nodes, and a fragment of its length
pub record IsWhole (c : Numbers) (s : Slot) : Type 0 where
  pub count : length s.version.sum ≡ c.n
  pub share : length s.version.fragment ≡ share_of c

abbrev pub AreWhole : Numbers → List Slot → Type 0
AreWhole c slots = AllByRecursion (IsWhole c) slots

abbrev pub AreFitting : Numbers → List Slot → Type 0
AreFitting c slots = AllByRecursion (Fits c) slots
