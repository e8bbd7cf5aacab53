-- What a kept world never breaks.
use Rattle.std.specs.Prelude.{◌≡◌, ℕ, ◌≤◌, List, length, map, Option, slice_get}
use Rattle.std.specs.declared.option.Option.TheVariants.{None, Some}
use Rattle.quorum_rules.specs.Limits.{Numbers, IsValid}
use Rattle.run_words.specs.declared.record.Record.{Record as Told}
use Rattle.protocol.specs.World.{Record, open_record}
use Rattle.protocol.specs.Report.{Ascend}
use Rattle.protocol.specs.Seen.{SeenTask, task_at, record_of}
use Rattle.world_state.specs.declared.node_slot.NodeSlot.{NodeSlot}
use Rattle.world_state.specs.declared.client_slot.ClientSlot.{ClientSlot}

-- the node of this number in this cluster, which has versions of each block
pub record IsNodeSlot (c : Numbers) (i : ℕ) (slot : NodeSlot) : Type 0 where
  pub config : slot.stored.node.config ≡ c
  pub number : slot.stored.node.number ≡ i
  pub blocks : length slot.stored.node.blocks ≡ c.blocks

-- an operation under way: one answer or none for each node, no more phases than places so far, and the record of this number is its own
pub record IsUnderWay (c : Numbers) (records : List Record) (place client start index : ℕ) (t : SeenTask) : Type 0 where
  pub answers : length t.answers ≡ c.n
  pub phases : t.phase ≤ place
  pub told : slice_get records index ≡ Some (open_record client (task_at start t))

-- nothing is asked of a client that does nothing
abbrev pub IsTaskOf : Numbers → List Record → ℕ → ℕ → ℕ → ℕ → Option SeenTask → Type 0
IsTaskOf c records place client start index None = Unit {0}
IsTaskOf c records place client start index (Some t) = IsUnderWay c records place client start index t

-- the client of this number in this cluster
pub record IsClientSlot (c : Numbers) (records : List Record) (place k : ℕ) (slot : ClientSlot) : Type 0 where
  pub config : slot.client.config ≡ c
  pub id : slot.client.id ≡ k
  pub task : IsTaskOf c records place k slot.start slot.index slot.client.seen.task

-- a world of this cluster: its nodes, and the clients of the numbers from 0 to 1000; the records ascend by start, none above the place
pub record IsWorld (c : Numbers) (node_slots : List NodeSlot) (client_slots : List ClientSlot) (records : List Told) (place : ℕ) : Type 0 where
  pub valid : IsValid c
  pub nodes : length node_slots ≡ c.n
  pub node_slot : (i : ℕ) (h : NodeSlot) → slice_get node_slots i ≡ Some h → IsNodeSlot c i h
  pub clients : length client_slots ≡ 1001
  pub client_slot : (k : ℕ) (s : ClientSlot) → slice_get client_slots k ≡ Some s → IsClientSlot c (map record_of records) place k s
  pub ascend : Ascend (map (λ r. r.start) records)
  pub placed : (k : ℕ) (r : Told) → slice_get records k ≡ Some r → r.start ≤ place
