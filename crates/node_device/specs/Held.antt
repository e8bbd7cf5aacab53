-- What the nodes of a device keep of its blocks.
use Rattle.std.specs.Prelude.{◌≡◌, ℕ, ◌+◌, ◌<◌, if◌then◌else◌, ◌==◌, List, [], ◌∷◌, length, map, Option, slice_index_or}
use Rattle.std.specs.declared.option.Option.TheVariants.{None, Some}
use Rattle.std.specs.List.{range_with_len}
use Rattle.stamp_order.specs.declared.Stamp.{Stamp}
use Rattle.stamp_order.specs.declared.Bound.TheVariants.{All as Every}
use Rattle.quorum_rules.specs.Limits.{Numbers, wait_of}
use Rattle.protocol.specs.Messages.{Version}
use Rattle.protocol.specs.Setting.{zeros, first_stamp, verifier_of, IsBlock}
use Rattle.protocol.specs.Nodes.{first_version, greatest_in, greatest_time}
use Rattle.protocol.specs.Instance.{setting}
use Rattle.node_core.specs.Seen.{SeenNode, versions_in}

-- a block: the time of its latest write, 0 where there was none, and its value
pub record Held : Type 0 where
  pub time : ℕ
  pub value : List ℕ

-- the block after one more write
abbrev pub rewritten : Held → List ℕ → Held
rewritten h value = record { time = h.time + 1; value = value }

-- the number of the one client
abbrev pub the_client : ℕ
the_client = 1

module _ (c : Numbers) where
  -- a block that was never written
  abbrev pub unwritten : Held
  unwritten = record { time = 0; value = zeros (setting c) }

  -- the node of a number
  abbrev pub node_at : List SeenNode → ℕ → SeenNode
  node_at nodes i = slice_index_or nodes i (record { config = c; number = i; blocks = [] })

  -- the block of a number
  abbrev pub held_at : List Held → ℕ → Held
  held_at held k = slice_index_or held k unwritten

  -- the stamp of a block's latest write
  abbrev pub stamp_of : Held → Stamp
  stamp_of h = if h.time == 0 then first_stamp (setting c) else record { time = h.time; client = the_client; verifier = verifier_of (setting c) h.value }

  -- the version that node i has of it
  abbrev pub version_of : ℕ → Held → Version
  version_of i h = record { stamp = stamp_of h; sum = (setting c).sum_of h.value; fragment = (setting c).fragment_of h.value i }

  -- what node i keeps of a block: the first version, and that of the latest write if there was one
  abbrev pub kept_of : ℕ → Held → List Version
  kept_of i h =
      if h.time == 0 then first_version (setting c) i ∷ []
      else first_version (setting c) i ∷ version_of i h ∷ []

  -- the node is that of its place, and has all blocks
  pub record IsOwn (i : ℕ) (node : SeenNode) : Type 0 where
    pub config : node.config ≡ c
    pub number : node.number ≡ i
    pub blocks : length node.blocks ≡ c.blocks

  -- of each block each node that is asked keeps the first version and the latest, whose stamp is sound with the block's value
  pub record IsHeld (nodes : List SeenNode) (held : List Held) : Type 0 where
    pub nodes_count : length nodes ≡ c.n
    pub blocks_count : length held ≡ c.blocks
    pub own : (i : ℕ) → i < c.n → IsOwn i (node_at nodes i)
    pub kept : (i k : ℕ) → i < wait_of c → k < c.blocks → versions_in (node_at nodes i) k ≡ kept_of i (held_at held k)
    pub blocks : (k : ℕ) → k < c.blocks → IsBlock (setting c) (held_at held k).value
    pub unwritten : (k : ℕ) → k < c.blocks → (held_at held k).time ≡ 0 → (held_at held k).value ≡ zeros (setting c)

  -- the fragment of a version, if there is one
  abbrev pub fragment_in : Option Version → List ℕ
  fragment_in None = []
  fragment_in (Some v) = v.fragment

  -- the fragment that node i has of block k, with the node's number
  abbrev pub part_in : List SeenNode → ℕ → ℕ → ℕ × List ℕ
  part_in nodes k i = (i, fragment_in (greatest_in Every (versions_in (node_at nodes i) k)))

  -- block k by what the nodes keep: its greatest time, and the value of the fragments of the first m nodes
  abbrev pub held_in : List SeenNode → ℕ → Held
  held_in nodes k = record { time = greatest_time (versions_in (node_at nodes 0) k); value = (setting c).decoded (map (part_in nodes k) (range_with_len 0 c.m)) }

  -- all blocks by what the nodes keep
  abbrev pub held_of : List SeenNode → List Held
  held_of nodes = map (held_in nodes) (range_with_len 0 c.blocks)
