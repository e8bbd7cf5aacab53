-- What contracts see of a node.
use Rattle.std.specs.Prelude.{◌≡◌, ℕ, ◌<◌, Option, not, List, [], ◌∷◌, length, map, filter, replicate, slice_index_or, slice_set}
use Rattle.quorum_rules.specs.Limits.{Numbers, IsValid}
use Rattle.stamp_order.specs.declared.Stamp.{Stamp}
use Rattle.stamp_order.specs.Stamps.{same_stamp}
use Rattle.protocol.specs.Messages.{Version, Ask, Reply}
use Rattle.protocol.specs.Nodes.{first_version, reply, accepts, after}
use Rattle.protocol.specs.Instance.{setting}

-- a node: its configuration, its number, and for each block the versions that it keeps, in order of acceptance
pub record SeenNode : Type 0 where
  pub config : Numbers
  pub number : ℕ
  pub blocks : List (List Version)

-- the versions that it keeps of a block
abbrev pub versions_in : SeenNode → ℕ → List Version
versions_in node block = slice_index_or node.blocks block []

-- the node with these versions of a block, and all else as it was
abbrev pub with_versions : SeenNode → ℕ → List Version → SeenNode
with_versions node block vs = record { config = node.config; number = node.number; blocks = slice_set node.blocks block vs }

-- the versions without that of a stamp
abbrev pub without : Stamp → List Version → List Version
without stamp vs = filter (λ v. not (same_stamp stamp v.stamp)) vs

-- a node that keeps the first version of each block
abbrev pub new_node : Numbers → ℕ → SeenNode
new_node config number = record { config = config; number = number; blocks = replicate config.blocks (first_version (setting config) number ∷ []) }

-- what the node answers
abbrev pub reply_of : SeenNode → Ask → Reply
reply_of node ask = reply (setting node.config) node.number (versions_in node ask.block) ask

-- the version that it adds then, if any
abbrev pub accepts_of : SeenNode → Ask → Option Version
accepts_of node ask = accepts (setting node.config) node.number (versions_in node ask.block) ask

-- what it keeps of the asked block when it has answered
abbrev pub after_of : SeenNode → Ask → List Version
after_of node ask = after (setting node.config) node.number (versions_in node ask.block) ask

-- each block's versions begin with the first, and follow those that were accepted later
abbrev pub from_first : Version → List (List Version) → List (List Version)
from_first first later = map (λ vs. first ∷ vs) later

-- the number is that of a node, and there are versions of each block
pub record IsNode (config : Numbers) (number : ℕ) (first : Version) (later : List (List Version)) : Type 0 where
  pub valid : IsValid config
  pub below : number < config.n
  pub begins : first ≡ first_version (setting config) number
  pub count : length later ≡ config.blocks
