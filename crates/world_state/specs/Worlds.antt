-- The world that is kept, as contracts see it.
use Rattle.std.specs.Prelude.{ℕ, Bool, false, List, [], slice_index_or}
use Rattle.quorum_rules.specs.Limits.{Numbers}
use Rattle.protocol.specs.Setting.{Setting}
use Rattle.protocol.specs.World.{World}
use Rattle.protocol.specs.Seen.{SeenWorld, world_of}
use Rattle.protocol.specs.Instance.{setting_of}
use Rattle.node_core.specs.Seen.{SeenNode}

-- the cluster, who lies in it by number, and all that there is at one moment
pub record WorldView : Type 0 where
  pub config : Numbers
  pub lying_nodes : List Bool
  pub lying_clients : List Bool
  pub seen : SeenWorld

-- the setting of its cluster
abbrev pub setting_in : WorldView → Setting
setting_in v = setting_of v.config (λ i. slice_index_or v.lying_nodes i false) (λ c. slice_index_or v.lying_clients c false)

-- the world of the definitions that it shows
abbrev pub world_in : WorldView → World
world_in v = world_of (setting_in v) v.seen

-- the same cluster with this world
abbrev pub with_seen : WorldView → SeenWorld → WorldView
with_seen v seen = record { config = v.config; lying_nodes = v.lying_nodes; lying_clients = v.lying_clients; seen = seen }

-- a node of its number, which keeps what the world tells
abbrev pub node_in : WorldView → ℕ → SeenNode
node_in v i = record { config = v.config; number = i; blocks = slice_index_or v.seen.versions i [] }
