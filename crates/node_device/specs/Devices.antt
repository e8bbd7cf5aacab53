-- What contracts see of a device over nodes.
use Rattle.std.specs.Prelude.{◌≡◌, ℕ, ◌+◌, List}
use Rattle.std.specs.declared.option.Option.TheVariants.{None}
use Rattle.quorum_rules.specs.Limits.{Numbers, IsValid}
use Rattle.stamp_order.specs.declared.Stamp.{Stamp}
use Rattle.protocol.specs.Nodes.{pruned}
use Rattle.protocol.specs.Instance.{setting}
use Rattle.node_core.specs.Seen.{SeenNode, versions_in, with_versions}
use Rattle.operation_core.specs.Clients.{ClientView}
use Rattle.node_device.specs.Held.{Held, IsHeld, held_of, the_client}

-- a device: the cluster's numbers, its blocks, and the client's life and how many operations it has
pub record SeenDevice : Type 0 where
  pub config : Numbers
  pub held : List Held
  pub life : ℕ
  pub started : ℕ

-- the client is idle, and the nodes hold the blocks
pub record IsReady (c : Numbers) (nodes : List SeenNode) (client : ClientView) : Type 0 where
  pub valid : IsValid c
  pub config : client.config ≡ c
  pub id : client.id ≡ the_client
  pub idle : client.seen.task ≡ None
  pub held : IsHeld c nodes (held_of c nodes)

-- the client has done one more operation, by which the nodes hold these blocks
pub record HasDone (old new : ClientView) (nodes : List SeenNode) (held : List Held) : Type 0 where
  pub ready : IsReady old.config nodes new
  pub holds : held_of old.config nodes ≡ held
  pub life : new.seen.life ≡ old.seen.life
  pub started : new.seen.started ≡ old.seen.started + 1

-- the node after a prune of the block by the stamp
abbrev pub pruned_at : ℕ → Stamp → SeenNode → SeenNode
pruned_at block stamp node = with_versions node block (pruned (setting node.config) stamp (versions_in node block))
