-- All journals as one list of steps by number: a pair, which stands at a node and on a desk, is one step.
use Rattle.std.specs.Prelude.{◌≡◌, ℕ, ◌<◌, true, false, Bool, List, [], ◌∷◌, Option}
use Rattle.std.specs.declared.option.Option.TheVariants.{None, Some}
use Rattle.std.specs.List.{Contains}
use Rattle.quorum_rules.specs.Limits.{Numbers}
use Rattle.stamp_order.specs.declared.Stamp.{Stamp}
use Rattle.stamp_order.specs.Stamps.{◌≼◌}
use Rattle.protocol.specs.Count.{update}
use Rattle.protocol.specs.Setting.{Setting}
use Rattle.protocol.specs.World.{IsClient, stamp_given}
use Rattle.protocol.specs.Seen.{SeenTask}
use Rattle.journals.specs.Acts.{NodeAct, NodeState, Nature, new_state, after, way_of, IsAct}
use Rattle.journals.specs.Desks.{DeskAct, DeskState, Ended, new_desk, desk_after, ActsAs}
use Rattle.journals.specs.declared.node.Nature.TheVariants.{Honest, Lying}
use Rattle.journals.specs.declared.node.NodeAct.TheVariants.{Answered, Lied, Silent, CrashedAt, Delivered, LateLost, Pruned}
use Rattle.journals.specs.declared.desk.Way.TheVariants.{Call as ByCall}
use Rattle.journals.specs.declared.desk.DeskAct.TheVariants.{Start, Crash, Call}

-- the desk's side of a node's act, with its client: late acts and prunes have none
abbrev pub side : NodeAct → Option (ℕ × DeskAct)
side (Answered ask reply) = Some (ask.client, Call ByCall ask (Some reply))
side (Lied ask reply) = Some (ask.client, Call ByCall ask (Some reply))
side (Silent ask why) = Some (ask.client, Call (way_of why) ask None)
side (CrashedAt ask false) = Some (ask.client, Call ByCall ask None)
side (CrashedAt ask true) = None
side (Delivered ask reply) = None
side (LateLost ask) = None
side (Pruned block stamp) = None

-- a desk's own steps are starts and crashes
abbrev pub IsOwn : DeskAct → Type 0
IsOwn (Start op) = Unit {0}
IsOwn Crash = Unit {0}
IsOwn (Call way ask reply) = ⊥

-- how each node of a run behaves: whether it lies, and how many asks it serves before it crashes
pub record Conduct : Type 0 where
  pub nature : ℕ → Nature
  pub crash_after : ℕ → Option ℕ

abbrev pub is_lying : Nature → Bool
is_lying Honest = false
is_lying (Lying rule) = true

-- who lies is who is declared lying, and a liar doesn't crash
pub record IsConduct (lying_node : ℕ → Bool) (conduct : Conduct) : Type 0 where
  pub natures : (i : ℕ) → is_lying (conduct.nature i) ≡ lying_node i
  pub lasting : (i : ℕ) → lying_node i ≡ true → conduct.crash_after i ≡ None

-- an entry of a node's journal, or a start or crash of a desk's
pub data Step : Type 0 where
  AtNode : ℕ → NodeAct → Step
  AtDesk : ℕ → DeskAct → Step

-- all nodes and all clients
pub record Cluster : Type 0 where
  pub nodes : ℕ → NodeState
  pub desks : ℕ → DeskState

-- before any step
abbrev pub new_cluster : Numbers → Conduct → Cluster
new_cluster config conduct = record { nodes = λ i. new_state config i (conduct.crash_after i); desks = λ c. new_desk config c }

-- the desks after a call of this number, if there is one
abbrev pub called : (ℕ → DeskState) → ℕ → Option (ℕ × DeskAct) → ℕ → DeskState
called desks n None = desks
called desks n (Some p) = update desks p.0 (desk_after (desks p.0) n p.1)

abbrev pub cluster_after : Cluster → ℕ → Step → Cluster
cluster_after g n (AtNode i act) = record { nodes = update g.nodes i (after (g.nodes i) act); desks = called g.desks n (side act) }
cluster_after g n (AtDesk c act) = record { nodes = g.nodes; desks = update g.desks c (desk_after (g.desks c) n act) }

abbrev pub cluster_replay : Cluster → List (ℕ × Step) → Cluster
cluster_replay g [] = g
cluster_replay g (e ∷ es) = cluster_replay (cluster_after g e.0 e.1) es

-- an operation on the block gave the stamp
abbrev pub Gives : Ended → ℕ → Stamp → Type 0
Gives x block stamp = (x.block ≡ block) × (stamp_given (Some x.outcome) ≡ Some stamp)

module _ (s : Setting) where
  -- the client of a call, if there is one, may make it
  abbrev pub CallGoes : Cluster → Option (ℕ × DeskAct) → Type 0
  CallGoes g None = Unit {0}
  CallGoes g (Some p) = IsClient s p.0 × ActsAs (s.lying_client p.0) (g.desks p.0) p.1

  -- no correct client that hasn't crashed is busy on the block
  abbrev pub IsCalm : Cluster → ℕ → Type 0
  IsCalm g block = (c : ℕ) (t : SeenTask) → s.lying_client c ≡ false → (g.desks c).crashed ≡ false → (g.desks c).client.seen.task ≡ Some t → t.block ≡ block → ⊥

  -- a read of a correct client gave the stamp
  pub record HasGiven (g : Cluster) (block : ℕ) (stamp : Stamp) : Type 0 where
    pub client : ℕ
    pub correct : s.lying_client client ≡ false
    pub read : Ended
    pub there : Contains (g.desks client).ended read
    pub gives : Gives read block stamp

  -- a prune goes by the greatest stamp that a completed read of the block gave, while the block is calm
  pub record PruneGoes (g : Cluster) (block : ℕ) (stamp : Stamp) : Type 0 where
    pub calm : IsCalm g block
    pub given : HasGiven g block stamp
    pub greatest : (other : Stamp) → HasGiven g block other → other ≼ stamp

  -- the act, if it is a prune, may be done
  abbrev pub Prunes : Cluster → NodeAct → Type 0
  Prunes g (Pruned block stamp) = PruneGoes g block stamp
  Prunes g _ = Unit {0}

  module _ (conduct : Conduct) where
    -- the step may be taken in this cluster
    abbrev pub Goes : Cluster → Step → Type 0
    Goes g (AtNode i act) = (i < s.n) × IsAct (conduct.nature i) (g.nodes i) act × CallGoes g (side act) × Prunes g act
    Goes g (AtDesk c act) = IsClient s c × (s.lying_client c ≡ false) × IsOwn act × ActsAs (s.lying_client c) (g.desks c) act

    -- each step may be taken when its turn comes
    abbrev pub AllGo : Cluster → List (ℕ × Step) → Type 0
    AllGo g [] = Unit {0}
    AllGo g (e ∷ es) = Goes g e.1 × AllGo (cluster_after g e.0 e.1) es
