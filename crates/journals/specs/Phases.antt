-- Journals of a run in phases: after the work of a phase, nodes prune while no client does anything.
use Rattle.std.specs.Prelude.{◌≡◌, ◌⊎◌, ℕ, ◌≤◌, ◌<◌, true, false, List}
use Rattle.std.specs.declared.option.Option.TheVariants.{None}
use Rattle.std.specs.List.{Contains}
use Rattle.stamp_order.specs.declared.Stamp.{Stamp}
use Rattle.stamp_order.specs.Stamps.{◌≼◌}
use Rattle.protocol.specs.World.{IsClient}
use Rattle.journals.specs.declared.node.NodeAct.TheVariants.{Pruned}
use Rattle.journals.specs.Desks.{DeskEntry, DeskState}
use Rattle.journals.specs.Steps.{Conduct, HasGiven}
use Rattle.journals.specs.Journals.{Journals, setting_for, at_node, at_desk, cluster_at, Follow}

-- the work of a phase has numbers below `close`, and its prunes have numbers from there on and below `end`
pub record Phase : Type 0 where
  pub close : ℕ
  pub end : ℕ

-- the number is one of the phase's prunes
abbrev pub IsWithin : Phase → ℕ → Type 0
IsWithin p n = (p.close ≤ n) × (n < p.end)

-- the client does nothing any more: it has crashed, or has no operation under way
abbrev pub IsAtRest : DeskState → Type 0
IsAtRest d = (d.crashed ≡ true) ⊎ (d.client.seen.task ≡ None)

-- when the phase closes each correct client is at rest, and no client does anything while nodes prune
pub record IsPhase (conduct : Conduct) (j : Journals) (p : Phase) : Type 0 where
  pub rest : (c : ℕ) → (setting_for j).lying_client c ≡ false → IsAtRest ((cluster_at conduct j p.close).desks c)
  pub still : (c : ℕ) (e : DeskEntry) → Contains (at_desk j c) e → IsWithin p e.number → ⊥

-- the stamp is the greatest that a completed read of the block has given so far
pub record IsGreatest (conduct : Conduct) (j : Journals) (n block : ℕ) (stamp : Stamp) : Type 0 where
  pub given : HasGiven (setting_for j) (cluster_at conduct j n) block stamp
  pub greatest : (other : Stamp) → HasGiven (setting_for j) (cluster_at conduct j n) block other → other ≼ stamp

-- each prune stands in a phase, by the greatest stamp that was given when the phase closed
pub record ArePhased (conduct : Conduct) (j : Journals) (phases : List Phase) : Type 0 where
  pub phase : (p : Phase) → Contains phases p → IsPhase conduct j p
  pub prunes : (i n block : ℕ) (stamp : Stamp) → Contains (at_node j i) (record { number = n; act = Pruned block stamp }) → (p : Phase) × Contains phases p × IsWithin p n × IsGreatest conduct j p.close block stamp

-- who has a desk is a client
abbrev pub AreClients : Journals → Type 0
AreClients j = (c : ℕ) (e : DeskEntry) → Contains (at_desk j c) e → IsClient (setting_for j) c

-- in journals of phases each prune goes by what the clients had read until then
abbrev pub PhasesFollow : Type 0
PhasesFollow = (conduct : Conduct) (j : Journals) (phases : List Phase) → AreClients j → ArePhased conduct j phases → Follow conduct j
