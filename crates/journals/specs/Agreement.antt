-- When a world and the nodes and clients of journals agree.
use Rattle.std.specs.Prelude.{◌≡◌, ℕ, ◌+◌, ◌<◌, false, List}
use Rattle.std.specs.declared.option.Option.TheVariants.{Some}
use Rattle.std.specs.List.{Contains}
use Rattle.protocol.specs.Messages.{Message}
use Rattle.protocol.specs.Setting.{Setting}
use Rattle.protocol.specs.Operations.{Outcome}
use Rattle.protocol.specs.World.{World, Record, stamp_of_outcome}
use Rattle.protocol.specs.Lines.{Line, Run}
use Rattle.protocol.specs.Seen.{started_task}
use Rattle.protocol.specs.Views.{IsFull}
use Rattle.node_core.specs.Seen.{versions_in}
use Rattle.journals.specs.Acts.{NodeState}
use Rattle.journals.specs.Desks.{DeskState, Ended}
use Rattle.journals.specs.Steps.{Cluster}

-- the node of the world is this one
pub record IsNode (s : Setting) (w : World) (i : ℕ) (d : NodeState) : Type 0 where
  pub versions : (block : ℕ) → block < s.blocks → w.versions i block ≡ versions_in d.node block
  pub crashed : w.node_crashed i ≡ d.crashed

-- the client of the world is this one: places count lines from 1, and numbers count from 0
pub record IsDesk (s : Setting) (w : World) (c : ℕ) (d : DeskState) : Type 0 where
  pub life : w.life c ≡ d.client.seen.life
  pub started : w.started c ≡ d.client.seen.started
  pub crashed : w.client_crashed c ≡ d.crashed
  pub task : w.task c ≡ started_task (d.began + 1) d.client.seen.task
  pub full : IsFull s.n d.client.seen.task

-- each node that isn't declared lying and each correct client are those of the world, and what a node holds back was sent
pub record Agrees (s : Setting) (w : World) (g : Cluster) : Type 0 where
  pub nodes : (i : ℕ) → s.lying_node i ≡ false → IsNode s w i (g.nodes i)
  pub desks : (c : ℕ) → s.lying_client c ≡ false → IsDesk s w c (g.desks c)
  pub sent : (i : ℕ) (m : Message) → s.lying_node i ≡ false → (g.nodes i).crashed ≡ false → Contains (g.nodes i).late m → Contains w.pool m

-- the record of an operation that ended
abbrev pub ended_record : ℕ → Ended → Record
ended_record c x = record {
  client = c;
  block = x.block;
  work = x.work;
  start = x.start + 1;
  end = Some (x.end + 1);
  stamp = stamp_of_outcome x.outcome;
  outcome = Some x.outcome;
}

-- the record is that of an operation that a correct client ended
pub record IsEnded (s : Setting) (g : Cluster) (r : Record) : Type 0 where
  pub client : ℕ
  pub correct : s.lying_client client ≡ false
  pub operation : Ended
  pub there : Contains (g.desks client).ended operation
  pub is : r ≡ ended_record client operation

-- the records that have an outcome are those of the operations that correct clients ended
pub record TellAlike (s : Setting) (w : World) (g : Cluster) : Type 0 where
  pub ended : (r : Record) → IsEnded s g r → Contains w.records r
  pub told : (r : Record) (outcome : Outcome) → Contains w.records r → r.outcome ≡ Some outcome → IsEnded s g r

-- the lines are a run from this world, and its last world agrees with the cluster
pub record Reaches (s : Setting) (w : World) (lines : List (ℕ × Line)) (g : Cluster) : Type 0 where
  pub last : World
  pub run : Run s w lines last
  pub agrees : Agrees s last g
  pub tells : TellAlike s last g
