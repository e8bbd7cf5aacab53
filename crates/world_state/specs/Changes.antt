-- What single deeds make of the world.
use Rattle.std.specs.Prelude.{◌≡◌, ℕ, List, ◌++◌, Option}
use Rattle.std.specs.declared.option.Option.TheVariants.{None, Some}
use Rattle.wire_forms.specs.declared.message.Body.TheVariants.{Answer as Answers}
use Rattle.protocol.specs.Count.{update, one_more}
use Rattle.protocol.specs.Messages.{Version, Ask, Reply, Message}
use Rattle.protocol.specs.Setting.{Setting}
use Rattle.protocol.specs.Nodes.{after, accepts}
use Rattle.protocol.specs.World.{World, accepted_at}
use Rattle.protocol.specs.Operations.{Task, outstanding}
use Rattle.protocol.specs.Lines.{Rule, false_answer}
use Rattle.protocol.specs.Seen.{client_at}
use Rattle.operation_core.specs.Clients.{ClientView}
use Rattle.world_state.specs.Worlds.{WorldView, world_in}

-- the client of a number
abbrev pub client_in : WorldView → ℕ → ClientView
client_in v c = record { config = v.config; id = c; seen = client_at v.seen c }

-- the version that node i accepts in answer to an ask, if any
abbrev pub accepts_in : Setting → World → ℕ → Ask → Option Version
accepts_in s w i ask = accepts s i (w.versions i ask.block) ask

-- node i handles an ask, and these messages are sent
abbrev pub handles : Setting → World → ℕ → ℕ → Ask → List Message → World
handles s w place i ask more = record w {
  pool = w.pool ++ more;
  versions = update w.versions i (update (w.versions i) ask.block (after s i (w.versions i ask.block) ask));
  accepted = one_more w.accepted (accepted_at s i ask.block (accepts_in s w i ask));
  place = place;
}

-- an answer to this client
abbrev pub IsAnswer : ℕ → Message → Type 0
IsAnswer c m = (m.client ≡ c) × (reply : Reply) × (m.body ≡ Answers reply)

-- the message of a client's present phase to node i, if it does something
abbrev pub asked_by : Setting → ℕ → ℕ → Option Task → Option Message
asked_by s c i None = None
asked_by s c i (Some task) = Some (outstanding s c task i)

-- node i's answer to it by a rule
abbrev pub lied_by : Setting → Rule → ℕ → ℕ → Option Task → Option Message
lied_by s rule c i None = None
lied_by s rule c i (Some task) = false_answer s rule c i task

-- the world became this one, in the same cluster, in which the same nodes and clients lie
pub record HasBecome (old new : WorldView) (world : World) : Type 0 where
  pub now : world_in new ≡ world
  pub config : new.config ≡ old.config
  pub lying_nodes : new.lying_nodes ≡ old.lying_nodes
  pub lying_clients : new.lying_clients ≡ old.lying_clients
