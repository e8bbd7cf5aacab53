-- Who a line speaks of.
use Rattle.std.specs.Prelude.{List, [], ◌∷◌}
use Rattle.protocol.specs.Lines.{Actor as AnyActor, Roles as AnyRoles}
use Rattle.protocol.specs.Lines.Actor.{Node as ANode, Client as AClient}
use Rattle.world_steps.specs.declared.actors.Actor.{Actor}
use Rattle.world_steps.specs.declared.actors.Actor.TheVariants.{Node, Client}
use Rattle.world_steps.specs.declared.actors.Actors.{Actors}
use Rattle.world_steps.specs.declared.actors.Actors.TheVariants.{Nobody, One, Two}
use Rattle.world_steps.specs.declared.actors.Roles.{Roles}

-- a node or a client, in the definitions' words
abbrev pub actor_of : Actor → AnyActor
actor_of (Node i) = ANode i
actor_of (Client c) = AClient c

-- nobody, one or two, as a list
abbrev pub listed : Actors → List AnyActor
listed Nobody = []
listed (One a) = actor_of a ∷ []
listed (Two a b) = actor_of a ∷ actor_of b ∷ []

-- the parts, in the definitions' words
abbrev pub roles_of : Roles → AnyRoles
roles_of r = record { takes_part = listed r.takes_part; up = listed r.up; lies = listed r.lies; named = listed r.named }
