-- The names of those who take part.
use Rattle.std.specs.Prelude.{ℕ, List, ◌++◌, codes, decimal}
use Rattle.picture_svg.specs.declared.picture.Actor.{Actor}
use Rattle.picture_svg.specs.declared.picture.Actor.TheVariants.{Client, Node}

abbrev pub actor_text : Actor → List ℕ
actor_text (Client client) = codes "client " ++ decimal client
actor_text (Node node) = codes "node " ++ decimal node
