-- How a node is led back over what it added.
use Rattle.std.specs.Prelude.{◌≡◌, List, [], ◌∷◌}
use Rattle.node_core.specs.Past.{Addition}
use Rattle.node_core.specs.Seen.{SeenNode}

-- the node before the first of these additions; where there are none, the node itself
abbrev pub undone : SeenNode → List Addition → SeenNode
undone node [] = node
undone node (a ∷ later) = a.before

-- each addition led to the node to which the next one was made, and the last one to this node
abbrev pub LeadTo : SeenNode → List Addition → Type 0
LeadTo node [] = Unit {0}
LeadTo node (a ∷ later) = (a.after ≡ undone node later) × LeadTo node later
