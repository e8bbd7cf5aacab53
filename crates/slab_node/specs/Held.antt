-- The state of a node that the bytes of its slab hold.
use Rattle.std.specs.Prelude.{ℕ, zero, suc, nat_lt, ◌==◌, Bool, true, ◌&&◌, if◌then◌else◌, List, [], ◌∷◌, map}
use Rattle.quorum_rules.specs.Limits.{Numbers}
use Rattle.protocol.specs.Messages.{Version}
use Rattle.protocol.specs.Nodes.{first_version}
use Rattle.protocol.specs.Instance.{setting}
use Rattle.node_core.specs.Seen.{SeenNode}
use Rattle.slab_layout.specs.declared.shape.Shape.{Shape}
use Rattle.slab_layout.specs.Shapes.{part, head_at, data_at, data_len, is_marked, shape_of}
use Rattle.slab_layout.specs.declared.head.Head.{Head}
use Rattle.slab_layout.specs.Heads.{head_in}
use Rattle.slab_layout.specs.Data.{version_in}

-- a slot: its head and its data
pub record Entry : Type 0 where
  pub head : Head
  pub bytes : List ℕ

-- what slot i has
abbrev pub entry_at : Shape → List ℕ → ℕ → Entry
entry_at s bytes i = record { head = head_in (part bytes (head_at s i) 72); bytes = part bytes (data_at s i) (data_len s) }

-- slot i is marked, and of this block
abbrev pub counts : (ℕ → Bool) → (ℕ → Entry) → ℕ → ℕ → Bool
counts marked entry block i = marked i && ((entry i).head.block == block)

-- the marked slots of a block, of so many slots from number i on
abbrev pub entries_from : (ℕ → Bool) → (ℕ → Entry) → ℕ → ℕ → ℕ → List Entry
entries_from marked entry block i zero = []
entries_from marked entry block i (suc n) =
    if counts marked entry block i then entry i ∷ entries_from marked entry block (suc i) n else entries_from marked entry block (suc i) n

-- in order of their numbers
abbrev pub put : Entry → List Entry → List Entry
put e [] = e ∷ []
put e (x ∷ xs) = if nat_lt e.head.number x.head.number then e ∷ x ∷ xs else x ∷ put e xs

abbrev pub in_order : List Entry → List Entry
in_order [] = []
in_order (e ∷ es) = put e (in_order es)

-- the version of a slot, in a cluster of so many nodes
abbrev pub entry_version : ℕ → Entry → Version
entry_version nodes e = version_in nodes e.head.stamp e.bytes

-- the versions of slots of one block, in order of acceptance
abbrev pub versions_of : ℕ → List Entry → List Version
versions_of nodes es = map (entry_version nodes) (in_order es)

-- where these slots are the marked ones: those of a block, and their versions
abbrev pub entries : Shape → (ℕ → Bool) → List ℕ → ℕ → List Entry
entries s marked bytes block = entries_from marked (entry_at s bytes) block 0 s.count

abbrev pub versions : Shape → (ℕ → Bool) → List ℕ → ℕ → List Version
versions s marked bytes block = versions_of s.nodes (entries s marked bytes block)

-- those of so many blocks from a number on, each behind the first version
abbrev pub blocks_from : Shape → (ℕ → Bool) → List ℕ → Version → ℕ → ℕ → List (List Version)
blocks_from s marked bytes first block zero = []
blocks_from s marked bytes first block (suc more) = (first ∷ versions s marked bytes block) ∷ blocks_from s marked bytes first (suc block) more

-- the node, where these slots are the marked ones
abbrev pub held_by : Shape → (ℕ → Bool) → Numbers → ℕ → List ℕ → SeenNode
held_by s marked c number bytes = record { config = c; number = number; blocks = blocks_from s marked bytes (first_version (setting c) number) 0 c.blocks }

-- the state that a slab holds: the versions of its marked slots
abbrev pub held : Numbers → ℕ → List ℕ → SeenNode
held c number bytes = held_by (shape_of c) (is_marked (shape_of c) bytes) c number bytes

-- these slots, and those of a set
abbrev pub with_set : (ℕ → Bool) → (ℕ → Bool) → ℕ → Bool
with_set set marked i = if set i then true else marked i

-- the same, where slots of a set count too though their marks were taken away
abbrev pub held_with : Numbers → ℕ → (ℕ → Bool) → List ℕ → SeenNode
held_with c number leaving bytes = held_by (shape_of c) (with_set leaving (is_marked (shape_of c) bytes)) c number bytes
