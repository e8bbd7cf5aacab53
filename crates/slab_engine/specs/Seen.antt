-- What contracts see of a node on a slab, and how its calls change that.
use Rattle.std.specs.Prelude.{◌≡◌, ◌⊎◌, ◌<◌, ℕ, ◌&&◌, ◌++◌, Bool, true, false, is_some, List, [], length, map, filter, Contains, slice_index_or, Option, IfSome, IfNone}
use Rattle.std.specs.List.{AllZip, list_any}
use Rattle.quorum_rules.specs.Limits.{Numbers}
use Rattle.stamp_order.specs.declared.Stamp.{Stamp}
use Rattle.protocol.specs.Messages.{Version, Ask, Reply, Request}
use Rattle.protocol.specs.Nodes.{outlives, keeps}
use Rattle.protocol.specs.Instance.{setting}
use Rattle.wire_forms.specs.declared.Request.TheVariants.{Read}
use Rattle.node_core.specs.Seen.{SeenNode, versions_in, reply_of, accepts_of}
use Rattle.slab_layout.specs.Shapes.{is_marked, answers_for, shape_of, part, data_at, data_len}
use Rattle.sqlite_disk.specs.Digest.{digest}
use Rattle.slab_index.specs.Slots.{head_of}
use Rattle.slab_node.specs.Held.{held, with_set}
use Rattle.slab_node.specs.Answers.{AreAnsweredInPart}
use Rattle.slab_node.specs.Freed.{KeepsSome}
use Rattle.slab_node.specs.Changes.{is_among}
pub use Rattle.slab_engine.specs.declared.leaving.Leaving.{Leaving}
pub use Rattle.slab_engine.specs.declared.leaving.Prune.{Prune}

-- a node on a slab: what it keeps and answers from, its file, the key of its checks, the blocks for which it answers, the versions that are to
-- go and are still marked, those whose marks are taken away and safe and which the node keeps until the next prune, and whether a fault of
-- the disk has broken it
pub record SeenSlab (F : Type 0) : Type 0 where
  pub node : SeenNode
  pub file : F
  pub key : ℕ
  pub answers : ℕ → Bool
  pub leaving : List Leaving
  pub cleared : List Leaving
  pub broken : Bool

-- the blocks that a list tells
abbrev pub listed : List Bool → ℕ → Bool
listed list i = slice_index_or list i false

-- the slots of versions
abbrev pub slots_in : List Leaving → List ℕ
slots_in ls = map (λ l. l.slot) ls

-- one of these versions has this slot
abbrev pub has_slot : List Leaving → ℕ → Bool
has_slot ls i = is_among (slots_in ls) i

-- the slots that count: the marked ones, and those of versions whose marks are taken away
abbrev pub counted : Numbers → List Leaving → List ℕ → ℕ → Bool
counted c cleared bytes = with_set (has_slot cleared) (is_marked (shape_of c) bytes)

-- the version is one of these, of this block
abbrev pub IsOneOf : List Leaving → ℕ → Version → Type 0
IsOneOf ls block v = (l : Leaving) × Contains ls l × (l.block ≡ block) × (l.stamp ≡ v.stamp)

-- A node has dropped some of these versions, and kept all others.
pub record IsLessLeaving (ls : List Leaving) (was is : SeenNode) : Type 0 where
  pub config : is.config ≡ was.config
  pub number : is.number ≡ was.number
  pub count : length is.blocks ≡ length was.blocks
  pub each : (block : ℕ) → block < was.config.blocks → KeepsSome (IsOneOf ls block) (versions_in was block) (versions_in is block)

-- the asks for blocks that are answered for
abbrev pub answered : (ℕ → Bool) → List Ask → List Ask
answered answers asks = filter (λ ask. answers ask.block) asks

-- no two of the asks are for one block
abbrev pub AreApart : List Ask → Type 0
AreApart asks = (i j : ℕ) (d : Ask) → i < length asks → j < length asks → (slice_index_or asks i d).block ≡ (slice_index_or asks j d).block → i ≡ j

-- the ask is a read
abbrev pub IsRead : Request → Type 0
IsRead (Read bound) = Unit {0}
IsRead _ = ⊥

-- What came of an ask: a reply, where the block was answered for; none, and the block is answered for no longer.
pub record IsReply (was : SeenNode) (before after : ℕ → Bool) (ask : Ask) (reply : Option Reply) : Type 0 where
  pub some : IfSome reply (λ r. (before ask.block ≡ true) × (r ≡ reply_of was ask))
  pub none : IfNone reply (after ask.block ≡ false)

abbrev pub AreReplies : SeenNode → (ℕ → Bool) → (ℕ → Bool) → List Ask → List (Option Reply) → Type 0
AreReplies was before after asks replies = AllZip (IsReply was before after) asks replies

-- Blocks are answered for no longer where a read of them found data that don't fit their check, and no others.
pub record AreLost (asks : List Ask) (before after : ℕ → Bool) : Type 0 where
  pub fewer : (block : ℕ) → after block ≡ true → before block ≡ true
  pub by_read : (block : ℕ) → before block ≡ true → after block ≡ false → (ask : Ask) × Contains asks ask × (ask.block ≡ block) × IsRead ask.request

-- the data of each slot that counts fit the check in its head
abbrev pub DataFit : Numbers → ℕ → List Leaving → List ℕ → Type 0
DataFit c key cleared bytes =
    (i : ℕ) → i < (shape_of c).count → counted c cleared bytes i ≡ true
    → (head_of (shape_of c) bytes i).data_check ≡ digest key (part bytes (data_at (shape_of c) i) (data_len (shape_of c)))

-- What a crash leaves: some of what was leaving is gone, some of the asks are answered, and the blocks that are answered for are as they were.
pub record IsPartly (leaving : List Leaving) (asks : List Ask) (was : SeenNode) (old left : List ℕ) : Type 0 where
  pub mid : SeenNode
  pub less : IsLessLeaving leaving was mid
  pub part : AreAnsweredInPart asks mid (held was.config was.number left)
  pub answers : (block : ℕ) → block < was.config.blocks → answers_for (shape_of was.config) left block ≡ answers_for (shape_of was.config) old block

-- a version of the node, of this block and stamp, that one of the prunes drops
abbrev pub IsDropped : SeenNode → List Prune → ℕ → Stamp → Type 0
IsDropped node prunes block stamp =
    (v : Version) × (p : Prune) × Contains prunes p × (p.block ≡ block) × Contains (versions_in node block) v × (v.stamp ≡ stamp)
    × (outlives (setting node.config) p.stamp (versions_in node block) v ≡ false)

-- a version of this block and stamp is listed
abbrev pub IsListed : List Leaving → ℕ → Stamp → Type 0
IsListed ls block stamp = (l : Leaving) × Contains ls l × (l.block ≡ block) × (l.stamp ≡ stamp)

-- what is to go after prunes: what was to go before, and the versions that the prunes drop
pub record ArePruned (node : SeenNode) (prunes : List Prune) (old new : List Leaving) : Type 0 where
  pub kept : (block : ℕ) (stamp : Stamp) → IsListed old block stamp → IsListed new block stamp
  pub dropped : (block : ℕ) (stamp : Stamp) → block < node.config.blocks → IsDropped node prunes block stamp → IsListed new block stamp
  pub no_others : (block : ℕ) (stamp : Stamp) → IsListed new block stamp → IsListed old block stamp ⊎ IsDropped node prunes block stamp

-- the node adds a version in answer to one of the asks
abbrev pub adds : SeenNode → (ℕ → Bool) → Ask → Bool
adds node answers ask = answers ask.block && is_some (accepts_of node ask)

abbrev pub adds_some : SeenNode → (ℕ → Bool) → List Ask → Bool
adds_some node answers asks = list_any (adds node answers) asks

-- what was to go is cleared
pub record HaveMoved (going gone going_now gone_now : List Leaving) : Type 0 where
  pub leaving : going_now ≡ []
  pub cleared : gone_now ≡ gone ++ going

-- all but the answers and the file is as it was
pub record IsSameNode {F : Type 0} (old new : SeenSlab F) : Type 0 where
  pub node : new.node ≡ old.node
  pub leaving : new.leaving ≡ old.leaving
  pub cleared : new.cleared ≡ old.cleared
  pub broken : new.broken ≡ old.broken

-- the node has dropped these versions, and kept all others
pub record IsWithout (ls : List Leaving) (was is : SeenNode) : Type 0 where
  pub less : IsLessLeaving ls was is
  pub gone : (block : ℕ) (l : Leaving) → Contains ls l → l.block ≡ block → keeps (versions_in is block) l.stamp ≡ false
