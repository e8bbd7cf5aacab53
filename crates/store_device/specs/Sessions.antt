-- A store's life goes on: over calls, crashes, lost and rebuilt nodes, and from one session to the next.
use Rattle.std.specs.Prelude.{◌≡◌, ◌≢◌, ◌⊎◌, ℕ, ◌<◌, ◌≤◌, true, false, List, [], ◌∷◌, ◌++◌}
use Rattle.std.specs.declared.option.Option.TheVariants.{Some}
use Rattle.quorum_rules.specs.Limits.{Numbers}
use Rattle.protocol.specs.Count.{count, update}
use Rattle.protocol.specs.Instance.{setting}
use Rattle.node_core.specs.Seen.{SeenNode, versions_in}
use Rattle.disk_model.specs.Crash.{Pending}
use Rattle.version_disk.specs.Stored.{Stored}
use Rattle.block_phases.specs.Executions.{StampedValue}
use Rattle.block_turns.specs.Turns.{away_in}
use Rattle.block_turns.specs.Lives.{HasTaken, renewed}
use Rattle.store_device.specs.Stores.{SeenStore, Nodes, IsStore, IsFound, IsLeft, kept_in, seat_at, is_up}
use Rattle.store_device.specs.Lives.{Moment, IsLife, KeepAlike, nodes_of, standing_on}
use Rattle.store_device.specs.Lives.Turn.{Changed, Gone, Back, Lost, Failed, Renewed}
use Rattle.store_device.specs.Calls.{Call, Acknowledged, given_through, IsCall, MayDoAll, RemembersOnly, AreTurnsBy, IsTurnCut}
use Rattle.store_device.specs.Steps.{Step, StepsLead, AreFound, calls_among, gone_after}

module _ (c : Numbers) where
  -- what acknowledged operations of a life read or wrote on each block
  abbrev pub given_in : List Moment → Acknowledged
  given_in life block = (standing_on c block life).ended

  -- at the end of the life the node is neither out of reach nor lost on any block
  abbrev pub IsPresent : List Moment → ℕ → Type 0
  IsPresent life i = (block : ℕ) → block < c.blocks → away_in (standing_on c block life) i ≡ false

  -- A life has come to what these nodes keep.
  pub record HasLived (life : List Moment) (kept : Nodes) : Type 0 where
    pub lived : IsLife c life
    pub alike : KeepAlike c (nodes_of c life) kept

  -- every other node keeps what it kept
  abbrev pub OthersAlike : ℕ → Nodes → Nodes → Type 0
  OthersAlike node old new = (i block : ℕ) → i < c.n → i ≢ node → versions_in (new i) block ≡ versions_in (old i) block

  -- on each other block the node keeps what it kept
  abbrev pub BlocksAlike : ℕ → SeenNode → SeenNode → Type 0
  BlocksAlike block old new = (other : ℕ) → other ≢ block → versions_in new other ≡ versions_in old other

  -- before anything was done
  abbrev pub LivesBegin : Type 0
  LivesBegin = (first : Nodes) → KeepAlike c (nodes_of c []) first → HasLived [] first

  -- A node is lost, and may keep anything.
  abbrev pub NodesAreLost : Type 0
  NodesAreLost =
      (life : List Moment) (old new : Nodes) (node : ℕ)
      → HasLived life old
      → OthersAlike node old new
      → HasLived (life ++ record { turn = Lost node; nodes = new } ∷ []) new

  -- A node keeps of a block its first version and that of the latest acknowledged operation: there it is rebuilt, and present again.
  abbrev pub NodesAreRebuilt : Type 0
  NodesAreRebuilt =
      (life : List Moment) (old new : Nodes) (block node : ℕ) (x : StampedValue) (earlier : List StampedValue)
      → HasLived life old
      → block < c.blocks
      → given_in life block ≡ x ∷ earlier
      → versions_in (new node) block ≡ renewed (setting c) x node
      → BlocksAlike block (old node) (new node)
      → OthersAlike node old new
      → HasLived (life ++ record { turn = Renewed block node; nodes = new } ∷ []) new
      × (away_in (standing_on c block (life ++ record { turn = Renewed block node; nodes = new } ∷ [])) node ≡ false)

  -- A node has another disk, which keeps of each block the first version and that of the latest acknowledged operation. So it was lost, and
  -- is rebuilt on one block after the other, and present then.
  abbrev pub NodesAreReplaced : Type 0
  NodesAreReplaced =
      (life : List Moment) (old new : Nodes) (node : ℕ)
      → HasLived life old
      → OthersAlike node old new
      → ((block : ℕ) → block < c.blocks
      → (x : StampedValue) × (earlier : List StampedValue) × (given_in life block ≡ x ∷ earlier)
      × (versions_in (new node) block ≡ renewed (setting c) x node))
      → (more : List Moment) × HasLived (life ++ more) new × IsPresent (life ++ more) node

  -- A node is out of reach, and keeps what it has.
  abbrev pub NodesAreGone : Type 0
  NodesAreGone =
      (life : List Moment) (kept : Nodes) (node : ℕ)
      → HasLived life kept
      → HasLived (life ++ record { turn = Gone node; nodes = kept } ∷ []) kept

  -- A node that was out of reach on each block is back. It keeps what it kept, and may have stored what it still could.
  abbrev pub NodesAreBack : Type 0
  NodesAreBack =
      (life : List Moment) (old new : Nodes) (node : ℕ)
      → HasLived life old
      → node < c.n
      → ((block : ℕ) → block < c.blocks
      → ((standing_on c block life).gone node ≡ true)
      × HasTaken (setting c) ((standing_on c block life).late node) node (versions_in (old node) block) (versions_in (new node) block))
      → OthersAlike node old new
      → HasLived (life ++ record { turn = Back node; nodes = new } ∷ []) new

  -- A node begins to lie about a block, if then at most b nodes do.
  abbrev pub NodesFail : Type 0
  NodesFail =
      (life : List Moment) (kept : Nodes) (block node : ℕ)
      → HasLived life kept
      → block < c.blocks
      → count c.n (update (standing_on c block life).lies node true) ≤ c.b
      → HasLived (life ++ record { turn = Failed block node; nodes = kept } ∷ []) kept

  -- On each block nodes were changed that lie or are lost, and no others.
  abbrev pub NodesAreChanged : Type 0
  NodesAreChanged =
      (life : List Moment) (old new : Nodes)
      → HasLived life old
      → ((block i : ℕ) → block < c.blocks → i < c.n
      → ((standing_on c block life).lies i ≡ true) ⊎ ((standing_on c block life).lost i ≡ true)
      ⊎ (versions_in (new i) block ≡ versions_in (old i) block))
      → HasLived (life ++ record { turn = Changed; nodes = new } ∷ []) new

module _ {D : Type 0} (pending : D → Pending) (seen : D → List ℕ) where
  -- A life has come to what a store's nodes keep, where those that aren't up keep this. Each node that is up is present, and each stamp that
  -- the store remembers is that of an acknowledged operation of the life on its block.
  pub record HasComeTo (life : List Moment) (store : SeenStore D) (gone : Nodes) : Type 0 where
    pub lived : HasLived store.config life (kept_in store gone)
    pub present : (i : ℕ) → is_up (seat_at store i) ≡ true → IsPresent store.config life i
    pub sound : IsStore pending seen store
    pub remembered : RemembersOnly (given_in store.config life) store

  -- A store is opened on what a life has left: each node that is up keeps what it is known to keep, and is present. What the other nodes
  -- keep may be known as well, or they are lost. It remembers no stamps yet.
  abbrev pub StoresOpen : Type 0
  StoresOpen =
      (life : List Moment) (kept : Nodes) (store : SeenStore D)
      → HasLived store.config life kept
      → IsStore pending seen store
      → store.acknowledged ≡ []
      → ((i : ℕ) (node : Stored D) → i < store.config.n → seat_at store i ≡ Some node → is_up (seat_at store i) ≡ true
      → ((block : ℕ) → versions_in node.node block ≡ versions_in (kept i) block) × IsPresent store.config life i)
      → HasComeTo life store kept

  -- A store that is left lives on in what its nodes are found to keep. So each node that was up may be opened again.
  abbrev pub StoresAreLeft : Type 0
  StoresAreLeft =
      (life : List Moment) (store : SeenStore D) (gone kept : Nodes)
      → HasComeTo life store gone
      → IsFound pending store store gone kept
      → HasLived store.config life kept

  -- what calls acknowledge, in a life of which they are turns
  abbrev pub CallsAcknowledge : Type 0
  CallsAcknowledge =
      (c : Numbers) (life more : List Moment) (calls : List (Call D)) (block : ℕ)
      → IsLife c (life ++ more)
      → AreTurnsBy calls more
      → given_in c (life ++ more) block ≡ given_through (given_in c life) calls block

  -- who is present stays so over calls
  abbrev pub CallsKeepPresent : Type 0
  CallsKeepPresent =
      (c : Numbers) (life more : List Moment) (calls : List (Call D)) (i : ℕ)
      → AreTurnsBy calls more
      → IsPresent c life i
      → IsPresent c (life ++ more) i

  module _ (most : D → ℕ) (moment : D → ℕ) (left_since : D → ℕ → List ℕ → Type 0) where
    -- A life that has come to a store goes on over steps, to what its nodes are found to keep.
    abbrev pub StepsAreLives : Type 0
    StepsAreLives =
        (life : List Moment) (steps : List (Step D)) (old new : SeenStore D) (gone : Nodes) (found : List Nodes)
        → HasComeTo life old gone
        → StepsLead pending seen most moment left_since old steps new
        → MayDoAll (given_in old.config life) (calls_among steps)
        → AreFound pending old gone steps found
        → (more : List Moment)
        × AreTurnsBy (calls_among steps) more
        × HasComeTo (life ++ more) new (gone_after old gone steps found)

    -- A crash at any moment of a call leaves a life with the call cut off, which has come to what the crash left of each node. Who was
    -- present still is.
    abbrev pub CrashesAreLives : Type 0
    CrashesAreLives =
        (life : List Moment) (call : Call D) (old : SeenStore D) (gone kept : Nodes)
        → HasComeTo life old gone
        → IsCall pending seen most moment left_since old call
        → MayDoAll (given_in old.config life) (call ∷ [])
        → IsLeft moment left_since old call.store gone kept
        → (m : Moment)
        × IsTurnCut call.deed m.turn
        × HasLived old.config (life ++ m ∷ []) kept
        × ((i : ℕ) → IsPresent old.config life i → IsPresent old.config (life ++ m ∷ []) i)
