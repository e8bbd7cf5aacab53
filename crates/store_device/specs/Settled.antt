-- When a block of a store is settled: no write that was cut off before can take effect any more.
use Rattle.std.specs.Prelude.{◌≡◌, ◌≢◌, ◌⊎◌, ℕ, ◌+◌, ◌<◌, ◌≤◌, ⊤, Bool, true, false, not, ◌&&◌, List, [], ◌∷◌, ◌++◌, Option, slice_get}
use Rattle.std.specs.declared.option.Option.TheVariants.{None, Some}
use Rattle.std.specs.List.{AllByRecursion, Contains}
use Rattle.quorum_rules.specs.Limits.{Numbers, IsValid}
use Rattle.stamp_order.specs.declared.Stamp.{Stamp}
use Rattle.stamp_order.specs.Stamps.{◌≼◌}
use Rattle.wire_forms.specs.declared.op.Op.{Op}
use Rattle.wire_forms.specs.declared.op.Op.TheVariants.{Read as ReadOp, Write as WriteOp}
use Rattle.run_words.specs.declared.outcome.How.{How}
use Rattle.run_words.specs.declared.outcome.Outcome.TheVariants.{Gave}
use Rattle.protocol.specs.Count.{count}
use Rattle.protocol.specs.Instance.{setting}
use Rattle.protocol.specs.Messages.{Version}
use Rattle.protocol.specs.Nodes.{keeps}
use Rattle.protocol.specs.Operations.{Outcome}
use Rattle.protocol.specs.Seen.{block_of, work_of}
use Rattle.protocol.specs.Setting.{Sound}
use Rattle.node_core.specs.Seen.{versions_in}
use Rattle.disk_model.specs.Crash.{Pending}
use Rattle.version_disk.specs.Stored.{Stored}
use Rattle.block_phases.specs.Executions.{StampedValue}
use Rattle.block_turns.specs.Settled.{IsSettled, IsHeld, StaysHeld}
use Rattle.block_turns.specs.Turns.{Turn as BlockTurn, Standing, stamped_by, turns_of}
use Rattle.store_device.specs.Stores.{SeenStore, Nodes, is_up, seat_at}
use Rattle.store_device.specs.Told.{kept_of}
use Rattle.store_device.specs.Lives.{Turn, Moment, IsLife, NoneClash, WasTold, life_on, nodes_of, standing_on}
use Rattle.store_device.specs.Lives.Turn.{Performed, Pruned}
use Rattle.store_device.specs.Sessions.{HasComeTo}

-- the turn does nothing on the block
abbrev pub LeavesAlone : ℕ → Turn → Type 0
LeavesAlone block (Performed ops outcomes stored) = AllByRecursion (λ op. block_of op ≢ block) ops
LeavesAlone block (Pruned prunes) = AllByRecursion (λ p. p.block ≢ block) prunes
LeavesAlone block _ = ⊥

-- what happens to the block in these turns
abbrev pub turns_on : ℕ → List Moment → List BlockTurn
turns_on block life = turns_of (life_on block life)

-- the turn performs or prunes, as calls do, whole or cut off by a crash
abbrev pub IsOfCall : Turn → Type 0
IsOfCall (Performed ops outcomes stored) = ⊤
IsOfCall (Pruned prunes) = ⊤
IsOfCall _ = ⊥

-- an operation of the turn on the block was acknowledged, and read or wrote this
pub record HasAcknowledged (block : ℕ) (turn : Turn) (x : StampedValue) : Type 0 where
  pub ops : List Op
  pub outcomes : List (Option Outcome)
  pub stored : List (Option StampedValue)
  pub is : turn ≡ Performed ops outcomes stored
  pub place : ℕ
  pub op : Op
  pub asked : slice_get ops place ≡ Some op
  pub on : block_of op ≡ block
  pub outcome : Outcome
  pub told : slice_get outcomes place ≡ Some (Some outcome)
  pub gave : stamped_by (work_of op) outcome ≡ Some x

module _ (c : Numbers) where
  -- The block's latest acknowledged operation read or wrote this, and no node keeps a version above it, or may still store one, unless the
  -- node lies about the block or is lost.
  abbrev pub IsSettledOn : ℕ → List Moment → StampedValue → Type 0
  IsSettledOn block life x = IsSettled (setting c) x (standing_on c block life) (kept_of (nodes_of c life) block)

  -- After a block was settled, a read returns that value, or one that a later write of the block was to write.
  abbrev pub SettledBlocksForget : Type 0
  SettledBlocksForget =
      IsValid c
      → (before after : List Moment)
      → IsLife c (before ++ after)
      → (block : ℕ)
      → block < c.blocks
      → NoneClash c block (before ++ after)
      → (x : StampedValue)
      → IsSettledOn block before x
      → (k rounds : ℕ) (stamp : Stamp) (value : List ℕ) (how : How)
      → WasTold after k (ReadOp block) (Some (Gave stamp value how rounds))
      → (value ≡ x.value) ⊎ ((j : ℕ) × (outcome : Option Outcome) × WasTold after j (WriteOp block value) outcome)

  -- No client need know the block's latest value, as after a crash. At least n-t nodes lie or keep this stamp, none keeps a greater one,
  -- or may still store one, unless it lies about the block or is lost.
  abbrev pub IsHeldOn : ℕ → List Moment → Stamp → Type 0
  IsHeldOn block life stamp = IsHeld (setting c) stamp (standing_on c block life) (kept_of (nodes_of c life) block)

  -- Then the first acknowledged operation settles the block, if nothing was done there before it.
  abbrev pub HeldBlocksSettle : Type 0
  HeldBlocksSettle =
      IsValid c
      → (before alone : List Moment) (m : Moment)
      → IsLife c (before ++ (alone ++ m ∷ []))
      → (block : ℕ)
      → block < c.blocks
      → NoneClash c block (before ++ (alone ++ m ∷ []))
      → (stamp : Stamp)
      → IsHeldOn block before stamp
      → AllByRecursion (λ (one : Moment). LeavesAlone block one.turn) alone
      → (x : StampedValue)
      → HasAcknowledged block m.turn x
      → IsSettledOn block (before ++ (alone ++ m ∷ [])) x

  -- Whatever operations are cut off later, before one is acknowledged or after: each later read of the block returns the stamp's value,
  -- or one that a later write of the block was to write, if no node was rebuilt on the block before an operation was acknowledged there
  -- (`StaysHeld`).
  abbrev pub HeldBlocksForget : Type 0
  HeldBlocksForget =
      IsValid c
      → (before after : List Moment)
      → IsLife c (before ++ after)
      → (block : ℕ)
      → block < c.blocks
      → NoneClash c block (before ++ after)
      → (stamp : Stamp)
      → IsHeldOn block before stamp
      → StaysHeld (setting c) stamp (standing_on c block before) (turns_on block after)
      → (value : List ℕ)
      × Sound (setting c) stamp value
      × ((k rounds : ℕ) (at : Stamp) (given : List ℕ) (how : How)
      → WasTold after k (ReadOp block) (Some (Gave at given how rounds))
      → (given ≡ value) ⊎ ((j : ℕ) × (outcome : Option Outcome) × WasTold after j (WriteOp block given) outcome))

  -- no such node is rebuilt by calls, nor by those that a crash cuts off
  abbrev pub CallsStayHeld : Type 0
  CallsStayHeld =
      (turns : List Moment)
      → AllByRecursion (λ m. IsOfCall m.turn) turns
      → (block : ℕ) (stamp : Stamp) (b : Standing)
      → StaysHeld (setting c) stamp b (turns_on block turns)

module _ {D : Type 0} where
  -- the node that sits there is up, and keeps this stamp of the block
  abbrev pub keeps_at : ℕ → Stamp → Option (Stored D) → Bool
  keeps_at block stamp None = false
  keeps_at block stamp (Some node) = not node.broken && keeps (versions_in node.node block) stamp

  -- at least n-t nodes that are up keep this stamp of the block, and none that is up keeps a greater one
  pub record KeepsAtMost (store : SeenStore D) (block : ℕ) (stamp : Stamp) : Type 0 where
    pub many : store.config.n ≤ count store.config.n (λ i. keeps_at block stamp (seat_at store i)) + store.config.t
    pub low : (i : ℕ) (node : Stored D) (v : Version) → i < store.config.n → seat_at store i ≡ Some node → node.broken ≡ false
        → Contains (versions_in node.node block) v → v.stamp ≼ stamp

  -- A node that isn't up lies about the block, is lost there, or keeps nothing above this stamp; and it stores nothing above it late.
  pub record AreDownBelow (life : List Moment) (store : SeenStore D) (gone : Nodes) (block : ℕ) (stamp : Stamp) : Type 0 where
    pub low : (i : ℕ) → i < store.config.n → is_up (seat_at store i) ≡ false
        → ((standing_on store.config block life).lies i ≡ true) ⊎ ((standing_on store.config block life).lost i ≡ true)
        ⊎ ((v : Version) → Contains (versions_in (gone i) block) v → v.stamp ≼ stamp)
    pub late : (i : ℕ) (y : StampedValue) → is_up (seat_at store i) ≡ false → Contains ((standing_on store.config block life).late i) y → y.stamp ≼ stamp

  -- So it is where a store keeps nothing greater.
  abbrev pub StoresHold : (pending : D → Pending) (seen : D → List ℕ) → Type 0
  StoresHold pending seen =
      (life : List Moment) (store : SeenStore D) (gone : Nodes)
      → HasComeTo pending seen life store gone
      → (block : ℕ)
      → block < store.config.blocks
      → (stamp : Stamp)
      → KeepsAtMost store block stamp
      → AreDownBelow life store gone block stamp
      → IsHeldOn store.config block life stamp
