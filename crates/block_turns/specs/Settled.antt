-- A block is settled when no write that was cut off before can take effect any more.
use Rattle.std.specs.Prelude.{◌≡◌, ◌⊎◌, ℕ, ◌+◌, ◌<◌, ◌≤◌, ⊤, false, not, ◌&&◌, ◌||◌, List, [], ◌∷◌, ◌++◌, length}
use Rattle.std.specs.List.{Contains}
use Rattle.std.specs.declared.option.Option.TheVariants.{Some}
use Rattle.stamp_order.specs.Stamps.{◌≼◌}
use Rattle.stamp_order.specs.declared.Stamp.{Stamp}
use Rattle.run_words.specs.declared.outcome.How.{How}
use Rattle.run_words.specs.declared.outcome.Outcome.TheVariants.{Gave}
use Rattle.protocol.specs.Count.{count}
use Rattle.protocol.specs.Messages.{Version}
use Rattle.protocol.specs.Nodes.{keeps}
use Rattle.protocol.specs.Operations.{Work, Outcome}
use Rattle.protocol.specs.Operations.Work.{Reads}
use Rattle.protocol.specs.Setting.{Setting, Sound}
use Rattle.linear_runs.specs.Linear.{IsLinear}
use Rattle.block_phases.specs.Phases.{Keeps}
use Rattle.block_phases.specs.Executions.{StampedValue}
use Rattle.block_turns.specs.Turns.Turn.{Did, Left, Changed, Gone, Renewed}
use Rattle.block_turns.specs.Turns.{Turn, Moment, Standing, first_standing, standing_at, kept_at, stamped_by, told, turns_of, written_in}
use Rattle.block_turns.specs.Lives.{Takes, IsLife, first_kept}
use Rattle.block_turns.specs.Strings.{NoClash}

-- the turn's operation was acknowledged, and read or wrote something
abbrev pub Acknowledges : Turn → Type 0
Acknowledges (Did client work outcome) = (x : StampedValue) × (stamped_by work outcome ≡ Some x)
Acknowledges _ = ⊥

-- the turn has an operation, acknowledged or not
abbrev pub HasOperation : Turn → Type 0
HasOperation (Did client work outcome) = ⊤
HasOperation (Left client work stored) = ⊤
HasOperation _ = ⊥

-- no node is rebuilt
abbrev pub RebuildsNone : Turn → Type 0
RebuildsNone (Renewed node) = ⊥
RebuildsNone _ = ⊤

-- no node goes out of reach
abbrev pub SendsNoneAway : Turn → Type 0
SendsNoneAway (Gone node) = ⊥
SendsNoneAway _ = ⊤

-- each of these turns is of the one kind until there is one of the other kind
abbrev pub AllUntil : (Turn → Type 0) → (Turn → Type 0) → List Turn → Type 0
AllUntil Each Last [] = ⊤
AllUntil Each Last (turn ∷ turns) = Last turn ⊎ (Each turn × AllUntil Each Last turns)

module _ (s : Setting) where
  -- The latest acknowledged operation read or wrote this. No node keeps a version above it, or may still store one,
  -- unless the node lies or is lost.
  pub record IsSettled (x : StampedValue) (b : Standing) (kept : Keeps) : Type 0 where
    pub earlier : List StampedValue
    pub latest : b.ended ≡ x ∷ earlier
    pub kept_low : (i : ℕ) (v : Version) → i < s.n → b.lies i ≡ false → b.lost i ≡ false → Contains (kept i) v → v.stamp ≼ x.stamp
    pub late_low : (i : ℕ) (y : StampedValue) → Contains (b.late i) y → y.stamp ≼ x.stamp
    pub asked_low : (y : StampedValue) → b.asked ≡ Some y → y.stamp ≼ x.stamp

  -- After a block was settled, later operations are linearizable by themselves, as if the block had had that value
  -- from the beginning.
  abbrev pub SettledLivesBeginAnew : Type 0
  SettledLivesBeginAnew =
      (block : ℕ) (before after : List Moment) (x : StampedValue)
      → IsLife s block (before ++ after)
      → NoClash s (before ++ after)
      → IsSettled x (standing_at (first_standing s) before) (kept_at (first_kept s) before)
      → IsLinear x.value (told block (length before) (turns_of after))

  -- so a later read returns that value, or one that a later operation was to write
  abbrev pub SettledLivesForget : Type 0
  SettledLivesForget =
      (block : ℕ) (before after : List Moment) (x : StampedValue)
      → IsLife s block (before ++ after)
      → NoClash s (before ++ after)
      → IsSettled x (standing_at (first_standing s) before) (kept_at (first_kept s) before)
      → (m : Moment) (client rounds : ℕ) (stamp : Stamp) (value : List ℕ) (how : How)
      → Contains after m
      → m.turn ≡ Did client Reads (Gave stamp value how rounds)
      → (value ≡ x.value) ⊎ ((w : Moment) × Contains after w × (written_in w.turn ≡ Some value))

  -- Where no client knows the latest value, as after a crash. No node keeps a version above this stamp, or may still
  -- store one, unless the node lies or is lost. At least n-t nodes lie, or keep a version of the stamp and aren't lost.
  pub record IsHeld (stamp : Stamp) (b : Standing) (kept : Keeps) : Type 0 where
    pub kept_low : (i : ℕ) (v : Version) → i < s.n → b.lies i ≡ false → b.lost i ≡ false → Contains (kept i) v → v.stamp ≼ stamp
    pub late_low : (i : ℕ) (y : StampedValue) → Contains (b.late i) y → y.stamp ≼ stamp
    pub many : s.n ≤ count s.n (λ i. b.lies i || (not (b.lost i) && keeps (kept i) stamp)) + s.t

  -- Then the next operation that is acknowledged settles the block: a read returns that stamp's value, or a write's
  -- stamp is above it.
  abbrev pub HeldBlocksSettle : Type 0
  HeldBlocksSettle =
      (block : ℕ) (before : List Moment) (m : Moment) (stamp : Stamp)
      → IsLife s block (before ++ m ∷ [])
      → NoClash s (before ++ m ∷ [])
      → IsHeld stamp (standing_at (first_standing s) before) (kept_at (first_kept s) before)
      → (client : ℕ) (work : Work) (outcome : Outcome) (x : StampedValue)
      → m.turn ≡ Did client work outcome
      → stamped_by work outcome ≡ Some x
      → IsSettled x (standing_at (first_standing s) (before ++ m ∷ [])) (kept_at (first_kept s) (before ++ m ∷ []))

  -- until then the stamp is held while nothing is done on the block
  abbrev pub HeldBlocksStay : Type 0
  HeldBlocksStay =
      (block : ℕ) (b : Standing) (stamp : Stamp) (old new : Keeps)
      → IsHeld stamp b old
      → Takes s block b old Changed new
      → IsHeld stamp b new

  -- What the nodes hold stays held over these turns, whatever operations are cut off among them. A rebuilt node keeps
  -- the latest that was acknowledged, which may be older than the stamp; a node that goes out of reach may still store
  -- what the latest operation asked. So both come late enough.
  pub record StaysHeld (stamp : Stamp) (b : Standing) (turns : List Turn) : Type 0 where
    pub rebuilt_late : AllUntil RebuildsNone Acknowledges turns
    pub asked_low : ((y : StampedValue) → b.asked ≡ Some y → y.stamp ≼ stamp) ⊎ AllUntil SendsNoneAway HasOperation turns

  -- Then the later operations are linearizable by themselves, as if the block had had the stamp's value from the
  -- beginning: no write that was cut off before the stamp was held takes effect.
  abbrev pub HeldLivesBeginAnew : Type 0
  HeldLivesBeginAnew =
      (block : ℕ) (before after : List Moment) (stamp : Stamp)
      → IsLife s block (before ++ after)
      → NoClash s (before ++ after)
      → IsHeld stamp (standing_at (first_standing s) before) (kept_at (first_kept s) before)
      → StaysHeld stamp (standing_at (first_standing s) before) (turns_of after)
      → (value : List ℕ) × Sound s stamp value × IsLinear value (told block (length before) (turns_of after))

  -- so each later read returns that one value, or one that a later operation was to write
  abbrev pub HeldLivesForget : Type 0
  HeldLivesForget =
      (block : ℕ) (before after : List Moment) (stamp : Stamp)
      → IsLife s block (before ++ after)
      → NoClash s (before ++ after)
      → IsHeld stamp (standing_at (first_standing s) before) (kept_at (first_kept s) before)
      → StaysHeld stamp (standing_at (first_standing s) before) (turns_of after)
      → (value : List ℕ)
      × Sound s stamp value
      × ((m : Moment) (client rounds : ℕ) (at : Stamp) (given : List ℕ) (how : How)
      → Contains after m
      → m.turn ≡ Did client Reads (Gave at given how rounds)
      → (given ≡ value) ⊎ ((w : Moment) × Contains after w × (written_in w.turn ≡ Some given)))
