-- The life of a block: which turns may follow one another, and what each node keeps after each of them.
use Rattle.std.specs.Prelude.{◌≡◌, ◌⊎◌, ℕ, ◌<◌, ◌≤◌, ⊤, true, if◌then◌else◌, List, [], ◌∷◌}
use Rattle.std.specs.List.{Contains}
use Rattle.stamp_order.specs.declared.Stamp.{Stamp}
use Rattle.stamp_order.specs.Stamps.{same_stamp}
use Rattle.protocol.specs.Count.{count, update}
use Rattle.protocol.specs.Messages.{Version}
use Rattle.protocol.specs.Setting.{Setting, first_stamp}
use Rattle.protocol.specs.Nodes.{first_version, pruned}
use Rattle.protocol.specs.World.{Fits}
use Rattle.block_phases.specs.Phases.{Keeps}
use Rattle.block_phases.specs.Executions.{StampedValue, IsCompleted, IsGivenUp}
use Rattle.block_turns.specs.Turns.{Turn, Moment, Standing, away_in, first_standing, standing_after}
use Rattle.block_turns.specs.Turns.Turn.{Did, Left, Pruned, Changed, Gone, Back, Lost, Failed, Renewed}

-- the first list is some of the second, in the same order
pub data AreSomeOf : List Version → List Version → Type 0 where
  none : AreSomeOf [] []
  stays : {v : Version} {these those : List Version} → AreSomeOf these those → AreSomeOf (v ∷ these) (v ∷ those)
  goes : {v : Version} {these those : List Version} → AreSomeOf these those → AreSomeOf these (v ∷ those)

module _ (s : Setting) where
  -- the version of a stamped value that belongs on node i
  abbrev pub version_of : StampedValue → ℕ → Version
  version_of x i = record { stamp = x.stamp; sum = s.sum_of x.value; fragment = s.fragment_of x.value i }

  -- what a rebuilt node keeps: its first version, and that of the value, where they differ
  abbrev pub renewed : StampedValue → ℕ → List Version
  renewed x i = if same_stamp x.stamp (first_stamp s) then first_version s i ∷ [] else first_version s i ∷ version_of x i ∷ []

  -- node i keeps all that it kept, and nothing more than its versions of these values
  pub record HasTaken (late : List StampedValue) (i : ℕ) (old new : List Version) : Type 0 where
    pub was : (v : Version) → Contains new v → Contains old v ⊎ ((x : StampedValue) × Contains late x × (v ≡ version_of x i))
    pub still : (v : Version) → Contains old v → Contains new v

  -- a node pruned by this stamp, wholly, in part or not at all: it keeps all that the prune keeps, and nothing new
  pub record KeepsSome (stamp : Stamp) (old new : List Version) : Type 0 where
    pub some : AreSomeOf new old
    pub among : (v : Version) → Contains (pruned s stamp old) v → Contains new v

  -- what each node keeps at first
  abbrev pub first_kept : Keeps
  first_kept i = first_version s i ∷ []

  -- every other node keeps what it kept
  abbrev pub OthersKeep : ℕ → Keeps → Keeps → Type 0
  OthersKeep node old new = (i : ℕ) → i < s.n → (i ≡ node → ⊥) → new i ≡ old i

  module _ (block : ℕ) where
    -- The turn may come next, and leads from what nodes kept to what they keep. Only lying and lost nodes are changed
    -- by others. Never do more than b nodes lie.
    abbrev pub Takes : Standing → Keeps → Turn → Keeps → Type 0
    Takes b old (Did client work outcome) new = Fits s work × IsCompleted s (away_in b) block client work outcome old new
    Takes b old (Left client work stored) new = Fits s work × IsGivenUp s (away_in b) block client work stored old new
    Takes b old (Pruned stamp) new =
        (x : StampedValue) × Contains b.ended x × (x.stamp ≡ stamp) × ((i : ℕ) → i < s.n → KeepsSome stamp (old i) (new i))
    Takes b old Changed new = (i : ℕ) → i < s.n → (b.lies i ≡ true) ⊎ (b.lost i ≡ true) ⊎ (new i ≡ old i)
    Takes b old (Gone node) new = (i : ℕ) → i < s.n → new i ≡ old i
    Takes b old (Back node) new = (b.gone node ≡ true) × HasTaken (b.late node) node (old node) (new node) × OthersKeep node old new
    Takes b old (Lost node) new = OthersKeep node old new
    Takes b old (Failed node) new = (count s.n (update b.lies node true) ≤ s.b) × OthersKeep node old new
    Takes b old (Renewed node) new =
        (x : StampedValue) × (earlier : List StampedValue) × (b.ended ≡ x ∷ earlier) × (new node ≡ renewed x node) × OthersKeep node old new

    -- the turns follow one another
    abbrev pub TakesAll : Standing → Keeps → List Moment → Type 0
    TakesAll b old [] = ⊤
    TakesAll b old (m ∷ life) = Takes b old m.turn m.kept × TakesAll (standing_after b m.turn) m.kept life

    -- a life of the block, from its beginning
    pub record IsLife (life : List Moment) : Type 0 where
      pub there : block < s.blocks
      pub takes : TakesAll (first_standing s) first_kept life
