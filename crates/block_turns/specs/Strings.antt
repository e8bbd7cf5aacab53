-- Which strings of a life are compared by digest, and when no two of them clash.
use Rattle.std.specs.Prelude.{◌≡◌, ◌⊎◌, ℕ, ◌<◌, true, List}
use Rattle.std.specs.declared.option.Option.TheVariants.{Some}
use Rattle.std.specs.List.{Contains}
use Rattle.protocol.specs.Messages.{flat, Version}
use Rattle.protocol.specs.Setting.{Setting, zeros}
use Rattle.protocol.specs.Operations.{is_whole}
use Rattle.block_turns.specs.Turns.{Moment, written_in}
use Rattle.block_turns.specs.Turns.Turn.{Failed}

module _ (s : Setting) (life : List Moment) where
  -- zeros, or a value that an operation was to write
  pub data IsValue : List ℕ → Type 0 where
    zeros_value : IsValue (zeros s)
    to_be_written : {m : Moment} {value : List ℕ} → Contains life m → written_in m.turn ≡ Some value → IsValue value

  -- the node lies at some time
  abbrev pub LiesOnce : ℕ → Type 0
  LiesOnce i = (s.lying_node i ≡ true) ⊎ ((m : Moment) × Contains life m × (m.turn ≡ Failed i))

  -- a node that lies at some time kept this version, whose fragment fits its digests
  pub record HasKept (i : ℕ) (v : Version) : Type 0 where
    pub moment : Moment
    pub there : Contains life moment
    pub below : i < s.n
    pub lies : LiesOnce i
    pub kept : Contains (moment.kept i) v
    pub whole : is_whole s i v ≡ true

  -- the digest lists and fragments of these values and versions
  pub data IsSeen : List ℕ → Type 0 where
    sum_seen : {value : List ℕ} → IsValue value → IsSeen (flat (s.sum_of value))
    fragment_seen : {value : List ℕ} {i : ℕ} → IsValue value → i < s.n → IsSeen (s.fragment_of value i)
    sum_kept : {i : ℕ} {v : Version} → HasKept i v → IsSeen (flat v.sum)
    fragment_kept : {i : ℕ} {v : Version} → HasKept i v → IsSeen v.fragment

  -- no two different strings of the life share a digest
  abbrev pub NoClash : Type 0
  NoClash = (x y : List ℕ) → IsSeen x → IsSeen y → s.digest x ≡ s.digest y → x ≡ y
