-- The greatest stamps of blocks, by block.
use Rattle.std.specs.Prelude.{◌≡◌, ◌⊎◌, ℕ, ◌<◌, List, Option, slice_get}
use Rattle.std.specs.declared.option.Option.TheVariants.{None, Some}
use Rattle.std.specs.List.{Contains, AllByRecursion}
use Rattle.stamp_order.specs.declared.Stamp.{Stamp}
use Rattle.stamp_order.specs.Stamps.{◌≼◌}
use Rattle.protocol.specs.Report.{Ascend}
use Rattle.plan_followed.specs.declared.prunes.BlockStamp.{BlockStamp}
use Rattle.plan_followed.specs.Prunings.{blocks_of}

abbrev pub IsOneOf : Option Stamp → Stamp → Stamp → Type 0
IsOneOf top s r = (r ≡ s) ⊎ (top ≡ Some r)

-- a late read is of the block, and this is the greatest stamp that any read of it gave
pub record IsTop (late reads : List BlockStamp) (b : ℕ) (s : Stamp) : Type 0 where
  pub named : Contains (blocks_of late) b
  pub given : Contains reads (record { block = b; stamp = s })
  pub greatest : (y : BlockStamp) → Contains reads y → y.block ≡ b → y.stamp ≼ s

-- the block's greatest stamp, if a late read is of it
abbrev pub IsTopOf : List BlockStamp → List BlockStamp → ℕ → Option Stamp → Type 0
IsTopOf late reads b None = Contains (blocks_of late) b → ⊥
IsTopOf late reads b (Some s) = IsTop late reads b s

-- the greatest stamps, by block, of the blocks that a late read is of
pub record AreTops (late reads : List BlockStamp) (tops : List (Option Stamp)) : Type 0 where
  pub each : (b : ℕ) (top : Option Stamp) → slice_get tops b ≡ Some top → IsTopOf late reads b top

-- the blocks below n that have a stamp, ascending, each with its stamp
pub record AreListed (n : ℕ) (tops : List (Option Stamp)) (ps : List BlockStamp) : Type 0 where
  pub ascend : Ascend (blocks_of ps)
  pub below : AllByRecursion (λ b. b < n) (blocks_of ps)
  pub sound : (x : BlockStamp) → Contains ps x → slice_get tops x.block ≡ Some (Some x.stamp)
  pub all : (b : ℕ) (s : Stamp) → b < n → slice_get tops b ≡ Some (Some s) → Contains (blocks_of ps) b
