-- What nodes prune after a phase.
use Rattle.std.specs.Prelude.{◌≡◌, ℕ, List, map}
use Rattle.std.specs.List.{Contains}
use Rattle.stamp_order.specs.Stamps.{◌≼◌}
use Rattle.protocol.specs.Report.{Ascend}
use Rattle.plan_followed.specs.declared.prunes.BlockStamp.{BlockStamp}

abbrev pub blocks_of : List BlockStamp → List ℕ
blocks_of xs = map (λ x. x.block) xs

-- ps has the blocks of which a late read gave something, blocks ascending, each with the greatest stamp that any read of it gave
pub record ArePrunings (reads late ps : List BlockStamp) : Type 0 where
  pub ascend : Ascend (blocks_of ps)
  pub all : (b : ℕ) → Contains (blocks_of late) b → Contains (blocks_of ps) b
  pub fresh : (x : BlockStamp) → Contains ps x → Contains (blocks_of late) x.block
  pub given : (x : BlockStamp) → Contains ps x → Contains reads x
  pub greatest : (x y : BlockStamp) → Contains ps x → Contains reads y → y.block ≡ x.block → y.stamp ≼ x.stamp
