-- The worlds that runs lead to.
use Rattle.std.specs.Prelude.{ℕ, false, List, slice_index_or}
use Rattle.protocol.specs.Lines.{Line, IsRun}
use Rattle.protocol.specs.Instance.{IsCluster}
use Rattle.world_state.specs.Worlds.{WorldView, setting_in, world_in}

-- lines of a run lead to this world, and at most b of its nodes lie
pub record IsReached (v : WorldView) : Type 0 where
  pub cluster : IsCluster v.config (λ i. slice_index_or v.lying_nodes i false)
  pub lines : List (ℕ × Line)
  pub run : IsRun (setting_in v) lines (world_in v)
