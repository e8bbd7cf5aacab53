-- The records of a run's last world are those of a run.
use Rattle.std.proofs.Common.{◌≡◌, ◌<◌, ◌-◌, ◌^◌, List, sym, refl}
use Rattle.std.specs.Prelude.{slice_index_or, false}
use Rattle.stamp_order.specs.declared.Stamp.{Stamp}
use Rattle.protocol.specs.Setting.{IsValid, first_stamp}
use Rattle.protocol.specs.World.{Record}
use Rattle.protocol.proofs.lemmas.Cluster.{cluster_valid}
use Rattle.world_state.specs.Worlds.{WorldView, setting_in, world_in}
use Rattle.world_steps.specs.Reached.{IsReached}
use Rattle.script_run.specs.Histories.{FitsHistory, IsOfCluster, AreOfRun}
use Rattle.script_run.proofs.Records.{few_records}

of_cluster : (v : WorldView) → IsReached v → IsOfCluster (setting_in v)
of_cluster v r = record { config = v.config; lying_node = λ i. slice_index_or v.lying_nodes i false; lying_client = λ k. slice_index_or v.lying_clients k false; cluster = r.cluster; is = refl }

is_valid : (v : WorldView) → IsReached v → IsValid (setting_in v)
is_valid v r = cluster_valid v.config (λ i. slice_index_or v.lying_nodes i false) (λ k. slice_index_or v.lying_clients k false) r.cluster

-- a run of not too many lines fits a history
pub fits_history : (v : WorldView) → IsReached v → v.seen.place < 2 ^ 31 - 1 → FitsHistory (world_in v)
fits_history v r low = few_records (setting_in v) r.lines (world_in v) (is_valid v r) r.run low

pub are_of_run : (v : WorldView) → IsReached v → FitsHistory (world_in v) → (records : List Record) (first : Stamp) → records ≡ v.seen.records → first ≡ first_stamp (setting_in v) → AreOfRun (setting_in v) (world_in v) records first
are_of_run v r fits records first e f = record { cluster = of_cluster v r; lines = r.lines; run = r.run; fits = fits; has = sym e; begins = sym f }
