-- What the reads of a run gave, and the line at which an operation starts.
use Rattle.std.proofs.Common.{◌≡◌, ℕ, ◌<◌, Bool, false, List, Option, refl, ap, inl}
use Rattle.std.specs.Prelude.{slice_index_or}
use Rattle.std.specs.declared.option.Option.TheVariants.{None, Some}
use Rattle.quorum_rules.specs.Limits.{Numbers}
use Rattle.stamp_order.specs.declared.Stamp.{Stamp}
use Rattle.run_words.specs.declared.outcome.How.{How}
use Rattle.run_words.specs.declared.outcome.Outcome.TheVariants.{Wrote, Spent, Gave, Outvoted}
use Rattle.wire_forms.specs.declared.op.Op.{Op}
use Rattle.wire_forms.specs.declared.op.Op.TheVariants.{Read as ReadOp, Write as WriteOp}
use Rattle.protocol.specs.Operations.{Outcome}
use Rattle.protocol.specs.Instance.{setting, setting_of}
use Rattle.protocol.specs.World.{Fits}
use Rattle.protocol.specs.Seen.{block_of, work_of}
use Rattle.protocol.specs.Lines.{FitsLine, start_line}
use Rattle.protocol.specs.History.{read_entry}
use Rattle.protocol.proofs.lemmas.Cluster.{cluster_valid}
use Rattle.protocol.proofs.lemmas.Kept.{run_blocks}
use Rattle.block_device.specs.Latest.{value_given, AreWhole}
use Rattle.world_state.specs.Worlds.{WorldView, setting_in, world_in}
use Rattle.world_steps.specs.Reached.{IsReached}

-- the outcome that has a value
value_gave : (o : Option Outcome) (v : List ℕ) → value_given o ≡ Some v → (stamp : Stamp) × (how : How) × (rounds : ℕ) × (o ≡ Some (Gave stamp v how rounds))
value_gave (Some (Gave stamp value how rounds)) v e = let is : value ≡ v = cc in (stamp, how, rounds, ap (λ (z : List ℕ). Some (Gave stamp z how rounds)) is)
value_gave (Some (Wrote stamp)) v e = absurd cc
value_gave (Some Spent) v e = absurd cc
value_gave (Some (Outvoted nodes)) v e = absurd cc
value_gave None v e = absurd cc

-- the values that reads gave are as long as a block
pub reads_whole : (w : WorldView) → IsReached w → AreWhole w.config.size w.seen.records
reads_whole w reached r v there e =
    let gave = value_gave r.outcome v e in
    (run_blocks (setting_in w) reached.lines (world_in w)
    (cluster_valid w.config (λ i. slice_index_or w.lying_nodes i false) (λ k. slice_index_or w.lying_clients k false) reached.cluster) reached.run
    (read_entry r gave.0 v) (inl (record { read = r; there = there; how = gave.1; rounds = gave.2; gave = gave.3; made = refl }))).0

-- the line at which an operation of the cluster starts
pub start_fits : (c : Numbers) (nodes clients : ℕ → Bool) (client : ℕ) (op : Op) → block_of op < c.blocks → Fits (setting c) (work_of op) → FitsLine (setting_of c nodes clients) (start_line client op)
start_fits c nodes clients client (ReadOp block) inside fits = inside
start_fits c nodes clients client (WriteOp block value) inside fits = (inside, fits)
