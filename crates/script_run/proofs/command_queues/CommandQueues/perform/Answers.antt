use Rattle.std.proofs.Common.{false, subst, sym}
use Rattle.std.specs.Prelude.{slice_index_or}
use Rattle.protocol.specs.Lines.{FitsLine}
use Rattle.event_lines.specs.Lines.{IsEventLine}
use Rattle.event_lines.specs.declared.line.ReplayLine.{ReplayLine}
use Rattle.world_state.specs.Worlds.{setting_in}
use Rattle.script_run.specs.Performing.{run_line}
use Rattle.script_run.specs.CommandQueues.{queues_in}
use Rattle.script_run.proofs.lemmas.Fitting.{fits_line}
use Rattle.script_run.proofs.Keeping.{on_ok}
use Rattle.script_run.proofs.command_queues.CommandQueues.perform.Goals as goal

pub play-requires-clause-fits : goal.play-requires-clause-fits
play-requires-clause-fits c =
    let w = c.args.self.now.world in
    fits_line w.config (λ i. slice_index_or w.lying_nodes i false) (λ k. slice_index_or w.lying_clients k false) c.in-Plain.line (subst (λ (l : ReplayLine). IsEventLine w.config l) c.in-Plain.is c.requires.line)

pub returns-in-Plain-clause-fits : goal.returns-in-Plain-clause-fits
returns-in-Plain-clause-fits c =
    let w = c.args.self.now.world in
    let s = setting_in w in
    let fits : FitsLine s c.in-Plain.line =
    fits_line w.config (λ i. slice_index_or w.lying_nodes i false) (λ k. slice_index_or w.lying_clients k false) c.in-Plain.line (subst (λ (l : ReplayLine). IsEventLine w.config l) c.in-Plain.is c.requires.line) in
    on_ok c.play.result (λ _. subst (λ (l : ReplayLine). FitsLine s (run_line s (queues_in c.args.self.now) l)) (sym c.in-Plain.is) fits) c.play.ensures.allowed
