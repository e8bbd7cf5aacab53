use Rattle.std.proofs.Common.{false, sym, subst}
use Rattle.std.specs.Prelude.{slice_index_or}
use Rattle.event_lines.specs.Lines.{IsLine, IsEventLine}
use Rattle.event_lines.specs.declared.line.ReplayLine.{ReplayLine}
use Rattle.world_state.specs.Worlds.{WorldView}
use Rattle.script_run.proofs.lemmas.Fitting.{fits_line}
use Rattle.run_pictures.proofs.replayer.Replayer.takes_place.Goals as goal

pub play-requires-clause-fits : goal.play-requires-clause-fits
play-requires-clause-fits c =
    let w = c.self.inside.world in
    fits_line w.config (λ i. slice_index_or w.lying_nodes i false) (λ k. slice_index_or w.lying_clients k false) c.in-Plain.line
    (subst (λ (v : WorldView). IsLine v.config c.in-Plain.line) (sym c.self.view_is) (subst (λ (l : ReplayLine). IsEventLine c.args.self.now.config l) c.in-Plain.is c.requires))
