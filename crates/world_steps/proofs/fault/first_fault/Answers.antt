use Rattle.std.proofs.Common.{rules, tests, ◌∙◌}
use Rattle.std.proofs.lemmas.Iterator.{YieldsList-from_slice}
use Rattle.std.proofs.lemmas.Iterator.Search.{find_from_yields_List}
use Rattle.protocol.specs.Lines.{meets}
use Rattle.world_state.specs.Worlds.{setting_in, world_in}
use Rattle.world_steps.specs.Faults.{possible_faults}
use Rattle.world_steps.proofs.PossibleFaults.{no_other_fault}
use Rattle.world_steps.proofs.fault.first_fault.Goals as goal

pub returns : goal.returns
returns c =
    let test = meets (setting_in c.args.state.now) (world_in c.args.state.now) c.args.line.now in
    let e = find_from_yields_List test _ _ c.find.result c.find.ensures.ran (YieldsList-from_slice (possible_faults c.args.line.now) (c.iter.ensures.rest ∙ c.possible_faults.ensures)) (λ x b q k. search (rules, tests)) in
    c.copied.ensures ∙ e ∙ no_other_fault (setting_in c.args.state.now) (world_in c.args.state.now) c.args.line.now
