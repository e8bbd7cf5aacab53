use Rattle.std.proofs.lemmas.List.Elements.{All-same}
use Rattle.block_device.specs.Steps.{Fits, steps_of}
use Rattle.block_device.proofs.Fitting.{steps_fit}
use Rattle.block_device.proofs.cutting.commands.Goals as goal

pub returns-clause-fit : goal.returns-clause-fit
returns-clause-fit c =
    let config = c.args.config.now in
    let op = c.args.op.now in
    All-same (Fits config) c.in_ok-steps_of.field-0 (steps_of config op) c.in_ok-steps_of.ensures (steps_fit config op)
