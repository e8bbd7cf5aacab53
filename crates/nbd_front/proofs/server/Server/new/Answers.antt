use Rattle.std.proofs.Common.{◌∙◌, ap}
use Rattle.node_device.specs.Devices.{SeenDevice}
use Rattle.nbd_front.specs.Arrays.{array_of}
use Rattle.nbd_front.proofs.Lives.{fresh_array}
use Rattle.nbd_front.proofs.server.Server.new.Goals as goal

pub returns-clause-zeros : goal.returns-clause-zeros
returns-clause-zeros c =
    ap (λ (d : SeenDevice). array_of d.held) c.in_ok-new.ensures ∙ fresh_array c.args.config.now c.args.config.now.blocks
