use Rattle.gf_field.proofs.lemmas.Blocks.{length-fragments_of}
use Rattle.operation_core.proofs.stage.Stage.request.Goals as goal

pub version-requires : goal.version-requires
version-requires c =
    let fits = rw c.in-Storing.is at c.requires.fits in
    rw (fits.shares, length-fragments_of c.args.config.now.n c.args.config.now.m c.in-Storing.storing.value) c.requires.node
