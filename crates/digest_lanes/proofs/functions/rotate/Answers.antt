use Rattle.digest_lanes.proofs.Vectors.{self, splat, two, as_lanes}
use Rattle.digest_lanes.proofs.Bits.{rotation}
use Rattle.digest_lanes.proofs.functions.rotate.Goals as goal

pub returns : goal.returns
returns c =
    let x = self c.args.x c.fits-x.0 in
    as_lanes _ _ _ (two _ _ _ _ _ (two _ _ _ _ _ x (splat c.args.by)) (two _ _ _ _ _ x (splat _)))
    (λ j h. rotation _ c.args.by c.requires.low c.requires.high)
