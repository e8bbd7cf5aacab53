use Rattle.std.proofs.Common.{get_or}
use Rattle.digest_lanes.proofs.Bits.{majority_short}
use Rattle.digest_lanes.proofs.Vectors.{self, two, as_lanes}
use Rattle.digest_lanes.proofs.functions.majority.Goals as goal

pub returns : goal.returns
returns c =
    let x = self c.args.x c.fits-x.0 in
    let y = self c.args.y c.fits-y.0 in
    let z = self c.args.z c.fits-z.0 in
    as_lanes _ _ _ (two _ _ _ _ _ y (two _ _ _ _ _ (two _ _ _ _ _ x y) (two _ _ _ _ _ y z))) (λ j h. majority_short (get_or c.args.x j 0) (get_or c.args.y j 0) (get_or c.args.z j 0))
