use Rattle.digest_lanes.proofs.Vectors.{self, one, two}
use Rattle.digest_lanes.proofs.functions.choice.Goals as goal

pub returns : goal.returns
returns c =
    let x = self c.args.x c.fits-x.0 in
    two _ _ _ _ _ (two _ _ _ _ _ x (self c.args.y c.fits-y.0)) (two _ _ _ _ _ (one _ _ _ x) (self c.args.z c.fits-z.0))
