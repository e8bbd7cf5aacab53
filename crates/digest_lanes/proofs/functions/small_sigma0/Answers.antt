use Rattle.std.proofs.Common.{arith}
use Rattle.digest_lanes.proofs.Bits.{nested_two}
use Rattle.digest_lanes.proofs.Vectors.{self, splat, two, as_lanes, inside, lane_fits}
use Rattle.digest_lanes.proofs.functions.small_sigma0.Goals as goal

pub returns : goal.returns
returns c =
    let x = c.args.x in
    let l = c.fits-x.0 in
    let both = as_lanes _ _ _ (inside x _ _ _ 7 l c.rotate.ensures c.rotate-2.ensures) (λ j h. nested_two _ 7 11 (omega arith) (omega arith) (omega arith) (lane_fits x j l c.fits-x.1 h)) in
    two _ _ _ _ _ both (two _ _ _ _ _ (self x l) (splat 3))
