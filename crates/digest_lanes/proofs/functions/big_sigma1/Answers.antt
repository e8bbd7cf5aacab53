use Rattle.std.proofs.Common.{arith}
use Rattle.digest_lanes.proofs.Bits.{nested_three}
use Rattle.digest_lanes.proofs.Vectors.{as_lanes, inside, lane_fits}
use Rattle.digest_lanes.proofs.functions.big_sigma1.Goals as goal

pub returns : goal.returns
returns c =
    let x = c.args.x in
    let l = c.fits-x.0 in
    as_lanes _ _ _ (inside x _ _ _ 6 l (inside x _ _ _ 5 l c.rotate.ensures c.rotate-2.ensures) c.rotate-3.ensures)
    (λ j h. nested_three _ 6 5 14 (omega arith) (omega arith) (omega arith) (omega arith) (lane_fits x j l c.fits-x.1 h))
