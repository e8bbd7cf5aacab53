use Rattle.std.proofs.Common.{◌≡◌, length, arith}
use Rattle.candidate_class.specs.Stamps.{stamp_at}
use Rattle.candidate_class.proofs.lemmas.Reaching.{highest_none}
use Rattle.candidate_class.proofs.stamps.pivot_of.Goals as goal

pub returns-clause-none : goal.returns-clause-none
returns-clause-none c =
    let all : c.loop-stamp.stamp-index ≡ length c.args.stamps.now = omega arith in
    let pivot = rw all at c.loop-stamp.invariant in
    rw pivot (highest_none (length c.args.stamps.now) c.args.repairable (stamp_at c.args.stamps.now) (omega (arith, c.requires.some)))
