use Rattle.std.proofs.Common.{arith, refl}
use Rattle.frag_check.proofs.Digests.{same_digests}
use Rattle.frag_check.proofs.verdict.have_digests.Goals as goal

pub returns : goal.returns
returns c = (λ _. same_digests c.args.shares.now c.args.sum.now c.requires.count (λ k hk. c.loop-i.invariant k (omega arith)), λ _. refl)
