use Rattle.std.proofs.Common.{◌≡◌, inl, inr, subst, arith}
use Rattle.std.proofs.lemmas.Bool.{cases_lt}
use Rattle.store_front.specs.Touching.{IsFree}
use Rattle.store_front.proofs.round.Touched.takes.Goals as goal

pub loop-block-preserved : goal.loop-block-preserved
loop-block-preserved c = λ k low high. elim (cases_lt k c.loop-block.block) [
  | inl before ↦ c.loop-block.invariant k low before
  | inr now ↦ (let same : c.loop-block.block ≡ k = omega (arith, now, high) in subst (IsFree c.args.self.now c.args.kind) same (c.is_free.ensures c.if-not-is_free.false))
]

pub returns-clause-room : goal.returns-clause-room
returns-clause-room c = λ e k low high. inr (c.loop-block.invariant k low (omega (arith, high, c.loop-block-test.false)))
