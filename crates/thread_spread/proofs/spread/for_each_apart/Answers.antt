use Rattle.std.proofs.Common.{refl, subst}
use Rattle.std.specs.Prelude.{slice_index_or}
use Rattle.std.specs.Fork.{ChangesAt}
use native.Mathlib.Nat.{zero-add}
use Rattle.thread_spread.proofs.spread.for_each_apart.Goals as goal

pub returns : goal.returns
returns g c = λ i d lt.
    (refl, subst (λ k. ChangesAt g.F.Fn c.args.f.now k (slice_index_or c.args.s.now i d) (slice_index_or c.parts_from.new.s i d)) (zero-add i) (c.parts_from.ensures.each i d lt))
