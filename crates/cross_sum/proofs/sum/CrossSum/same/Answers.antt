use Rattle.std.proofs.Common.{refl}
use Rattle.std.proofs.lemmas.Slice.Eq.{slice_eq-Decides}
use Rattle.std.proofs.lemmas.Bool.Decides.{Decides-eqb}
use Rattle.cross_sum.proofs.sum.CrossSum.same.Goals as goal

pub returns : goal.returns
returns c =
    let d = slice_eq-Decides (λ a b. slice_eq-Decides Decides-eqb a b _ refl) c.hashes.result.now c.hashes-2.result.now c.eq.result c.eq.ensures in
    rw (← c.hashes.ensures.value, ← c.hashes-2.ensures.value) d
