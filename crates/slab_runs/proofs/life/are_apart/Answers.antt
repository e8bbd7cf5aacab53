use Rattle.std.proofs.Common.{◌≡◌, ◌<◌, ◌≤◌, ◌-◌, inl, inr, ℕ, List, length, get_or, ap, subst, arith}
use Rattle.std.proofs.lemmas.Bool.{cases_lt}
use Rattle.std.proofs.lemmas.List.{get_or_default}
use Rattle.slab_node.specs.declared.batch.Fresh.{Fresh}
use Rattle.slab_runs.proofs.life.are_apart.Goals as goal

pub loop-i-preserved : goal.loop-i-preserved
loop-i-preserved c = λ j k d less below.
    let B : List Fresh = c.args.batch.now in
    let i = c.loop-i.i in
    let inv = c.loop-i.invariant in
    let within : i < length B = omega (arith, c.loop-i-test.true) in
    let one : 1 ≤ i = omega (arith, c.loop-i.auto.i) in
    let here : get_or B i d ≡ get_or B i c.index-batch-i.result = get_or_default B i d c.index-batch-i.result within in
    let there : get_or B (i - 1) d ≡ get_or B (i - 1) c.index-batch-i-in-loop-i.result =
    get_or_default B (i - 1) d c.index-batch-i-in-loop-i.result (omega (arith, within)) in
    let step : (get_or B i d).slot < (get_or B (i - 1) d).slot =
    omega (arith, ap (λ (f : Fresh). f.slot) here, ap (λ (f : Fresh). f.slot) there, c.if-batch-i.false) in
    elim (cases_lt k i) [
      | inl lt ↦ inv j k d less lt
      | inr le ↦
          let it : i ≡ k = omega (arith, le, below) in
          let before : (get_or B (i - 1) d).slot ≤ (get_or B j d).slot = elim (cases_lt j (i - 1)) [
            | inl low ↦ omega (arith, inv j (i - 1) d low (omega (arith, one)))
            | inr high ↦ let e : i - 1 ≡ j = omega (arith, high, less, it) in subst (λ (n : ℕ). (get_or B (i - 1) d).slot ≤ (get_or B n d).slot) e (omega arith)
          ] in
          subst (λ (n : ℕ). (get_or B n d).slot < (get_or B j d).slot) it (omega (arith, step, before))
    ]

pub returns : goal.returns
returns c = λ _ i j d e below above same.
    let B : List Fresh = c.args.batch.now in
    let inv = c.loop-i.invariant in
    let slots : (get_or B j d).slot ≡ (get_or B j e).slot = ap (λ (f : Fresh). f.slot) (get_or_default B j d e above) in
    elim (cases_lt i j) [
      | inl lt ↦ absurd (omega (arith, inv i j d lt (omega (arith, above, c.loop-i-test.false)), same, slots))
      | inr ge ↦ elim (cases_lt j i) [
        | inl lt ↦ absurd (omega (arith, inv j i d lt (omega (arith, below, c.loop-i-test.false)), same, slots))
        | inr le ↦ omega (arith, ge, le)
      ]
    ]
