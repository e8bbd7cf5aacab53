use Rattle.std.proofs.Common.{◌≡◌, ℕ, ◌+◌, ◌%◌, List, [], ◌∷◌, ◌++◌, map, sym, ap, ◌∙◌, arith}
use Rattle.std.specs.List.{range_with_len}
use Rattle.std.proofs.lemmas.List.FromFn.{map-range_with_len_more}
use Rattle.std.proofs.lemmas.Result.{IfOk-weaker}
use Rattle.soak_loads.proofs.load.value_from.Goals as goal

pub loop-i-preserved : goal.loop-i-preserved
loop-i-preserved c =
    let f = λ (i : ℕ). (c.args.first + i) % 256 in
    c.in_ok-push.ensures.items ∙ ap (λ (xs : List ℕ). xs ++ f c.loop-i.i ∷ []) c.loop-i.invariant ∙ sym (map-range_with_len_more f 0 c.loop-i.i c.loop-i.i (omega arith))

pub returns : goal.returns
returns c =
    let end : c.loop-i.i ≡ 512 = omega (arith, c.loop-i-test.false, c.loop-i.auto.i-end) in
    IfOk-weaker c.shared.result _ _ (λ value h. h ∙ c.loop-i.invariant ∙ ap (λ (n : ℕ). map (λ i. (c.args.first + i) % 256) (range_with_len 0 n)) end) c.shared.ensures
