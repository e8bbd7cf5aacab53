use Rattle.std.proofs.Common.{◌≡◌, ℕ, zero, suc, ◌+◌, [], ◌∷◌, ◌++◌, map, ap, ◌∙◌, arith}
use Rattle.std.specs.List.{range_with_len}
use Rattle.std.proofs.lemmas.List.{map-append}
use Rattle.thread_tests.specs.declared.two_senders.Number.{Number}
use Rattle.thread_tests.proofs.two_senders.put_numbers.Goals as goal

range_more : (a n : ℕ) → range_with_len a n ++ (a + n) ∷ [] ≡ range_with_len a (n + 1)
range_more a zero = ap (λ k. k ∷ []) (omega arith)
range_more a (suc n) =
    ap (λ l. a ∷ l) (ap (λ k. range_with_len (a + 1) n ++ k ∷ []) (omega arith) ∙ range_more (a + 1) n) ∙ ap (range_with_len a) (let more : suc (n + 1) ≡ suc n + 1 = omega arith in more)

pub loop-value-preserved : goal.loop-value-preserved
loop-value-preserved g c =
    let i = c.loop-value.invariant in
    let value = c.loop-value.value in
    let put = ap (λ p. map (λ (n : Number). n.value) p.put) c.put.ensures ∙ map-append (λ (n : Number). n.value) c.loop-value.putter.put (record { value = value } ∷ []) in (
      ap (λ p. p.inbox) c.put.ensures ∙ i.0,
      ap (λ p. p.number) c.put.ensures ∙ i.1,
      put ∙ ap (λ l. l ++ value ∷ []) i.2 ∙ ap (λ k. range_with_len 0 value ++ k ∷ []) (omega arith) ∙ range_more 0 value,
    )
