-- What comes first in an order by several keys.
use Rattle.std.proofs.Common.{◌≡◌, ℕ, ◌≤◌, sym, ap, ◌∙◌, arith, inl, inr}
use Rattle.std.specs.declared.cmp.Ordering.{Ordering}
use Rattle.std.specs.declared.cmp.Ordering.TheVariants.{Less, Greater}
use Rattle.std.specs.Ordering.{nat_cmp, ordering_then}
use Rattle.std.proofs.lemmas.Bool.{cases_lt}
use Rattle.std.proofs.lemmas.Bool.Decides.{nat_tests}

pub then_less : (a b : ℕ) (o : Ordering) → ordering_then (nat_cmp a b) o ≡ Less → a ≤ b
then_less a b o h =
    elim (cases_lt b a) [
      | inl lt ↦ let over : nat_cmp a b ≡ Greater = grind (arith, nat_tests) in let clash : Greater ≡ Less = sym (ap (λ (p : Ordering). ordering_then p o) over) ∙ h in absurd cc
      | inr le ↦ le
    ]
