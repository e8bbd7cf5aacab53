-- Parts of ascending numbers, one more.
use Rattle.std.proofs.Common.{◌≡◌, ◌≢◌, ℕ, ◌+◌, ◌<◌, ◌≤◌, List, [], ◌∷◌, ◌++◌, length, All, sym, subst, arith}
use Rattle.std.proofs.lemmas.List.{map_push}
use Rattle.std.proofs.lemmas.List.Elements.{All-push, All-weaker}
use Rattle.std.proofs.lemmas.List.Quantifiers.{all_pairs_push}
use Rattle.gf_field.specs.Polynomials.{AreDistinct}
use Rattle.cross_sum.specs.declared.part.Part.{Part}
use Rattle.cross_sum.specs.Parts.{numbers, strings}

pub chosen-more : (n least len : ℕ) (parts new : List Part) (p : Part) → All (λ x. x < least) (numbers parts) → AreDistinct (numbers parts) → All (λ s. length s ≡ len) (strings parts)
    → least ≤ p.number → p.number < n → length p.bytes ≡ len → new ≡ parts ++ p ∷ []
    → (p.number + 1 ≤ n) × All (λ x. x < p.number + 1) (numbers new) × AreDistinct (numbers new) × All (λ s. length s ≡ len) (strings new)
chosen-more n least len parts new p below distinct lengths le lt size e =
    let ns = map_push (λ (p : Part). p.number) parts p in
    let ss = map_push (λ (p : Part). p.bytes) parts p in
    let all : (p.number + 1 ≤ n) × All (λ x. x < p.number + 1) (numbers (parts ++ p ∷ [])) × AreDistinct (numbers (parts ++ p ∷ [])) × All (λ s. length s ≡ len) (strings (parts ++ p ∷ [])) = (
      omega arith,
      subst (All (λ x. x < p.number + 1)) (sym ns) (All-push (λ x. x < p.number + 1) (numbers parts) p.number (All-weaker (λ x. x < least) (λ x. x < p.number + 1) (λ x h. omega arith) (numbers parts) below) (omega arith)),
      subst AreDistinct (sym ns) (all_pairs_push (λ x y. x ≢ y) (numbers parts) p.number distinct (λ k d hk. let b = below k d hk in λ same. omega arith)),
      subst (All (λ s. length s ≡ len)) (sym ss) (All-push (λ s. length s ≡ len) (strings parts) p.bytes lengths size),
    ) in
    subst (λ (z : List Part). (p.number + 1 ≤ n) × All (λ x. x < p.number + 1) (numbers z) × AreDistinct (numbers z) × All (λ s. length s ≡ len) (strings z)) (sym e) all
