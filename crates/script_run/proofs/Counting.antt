-- Ascending numbers, counted by going through all numbers.
use Rattle.std.proofs.Common.{◌≡◌, ℕ, ◌+◌, ◌≤◌, ◌<◌, Bool, true, false, cond, List, [], ◌∷◌, ◌++◌, sym, ap, ◌∙◌, length, arith}
use Rattle.std.specs.List.{All}
use Rattle.std.proofs.lemmas.List.{length-append}
use Rattle.std.proofs.lemmas.List.Elements.{recursion_from_All}
use Rattle.wire_forms.specs.Liars.{IsAscending, has_number, IsClientNumber}
use Rattle.script_text.proofs.lemmas.Ascending.{numbers_below, below_next, below_none, below_all}

-- how many of the numbers are below a limit
abbrev pub counted_below : ℕ → List ℕ → ℕ
counted_below limit ks = length (numbers_below limit ks)

more : (limit : ℕ) (ks : List ℕ) (there : Bool) → length (numbers_below limit ks ++ cond there (limit ∷ []) []) ≡ counted_below limit ks + cond there 1 0
more limit ks true = length-append (numbers_below limit ks) (limit ∷ [])
more limit ks false = length-append (numbers_below limit ks) []

-- one number more
pub counted_next : (limit : ℕ) (ks : List ℕ) (there : Bool) → IsAscending ks → there ≡ has_number ks limit → counted_below (limit + 1) ks ≡ counted_below limit ks + cond there 1 0
counted_next limit ks there up e = ap (λ (xs : List ℕ). length xs) (below_next limit ks up) ∙ more limit ks (has_number ks limit) ∙ ap (λ (b : Bool). counted_below limit ks + cond b 1 0) (sym e)

pub counted_none : (ks : List ℕ) → All IsClientNumber ks → counted_below 1 ks ≡ 0
counted_none ks h = ap (λ (xs : List ℕ). length xs) (below_none 1 ks (recursion_from_All (λ k. 1 ≤ k) ks (λ i d l. (h i d l).0)))

pub counted_all : (ks : List ℕ) → All IsClientNumber ks → counted_below 1001 ks ≡ length ks
counted_all ks h = ap (λ (xs : List ℕ). length xs) (below_all 1001 ks (recursion_from_All (λ k. k < 1001) ks (λ i d l. let most = (h i d l).1 in omega arith)))
