-- A word that was found in a table of words by how it is spelled.
use Rattle.std.proofs.Common.{◌≡◌, ℕ, List, [], ◌∷◌, Some, ap, ◌∙◌, inl, inr}
use Rattle.std.specs.Prelude.{find}
use Rattle.std.specs.Str.{bytes_eq}
use Rattle.std.proofs.lemmas.Bool.{cases_Bool}
use Rattle.std.proofs.lemmas.Slice.Eq.{bytes_eq-Decides}

pub find-spelled : {W : Type 0} (text : W → List ℕ) (field : List ℕ) (words : List W) (word : W) → find (λ w. bytes_eq field (text w)) words ≡ Some word → field ≡ text word
find-spelled text field [] word h = absurd cc
find-spelled {W} text field (w ∷ words) word h =
    elim (cases_Bool (bytes_eq field (text w))) [
      | inl same ↦
          let is : Some w ≡ Some word = rw same at h in
          let one : w ≡ word = cc in
          (bytes_eq-Decides field (text w)).0 same ∙ ap text one
      | inr other ↦ let more : find (λ (x : W). bytes_eq field (text x)) words ≡ Some word = rw other at h in find-spelled text field words word more
    ]
