-- Pieces of a text, or texts, one after the other.
use Rattle.std.proofs.Common.{◌≡◌, ℕ, List, ◌++◌, Result, ap, ◌∙◌, append_assoc}
use Rattle.std.specs.Prelude.{OnOk}
use Rattle.std.proofs.lemmas.List.{append-nil}
use Rattle.std.proofs.lemmas.Result.{on_ok_weaker}

pub ruleset joining = (append_assoc, append-nil)

-- one piece more in front
pub more_ok : {T E : Type 0} (r : Result T E) (old mid new a b : List ℕ) → mid ≡ old ++ a → OnOk r (new ≡ mid ++ b) → OnOk r (new ≡ old ++ (a ++ b))
more_ok r old mid new a b e h = on_ok_weaker r (λ (n : new ≡ mid ++ b). n ∙ ap (λ (t : List ℕ). t ++ b) e ∙ append_assoc old a b) h
