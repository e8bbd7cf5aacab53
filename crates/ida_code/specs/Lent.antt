-- Strings that are lent.
use Rattle.std.specs.Prelude.{ℕ, List, map}
use Rattle.std.specs.Borrow.{Bor}

-- the strings behind references
abbrev pub lent : List (Bor (List ℕ)) → List (List ℕ)
lent refs = map (λ (r : Bor (List ℕ)). r.now) refs
