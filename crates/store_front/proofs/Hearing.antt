-- What was told of operations, heard one after the other.
use Rattle.std.proofs.Common.{◌≡◌, ℕ, List, [], ◌∷◌, ◌++◌, map, sym, ap, ◌∙◌, Option, Bor}
use Rattle.std.proofs.lemmas.List.{map-append}
use Rattle.quorum_rules.specs.Limits.{Numbers}
use Rattle.wire_forms.specs.declared.op.Op.{Op}
use Rattle.protocol.specs.Operations.{Outcome}
use Rattle.store_front.specs.Values.{found_with, written_with, found_in, written_in}
use Rattle.store_front.proofs.Asking.{found_append, written_append}

-- an operation with what was told of it
abbrev pub as_told : Bor Op × Option Outcome → Op × Option Outcome
as_told p = (p.0.now, p.1)

pub one_found : (c : Numbers) (old now new : List (ℕ × List ℕ)) (xs : List (Bor Op × Option Outcome)) (x : Bor Op × Option Outcome)
    → now ≡ found_in c old (map as_told xs) → new ≡ found_with c now x.0.now x.1 → new ≡ found_in c old (map as_told (xs ++ x ∷ []))
one_found c old now new xs x before here =
    here ∙ ap (λ z. found_with c z x.0.now x.1) before ∙ sym (found_append c old (map as_told xs) (as_told x ∷ [])) ∙ ap (found_in c old) (sym (map-append as_told xs (x ∷ [])))

pub one_written : (old now new : List ℕ) (xs : List (Bor Op × Option Outcome)) (x : Bor Op × Option Outcome)
    → now ≡ written_in old (map as_told xs) → new ≡ written_with now x.0.now x.1 → new ≡ written_in old (map as_told (xs ++ x ∷ []))
one_written old now new xs x before here =
    here ∙ ap (λ z. written_with z x.0.now x.1) before ∙ sym (written_append old (map as_told xs) (as_told x ∷ [])) ∙ ap (written_in old) (sym (map-append as_told xs (x ∷ [])))
