-- Fields of a line, and pieces of a text, one after the other.
use Rattle.std.proofs.Common.{◌≡◌, ◌≢◌, ℕ, List, [], ◌∷◌, ◌++◌, map, Result, refl, sym, ap, ◌∙◌, append_assoc}
use Rattle.std.specs.Prelude.{OnOk}
use Rattle.std.specs.List.{join_with_byte}
use Rattle.std.proofs.lemmas.List.{append-nil}
use Rattle.std.proofs.lemmas.Result.{on_ok_weaker}
use Rattle.text_lines.specs.Lines.{parts_at}
use Rattle.text_lines.proofs.lemmas.Joined.{some_part}

joined_some : (mark : ℕ) (x : List ℕ) (ps : List (List ℕ)) → ps ≢ [] → join_with_byte mark (x ∷ ps) ≡ x ++ mark ∷ join_with_byte mark ps
joined_some mark x [] some = absurd (some refl)
joined_some mark x (p ∷ ps) some = refl

some_map : (f : List ℕ → List ℕ) (ps : List (List ℕ)) → ps ≢ [] → map f ps ≢ []
some_map f [] some e = some refl
some_map f (p ∷ ps) some e = absurd cc

-- the first part, the mark, and the parts after it
pub first_part : (f : List ℕ → List ℕ) (mark : ℕ) (text field after : List ℕ) → parts_at mark text ≡ field ∷ parts_at mark after
    → join_with_byte mark (map f (parts_at mark text)) ≡ f field ++ mark ∷ join_with_byte mark (map f (parts_at mark after))
first_part f mark text field after e =
    ap (λ (ps : List (List ℕ)). join_with_byte mark (map f ps)) e ∙ joined_some mark (f field) (map f (parts_at mark after)) (some_map f (parts_at mark after) (some_part mark after))

-- a field and the mark, added to what was there
pub joined_on : (old mid new field rest : List ℕ) (mark : ℕ) → mid ≡ old ++ field → new ≡ mid ++ mark ∷ [] → old ++ (field ++ mark ∷ rest) ≡ new ++ rest
joined_on old mid new field rest mark e f =
    sym (ap (λ (t : List ℕ). t ++ rest) (f ∙ ap (λ (t : List ℕ). t ++ mark ∷ []) e) ∙ simp append_assoc)

-- one piece more in front
pub more_ok : {T E : Type 0} (r : Result T E) (old mid new a b : List ℕ) → mid ≡ old ++ a → OnOk r (new ≡ mid ++ b) → OnOk r (new ≡ old ++ (a ++ b))
more_ok r old mid new a b e h = on_ok_weaker r (λ (n : new ≡ mid ++ b). n ∙ ap (λ (t : List ℕ). t ++ b) e ∙ append_assoc old a b) h

-- pieces of a list, joined
pub ruleset pieces = (append_assoc, append-nil)
