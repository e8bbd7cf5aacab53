-- The fixed words of a form.
use Rattle.std.proofs.Common.{◌≡◌, ℕ, Bool, true, false, List, [], ◌∷◌, refl}
use Rattle.std.specs.Prelude.{codes}
use Rattle.std.specs.List.{list_any}
use Rattle.std.specs.Str.{bytes_eq}
use Rattle.quorum_rules.specs.Limits.{Numbers}
use Rattle.event_lines.specs.Forms.{forms_of, has_its_words}
use Rattle.event_lines.specs.declared.word.Form.TheVariants.{Crash}

-- `crash` is followed by `client`, as it isn't by `node`
pub client_or_none : (c : Numbers) (what : List ℕ) (rest : List (List ℕ)) (is : Bool) → bytes_eq what (codes "node") ≡ false → is ≡ bytes_eq what (codes "client") → is ≡ list_any (has_its_words (what ∷ rest)) (forms_of c Crash)
client_or_none c what [] true other e = rw (other, ← e) refl
client_or_none c what [] false other e = rw (other, ← e) refl
client_or_none c what (field ∷ rest) true other e = rw (other, ← e) refl
client_or_none c what (field ∷ rest) false other e = rw (other, ← e) refl
