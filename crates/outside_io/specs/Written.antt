-- What was written. A sink may stop telling its bytes, and never begins to; each word speaks of one that tells them now.
use Rattle.std.specs.Prelude.{◌≡◌, ℕ, List, ◌++◌, length, Option, Some, None, ⊤}

-- the bytes taken grew by these
abbrev pub Adds : Option (List ℕ) → Option (List ℕ) → List ℕ → Type 0
Adds old None bytes = ⊤
Adds None (Some new) bytes = ⊥
Adds (Some old) (Some new) bytes = new ≡ old ++ bytes

-- the bytes taken grew by a beginning of the text
abbrev pub TakesPrefix : Option (List ℕ) → Option (List ℕ) → List ℕ → Type 0
TakesPrefix old new text = (front : List ℕ) × (rest : List ℕ) × (text ≡ front ++ rest) × Adds old new front

-- all bytes taken are flushed
abbrev pub AllFlushed : Option (List ℕ) → ℕ → Type 0
AllFlushed None n = ⊤
AllFlushed (Some bytes) n = n ≡ length bytes
