-- What parts show under a cross checksum.
use Rattle.std.specs.Prelude.{◌≡◌, ◌≢◌, ℕ, List}
use Rattle.gf_field.specs.Fragments.{decoded}
use Rattle.ida_code.specs.Sums.{sum_of}
use Rattle.frag_check.specs.declared.verdict.Verdict.{Verdict}
use Rattle.frag_check.specs.declared.verdict.Verdict.TheVariants.{Sound, Poisonous}

-- sound with the block that they decode to, where its cross checksum is this one, and else poisonous
abbrev pub IsVerdict : ℕ → ℕ → ℕ → List ℕ → List (List ℕ) → List (List ℕ) → Verdict → Type 0
IsVerdict n m size numbers strings sum (Sound D) = (D ≡ decoded m size numbers strings) × (sum_of n m D ≡ sum)
IsVerdict n m size numbers strings sum Poisonous = sum_of n m (decoded m size numbers strings) ≢ sum
