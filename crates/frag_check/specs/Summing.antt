-- A block's fragments with their cross checksum.
use Rattle.std.specs.Prelude.{ℕ, List}
use Rattle.gf_field.specs.Fragments.{fragments_of}
use Rattle.ida_code.specs.Sums.{sum_of}
use Rattle.frag_check.specs.declared.summed.Summed.{Summed}

abbrev pub summed_of : ℕ → ℕ → List ℕ → Summed
summed_of n m block = record { shares = fragments_of n m block; sum = sum_of n m block }
