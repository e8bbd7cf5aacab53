-- Reads of blocks that follow each other.
use Rattle.std.proofs.Common.{◌≡◌, ℕ, ◌+◌, ◌<◌, [], ◌∷◌, ◌++◌, length, Some, refl, ap, ◌∙◌, arith}
use Rattle.std.specs.List.{slice_get}
use Rattle.std.proofs.lemmas.List.FromFn.{map-range_with_len_more, length-map-range_with_len, get_or-map-range_with_len}
use Rattle.std.proofs.lemmas.Option.{slice_get-get_or}
use Rattle.wire_forms.specs.declared.op.Op.{Op}
use Rattle.wire_forms.specs.declared.op.Op.TheVariants.{Read}
use Rattle.store_care.specs.Given.{reads_from}

-- one read more
pub one_read_more : (first count block : ℕ) → first + count ≡ block → reads_from first (count + 1) ≡ reads_from first count ++ Read block ∷ []
one_read_more first count block e = map-range_with_len_more (λ b. Read b) first count block e

pub length-reads_from : (first count : ℕ) → length (reads_from first count) ≡ count
length-reads_from first count = length-map-range_with_len (λ b. Read b) first count

-- the read at a place is that of its block
pub read_at : (first count k : ℕ) → k < count → slice_get (reads_from first count) k ≡ Some (Read (first + k))
read_at first count k lt =
    slice_get-get_or (reads_from first count) k (Read 0) (omega (arith, length-reads_from first count))
    ∙ ap (λ (op : Op). Some op) (get_or-map-range_with_len (λ b. Read b) first count k (first + k) (Read 0) lt refl)
