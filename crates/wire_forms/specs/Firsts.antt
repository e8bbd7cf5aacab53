-- The version that each block has from the beginning.
use Rattle.std.specs.Prelude.{ℕ, List, map, replicate}
use Rattle.cross_sum.specs.Digest.{digest, verifier}
pub use Rattle.quorum_rules.specs.Limits.{Numbers, share_of}
use Rattle.wire_forms.specs.declared.first.First.{First}

-- n strings of zero bytes, as long as a fragment
abbrev pub zero_fragments : Numbers → List (List ℕ)
zero_fragments c = replicate c.n (replicate (share_of c) 0)

-- their cross checksum
abbrev pub first_sum : Numbers → List (List ℕ)
first_sum c = map digest (zero_fragments c)

-- the first version: time 0, client 0, the verifier of that cross checksum, and zero bytes
abbrev pub first_of : Numbers → First
first_of c = record {
  stamp = record { time = 0; client = 0; verifier = verifier (first_sum c) };
  sum = first_sum c;
  fragment = replicate (share_of c) 0;
}
