-- The first version, made of zero bytes, is that of the definitions.
use Rattle.std.proofs.Common.{◌≡◌, ℕ, ◌<◌, List, [], map, replicate, sym, ◌∙◌, ap, arith}
use Rattle.std.specs.List.{slice_index_or}
use Rattle.std.proofs.lemmas.List.{get_or-replicate}
use Rattle.cross_sum.specs.Digest.{digest, verifier}
use Rattle.gf_field.specs.Fragments.{IsShape, fragments_of}
use Rattle.gf_field.proofs.lemmas.Blocks.{fragments_of-zeros}
use Rattle.quorum_rules.specs.Limits.{Numbers, IsValid, share_of}
use Rattle.wire_forms.specs.Firsts.{zero_fragments, first_of}
use Rattle.protocol.specs.Messages.{Version}
use Rattle.protocol.specs.Setting.{first_stamp}
use Rattle.protocol.specs.Nodes.{first_version}
use Rattle.protocol.specs.Instance.{setting}
use Rattle.protocol.specs.Seen.{as_version}

module _ (c : Numbers) (h : IsValid c) where
  -- the code of a valid configuration
  pub shape_of_valid : IsShape c.n c.m
  shape_of_valid = record { some = h.shares.0; enough = (let a = h.shares.1 in let b = h.high in omega arith); few = h.nodes.1 }

  version_of : ℕ → List (List ℕ) → Version
  version_of i fs = record { stamp = record { time = 0; client = 0; verifier = verifier (map digest fs) }; sum = map digest fs; fragment = slice_index_or fs i [] }

  pub first_is : (i : ℕ) → i < c.n → as_version (first_of c) ≡ first_version (setting c) i
  unfolding version_of
  first_is i l =
      let e = get_or-replicate c.n i (replicate (share_of c) 0) [] l in
      let f : version_of i (fragments_of c.n c.m (replicate c.size 0)) ≡ version_of i (zero_fragments c) = ap (version_of i) (fragments_of-zeros c.n c.m c.size shape_of_valid) in
      let g : version_of i (zero_fragments c) ≡ as_version (first_of c) = ap (λ (x : List ℕ). record { stamp = (first_of c).stamp; sum = (first_of c).sum; fragment = x }) e in
      sym (f ∙ g)

  pub first_stamp_is : (first_of c).stamp ≡ first_stamp (setting c)
  first_stamp_is = ap (λ (v : Version). v.stamp) (first_is 0 (let some = h.nodes.0 in omega arith))
