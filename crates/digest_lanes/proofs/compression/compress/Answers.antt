use Rattle.std.proofs.Common.{◌≡◌, ◌*◌, set, ap, inl, inr, refl, slice_index, ◌∙◌, arith}
use Rattle.std.proofs.lemmas.Bool.{cases_lt}
use Rattle.std.proofs.lemmas.List.{get_or-set_same, get_or-set_other}
use Rattle.sha2.specs.Sha256.{add_state, compress, rounds, word_at}
use Rattle.sha2.proofs.Schedule256.{IsWindow_first}
use Rattle.digest_lanes.specs.Lanes.{lane, message}
use Rattle.digest_lanes.proofs.Vectors.{AreVectors_set, lane_set, length-lane}
use Rattle.digest_lanes.proofs.compression.compress.Goals as goal

pub load-preserved : goal.load-preserved
load-preserved c = (
  AreVectors_set 16 c.load.w c.load.i c.words.result c.load.invariant.0 c.words.ensures.len,
  λ j h k lt.
      let x = slice_index c.words.result j in
      let ring = lane c.load.w j in
      let n = length-lane 16 c.load.w j c.load.invariant.0 in
      let same = ap (λ l. slice_index l k) (lane_set c.load.w c.load.i c.words.result j) in
      elim (cases_lt k c.load.i) [
        | inl a ↦ same ∙ get_or-set_other ring c.load.i k x 0 (omega arith) ∙ c.load.invariant.1 j h k a
        | inr b ↦
            let e : c.load.i ≡ k = omega arith in
            same ∙ ap (λ i. slice_index (set ring i x) k) e ∙ get_or-set_same ring k x 0 (omega arith) ∙ c.words.ensures.each j h
            ∙ ap (λ i. word_at (message c.args.a.now c.args.b.now c.args.c.now c.args.d.now j) (4 * i)) e
      ],
)

pub returns-clause-each : goal.returns-clause-each
unfolding compress rounds
returns-clause-each c = λ j lt.
    let m = message c.args.a.now c.args.b.now c.args.c.now c.args.d.now j in
    let h = lane c.args.state.now j in
    let w = c.load.w in
    let window = IsWindow_first m (lane w j) (length-lane 16 w j c.load.invariant.0) (λ k k16. c.load.invariant.1 j lt k (omega arith)) in
    let s1 = c.block_rounds-v.ensures.each j lt m h window refl in
    let s2 = c.sixteen_rounds-v.ensures.each j lt m h (window, s1) in
    let s3 = c.sixteen_rounds-v-2.ensures.each j lt m h s2 in
    let s4 = c.sixteen_rounds-v-3.ensures.each j lt m h s3 in
    c.sums.ensures.each j lt ∙ ap (add_state h) s4.1
