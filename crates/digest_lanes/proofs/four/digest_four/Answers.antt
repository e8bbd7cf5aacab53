use Rattle.std.proofs.Common.{◌≡◌, ◌+◌, ◌-◌, ◌*◌, ◌/◌, ℕ, [], ◌∷◌, length, take, drop, refl, ◌∙◌, arith}
use Rattle.sha2.specs.Sha256.{padded_message}
use Rattle.digest_lanes.specs.Lanes.{message}
use Rattle.digest_lanes.proofs.Vectors.{four_cases}
use Rattle.digest_lanes.proofs.Padding.{whole_block, hashed, none_hashed, digested}
use Rattle.digest_lanes.proofs.four.digest_four.Goals as goal

pub whole-init : goal.whole-init
whole-init c = (c.initial-state.ensures.vectors, λ j h. c.initial-state.ensures.each j h ∙ none_hashed _)

pub whole-preserved : goal.whole-preserved
whole-preserved c =
    let i : ℕ = c.whole.i in
    let width : 64 * i + 64 - 64 * i ≡ 64 = omega arith in (
      c.compress.ensures.vectors,
      λ j h. hashed _ _ _ _ i (c.whole.invariant.1 j h)
          (four_cases (λ k. message (take (64 * i + 64 - 64 * i) (drop (64 * i) c.args.a.now)) (take (64 * i + 64 - 64 * i) (drop (64 * i) c.args.b.now)) (take (64 * i + 64 - 64 * i) (drop (64 * i) c.args.c.now)) (take (64 * i + 64 - 64 * i) (drop (64 * i) c.args.d.now)) k
          ≡ take 64 (drop (i * 64) (padded_message (message c.args.a.now c.args.b.now c.args.c.now c.args.d.now k))))
          (whole_block c.args.a.now i _ (omega arith) width) (whole_block c.args.b.now i _ (omega (arith, c.requires.b)) width)
          (whole_block c.args.c.now i _ (omega (arith, c.requires.c)) width) (whole_block c.args.d.now i _ (omega (arith, c.requires.d)) width) j h)
          (c.compress.ensures.each j h),
    )

pub padded-preserved : goal.padded-preserved
padded-preserved c =
    let i : ℕ = c.padded.i in (
      c.compress-in-padded.ensures.vectors,
      λ j h. hashed _ _ _ _ i (c.padded.invariant.1 j h)
          (four_cases (λ k. message c.padded_block-block_a.result c.padded_block-block_b.result c.padded_block-block_c.result c.padded_block-block_d.result k
          ≡ take 64 (drop (i * 64) (padded_message (message c.args.a.now c.args.b.now c.args.c.now c.args.d.now k))))
          c.padded_block-block_a.ensures c.padded_block-block_b.ensures c.padded_block-block_c.ensures c.padded_block-block_d.ensures j h)
          (c.compress-in-padded.ensures.each j h),
    )

pub returns : goal.returns
returns c =
    let i : ℕ = c.padded.i in
    let n : ℕ = length c.args.a.now in
    let count : i ≡ (n + 8) / 64 + 1 = omega arith in
    let hashed_by = c.padded.invariant.1 in
    let of_a = digested c.args.a.now _ _ n i refl count (hashed_by 0 (omega arith)) c.digest_in.ensures in
    let of_b = digested c.args.b.now _ _ n i c.requires.b count (hashed_by 1 (omega arith)) c.digest_in-2.ensures in
    let of_c = digested c.args.c.now _ _ n i c.requires.c count (hashed_by 2 (omega arith)) c.digest_in-3.ensures in
    let of_d = digested c.args.d.now _ _ n i c.requires.d count (hashed_by 3 (omega arith)) c.digest_in-4.ensures in
    λ t. of_a t ∷ of_b t ∷ of_c t ∷ of_d t ∷ []
