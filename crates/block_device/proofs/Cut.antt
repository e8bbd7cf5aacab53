-- The steps of a put in a block, by the piece that the block has of its bytes.
use Rattle.std.proofs.Common.{◌≡◌, ℕ, ◌+◌, ◌-◌, ◌*◌, ◌<◌, ◌⊎◌, List, [], ◌∷◌, inl, inr, length, slice_range, arith}
use Rattle.std.proofs.lemmas.Bool.{cases_lt}
use Rattle.quorum_rules.specs.Limits.{Numbers}
use Rattle.block_device.specs.Ranges.{bytes_in, Reaches}
use Rattle.block_device.specs.Pieces.{piece_in}
use Rattle.block_device.specs.Steps.{put_steps}
use Rattle.block_device.specs.declared.steps.BlockStep.TheVariants.{Read, Whole, Merge}
use Rattle.block_device.proofs.lemmas.Merges.{put_whole, put_partly, bytes_in-cut}

module _ (c : Numbers) (start : ℕ) (bytes : List ℕ) (k : ℕ) (r : Reaches c start (length bytes) k) where
  more : (k + 1) * c.size ≡ k * c.size + c.size
  more = omega arith

  -- the bytes of the piece
  pub piece_bytes : slice_range bytes (piece_in c.size start (length bytes) k).from (piece_in c.size start (length bytes) k).to ≡ bytes_in c.size start bytes k
  piece_bytes =
      let below = r.below in
      let above = r.above in
      bytes_in-cut c.size start bytes k (k * c.size - start) _ (omega arith) (omega arith)

  -- it is the whole block
  pub put_by_whole : (piece_in c.size start (length bytes) k).at ≡ 0 → (piece_in c.size start (length bytes) k).end ≡ c.size
      → put_steps c.size start bytes k ≡ Whole k (bytes_in c.size start bytes k) ∷ []
  put_by_whole at end =
      let below = r.below in
      let e = more in
      put_whole c.size start bytes k (omega arith) (omega arith)

  -- it is a part
  pub put_by_part : (((piece_in c.size start (length bytes) k).at ≡ 0) × ((piece_in c.size start (length bytes) k).end ≡ c.size) → ⊥)
      → put_steps c.size start bytes k ≡ Read k ∷ Merge k (start - k * c.size) (bytes_in c.size start bytes k) ∷ []
  put_by_part apart =
      let e = more in
      let part : (k * c.size < start) ⊎ (start + length bytes < (k + 1) * c.size) =
      elim (cases_lt (k * c.size) start) [
        | inl low ↦ inl low
        | inr low ↦ elim (cases_lt (start + length bytes) ((k + 1) * c.size)) [
          | inl high ↦ inr high
          | inr high ↦ absurd (apart (omega arith, omega arith))
        ]
      ] in
      put_partly c.size start bytes k part
