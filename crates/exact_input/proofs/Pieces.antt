-- A room that is filled piece by piece.
use Rattle.std.proofs.Common.{◌≡◌, ℕ, ◌+◌, ◌-◌, ◌≤◌, List, ◌++◌, length, take, drop, ap, sym, ◌∙◌, arith, length-take-le, length-drop, take-add, take-take, take_at, drop_at, take_all}
use Rattle.std.proofs.lemmas.Slice.{take-put_mid}
use borrow.Rule.Slice.PartMut.{put_mid, same_len_mid}

module _ (room piece : List ℕ) (at more : ℕ) (within : at ≤ length room) (same : length piece ≡ length (take (length room - at) (drop at room))) where
  pub same_len : length (put_mid at (length room - at) room piece) ≡ length room
  same_len = same_len_mid at (length room - at) room piece same

  -- the bytes before the piece, and the first of its own
  pub filled_more : more ≤ length piece → take (at + more) (put_mid at (length room - at) room piece) ≡ take at room ++ take more piece
  filled_more few =
      let new = put_mid at (length room - at) room piece in
      let front = length-take-le at room within in
      sym (take-take (at + more) (at + length piece) new (omega (arith, few)))
      ∙ ap (take (at + more)) (take-put_mid at (length room - at) room piece (at + length piece) (omega arith) within)
      ∙ take-add at more (take at room ++ piece)
      ∙ (λ k. take_at (take at room) piece at front k ++ take more (drop_at (take at room) piece at front k))

  pub within_more : more ≤ length piece → at + more ≤ length room
  within_more few =
      let all = length-take-le (length room - at) (drop at room) (omega (arith, length-drop at room)) in
      omega (arith, few, same, all, within)
