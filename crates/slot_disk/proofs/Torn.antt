-- What a crash leaves of slots when bytes behind them are written.
use Rattle.std.proofs.Common.{◌≡◌, ◌≢◌, inl, ℕ, ◌+◌, ◌*◌, ◌<◌, ◌≤◌, List, [], ◌∷◌, ◌++◌, length, take, drop, sym, ◌∙◌, ap, arith, append_assoc, length-append, take-append-drop, length-take}
use Rattle.std.proofs.lemmas.List.{ext_get_or, take_at, get_or-take, get_or_at}
use Rattle.disk_model.specs.Crash.{MayLeave, settled, with_range}
use Rattle.slot_disk.specs.Bodies.{bodies, IsClosedAt}
use Rattle.slot_disk.proofs.lemmas.Bodies.{chain, AreLong, length-chain, bodies_closed, ClosedParts, closed_parts}

-- what stands before the range that was written is kept
pub front_kept : (B c : List ℕ) (at n : ℕ) → at ≤ length B → MayLeave (with_range at n (settled B)) c → take at c ≡ take at B
front_kept B c at n le m =
    ext_get_or 0 (take at c) (take at B) (omega (arith, length-take at c, length-take at B, m.no_shorter)) (λ i below.
    let lt : i < at = omega (arith, length-take at c, below) in
    get_or-take at c i 0 lt ∙ m.others i (omega (arith, lt, le)) (inl lt, tt) ∙ sym (get_or-take at B i 0 lt))

-- a closed gate stands behind these slots
pub closed_from : (w : ℕ) (bs : List (List ℕ)) (gate : ℕ) (rest : List ℕ) (count : ℕ) → AreLong w bs → gate ≢ 1 → count ≡ length bs → IsClosedAt w (chain bs ++ gate ∷ rest) count
closed_from w bs gate rest count long other counts =
    let size : length (chain bs) ≡ count * (w + 1) = length-chain w bs long ∙ ap (λ (n : ℕ). n * (w + 1)) (sym counts) in
    record {
      counted = counts ∙ ap length (sym (bodies_closed w bs gate rest long other));
      there = omega (arith, size, length-append (chain bs) (gate ∷ rest));
      closed = λ one. other (sym (get_or_at (chain bs) gate rest 0 (count * (w + 1)) size) ∙ one);
    }

module _ (w : ℕ) (B : List ℕ) (count : ℕ) (is : IsClosedAt w B count) where
  abbrev p : ClosedParts w B count
  p = closed_parts w B count is

  abbrev bs : List (List ℕ)
  bs = bodies w B

  front : take (count * (w + 1) + 1) B ≡ chain bs ++ p.gate ∷ []
  front =
      let size = p.size in
      ap (take (count * (w + 1) + 1)) (p.split ∙ sym (append_assoc (chain bs) (p.gate ∷ []) p.rest))
      ∙ take_at (chain bs ++ p.gate ∷ []) p.rest (count * (w + 1) + 1) (omega (arith, size, length-append (chain bs) (p.gate ∷ [])))

  -- behind the closed gate, a write changes no slot
  pub torn_behind : (n : ℕ) (c : List ℕ) → MayLeave (with_range (count * (w + 1) + 1) n (settled B)) c → bodies w c ≡ bs
  torn_behind n c m =
      let there = is.there in
      let whole : c ≡ chain bs ++ p.gate ∷ drop (count * (w + 1) + 1) c =
      sym (take-append-drop (count * (w + 1) + 1) c)
      ∙ ap (λ (l : List ℕ). l ++ drop (count * (w + 1) + 1) c) (front_kept B c (count * (w + 1) + 1) n (omega arith) m ∙ front)
      ∙ append_assoc (chain bs) (p.gate ∷ []) (drop (count * (w + 1) + 1) c) in
      ap (bodies w) whole ∙ bodies_closed w bs p.gate (drop (count * (w + 1) + 1) c) p.long p.other
