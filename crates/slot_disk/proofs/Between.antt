-- The gates between the bodies of a piece, which are no bytes of a body.
use Rattle.std.proofs.Common.{◌≡◌, ℕ, zero, suc, ◌+◌, ◌*◌, List, ◌∷◌, take, drop, set, refl, ◌∙◌, ap, arith}
use Rattle.std.proofs.lemmas.List.{take-set-le, drop-set-lt, drop-set-add}
use Rattle.slot_disk.specs.Bodies.{bodies_in}

-- with another byte behind body k, counted from 0, they are the same bodies
pub same_bodies : (w more : ℕ) (piece : List ℕ) (k byte : ℕ) → bodies_in w more (set piece (k * (w + 1) + w) byte) ≡ bodies_in w more piece
same_bodies w zero piece k byte = refl
same_bodies w (suc more) piece zero byte =
    ap (λ (b : List ℕ). b ∷ bodies_in w more (drop (w + 1) (set piece (0 * (w + 1) + w) byte))) (take-set-le w piece (0 * (w + 1) + w) byte (omega arith))
    ∙ ap (λ (l : List ℕ). take w piece ∷ bodies_in w more l) (drop-set-lt (w + 1) piece (0 * (w + 1) + w) byte (omega arith))
same_bodies w (suc more) piece (suc k) byte =
    let place : suc k * (w + 1) + w ≡ (w + 1) + (k * (w + 1) + w) = omega arith in
    ap (λ (n : ℕ). bodies_in w (suc more) (set piece n byte)) place
    ∙ ap (λ (b : List ℕ). b ∷ bodies_in w more (drop (w + 1) (set piece ((w + 1) + (k * (w + 1) + w)) byte))) (take-set-le w piece ((w + 1) + (k * (w + 1) + w)) byte (omega arith))
    ∙ ap (λ (l : List ℕ). take w piece ∷ bodies_in w more l) (drop-set-add (w + 1) piece (k * (w + 1) + w) byte)
    ∙ ap (λ (bs : List (List ℕ)). take w piece ∷ bs) (same_bodies w more (drop (w + 1) piece) k byte)
