-- The laws of a file whose calls are recorded.
use Rattle.std.proofs.Common.{inl, inr, ℕ, zero, suc, ◌≤◌, Bool, true, false, ◌&&◌, List, [], ◌∷◌, length, take, refl, arith, length-take}
use Rattle.sqlite_disk.specs.Disk.{Torn}
use Rattle.sqlite_disk.specs.Events.{Event, Model, after_call, replay, overlaid}
use Rattle.sqlite_disk.proofs.EventLemmas.{Torn-overlaid, Torn-within}
use Rattle.system_file.specs.Outcomes.{LeftBySync, LeftAfter, Leaves, LeftSince}

-- bytes differ nowhere from themselves
pub torn_itself : (at n : ℕ) (b : List ℕ) → Torn at n b b
torn_itself at n b = record { no_shorter = omega arith; no_longer = omega arith; below = λ i lt low. refl; above = λ i lt high. refl }

-- a part of a piece is written within the range of the piece
pub torn_part : (at n : ℕ) (file piece : List ℕ) → Torn at (length piece) file (overlaid file at (take n piece))
torn_part at n file piece =
    let short : length (take n piece) ≤ length piece = omega (arith, length-take n piece) in
    Torn-within at (length piece) at (length (take n piece)) file file _ (omega arith) (omega (arith, short)) (torn_itself at (length piece) file) (Torn-overlaid file at (take n piece))

sync_stays : (safe : Bool) (seen : List ℕ) (P : List ℕ → Type 0) → P seen → LeftBySync safe seen P seen
sync_stays true seen P p = refl
sync_stays false seen P p = p

stays_after : (kind at n : ℕ) (ok : Bool) (bytes : List ℕ) (m : Model) (P : List ℕ → Type 0) → P m.seen
    → LeftAfter kind at ok bytes m (after_call kind at n ok bytes m) P (after_call kind at n ok bytes m).seen
stays_after zero at n ok bytes m P p = p
stays_after (suc zero) at n ok bytes m P p = p
stays_after (suc (suc zero)) at n ok bytes m P p = p
stays_after (suc (suc (suc zero))) at n true bytes m P p = (m.seen, p, torn_part at n m.seen bytes)
stays_after (suc (suc (suc zero))) at n false bytes m P p = (m.seen, p, torn_itself at (length bytes) m.seen)
stays_after (suc (suc (suc (suc zero)))) at n ok bytes m P p = inl refl
stays_after (suc (suc (suc (suc (suc zero))))) at n ok bytes m P p = sync_stays (m.is_usable && ok) m.seen P p
stays_after (suc (suc (suc (suc (suc (suc more)))))) at n ok bytes m P p = p

-- what was written may stay
pub seen_stays : (start : List ℕ) (h : List Event) → Leaves start h (replay start h).seen
seen_stays start [] = refl
seen_stays start (e ∷ h) = stays_after e.0 e.1 e.2 e.3 e.4 (replay start h) (Leaves start h) (seen_stays start h)

-- the moments of a file
pub counts : (start : List ℕ) (h : List Event) (t : ℕ) (c : List ℕ) → t ≤ length h → Leaves start h c → LeftSince start h t c
counts start [] t c le may = (le, may)
counts start (e ∷ h) t c le may = inl (le, may)

no_later : (start : List ℕ) (h : List Event) (t : ℕ) (c : List ℕ) → LeftSince start h t c → t ≤ length h
no_later start [] t c left = left.0
no_later start (e ∷ h) t c (inl now) = now.0
no_later start (e ∷ h) t c (inr before) = omega (arith, no_later start h t c before)

pub nothing_more : (start : List ℕ) (h : List Event) (c : List ℕ) → LeftSince start h (length h) c → Leaves start h c
nothing_more start [] c left = left.1
nothing_more start (e ∷ h) c (inl now) = now.1
nothing_more start (e ∷ h) c (inr before) = absurd (omega (arith, no_later start h (length (e ∷ h)) c before))
