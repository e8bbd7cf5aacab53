-- How the gate behind the open slots is closed.
use Rattle.std.proofs.Common.{◌≡◌, ◌≢◌, ◌⊎◌, inl, inr, ⊎_elim, ℕ, ◌+◌, ◌*◌, ◌<◌, ◌≤◌, List, [], ◌∷◌, ◌++◌, length, get_or, take, drop, refl, sym, ◌∙◌, ap, subst, arith, append_assoc, length-append, length-drop, take-append-drop}
use Rattle.std.proofs.lemmas.Bool.{cases_lt}
use Rattle.std.proofs.lemmas.List.{append-nil, take_at, get_or-append-add}
use Rattle.disk_model.specs.Crash.{Pending, MayLeave, Elapses, LeavesOnly, settled, with_range, overwritten, IsWithin}
use Rattle.disk_model.proofs.lemmas.Crash.{only_settled}
use Rattle.slot_disk.specs.Bodies.{bodies, IsClosedAt}
use Rattle.slot_disk.proofs.lemmas.Bodies.{chain, AreLong, length-chain, bodies_chain, bodies_closed, bodies_from_shut, bodies_from_open, Parts, parts_of_bytes}
use Rattle.slot_disk.proofs.Torn.{front_kept, closed_from}
use Rattle.slot_disk.proofs.lemmas.Moments.{leaves_only_started, leaves_only_goes_on}
use Rattle.std.proofs.lemmas.Bool.{le-leb}
use Rattle.std.proofs.Common.{true, leb}

-- too few bytes for a slot and one byte more hold no open slot
short : (w : ℕ) (end : List ℕ) → length end ≤ w + 1 → bodies w end ≡ []
short w [] le = refl
short w (gate ∷ rest) le = bodies_from_shut w gate rest (inr (omega arith))

-- where nothing is open behind a gate that is 1 or missing, there are too few bytes
end_short : (w : ℕ) (end : List ℕ) → bodies w end ≡ [] → (length end ≡ 0) ⊎ (get_or end 0 0 ≡ 1) → length end ≤ w + 1
end_short w [] none gate = omega arith
end_short w (g ∷ rest) none (inl zero_long) = absurd (omega arith)
end_short w (g ∷ rest) none (inr one) = elim (cases_lt w (length rest)) [
  | inl fits ↦ absurd (let h = sym (bodies_from_open w g rest one fits) ∙ none in cc)
  | inr le ↦ omega arith
]

short_behind : (w : ℕ) (bs : List (List ℕ)) (end : List ℕ) → AreLong w bs → length end ≤ w + 1 → (bs ≡ []) ⊎ (0 < length end) → bodies w (chain bs ++ end) ≡ bs
short_behind w bs end long le (inl none) = ap (λ (l : List (List ℕ)). bodies w (chain l ++ end)) none ∙ short w end le ∙ sym none
short_behind w bs end long le (inr some) = bodies_chain w bs end long some ∙ ap (λ (l : List (List ℕ)). bs ++ l) (short w end le) ∙ append-nil bs

module _ (w : ℕ) (B : List ℕ) (count : ℕ) (counts : count ≡ length (bodies w B)) where
  abbrev p : Parts w B
  p = parts_of_bytes w B

  size : length (chain (bodies w B)) ≡ count * (w + 1)
  size = length-chain w (bodies w B) p.long ∙ ap (λ (n : ℕ). n * (w + 1)) (sym counts)

  long_B : length B ≡ count * (w + 1) + length p.end
  long_B = ap length p.split ∙ length-append (chain (bodies w B)) p.end ∙ ap (λ (n : ℕ). n + length p.end) size

  pub slots_within : count * (w + 1) ≤ length B
  slots_within = omega (arith, long_B)

  -- the byte behind the slots fits where any byte does
  pub gate_within : (most : ℕ) → length B ≤ most → 1 ≤ most → count * (w + 1) + 1 ≤ most
  gate_within most fits some = elim p.behind [
    | inl none ↦ let zero_count : count ≡ 0 = counts ∙ ap length none in let zero_at : count * (w + 1) ≡ 0 * (w + 1) = ap (λ (n : ℕ). n * (w + 1)) zero_count in omega (arith, zero_at)
    | inr more ↦ omega (arith, long_B)
  ]

  first_behind : get_or B (count * (w + 1)) 0 ≡ get_or p.end 0 0
  first_behind =
      ap (λ (l : List ℕ). get_or l (count * (w + 1)) 0) p.split
      ∙ ap (λ (n : ℕ). get_or (chain (bodies w B) ++ p.end) n 0) (sym size ∙ (omega arith))
      ∙ get_or-append-add (chain (bodies w B)) p.end 0 0

  pub is_closed : count * (w + 1) < length B → get_or B (count * (w + 1)) 0 ≢ 1 → IsClosedAt w B count
  is_closed there other = record { counted = counts; there = there; closed = other }

  -- the gate is missing, or it is 1
  module _ (isn_t : (length B ≤ count * (w + 1)) ⊎ (get_or B (count * (w + 1)) 0 ≡ 1)) where
    few : length p.end ≤ w + 1
    few = end_short w p.end p.nothing (⊎_elim (λ le. inl (omega (arith, long_B))) (λ one. inr (sym first_behind ∙ one)) isn_t)

    pub torn_end : (c : List ℕ) → MayLeave (with_range (count * (w + 1)) 1 (settled B)) c → bodies w c ≡ bodies w B
    torn_end c m =
        let before : take (count * (w + 1)) c ≡ chain (bodies w B) =
        front_kept B c (count * (w + 1)) 1 slots_within m ∙ ap (take (count * (w + 1))) p.split ∙ take_at (chain (bodies w B)) p.end (count * (w + 1)) size in
        let whole : c ≡ chain (bodies w B) ++ drop (count * (w + 1)) c = sym (take-append-drop (count * (w + 1)) c) ∙ ap (λ (l : List ℕ). l ++ drop (count * (w + 1)) c) before in
        let long_end = length-drop (count * (w + 1)) c in
        let le : length (drop (count * (w + 1)) c) ≤ w + 1 = omega (arith, long_end, m.no_longer, long_B, few) in
        ap (bodies w) whole ∙ short_behind w (bodies w B) (drop (count * (w + 1)) c) p.long le (⊎_elim (λ none. inl none) (λ more. inr (omega (arith, long_end, long_B, m.no_shorter))) p.behind)

    pub written_end : (c : List ℕ) → c ≡ overwritten B (count * (w + 1)) (0 ∷ []) → (bodies w c ≡ bodies w B) × IsClosedAt w c count
    written_end c made =
        let rest = drop (count * (w + 1) + 1) B in
        let whole : c ≡ chain (bodies w B) ++ 0 ∷ rest =
        made ∙ ap (λ (l : List ℕ). l ++ (0 ∷ []) ++ rest) (ap (take (count * (w + 1))) p.split ∙ take_at (chain (bodies w B)) p.end (count * (w + 1)) size) ∙ append_assoc (chain (bodies w B)) (0 ∷ []) rest in (
          ap (bodies w) whole ∙ bodies_closed w (bodies w B) 0 rest p.long (omega arith),
          subst (λ (l : List ℕ). IsClosedAt w l count) (sym whole) (closed_from w (bodies w B) 0 rest count p.long (omega arith) counts),
        )

-- the two calls that close the gate, and what a crash leaves at each moment of them
module _ {D : Type 0} (moment : D → ℕ) (left_since : D → ℕ → List ℕ → Type 0) (pending : D → Pending) (seen : D → List ℕ)
    (w count gate : ℕ) (old : D)
    (only_now : (bytes : List ℕ) → left_since old (moment old) bytes → MayLeave (pending old) bytes)
    (settles : pending old ≡ settled (seen old)) where
  abbrev P : List ℕ → Type 0
  P c = bodies w c ≡ bodies w (seen old)

  pub nothing_done : LeavesOnly moment left_since old old P
  nothing_done = leaves_only_started moment left_since pending old P (λ c left. ap (bodies w) (only_settled (seen old) c (subst (λ (p : Pending). MayLeave p c) settles (only_now c left))))

  module _ (counts : count ≡ length (bodies w (seen old))) (at : gate ≡ count * (w + 1)) (isn_t : (length (seen old) ≤ gate) ⊎ (get_or (seen old) gate 0 ≡ 1)) where
    missing : (length (seen old) ≤ count * (w + 1)) ⊎ (get_or (seen old) (count * (w + 1)) 0 ≡ 1)
    missing = subst (λ (g : ℕ). (length (seen old) ≤ g) ⊎ (get_or (seen old) g 0 ≡ 1)) at isn_t

    closing : (d : D) → IsWithin (pending d) (with_range gate 1 (pending old)) → (c : List ℕ) → MayLeave (pending d) c → P c
    closing d crash c m =
        let now : MayLeave (with_range gate 1 (settled (seen old))) c = subst (λ (p : Pending). MayLeave (with_range gate 1 p) c) settles (crash c m) in
        torn_end w (seen old) count counts missing c (subst (λ (g : ℕ). MayLeave (with_range g 1 (settled (seen old))) c) at now)

    pub one_call : (d : D) → IsWithin (pending d) (with_range gate 1 (pending old)) → Elapses moment left_since pending old d → LeavesOnly moment left_since old d P
    one_call d crash time = leaves_only_goes_on moment left_since pending old old d P nothing_done time (closing d crash)

    pub two_calls : (d e : D) → IsWithin (pending d) (with_range gate 1 (pending old)) → Elapses moment left_since pending old d
        → IsWithin (pending e) (pending d) → Elapses moment left_since pending d e → LeavesOnly moment left_since old e P
    two_calls d e crash time crash_2 time_2 = leaves_only_goes_on moment left_since pending old d e P (one_call d crash time) time_2 (λ c m. closing d crash c (crash_2 c m))

    pub gate_closed : (d e : D) → seen d ≡ overwritten (seen old) gate (0 ∷ []) → seen e ≡ seen d → (bodies w (seen e) ≡ bodies w (seen old)) × IsClosedAt w (seen e) count
    gate_closed d e written same = written_end w (seen old) count counts missing (seen e) (same ∙ written ∙ ap (λ (g : ℕ). overwritten (seen old) g (0 ∷ [])) at)

-- a room for the bytes, a slot and one byte has place for the next slot
pub fits_room : (w : ℕ) (B : List ℕ) (room : ℕ) → length B + (w + 1 + 1) ≤ room → leb ((length (bodies w B) + 1) * (w + 1) + 1) room ≡ true
fits_room w B room le =
    let front = slots_within w B (length (bodies w B)) refl in
    let more : (length (bodies w B) + 1) * (w + 1) ≡ length (bodies w B) * (w + 1) + (w + 1) = omega arith in
    let enough : (length (bodies w B) + 1) * (w + 1) + 1 ≤ room = omega (arith, front, more, le) in
    le-leb _ _ enough
