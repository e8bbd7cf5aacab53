-- The calls by which slots are added, and what a crash leaves at each moment of them.
use Rattle.std.proofs.Common.{◌≡◌, inl, inr, ℕ, ◌+◌, ◌-◌, ◌*◌, ◌<◌, ◌≤◌, List, [], ◌∷◌, ◌++◌, length, get_or, sym, ◌∙◌, ap, subst, arith}
use Rattle.std.proofs.lemmas.Bool.{cases_lt}
use Rattle.std.proofs.lemmas.List.{append-nil}
use Rattle.disk_model.specs.Crash.{Pending, MayLeave, IsWithin, Elapses, LeavesOnly, settled, with_range, overwritten}
use Rattle.disk_model.proofs.lemmas.Crash.{only_settled, overwritten_behind, overwritten_inside}
use Rattle.slot_disk.specs.Bodies.{bodies, bodies_in, IsClosedAt, AreWithFirst}
use Rattle.slot_disk.specs.Gates.{gated, AreOpen, AreOpenBetween}
use Rattle.slot_disk.proofs.lemmas.Gates.{OnlyGates, only_gates, gate_below, gated_up_to, torn_gates, all_there, long_staged, in_piece}
use Rattle.slot_disk.proofs.lemmas.Moments.{leaves_only_started, leaves_only_goes_on, leaves_only_joined}
use Rattle.slot_disk.proofs.lemmas.Moments.{leaves_only_weaker}
use Rattle.slot_disk.proofs.Torn.{torn_behind}

module _ {D : Type 0} (moment : D → ℕ) (left_since : D → ℕ → List ℕ → Type 0) (pending : D → Pending) (seen : D → List ℕ) where
  module _ (w gate more : ℕ) (old : D) (settles : pending old ≡ settled (seen old)) where
    abbrev S : List ℕ
    S = seen old

    -- what a crash leaves when the first of so many gates is written
    pub first_within : (new : D) → 1 ≤ more → IsWithin (pending new) (with_range gate 1 (pending old)) → IsWithin (pending new) (gated w gate more (settled S))
    first_within new some crash c m =
        let here : gate ≡ gate + 0 * (w + 1) = omega arith in
        gated_up_to w gate 1 more (settled S) some c
        (subst (λ (n : ℕ). MayLeave (with_range n 1 (settled S)) c) here (subst (λ (p : Pending). MayLeave (with_range gate 1 p) c) settles (crash c m)))

    pub first_leaves : (new : D) → 1 ≤ more → ((bytes : List ℕ) → left_since old (moment old) bytes → MayLeave (pending old) bytes) → IsWithin (pending new) (with_range gate 1 (pending old))
        → Elapses moment left_since pending old new → LeavesOnly moment left_since old new (MayLeave (gated w gate more (settled S)))
    first_leaves new some only_now crash time =
        leaves_only_goes_on moment left_since pending old old new (MayLeave (gated w gate more (settled S)))
        (leaves_only_started moment left_since pending old (MayLeave (gated w gate more (settled S)))
        (λ c left. gated_up_to w gate 0 more (settled S) (omega arith) c (subst (λ (p : Pending). MayLeave p c) settles (only_now c left))))
        time (first_within new some crash)

    -- and the others are open, all of them are
    pub all_open : (new : D) → gate + more * (w + 1) < length S → ((k : ℕ) → 1 ≤ k → k < more → get_or S (gate + k * (w + 1)) 0 ≡ 1) → seen new ≡ overwritten S gate (1 ∷ []) → AreOpen w gate more (seen new)
    all_open new there others written k below =
        let begins : gate ≤ length S = omega (arith, there) in
        ap (λ (l : List ℕ). get_or l (gate + k * (w + 1)) 0) written
        ∙ elim (cases_lt 0 k) [
          | inl later ↦ (let less = gate_below w 0 k later in overwritten_behind S gate (1 ∷ []) (gate + k * (w + 1)) begins (omega arith) ∙ others k later below)
          | inr none ↦ (
              let first : k ≡ 0 = omega arith in
              let place : gate + 0 * (w + 1) ≡ gate + 0 = omega arith in
              ap (λ (n : ℕ). get_or (overwritten S gate (1 ∷ [])) (gate + n * (w + 1)) 0) first ∙ ap (λ (n : ℕ). get_or (overwritten S gate (1 ∷ [])) n 0) place
              ∙ overwritten_inside S gate (1 ∷ []) 0 begins (omega arith))
        ]

  -- a body for each slot, with open gates between and the closed gate behind the last; a sync; the first gate; a sync
  module _ (w count gate more : ℕ) (piece : List ℕ) (new : List (List ℕ)) (are : bodies_in w more piece ≡ new) (old : D)
      (only_now : (bytes : List ℕ) → left_since old (moment old) bytes → MayLeave (pending old) bytes)
      (settles : pending old ≡ settled (seen old)) (closed : IsClosedAt w (seen old) count) (some : 1 ≤ more)
      (size : length piece ≡ more * (w + 1)) (zero_last : get_or piece (length piece - 1) 0 ≡ 0) (at : gate ≡ count * (w + 1)) where
    abbrev P : List ℕ → Type 0
    P = AreWithFirst w (bodies w (seen old)) new

    abbrev Leaves : D → Type 0
    Leaves d = LeavesOnly moment left_since old d P

    unchanged : (c : List ℕ) → bodies w c ≡ bodies w (seen old) → P c
    unchanged c same = (0, omega arith, same ∙ sym (append-nil (bodies w (seen old))))

    begun : Leaves old
    begun = leaves_only_started moment left_since pending old P (λ c left. unchanged c (ap (bodies w) (only_settled (seen old) c (subst (λ (p : Pending). MayLeave p c) settles (only_now c left)))))

    behind : (d : D) → IsWithin (pending d) (with_range (gate + 1) (length piece) (pending old)) → (c : List ℕ) → MayLeave (pending d) c → P c
    behind d crash c m =
        let now : MayLeave (with_range (gate + 1) (length piece) (settled (seen old))) c = subst (λ (p : Pending). MayLeave (with_range (gate + 1) (length piece) p) c) settles (crash c m) in
        unchanged c (torn_behind w (seen old) count closed (length piece) c (subst (λ (g : ℕ). MayLeave (with_range (g + 1) (length piece) (settled (seen old))) c) at now))

    pub first : (d : D) → IsWithin (pending d) (with_range (gate + 1) (length piece) (pending old)) → Elapses moment left_since pending old d → Leaves d
    first d crash time = leaves_only_goes_on moment left_since pending old old d P begun time (behind d crash)

    pub second : (d e : D) → IsWithin (pending d) (with_range (gate + 1) (length piece) (pending old)) → Elapses moment left_since pending old d
        → IsWithin (pending e) (pending d) → Elapses moment left_since pending d e → Leaves e
    second d e crash time crash_2 time_2 = leaves_only_goes_on moment left_since pending old d e P (first d crash time) time_2 (λ c m. behind d crash c (crash_2 c m))

    module _ (d e f : D) (written : seen d ≡ overwritten (seen old) (gate + 1) piece) (same : seen e ≡ seen d) where
      staged : seen e ≡ overwritten (seen old) (gate + 1) piece
      staged = same ∙ written

      pub enough : gate + more * (w + 1) < length (seen e)
      enough = long_staged w (seen old) count closed gate at more some piece size zero_last (seen e) staged

      -- the gates between the bodies stand open there
      pub others_open : AreOpenBetween w more piece → (k : ℕ) → 1 ≤ k → k < more → get_or (seen e) (gate + k * (w + 1)) 0 ≡ 1
      others_open between k some_gate below =
          let first = gate_below w 0 k some_gate in
          let last = gate_below w k more below in
          let place : gate + k * (w + 1) ≡ gate + (k * (w + 1) - 1) + 1 = omega arith in
          ap (λ (n : ℕ). get_or (seen e) n 0) place ∙ in_piece w (seen old) count closed gate at more some piece size zero_last (seen e) staged (k * (w + 1) - 1) (omega arith) ∙ between k some_gate below

      only : (c : List ℕ) → MayLeave (gated w gate more (settled (seen e))) c → OnlyGates w gate (seen e) more c
      only c m = only_gates w gate (seen e) more (let long = enough in omega arith) c m

      gates : (c : List ℕ) → MayLeave (gated w gate more (settled (seen e))) c → P c
      gates c m = subst (λ (bs : List (List ℕ)). AreWithFirst w (bodies w (seen old)) bs c) are (torn_gates w (seen old) count closed gate at more some piece size zero_last (seen e) staged c (only c m))

      pub third : Leaves e → LeavesOnly moment left_since e f (MayLeave (gated w gate more (settled (seen e)))) → Leaves f
      third so_far opening = leaves_only_joined moment left_since pending old e f P so_far (leaves_only_weaker moment left_since e f (MayLeave (gated w gate more (settled (seen e)))) P gates opening)

      pub fourth : (h : D) → Leaves e → LeavesOnly moment left_since e f (MayLeave (gated w gate more (settled (seen e)))) → IsWithin (pending f) (gated w gate more (settled (seen e)))
          → IsWithin (pending h) (pending f) → Elapses moment left_since pending f h → Leaves h
      fourth h so_far opening within crash time = leaves_only_goes_on moment left_since pending old f h P (third so_far opening) time (λ c m. gates c (within c (crash c m)))

      -- after all of them the slots are there
      pub all_added : (h : D) → IsWithin (pending f) (gated w gate more (settled (seen e))) → MayLeave (pending f) (seen f) → AreOpen w gate more (seen f) → seen h ≡ seen f
          → (bodies w (seen h) ≡ bodies w (seen old) ++ new) × IsClosedAt w (seen h) (count + more)
      all_added h within stays opened after =
          let there = all_there w (seen old) count closed gate at more some piece size zero_last (seen e) staged (seen f) (only (seen f) (within (seen f) stays)) opened in
          subst (λ (l : List ℕ). (bodies w l ≡ bodies w (seen old) ++ new) × IsClosedAt w l (count + more)) (sym after)
          (there.0 ∙ ap (λ (bs : List (List ℕ)). bodies w (seen old) ++ bs) are, there.1)
