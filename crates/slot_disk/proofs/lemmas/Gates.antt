-- What a crash leaves as so many slots are added behind a closed gate.
use Rattle.std.proofs.Common.{◌≡◌, ◌≢◌, inl, inr, ℕ, zero, suc, ◌+◌, ◌-◌, ◌*◌, ◌<◌, ◌≤◌, List, ◌∷◌, ◌++◌, length, get_or, take, drop, refl, sym, ◌∙◌, ap, subst, arith, length-append, length-take, length-drop, take-append-drop}
use Rattle.std.proofs.lemmas.Bool.{cases_lt}
use Rattle.std.proofs.lemmas.List.{ext_get_or, take_at, take_all, get_or-take, get_or-drop}
use Rattle.disk_model.specs.Crash.{Pending, IsOutside, MayLeave, IsWithin, settled, overwritten}
use Rattle.disk_model.proofs.lemmas.Crash.{outside_push, within_with_range, overwritten_before, overwritten_inside, length_overwritten}
use Rattle.slot_disk.specs.Bodies.{bodies, bodies_in, IsClosedAt, AreWithFirst}
use Rattle.slot_disk.specs.Gates.{gated, AreOpen}
use Rattle.slot_disk.proofs.lemmas.Bodies.{chain, bodies_chain, ClosedParts, closed_parts}
use Rattle.slot_disk.proofs.Rows.{IsRow, first_few, length-bodies_in}

pub mul_le : (w i j : ℕ) → i ≤ j → i * (w + 1) ≤ j * (w + 1)
mul_le w i j le = let split : j * (w + 1) ≡ i * (w + 1) + (j - i) * (w + 1) = split_at (j - i) (omega arith) in omega arith
  where
    split_at : (d : ℕ) → j ≡ i + d → j * (w + 1) ≡ i * (w + 1) + d * (w + 1)
    split_at d e = ap (λ (n : ℕ). n * (w + 1)) e ∙ (omega arith)

-- gate i lies below gate j, and all of its body too
pub gate_below : (w i j : ℕ) → i < j → i * (w + 1) + (w + 1) ≤ j * (w + 1)
gate_below w i j lt = let le = mul_le w (suc i) j (omega arith) in let more : suc i * (w + 1) ≡ i * (w + 1) + (w + 1) = omega arith in omega arith

-- a byte of a body is no gate
no_gate : (w i r k : ℕ) → r < w → i * (w + 1) + r + 1 ≢ k * (w + 1)
no_gate w i r k lt same = elim (cases_lt i k) [
  | inl below ↦ (let le = gate_below w i k below in omega arith)
  | inr above ↦ (let le = mul_le w k i above in omega arith)
]

module _ (w gate : ℕ) where
  pub gated_synced : (k : ℕ) (p : Pending) → (gated w gate k p).synced ≡ p.synced
  gated_synced zero p = refl
  gated_synced (suc k) p = gated_synced k p

  -- more gates take nothing away
  pub gated_wider : (k : ℕ) (p : Pending) → IsWithin (gated w gate k p) (gated w gate (suc k) p)
  gated_wider k p = within_with_range (gated w gate k p) (gate + k * (w + 1)) 1

  pub gated_more : (d k : ℕ) (p : Pending) → IsWithin (gated w gate k p) (gated w gate (k + d) p)
  gated_more zero k p = λ c m. let same : k ≡ k + 0 = omega arith in subst (λ (n : ℕ). MayLeave (gated w gate n p) c) same m
  gated_more (suc d) k p = λ c m. let same : suc (k + d) ≡ k + suc d = omega arith in subst (λ (n : ℕ). MayLeave (gated w gate n p) c) same (gated_wider (k + d) p c (gated_more d k p c m))

  pub gated_up_to : (k more : ℕ) (p : Pending) → k ≤ more → IsWithin (gated w gate k p) (gated w gate more p)
  gated_up_to k more p le = λ c m. let same : k + (more - k) ≡ more = omega arith in subst (λ (n : ℕ). MayLeave (gated w gate n p) c) same (gated_more (more - k) k p c m)

  pub gated_longest : (S : List ℕ) (k : ℕ) → gate + k * (w + 1) ≤ length S → (gated w gate k (settled S)).longest ≡ length S
  gated_longest S zero le = refl
  gated_longest S (suc k) le =
      let more : suc k * (w + 1) ≡ k * (w + 1) + (w + 1) = omega arith in
      let so_far = gated_longest S k (omega arith) in
      omega arith

  gated_outside : (S : List ℕ) (k j : ℕ) → ((i : ℕ) → i < k → j ≢ gate + i * (w + 1)) → IsOutside (gated w gate k (settled S)).written j
  gated_outside S zero j none = tt
  gated_outside S (suc k) j none =
      outside_push (gated w gate k (settled S)).written _ j (gated_outside S k j (λ i below. none i (omega arith)))
      (elim (cases_lt j (gate + k * (w + 1))) [ inl lt ↦ inl lt | inr le ↦ (let other = none k (omega arith) in inr (omega arith)) ])

  -- of the bytes that were synced only the gates may have changed
  pub record OnlyGates (S : List ℕ) (k : ℕ) (c : List ℕ) : Type 0 where
    pub long : length c ≡ length S
    pub same : (j : ℕ) → j < length S → ((i : ℕ) → i < k → j ≢ gate + i * (w + 1)) → get_or c j 0 ≡ get_or S j 0

  pub only_gates : (S : List ℕ) (k : ℕ) → gate + k * (w + 1) ≤ length S → (c : List ℕ) → MayLeave (gated w gate k (settled S)) c → OnlyGates S k c
  only_gates S k le c m =
      let synced = gated_synced k (settled S) in
      let no_shorter = m.no_shorter in
      let no_longer = m.no_longer in
      let size = ap length synced in
      record {
        long = omega (arith, gated_longest S k le);
        same = λ j below none. m.others j (omega arith) (gated_outside S k j none) ∙ ap (λ (l : List ℕ). get_or l j 0) synced;
      }

-- so many bodies were written behind the closed gate, each with a byte behind it of which the last is 0
module _ (w : ℕ) (B : List ℕ) (count : ℕ) (is : IsClosedAt w B count) (gate : ℕ) (at : gate ≡ count * (w + 1)) (more : ℕ) (some : 1 ≤ more)
    (piece : List ℕ) (size : length piece ≡ more * (w + 1)) (zero_last : get_or piece (length piece - 1) 0 ≡ 0) (S : List ℕ) (written : S ≡ overwritten B (gate + 1) piece) where
  abbrev p : ClosedParts w B count
  p = closed_parts w B count is

  begins : gate + 1 ≤ length B
  begins = let there = is.there in omega arith

  pub long_staged : gate + more * (w + 1) < length S
  long_staged = let e = length_overwritten B (gate + 1) piece begins in omega (arith, ap length written)

  -- the byte of the piece
  pub in_piece : (q : ℕ) → q < length piece → get_or S (gate + q + 1) 0 ≡ get_or piece q 0
  in_piece q below =
      let place : gate + q + 1 ≡ gate + 1 + q = omega arith in
      ap (λ (l : List ℕ). get_or l (gate + q + 1) 0) written ∙ ap (λ (n : ℕ). get_or (overwritten B (gate + 1) piece) n 0) place ∙ overwritten_inside B (gate + 1) piece q begins below

  front : (c : List ℕ) → OnlyGates w gate S (more) c → take gate c ≡ chain (bodies w B)
  front c only =
      let long = only.long in
      let staged = long_staged in
      let there = begins in
      ext_get_or 0 (take gate c) (take gate B) (omega (arith, length-take gate c, length-take gate B)) (λ j below.
      let lt : j < gate = omega (arith, length-take gate c) in
      get_or-take gate c j 0 lt ∙ only.same j (omega arith) (λ i _. omega arith) ∙ ap (λ (l : List ℕ). get_or l j 0) written ∙ overwritten_before B (gate + 1) piece j begins (omega arith) ∙ sym (get_or-take gate B j 0 lt))
      ∙ ap (take gate) p.split ∙ take_at (chain (bodies w B)) (p.gate ∷ p.rest) gate (p.size ∙ sym at)

  last_byte : (c : List ℕ) → OnlyGates w gate S (more) c → get_or c (gate + more * (w + 1)) 0 ≡ 0
  last_byte c only =
      let enough = gate_below w 0 more some in
      let place : gate + more * (w + 1) ≡ gate + (length piece - 1) + 1 = omega arith in
      only.same (gate + more * (w + 1)) long_staged (λ i below. let le = gate_below w i (more) below in omega arith)
      ∙ ap (λ (n : ℕ). get_or S n 0) place ∙ in_piece (length piece - 1) (omega arith) ∙ zero_last

  in_row : (c : List ℕ) → OnlyGates w gate S (more) c → (i r : ℕ) → i < more → r < w → get_or (drop gate c) (i * (w + 1) + r + 1) 0 ≡ get_or piece (i * (w + 1) + r) 0
  in_row c only i r below lt =
      let le = gate_below w i (more) below in
      let place : gate + (i * (w + 1) + r + 1) ≡ gate + (i * (w + 1) + r) + 1 = omega arith in
      get_or-drop gate c (i * (w + 1) + r + 1) 0
      ∙ only.same (gate + (i * (w + 1) + r + 1)) (let long = long_staged in omega arith) (λ k _. λ same. no_gate w i r k lt (omega arith))
      ∙ ap (λ (n : ℕ). get_or S n 0) place
      ∙ in_piece (i * (w + 1) + r) (omega arith)

  row : (c : List ℕ) → OnlyGates w gate S (more) c → IsRow w (more) piece (drop gate c)
  row c only = record {
    size = size;
    long = let long = only.long in let staged = long_staged in omega (arith, length-drop gate c);
    same = in_row c only;
    last = λ one. let e = sym (get_or-drop gate c (more * (w + 1)) 0 ∙ last_byte c only) ∙ one in omega arith;
  }

  behind_chain : (c : List ℕ) → OnlyGates w gate S (more) c → bodies w c ≡ bodies w B ++ bodies w (drop gate c)
  behind_chain c only =
      let r = row c only in
      let long = r.long in
      ap (bodies w) (sym (take-append-drop gate c) ∙ ap (λ (l : List ℕ). l ++ drop gate c) (front c only)) ∙ bodies_chain w (bodies w B) (drop gate c) p.long (omega arith)

  -- as the gates are opened, the slots are the first few of the new ones behind the old
  pub torn_gates : (c : List ℕ) → OnlyGates w gate S (more) c → AreWithFirst w (bodies w B) (bodies_in w (more) piece) c
  torn_gates c only =
      let f = first_few w (more) piece (drop gate c) (row c only) in
      (f.k, (let le = f.le in omega (arith, length-bodies_in w (more) piece)), behind_chain c only ∙ ap (λ (l : List (List ℕ)). bodies w B ++ l) f.are)

  -- with all of them open, all the slots are there, and a closed gate behind them
  pub all_there : (c : List ℕ) → OnlyGates w gate S (more) c → AreOpen w gate (more) c → (bodies w c ≡ bodies w B ++ bodies_in w (more) piece) × IsClosedAt w c (count + more)
  all_there c only opened =
      let f = first_few w (more) piece (drop gate c) (row c only) in
      let le = f.le in
      let all : f.k ≡ more = elim f.stops [
        | inl same ↦ same
        | inr shut ↦ elim (cases_lt f.k (more)) [
          | inl below ↦ absurd (shut (get_or-drop gate c (f.k * (w + 1)) 0 ∙ opened f.k below))
          | inr above ↦ omega arith
        ]
      ] in
      let counts = length-bodies_in w (more) piece in
      let are : bodies w c ≡ bodies w B ++ bodies_in w (more) piece =
      behind_chain c only ∙ ap (λ (l : List (List ℕ)). bodies w B ++ l) (f.are ∙ ap (λ (n : ℕ). take n (bodies_in w (more) piece)) all ∙ take_all (more) (bodies_in w (more) piece) (omega arith)) in
      let counted = is.counted in
      let sum : (count + more) * (w + 1) ≡ gate + more * (w + 1) = omega arith in (
        are,
        record {
          counted = omega (arith, ap length are, length-append (bodies w B) (bodies_in w (more) piece));
          there = let long = only.long in let staged = long_staged in omega arith;
          closed = λ one. let e = sym (ap (λ (n : ℕ). get_or c n 0) sum ∙ last_byte c only) ∙ one in omega arith;
        },
      )
