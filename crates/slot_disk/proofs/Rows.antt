-- Bodies that stand one behind the other, each behind any gate: those before the first gate that isn't open are slots.
use Rattle.std.proofs.Common.{◌≡◌, ◌≢◌, ◌⊎◌, inl, inr, ℕ, zero, suc, ◌+◌, ◌*◌, ◌<◌, ◌≤◌, List, [], ◌∷◌, length, get_or, take, drop, refl, sym, ◌∙◌, ap, arith, length-take, length-drop}
use Rattle.std.proofs.lemmas.Bool.{cases_eq}
use Rattle.std.proofs.lemmas.List.{ext_get_or, get_or-take, get_or-drop}
use Rattle.slot_disk.specs.Bodies.{bodies, bodies_in}
use Rattle.slot_disk.proofs.lemmas.Bodies.{open_first, bodies_from_shut}

-- so many bodies of a piece stand in the bytes, and the gate behind the last of them isn't open
pub record IsRow (w more : ℕ) (piece bytes : List ℕ) : Type 0 where
  pub size : length piece ≡ more * (w + 1)
  pub long : more * (w + 1) < length bytes
  pub same : (i r : ℕ) → i < more → r < w → get_or bytes (i * (w + 1) + r + 1) 0 ≡ get_or piece (i * (w + 1) + r) 0
  pub last : get_or bytes (more * (w + 1)) 0 ≢ 1

-- the slots are the first few of the bodies, and where those aren't all, the next gate isn't open
pub record AreFirst (w more : ℕ) (piece bytes : List ℕ) : Type 0 where
  pub k : ℕ
  pub le : k ≤ more
  pub are : bodies w bytes ≡ take k (bodies_in w more piece)
  pub stops : (k ≡ more) ⊎ (get_or bytes (k * (w + 1)) 0 ≢ 1)

module _ (w : ℕ) where
  at_zero : (gate : ℕ) (rest : List ℕ) → get_or (gate ∷ rest) (0 * (w + 1)) 0 ≡ gate
  at_zero gate rest = let begins : 0 * (w + 1) ≡ 0 = omega arith in ap (λ (n : ℕ). get_or (gate ∷ rest) n 0) begins

  -- behind the first gate, which is open
  module _ (m : ℕ) (piece : List ℕ) (gate : ℕ) (rest : List ℕ) (row : IsRow w (suc m) piece (gate ∷ rest)) where
    more : suc m * (w + 1) ≡ m * (w + 1) + (w + 1)
    more = omega arith

    fits : w < length rest
    fits = let long = row.long in let e = more in omega arith

    first_byte : (r : ℕ) → r < w → get_or rest r 0 ≡ get_or piece r 0
    first_byte r lt =
        let here : 0 * (w + 1) + r + 1 ≡ suc r = omega arith in
        let there : 0 * (w + 1) + r ≡ r = omega arith in
        ap (λ (n : ℕ). get_or (gate ∷ rest) n 0) (sym here) ∙ row.same 0 r (omega arith) lt ∙ ap (λ (n : ℕ). get_or piece n 0) there

    first_body : take w rest ≡ take w piece
    first_body =
        let size = row.size in
        let e = more in
        ext_get_or 0 (take w rest) (take w piece) (omega (arith, length-take w rest, length-take w piece, fits)) (λ r below.
        let lt : r < w = omega (arith, length-take w rest, below) in
        get_or-take w rest r 0 lt ∙ first_byte r lt ∙ sym (get_or-take w piece r 0 lt))

    further : (i r : ℕ) → i < m → r < w → get_or (drop w rest) (i * (w + 1) + r + 1) 0 ≡ get_or (drop (w + 1) piece) (i * (w + 1) + r) 0
    further i r below lt =
        let here : suc (w + (i * (w + 1) + r + 1)) ≡ suc i * (w + 1) + r + 1 = omega arith in
        let there : suc i * (w + 1) + r ≡ w + 1 + (i * (w + 1) + r) = omega arith in
        get_or-drop w rest (i * (w + 1) + r + 1) 0
        ∙ ap (λ (n : ℕ). get_or (gate ∷ rest) n 0) here
        ∙ row.same (suc i) r (omega arith) lt
        ∙ ap (λ (n : ℕ). get_or piece n 0) there
        ∙ sym (get_or-drop (w + 1) piece (i * (w + 1) + r) 0)

    far : (k : ℕ) → get_or (drop w rest) (k * (w + 1)) 0 ≡ get_or (gate ∷ rest) (suc k * (w + 1)) 0
    far k =
        let place : suc (w + k * (w + 1)) ≡ suc k * (w + 1) = omega arith in
        get_or-drop w rest (k * (w + 1)) 0 ∙ ap (λ (n : ℕ). get_or (gate ∷ rest) n 0) place

    rest_row : IsRow w m (drop (w + 1) piece) (drop w rest)
    rest_row = record {
      size = let size = row.size in let e = more in omega (arith, length-drop (w + 1) piece);
      long = let long = row.long in let e = more in omega (arith, length-drop w rest);
      same = further;
      last = λ one. row.last (sym (far m) ∙ one);
    }

    one_more : gate ≡ 1 → AreFirst w m (drop (w + 1) piece) (drop w rest) → AreFirst w (suc m) piece (gate ∷ rest)
    one_more one is = record {
      k = suc is.k;
      le = let le = is.le in omega arith;
      are = open_first w gate rest one fits ∙ ap (λ (l : List (List ℕ)). take w rest ∷ l) is.are ∙ ap (λ (b : List ℕ). b ∷ take is.k (bodies_in w m (drop (w + 1) piece))) first_body;
      stops = elim is.stops [ inl all ↦ inl (ap suc all) | inr other ↦ inr (λ open_gate. other (far is.k ∙ open_gate)) ];
    }

  -- the slots of a row
  pub first_few : (more : ℕ) (piece bytes : List ℕ) → IsRow w more piece bytes → AreFirst w more piece bytes
  first_few zero piece [] row = absurd (let long = row.long in omega arith)
  first_few zero piece (gate ∷ rest) row = record {
    k = 0;
    le = omega arith;
    are = bodies_from_shut w gate rest (inl (λ one. row.last (at_zero gate rest ∙ one)));
    stops = inl refl;
  }
  first_few (suc m) piece [] row = absurd (let long = row.long in omega arith)
  first_few (suc m) piece (gate ∷ rest) row = elim (cases_eq gate 1) [
    | inl one ↦ one_more m piece gate rest row one (first_few m (drop (w + 1) piece) (drop w rest) (rest_row m piece gate rest row))
    | inr other ↦ record {
      k = 0;
      le = omega arith;
      are = bodies_from_shut w gate rest (inl other);
      stops = inr (λ one. other (sym (at_zero gate rest) ∙ one));
    }
  ]

  pub length-bodies_in : (more : ℕ) (piece : List ℕ) → length (bodies_in w more piece) ≡ more
  length-bodies_in zero piece = refl
  length-bodies_in (suc m) piece = ap suc (length-bodies_in m (drop (w + 1) piece))
