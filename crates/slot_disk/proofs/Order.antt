-- Slot k begins at k slots' length.
use Rattle.std.proofs.Common.{◌≡◌, inl, inr, ℕ, zero, suc, ◌+◌, ◌*◌, ◌-◌, ◌<◌, ◌≤◌, List, [], ◌∷◌, length, get_or, take, drop, refl, sym, ◌∙◌, ap, subst, arith, length-drop}
use Rattle.std.specs.Prelude.{slice_get, slice_range, Some}
use Rattle.std.proofs.lemmas.Bool.{cases_eq, cases_lt}
use Rattle.std.proofs.lemmas.List.{get_or-drop, drop-drop}
use Rattle.slot_disk.specs.Bodies.{bodies, IsOpen, AreInOrder}
use Rattle.slot_disk.proofs.lemmas.Bodies.{open_first, bodies_from_shut}

module _ (w : ℕ) where
  at_zero : (gate : ℕ) (rest : List ℕ) → get_or (gate ∷ rest) (0 * (w + 1)) 0 ≡ gate
  at_zero gate rest = let begins : 0 * (w + 1) ≡ 0 = omega arith in ap (λ (n : ℕ). get_or (gate ∷ rest) n 0) begins

  -- behind the first slot, which is open
  module _ (gate : ℕ) (rest : List ℕ) (one : gate ≡ 1) (fits : w < length rest) where
    found : bodies w (gate ∷ rest) ≡ take w rest ∷ bodies w (drop w rest)
    found = open_first w gate rest one fits

    step : (k : ℕ) → suc k * (w + 1) ≡ suc (w + k * (w + 1))
    step k = omega arith

    far : (k : ℕ) → get_or (drop w rest) (k * (w + 1)) 0 ≡ get_or (gate ∷ rest) (suc k * (w + 1)) 0
    far k = get_or-drop w rest (k * (w + 1)) 0 ∙ ap (λ (n : ℕ). get_or (gate ∷ rest) n 0) (sym (step k))

    further : (k : ℕ) → IsOpen w (drop w rest) k → IsOpen w (gate ∷ rest) (suc k)
    further k there = record {
      gate = sym (far k) ∙ there.gate;
      whole = let long = length-drop w rest in let here = there.whole in let next = step k in let more : (suc k + 1) * (w + 1) ≡ (k + 1) * (w + 1) + (w + 1) = omega arith in omega (arith, long, here, more, fits);
    }

    nearer : (k : ℕ) → IsOpen w (gate ∷ rest) (suc k) → IsOpen w (drop w rest) k
    nearer k there = record {
      gate = far k ∙ there.gate;
      whole = let long = length-drop w rest in let here = there.whole in let more : (suc k + 1) * (w + 1) ≡ (k + 1) * (w + 1) + (w + 1) = omega arith in omega (arith, long, here, more, fits);
    }

    body_at : (k : ℕ) → slice_range (drop w rest) (k * (w + 1) + 1) ((k + 1) * (w + 1)) ≡ slice_range (gate ∷ rest) (suc k * (w + 1) + 1) ((suc k + 1) * (w + 1))
    body_at k =
        let width : (k + 1) * (w + 1) - (k * (w + 1) + 1) ≡ (suc k + 1) * (w + 1) - (suc k * (w + 1) + 1) = omega arith in
        let place : w + (k * (w + 1) + 1) ≡ suc k * (w + 1) = omega arith in
        ap (take ((k + 1) * (w + 1) - (k * (w + 1) + 1))) (drop-drop (k * (w + 1) + 1) w rest ∙ ap (λ (n : ℕ). drop n rest) place)
        ∙ ap (λ (n : ℕ). take n (drop (suc k * (w + 1)) rest)) width
        ∙ ap (λ (n : ℕ). take ((suc k + 1) * (w + 1) - (suc k * (w + 1) + 1)) (drop n (gate ∷ rest))) (let next : suc (suc k * (w + 1)) ≡ suc k * (w + 1) + 1 = omega arith in next)

    first_body : take w rest ≡ slice_range (gate ∷ rest) (0 * (w + 1) + 1) ((0 + 1) * (w + 1))
    first_body =
        let width : (0 + 1) * (w + 1) - (0 * (w + 1) + 1) ≡ w = omega arith in
        let place : 1 ≡ 0 * (w + 1) + 1 = omega arith in
        ap (λ (n : ℕ). take n rest) (sym width) ∙ ap (λ (n : ℕ). take ((0 + 1) * (w + 1) - (0 * (w + 1) + 1)) (drop n (gate ∷ rest))) place

    each_open : (k : ℕ) → ((j : ℕ) → j < length (bodies w (drop w rest)) → IsOpen w (drop w rest) j) → k < suc (length (bodies w (drop w rest))) → IsOpen w (gate ∷ rest) k
    each_open zero more below = record { gate = at_zero gate rest ∙ one; whole = omega (arith, fits) }
    each_open (suc k) more below = further k (more k (omega (arith, below)))

    each_stands : (k : ℕ) → ((j : ℕ) → j < length (bodies w (drop w rest)) → slice_get (bodies w (drop w rest)) j ≡ Some (slice_range (drop w rest) (j * (w + 1) + 1) ((j + 1) * (w + 1)))) → k < suc (length (bodies w (drop w rest)))
        → slice_get (take w rest ∷ bodies w (drop w rest)) k ≡ Some (slice_range (gate ∷ rest) (k * (w + 1) + 1) ((k + 1) * (w + 1)))
    each_stands zero more below = ap Some first_body
    each_stands (suc k) more below = more k (omega (arith, below)) ∙ ap Some (body_at k)

    one_more : AreInOrder w (drop w rest) → AreInOrder w (gate ∷ rest)
    one_more order = record {
      each = λ k below. each_open k order.each (subst (λ (l : List (List ℕ)). k < length l) found below);
      first_shut = λ there. order.first_shut (nearer (length (bodies w (drop w rest))) (subst (λ (l : List (List ℕ)). IsOpen w (gate ∷ rest) (length l)) found there));
      stands = λ k below. ap (λ (l : List (List ℕ)). slice_get l k) found ∙ each_stands k order.stands (subst (λ (l : List (List ℕ)). k < length l) found below);
    }

  none : (bytes : List ℕ) → bodies w bytes ≡ [] → (IsOpen w bytes 0 → ⊥) → AreInOrder w bytes
  none bytes is shut_there = record {
    each = λ k below. absurd (omega (arith, below, ap length is));
    first_shut = λ there. shut_there (subst (λ (l : List (List ℕ)). IsOpen w bytes (length l)) is there);
    stands = λ k below. absurd (omega (arith, below, ap length is));
  }

  -- by recursion on a bound of the length
  within : (most : ℕ) (bytes : List ℕ) → length bytes ≤ most → AreInOrder w bytes
  within most [] le = none [] refl (λ there. let long = there.whole in omega (arith, long))
  within zero (gate ∷ rest) le = absurd (omega arith)
  within (suc most) (gate ∷ rest) le = elim (cases_eq gate 1) [
    | inl one ↦ elim (cases_lt w (length rest)) [
      | inl fits ↦ one_more gate rest one fits (within most (drop w rest) (omega (arith, length-drop w rest, le)))
      | inr short ↦ none (gate ∷ rest) (bodies_from_shut w gate rest (inr short)) (λ there. let long = there.whole in omega (arith, long, short))
    ]
    | inr other ↦ none (gate ∷ rest) (bodies_from_shut w gate rest (inl other)) (λ there. other (sym (at_zero gate rest) ∙ there.gate))
  ]

  pub in_order : (bytes : List ℕ) → AreInOrder w bytes
  in_order bytes = within (length bytes) bytes (omega arith)
