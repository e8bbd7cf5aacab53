-- What tries to settle blocks come to.
use Rattle.std.proofs.Common.{◌≡◌, ◌<◌, ◌≤◌, ℕ, zero, suc, ◌+◌, ◌&&◌, Bool, true, false, not, cond, nat_le, nat_lt, List, [], ◌∷◌, ◌++◌, length, Result, Ok, Err, OnOk, refl, sym, ◌∙◌, ap, subst, inl, inr, arith}
use Rattle.std.proofs.lemmas.Bool.{cases_lt, le-leb, lt-ltb}
use Rattle.std.proofs.lemmas.List.{length-append}
use Rattle.std.proofs.lemmas.List.Sums.{sum_by-append}
use Rattle.wire_forms.specs.declared.op.Op.{Op}
use Rattle.wire_forms.specs.declared.op.Op.TheVariants.{Read}
use Rattle.disk_model.specs.Crash.{Pending}
use Rattle.store_device.specs.Stores.{SeenStore}
use Rattle.store_device.specs.Calls.{Call, Leads}
use Rattle.store_care.specs.Settling.{AreSettling, IsTriedOut, Try, TriesLead, WasSettled, is_settled, tries_of, unsettled}
use Rattle.store_care.proofs.Settled.{one_more_unsettled, tries_then}

pub on_any : {A E : Type 0} (P : Type 0) (r : Result A E) → P → OnOk r P
on_any P (Ok x) h = h
on_any P (Err e) h = tt

settled_if : (block : ℕ) (b : Bool) → length (cond (not b) (Read block ∷ []) []) ≡ 0 → b ≡ true
settled_if block true none = refl
settled_if block false none = absurd (omega (arith, none))

module _ {D : Type 0} where
  -- ---- blocks that aren't among the unsettled ones

  pub settled_within : (store : SeenStore D) (first count : ℕ) → length (unsettled store first count) ≡ 0
      → (block : ℕ) → first ≤ block → block < first + count → is_settled store block ≡ true
  settled_within store first zero none block low high = absurd (omega (arith, low, high))
  settled_within store first (suc count) none block low high =
      let last = first + count in
      let more = cond (not (is_settled store last)) (Read last ∷ []) [] in
      let next : suc count ≡ count + 1 = omega arith in
      let parts : length (unsettled store first count) + length more ≡ 0 =
      sym (length-append (unsettled store first count) more)
      ∙ sym (ap (λ (ops : List Op). length ops) (one_more_unsettled store first count last refl))
      ∙ sym (ap (λ (n : ℕ). length (unsettled store first n)) next)
      ∙ none in
      elim (cases_lt block last) [
        | inl before ↦ settled_within store first count (omega (arith, parts)) block low before
        | inr behind ↦
            let same : last ≡ block = omega (arith, behind, high) in
            subst (λ (b : ℕ). is_settled store b ≡ true) same (settled_if last (is_settled store last) (omega (arith, parts)))
      ]

  -- ---- tries behind others

  was_settled_now : (store : SeenStore D) (tries : List (Try D)) (block : ℕ) → is_settled store block ≡ true → WasSettled store tries block
  was_settled_now store [] block h = h
  was_settled_now store (one ∷ tries) block h = inl h

  was_settled_before : (store : SeenStore D) (tries more : List (Try D)) (block : ℕ) → WasSettled store tries block → WasSettled store (tries ++ more) block
  was_settled_before store [] more block h = was_settled_now store more block h
  was_settled_before store (one ∷ tries) more block (inl h) = inl h
  was_settled_before store (one ∷ tries) more block (inr h) = inr (was_settled_before one.store tries more block h)

  tries_of-append : (block : ℕ) (tries more : List (Try D)) → tries_of block (tries ++ more) ≡ tries_of block tries + tries_of block more
  tries_of-append block tries more = sum_by-append (λ (t : Try D). cond (nat_le t.first block && nat_lt block (t.first + t.count)) 1 0) tries more

  tries_of-one : (first count block : ℕ) (calls : List (Call D)) (store : SeenStore D) → first ≤ block → block < first + count
      → tries_of block (record { first = first; count = count; calls = calls; store = store } ∷ []) ≡ 1
  tries_of-one first count block calls store low high = rw (le-leb first block low) (rw (lt-ltb block (first + count) high) refl)

  pub tried_out_before : (store : SeenStore D) (tries more : List (Try D)) (block : ℕ) → IsTriedOut store tries block → IsTriedOut store (tries ++ more) block
  tried_out_before store tries more block (inl h) = inl (was_settled_before store tries more block h)
  tried_out_before store tries more block (inr h) = inr (let all = tries_of-append block tries more in omega (arith, all, h))

module _ {D : Type 0} (pending : D → Pending) (seen : D → List ℕ) (capacity : D → ℕ) (moment : D → ℕ) (left_since : D → ℕ → List ℕ → Type 0) where
  was_settled_behind : (tries more : List (Try D)) (old mid : SeenStore D) (block : ℕ) → TriesLead pending seen capacity moment left_since old tries mid
      → WasSettled mid more block → WasSettled old (tries ++ more) block
  was_settled_behind [] more old mid block same h = subst (λ (s : SeenStore D). WasSettled s more block) same h
  was_settled_behind (one ∷ tries) more old mid block are h = inr (was_settled_behind tries more one.store mid block are.2 h)

  pub tried_out_behind : (tries more : List (Try D)) (old mid : SeenStore D) (block : ℕ) → TriesLead pending seen capacity moment left_since old tries mid
      → IsTriedOut mid more block → IsTriedOut old (tries ++ more) block
  tried_out_behind tries more old mid block led (inl h) = inl (was_settled_behind tries more old mid block led h)
  tried_out_behind tries more old mid block led (inr h) = inr (let all = tries_of-append block tries more in omega (arith, all, h))

  -- where the blocks are settled behind tries, each of them was
  pub settled_at_last : (tries : List (Try D)) (old new : SeenStore D) (first count : ℕ) → TriesLead pending seen capacity moment left_since old tries new
      → length (unsettled new first count) ≡ 0 → (block : ℕ) → first ≤ block → block < first + count → WasSettled old tries block
  settled_at_last [] old new first count same none block low high =
      subst (λ (s : SeenStore D). is_settled s block ≡ true) same (settled_within new first count none block low high)
  settled_at_last (one ∷ tries) old new first count are none block low high = inr (settled_at_last tries one.store new first count are.2 none block low high)

  -- so many tries of blocks, from one on, and no others, that lead from the one store to the other
  pub record AreTried (first count turns : ℕ) (old new : SeenStore D) : Type 0 where
    pub tries : List (Try D)
    pub lead : TriesLead pending seen capacity moment left_since old tries new
    pub often : (block : ℕ) → first ≤ block → block < first + count → turns ≤ tries_of block tries

  -- one try more
  pub one_more_try : (first count turns : ℕ) (calls : List (Call D)) (old mid same new : SeenStore D)
      → AreTried first count turns old mid → same ≡ mid
      → Leads pending seen capacity moment left_since same calls new → AreSettling first count same calls
      → AreTried first count (turns + 1) old new
  one_more_try first count turns calls old mid same new before is leads are =
      let one : Try D = record { first = first; count = count; calls = calls; store = new } in
      record {
        tries = before.tries ++ one ∷ [];
        lead =
            tries_then pending seen capacity moment left_since before.tries (one ∷ []) old mid new before.lead
            (subst (λ (s : SeenStore D). Leads pending seen capacity moment left_since s calls new) is leads, subst (λ (s : SeenStore D). AreSettling first count s calls) is are, refl);
        often = λ block low high.
            let all = tries_of-append block before.tries (one ∷ []) in
            let this = tries_of-one first count block calls new low high in
            let others = before.often block low high in
            omega (arith, all, this, others);
      }
