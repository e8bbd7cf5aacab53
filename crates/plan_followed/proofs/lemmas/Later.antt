-- What later entries leave as it was.
use Rattle.std.proofs.Common.{◌≡◌, ℕ, ◌+◌, ◌<◌, ◌≤◌, Bool, true, false, cond, ◌&&◌, List, [], ◌∷◌, ◌++◌, filter, refl, sym, ◌∙◌, ap, arith}
use Rattle.std.specs.Prelude.{nat_lt, nat_le}
use Rattle.std.specs.List.{Contains}
use Rattle.std.proofs.lemmas.Bool.Decides.{nat_tests}
use Rattle.std.proofs.lemmas.List.Elements.{filter-append}
use Rattle.protocol.proofs.lemmas.Lists.{append_nil}
use Rattle.node_core.proofs.lemmas.Changes.{filter-all}
use Rattle.journals.specs.Phases.{Phase}
use Rattle.plan_followed.specs.Closed.{ComesLater}
use Rattle.lists.proofs.lemmas.Members.{Contains-head, Contains-rest}

pub filter-none : {X : Type 0} (test : X → Bool) (xs : List X) → ((x : X) → Contains xs x → test x ≡ false) → filter test xs ≡ []
filter-none test [] h = refl
filter-none test (x ∷ xs) h =
    ap (λ (b : Bool). cond b (x ∷ filter test xs) (filter test xs)) (h x (Contains-head x xs)) ∙ filter-none test xs (λ y there. h y (Contains-rest y x xs there))

module _ {E : Type 0} (number : E → ℕ) where
  -- the entries below a number, and those of a phase's prunes
  abbrev pub entries_below : ℕ → List E → List E
  entries_below k es = filter (λ e. nat_lt (number e) k) es

  abbrev pub entries_within : Phase → List E → List E
  entries_within p es = filter (λ e. nat_le p.close (number e) && nat_lt (number e) p.end) es

  not_below : (k n : ℕ) → k ≤ n → nat_lt n k ≡ false
  not_below k n l = grind (arith, nat_tests)

  is_below : (k n : ℕ) → n < k → nat_lt n k ≡ true
  is_below k n l = grind (arith, nat_tests)

  not_after : (p : Phase) (n : ℕ) → p.end ≤ n → (nat_le p.close n && nat_lt n p.end) ≡ false
  not_after p n l = at (nat_le p.close n) (nat_lt n p.end) (not_below p.end n l)
    where
      at : (a b : Bool) → b ≡ false → (a && b) ≡ false
      at true b e = e
      at false b e = refl

  not_before : (p : Phase) (n : ℕ) → n < p.close → (nat_le p.close n && nat_lt n p.end) ≡ false
  not_before p n l = (let e : nat_le p.close n ≡ false = grind (arith, nat_tests) in rw e refl)

  is_within : (p : Phase) (n : ℕ) → p.close ≤ n → n < p.end → (nat_le p.close n && nat_lt n p.end) ≡ true
  is_within p n l m = grind (arith, nat_tests)

  module _ (from : ℕ) (old new : List E) (h : ComesLater number from old new) where
    same : (test : E → Bool) → ((e : E) → from ≤ number e → test e ≡ false) → filter test new ≡ filter test old
    same test fails =
        let split : filter test new ≡ filter test old ++ filter test h.more = ap (filter test) h.grown ∙ filter-append test old h.more in
        let none : filter test h.more ≡ [] = filter-none test h.more (λ e there. fails e (h.later e there)) in
        split ∙ ap (λ (l : List E). filter test old ++ l) none ∙ sym (append_nil (filter test old))

    -- what stood below a number up to the first later one is all that stands there
    pub below_same : (k : ℕ) → k ≤ from → entries_below k new ≡ entries_below k old
    below_same k l = same (λ e. nat_lt (number e) k) (λ e m. not_below k (number e) (omega (arith, l, m)))

    -- and so it is with a phase that ended before
    pub within_same : (p : Phase) → p.end ≤ from → entries_within p new ≡ entries_within p old
    within_same p l = same (λ e. nat_le p.close (number e) && nat_lt (number e) p.end) (λ e m. not_after p (number e) (omega (arith, l, m)))

  -- all entries stand below a number that is above theirs
  pub below_all : (k : ℕ) (es : List E) → ((e : E) → Contains es e → number e < k) → entries_below k es ≡ es
  below_all k es h = filter-all (λ e. nat_lt (number e) k) es (λ e there. is_below k (number e) (h e there))

  -- what comes after the close of a phase and before its end is what stands within
  pub within_more : (p : Phase) (old new : List E) (h : ComesLater number p.close old new)
      → ((e : E) → Contains old e → number e < p.close) → ((e : E) → Contains h.more e → number e < p.end) → entries_within p new ≡ h.more
  within_more p old new h before after =
      let test = λ (e : E). nat_le p.close (number e) && nat_lt (number e) p.end in
      let split : filter test new ≡ filter test old ++ filter test h.more = ap (filter test) h.grown ∙ filter-append test old h.more in
      let none : filter test old ≡ [] = filter-none test old (λ e there. not_before p (number e) (before e there)) in
      let all : filter test h.more ≡ h.more = filter-all test h.more (λ e there. is_within p (number e) (h.later e there) (after e there)) in
      split ∙ ap (λ (l : List E). l ++ filter test h.more) none ∙ all
