-- How many different accepted versions pass a test.
use Rattle.std.proofs.Common.{◌≡◌, ℕ, ◌+◌, ◌<◌, ◌≤◌, Bool, true, false, cond, not, ◌&&◌, ◌||◌, List, [], ◌∷◌, ◌++◌, refl, sym, ◌∙◌, ap, inl, inr, arith}
use Rattle.std.specs.List.{Contains}
use Rattle.protocol.specs.World.{Accepted}
use Rattle.protocol.specs.Bounds.{same_accepted, is_among, different}
use Rattle.protocol.proofs.lemmas.Counting.{both_true}
use Rattle.protocol.proofs.lemmas.Order.{same_stamp-≡, same_stamp-refl}
use Rattle.lists.proofs.lemmas.Members.{Contains-head, Contains-none, Contains-rest, Contains-cons_cases}
use Rattle.lists.proofs.lemmas.Tests.{eqb_self}
use Rattle.std.proofs.lemmas.Bool.{eqb-true, or_cases, cases_Bool}

fields : (a b : Accepted) → a.node ≡ b.node → a.block ≡ b.block → a.stamp ≡ b.stamp → a ≡ b
fields a b n k t i = record { node = n i; block = k i; stamp = t i }

same-≡ : (a b : Accepted) → same_accepted a b ≡ true → a ≡ b
same-≡ a b h = let x = both_true _ _ h in let y = both_true _ _ x.0 in fields a b (eqb-true _ _ y.0) (eqb-true _ _ y.1) (same_stamp-≡ _ _ x.1)

same-self : (a : Accepted) → same_accepted a a ≡ true
same-self a = rw (eqb_self a.node, eqb_self a.block, same_stamp-refl a.stamp) refl

among_is : (a : Accepted) (xs : List Accepted) → is_among a xs ≡ true → Contains xs a
among_is a [] h = absurd (cc)
among_is a (b ∷ bs) h =
    let rest = among_is a bs in
    elim (or_cases (same_accepted a b) (is_among a bs) h) [ inl e ↦ rw (same-≡ a b e) (Contains-head b bs) | inr k ↦ Contains-rest a b bs (rest k) ]

bit : (t u n : Bool) → (t ≡ true → u ≡ true) → cond {A = ℕ} (t && n) 1 0 ≤ cond (u && n) 1 0
bit true true n h = omega arith
bit true false n h = absurd (cc (h refl))
bit false u n h = omega arith

-- a wider test passes more
pub different_within : (test other : Accepted → Bool) (xs : List Accepted) → ((a : Accepted) → test a ≡ true → other a ≡ true) → different test xs ≤ different other xs
different_within test other [] h = omega arith
different_within test other (a ∷ xs) h = omega (arith, different_within test other xs h, bit (test a) (other a) (not (is_among a xs)) (h a))

-- and strictly more where one passes that alone
pub different_less : (test other : Accepted → Bool) (xs : List Accepted) (x : Accepted) → ((a : Accepted) → test a ≡ true → other a ≡ true) → Contains xs x → test x ≡ false → other x ≡ true → different test xs < different other xs
different_less test other [] x h there e f = absurd (Contains-none x there)
different_less test other (a ∷ xs) x h there e f = at (λ k. different_less test other xs x h k e f) (is_among x xs) refl
  where
    here : is_among x xs ≡ false → x ≡ a → different test (a ∷ xs) < different other (a ∷ xs)
    here t q =
        let ta : test a ≡ false = rw q at e in
        let oa : other a ≡ true = rw q at f in
        let na : is_among a xs ≡ false = rw q at t in
        let l : cond {A = ℕ} (test a && not (is_among a xs)) 1 0 ≡ 0 = rw ta refl in
        let m : cond {A = ℕ} (other a && not (is_among a xs)) 1 0 ≡ 1 = rw (oa, na) refl in
        omega (arith, different_within test other xs h, l, m)

    later : (Contains xs x → different test xs < different other xs) → Contains xs x → different test (a ∷ xs) < different other (a ∷ xs)
    later rest k = omega (arith, rest k, bit (test a) (other a) (not (is_among a xs)) (h a))

    at : (Contains xs x → different test xs < different other xs) → (b : Bool) → is_among x xs ≡ b → different test (a ∷ xs) < different other (a ∷ xs)
    at rest true t = later rest (among_is x xs t)
    at rest false t = elim (Contains-cons_cases x a xs there) [ inl q ↦ here t q | inr k ↦ later rest k ]

among_push : (a b : Accepted) (xs : List Accepted) → is_among a (xs ++ b ∷ []) ≡ is_among a xs || same_accepted a b
among_push a b [] = at (same_accepted a b)
  where
    at : (x : Bool) → x || false ≡ false || x
    at true = refl
    at false = refl
among_push a b (c ∷ cs) = rw (among_push a b cs) (at (same_accepted a c) (is_among a cs) (same_accepted a b))
  where
    at : (x y z : Bool) → x || (y || z) ≡ (x || y) || z
    at true y z = refl
    at false y z = refl

step : (t u m n e : Bool) → (e ≡ true → (t ≡ u) × (m ≡ n)) → cond {A = ℕ} (t && not (m || e)) 1 0 + cond {A = ℕ} (u && not n) 1 0 ≡ cond {A = ℕ} (t && not m) 1 0 + cond {A = ℕ} (u && not (e || n)) 1 0
step t u m n true h = let k = h refl in rw (k.0, k.1) (both u n)
  where
    both : (u n : Bool) → cond {A = ℕ} (u && not (n || true)) 1 0 + cond {A = ℕ} (u && not n) 1 0 ≡ cond {A = ℕ} (u && not n) 1 0 + cond {A = ℕ} (u && not (true || n)) 1 0
    both true true = refl
    both true false = refl
    both false n = refl
step true u true n false h = refl
step true u false n false h = refl
step false u m n false h = refl

same_sym : (a b : Accepted) → same_accepted a b ≡ same_accepted b a
same_sym a b = elim (cases_Bool (same_accepted a b)) [
  | inl e ↦ (let q = same-≡ a b e in rw q refl)
  | inr e ↦ elim (cases_Bool (same_accepted b a)) [ inl f ↦ (let q = same-≡ b a f in rw q refl) | inr f ↦ e ∙ sym f ]
]

-- one more at the end
pub different_push : (test : Accepted → Bool) (xs : List Accepted) (b : Accepted) → different test (xs ++ b ∷ []) ≡ different test xs + cond (test b && not (is_among b xs)) 1 0
different_push test [] b = omega arith
different_push test (a ∷ xs) b =
    let rest = different_push test xs b in
    let q : cond {A = ℕ} (test a && not (is_among a (xs ++ b ∷ []))) 1 0 ≡ cond (test a && not (is_among a xs || same_accepted a b)) 1 0 = rw (among_push a b xs) refl in
    let r : cond {A = ℕ} (test b && not (is_among b (a ∷ xs))) 1 0 ≡ cond (test b && not (same_accepted a b || is_among b xs)) 1 0 = rw (same_sym a b) refl in
    let t = step (test a) (test b) (is_among a xs) (is_among b xs) (same_accepted a b) (λ e. let k = same-≡ a b e in (ap test k, ap (λ (x : Accepted). is_among x xs) k)) in
    omega (arith, rest, q, r, t)

pub different_more : (test : Accepted → Bool) (xs : List Accepted) (b : Accepted) → different test xs ≤ different test (xs ++ b ∷ [])
different_more test xs b = omega (arith, different_push test xs b)
