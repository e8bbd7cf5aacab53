-- How far texts begin what a grammar has.
use Rattle.std.proofs.Common.{◌≡◌, ◌⊎◌, ℕ, zero, suc, ◌+◌, ◌≤◌, ◌<◌, List, [], ◌∷◌, ◌++◌, length, take, drop, refl, sym, ap, subst, ◌∙◌, append_assoc, arith, inl, inr}
use Rattle.std.proofs.lemmas.List.{length-drop, append-nil}
use Rattle.std.proofs.Math.Seq.{take-add}
use Rattle.message_texts.specs.Longest.{Begins, IsLongest, Then}

-- a shorter front is a front of the longer one
front : (m n : ℕ) (t : List ℕ) → m ≤ n → (w : List ℕ) × (take n t ≡ take m t ++ w)
front zero n t le = (take n t, refl)
front (suc m) zero t le = absurd (omega arith)
front (suc m) (suc n) [] le = ([], refl)
front (suc m) (suc n) (c ∷ t) le = let f = front m n t (omega arith) in (f.0, ap (λ (x : List ℕ). c ∷ x) f.1)

pub shorter_begins : (Is : List ℕ → Type 0) (m n : ℕ) (t : List ℕ) → m ≤ n → Begins Is (take n t) → Begins Is (take m t)
shorter_begins Is m n t le b =
    let f = front m n t le in
    (f.0 ++ b.0, subst Is (ap (λ (x : List ℕ). x ++ b.0) f.1 ∙ append_assoc (take m t) f.0 b.0) b.1)

-- of two grammars, the one that goes on longer decides
longer_of : (A B : List ℕ → Type 0) (t : List ℕ) (i j : ℕ) → i ≤ j → IsLongest A t i → IsLongest B t j → IsLongest (λ x. A x ⊎ B x) t j
longer_of A B t i j le a b = record {
  within = b.within;
  begins = (b.begins.0, inr b.begins.1);
  most = λ lt more. elim more.1 [
    | inl h ↦ a.most (omega arith) (shorter_begins A (i + 1) (j + 1) t (omega arith) (more.0, h))
    | inr h ↦ b.most lt (more.0, h)
  ];
}

pub same_texts : (A B : List ℕ → Type 0) (t : List ℕ) (k : ℕ) → ((x : List ℕ) → A x → B x) → ((x : List ℕ) → B x → A x) → IsLongest A t k → IsLongest B t k
same_texts A B t k to from a = record {
  within = a.within;
  begins = (a.begins.0, to (take k t ++ a.begins.0) a.begins.1);
  most = λ lt more. a.most lt (more.0, from (take (k + 1) t ++ more.0) more.1);
}

swap_sides : (A B : Type 0) → A ⊎ B → B ⊎ A
swap_sides A B (inl a) = inr a
swap_sides A B (inr b) = inl b

pub first_longer : (A B : List ℕ → Type 0) (t : List ℕ) (i j : ℕ) → j ≤ i → IsLongest A t i → IsLongest B t j → IsLongest (λ x. A x ⊎ B x) t i
first_longer A B t i j le a b =
    same_texts (λ x. B x ⊎ A x) (λ x. A x ⊎ B x) t i (λ x h. swap_sides (B x) (A x) h) (λ x h. swap_sides (A x) (B x) h) (longer_of B A t j i le b a)

pub second_longer : (A B : List ℕ → Type 0) (t : List ℕ) (i j : ℕ) → i ≤ j → IsLongest A t i → IsLongest B t j → IsLongest (λ x. A x ⊎ B x) t j
second_longer A B t i j le a b = longer_of A B t i j le a b

-- where nothing may follow
pub nothing_follows : (t : List ℕ) → IsLongest (λ x. x ≡ []) t 0
nothing_follows t = record {
  within = omega arith;
  begins = ([], refl);
  most = λ lt more. at_front t lt more.0 more.1;
}
  where
    at_front : (s : List ℕ) → 0 < length s → (more : List ℕ) → take (0 + 1) s ++ more ≡ [] → ⊥
    at_front [] lt more e = absurd (omega arith)
    at_front (c ∷ s) lt more e = cc

-- two ways to cut one text
overlap : (x u d r : List ℕ) → x ++ u ≡ d ++ r → ((v : List ℕ) × (d ≡ x ++ v) × (u ≡ v ++ r)) ⊎ ((c : ℕ) × (vs : List ℕ) × (x ≡ d ++ c ∷ vs) × (r ≡ c ∷ vs ++ u))
overlap [] u d r e = inl (d, refl, e)
overlap (c ∷ x) u [] r e = inr (c, x, refl, sym e)
overlap (c ∷ x) u (b ∷ d) r e =
    let head : c ≡ b = cc in
    let tail : x ++ u ≡ d ++ r = cc in
    elim (overlap x u d r tail) [
      | inl h ↦ inl (h.0, (cc), h.2)
      | inr h ↦ inr (h.0, h.1, (cc), h.3)
    ]

-- the byte after a front
next_byte : (a : ℕ) (t more v r : List ℕ) (c : ℕ) → a < length t → take 1 (drop a t) ++ more ≡ (c ∷ v) ++ r → take (a + 1) t ≡ take a t ++ c ∷ []
next_byte a t more v r c lt e = take-add a 1 t ∙ ap (λ (x : List ℕ). take a t ++ x) (one (drop a t) (omega (arith, length-drop a t)) e)
  where
    one : (s : List ℕ) → 0 < length s → take 1 s ++ more ≡ (c ∷ v) ++ r → take 1 s ≡ c ∷ []
    one [] some same = absurd (omega arith)
    one (b ∷ s) some same = cc

module _ (P Q : List ℕ → Type 0) (t : List ℕ) (a : ℕ) (first : IsLongest P t a)
    (told : (d : List ℕ) (c : ℕ) (vs r : List ℕ) → P d → take a t ≡ d ++ c ∷ vs → Q (c ∷ r) → ⊥) where
  -- nothing of the first grammar goes on with the byte after its front
  no_more : (c : ℕ) (v more r : List ℕ) → a < length t → take 1 (drop a t) ++ more ≡ (c ∷ v) ++ r → P (take a t ++ c ∷ v) → ⊥
  no_more c v more r lt e p =
      first.most lt (v, subst P (sym (append_assoc (take a t) (c ∷ []) v) ∙ ap (λ (x : List ℕ). x ++ v) (sym (next_byte a t more v r c lt e))) p)

  -- behind a whole text of the first grammar, the second decides
  pub after_whole : P (take a t) → (k : ℕ) → IsLongest Q (drop a t) k → IsLongest (Then P Q) t (a + k)
  after_whole p k second = record {
    within = let f = first.within in let s = second.within in omega (arith, f, s, length-drop a t);
    begins = (second.begins.0, (take a t, take k (drop a t) ++ second.begins.0, ap (λ (x : List ℕ). x ++ second.begins.0) (take-add a k t) ∙ append_assoc (take a t) (take k (drop a t)) second.begins.0, p, second.begins.1));
    most = λ lt more.
        let room : k < length (drop a t) = omega (arith, lt, length-drop a t) in
        let long : a < length t = omega (arith, lt) in
        let d = more.1.0 in
        let r = more.1.1 in
        let shown : a + k + 1 ≡ a + (k + 1) = omega arith in
        let cut : take (a + k + 1) t ≡ take a t ++ take (k + 1) (drop a t) = ap (λ (n : ℕ). take n t) shown ∙ take-add a (k + 1) t in
        let all : take a t ++ (take (k + 1) (drop a t) ++ more.0) ≡ d ++ r = sym (append_assoc (take a t) (take (k + 1) (drop a t)) more.0) ∙ ap (λ (x : List ℕ). x ++ more.0) (sym cut) ∙ more.1.2 in
        elim (overlap (take a t) (take (k + 1) (drop a t) ++ more.0) d r all) [
          | inl g ↦ longer g.0 d r more.0 more.1.3 more.1.4 g.1 g.2 room long
          | inr g ↦ told d g.0 g.1 (g.1 ++ (take (k + 1) (drop a t) ++ more.0)) more.1.3 g.2 (subst Q g.3 more.1.4)
        ];
  }
    where
      longer : (v d r more : List ℕ) → P d → Q r → d ≡ take a t ++ v → take (k + 1) (drop a t) ++ more ≡ v ++ r → k < length (drop a t) → a < length t → ⊥
      longer [] d r more is rest e u room long = second.most room (more, subst Q (sym u) rest)
      longer (c ∷ v) d r more is rest e u room long =
          let f = front 1 (k + 1) (drop a t) (omega arith) in
          let same : take 1 (drop a t) ++ (f.0 ++ more) ≡ (c ∷ v) ++ r = sym (append_assoc (take 1 (drop a t)) f.0 more) ∙ ap (λ (x : List ℕ). x ++ more) (sym f.1) ∙ u in
          no_more c v (f.0 ++ more) r long same (subst P e is)

  -- where the front isn't whole, it is all that begins a text
  pub before_whole : (P (take a t) → ⊥) → (q : List ℕ) → Q q → IsLongest (Then P Q) t a
  before_whole not_whole q some = record {
    within = first.within;
    begins = (first.begins.0 ++ q, (take a t ++ first.begins.0, q, sym (append_assoc (take a t) first.begins.0 q), first.begins.1, some));
    most = λ lt more.
        let d = more.1.0 in
        let r = more.1.1 in
        let all : take a t ++ (take 1 (drop a t) ++ more.0) ≡ d ++ r = sym (append_assoc (take a t) (take 1 (drop a t)) more.0) ∙ ap (λ (x : List ℕ). x ++ more.0) (sym (take-add a 1 t)) ∙ more.1.2 in
        elim (overlap (take a t) (take 1 (drop a t) ++ more.0) d r all) [
          | inl g ↦ shorter g.0 d r more.0 more.1.3 g.1 g.2 lt
          | inr g ↦ told d g.0 g.1 (g.1 ++ (take 1 (drop a t) ++ more.0)) more.1.3 g.2 (subst Q g.3 more.1.4)
        ];
  }
    where
      shorter : (v d r more : List ℕ) → P d → d ≡ take a t ++ v → take 1 (drop a t) ++ more ≡ v ++ r → a < length t → ⊥
      shorter [] d r more is e u lt = not_whole (subst P (e ∙ append-nil (take a t)) is)
      shorter (c ∷ v) d r more is e u lt = no_more c v more r lt u (subst P e is)
