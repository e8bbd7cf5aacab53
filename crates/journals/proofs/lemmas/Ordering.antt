-- Journals whose numbers are those below some count, each once, have their entries in order.
use Rattle.std.proofs.Common.{◌≡◌, ◌⊎◌, ℕ, zero, suc, ◌+◌, ◌<◌, ◌≤◌, List, [], ◌∷◌, ◌++◌, map, length, refl, sym, ◌∙◌, ap, subst, inl, inr, arith}
use Rattle.std.specs.List.{Contains, AllByRecursion}
use Rattle.std.proofs.lemmas.List.Elements.{Contains-append_cases, Contains-append_left, Contains-push}
use Rattle.protocol.specs.Report.{Ascend}
use Rattle.journals.specs.Steps.{Step}
use Rattle.journals.specs.Journals.{Journals, IsEntry, InOrder, NumbersBelow}
use Rattle.journals.proofs.lemmas.Picks.{Numbered, Counts, same_ascending}
use Rattle.lists.proofs.lemmas.Members.{Contains-head, Contains-none, Contains-rest, Contains-one}
use Rattle.protocol.proofs.lemmas.Starts.{ascend_push}

map_push : (ps : List Numbered) (p : Numbered) → map (λ q. q.0) (ps ++ p ∷ []) ≡ map (λ q. q.0) ps ++ p.0 ∷ []
map_push [] p = refl
map_push (q ∷ ps) p = ap (λ l. q.0 ∷ l) (map_push ps p)

all_numbers : (P : ℕ → Type 0) (ps : List Numbered) → ((p : Numbered) → Contains ps p → P p.0) → AllByRecursion P (map (λ p. p.0) ps)
all_numbers P [] h = tt
all_numbers P (p ∷ ps) h = (h p (Contains-head p ps), all_numbers P ps (λ q k. h q (Contains-rest q p ps k)))

counts_push : (k : ℕ) (ps : List Numbered) (p : Numbered) → Counts k ps → p.0 ≡ k + length ps → Counts k (ps ++ p ∷ [])
counts_push k [] p h e = (omega (arith, e), tt)
counts_push k (q ∷ ps) p h e = (h.0, counts_push (k + 1) ps p h.1 (omega (arith, e)))

module _ (j : Journals) (k : ℕ) (numbers : NumbersBelow j k) where
  -- the entries with numbers below n
  record Part (n : ℕ) : Type 0 where
    es : List Numbered
    ascending : Ascend (map (λ p. p.0) es)
    there : (p : Numbered) → Contains es p → IsEntry j p.0 p.1
    all : (p : Numbered) → IsEntry j p.0 p.1 → p.0 < n → Contains es p
    below : (p : Numbered) → Contains es p → p.0 < n
    counts : Counts 0 es
    long : length es ≡ n

  part : (n : ℕ) → n ≤ k → Part n
  part zero l = record { es = []; ascending = tt; there = λ p h. absurd (Contains-none p h); all = λ p h l. absurd (omega arith); below = λ p h. absurd (Contains-none p h); counts = tt; long = refl }
  part (suc n) l = more (part n (omega (arith, l))) (numbers.some n l)
    where
      more : Part n → (e : Step) × IsEntry j n e → Part (suc n)
      more q e = record {
        es = q.es ++ (n, e.0) ∷ [];
        ascending = subst Ascend (sym (map_push q.es (n, e.0))) (ascend_push (map (λ p. p.0) q.es) n q.ascending (all_numbers (λ m. m < n) q.es q.below));
        there = λ p h. elim (Contains-append_cases q.es ((n, e.0) ∷ []) p h) [
          | inl old ↦ q.there p old
          | inr new ↦ subst (λ (x : Numbered). IsEntry j x.0 x.1) (sym (Contains-one p (n, e.0) new)) e.1
        ];
        all = λ p h l. known p h (split p.0 l);
        below = λ p h. elim (Contains-append_cases q.es ((n, e.0) ∷ []) p h) [
          | inl old ↦ (let b = q.below p old in omega (arith, b))
          | inr new ↦ (let b : p.0 ≡ n = ap (λ (x : Numbered). x.0) (Contains-one p (n, e.0) new) in omega (arith, b))
        ];
        counts = counts_push 0 q.es (n, e.0) q.counts (let b = q.long in omega (arith, b));
        long = length_push q.es (n, e.0) ∙ ap suc q.long;
      }
        where
          split : (m : ℕ) → m < suc n → (m < n) ⊎ (m ≡ n)
          split m l = grind arith

          known : (p : Numbered) → IsEntry j p.0 p.1 → (p.0 < n) ⊎ (p.0 ≡ n) → Contains (q.es ++ (n, e.0) ∷ []) p
          known p h (inl l) = Contains-append_left q.es ((n, e.0) ∷ []) p (q.all p h l)
          known p h (inr b) =
              let same : p.1 ≡ e.0 = numbers.once n p.1 e.0 (subst (λ (m : ℕ). IsEntry j m p.1) b h) e.1 in
              let is : ◌≡◌ {A = Numbered} (n, e.0) p = λ i. (sym b i, sym same i) in
              subst (λ (x : Numbered). Contains (q.es ++ (n, e.0) ∷ []) x) is (Contains-push q.es (n, e.0))

          length_push : (ps : List Numbered) (p : Numbered) → length (ps ++ p ∷ []) ≡ suc (length ps)
          length_push [] p = refl
          length_push (x ∷ ps) p = ap suc (length_push ps p)

  pub in_order : (es : List Numbered) × InOrder j es × Counts 0 es × (length es ≡ k)
  in_order =
      let q = part k (omega arith) in
      (q.es, record { ascending = q.ascending; entries = λ p. (q.there p, λ h. q.all p h (numbers.below p.0 p.1 h)) }, q.counts, q.long)

  -- and so have the entries in order whichever way they were found
  pub counts_of : (es : List Numbered) → InOrder j es → Counts 0 es
  counts_of es order =
      let q = in_order in
      let same : q.0 ≡ es = same_ascending (λ (p : Numbered). p.0) q.0 es q.1.ascending order.ascending (λ p h. (order.entries p).1 ((q.1.entries p).0 h)) (λ p h. (q.1.entries p).1 ((order.entries p).0 h)) in
      subst (Counts 0) same q.2
