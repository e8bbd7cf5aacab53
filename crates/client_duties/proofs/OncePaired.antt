-- No two rules drop, or hold, asks between the same two.
use Rattle.std.proofs.Common.{◌≡◌, ℕ, ◌+◌, ◌<◌, ◌==◌, ◌&&◌, Bool, true, false, cond, eqb, length, drop, get_or, subst, List, [], ◌∷◌, refl, ap, ◌∙◌, arith}
use Rattle.std.specs.List.{AllByRecursion, IsDistinct}
use Rattle.std.proofs.lemmas.Bool.Decides.{nat_tests}
use Rattle.std.proofs.lemmas.List.Sums.{sum_by-cons}
use Rattle.plan_words.specs.declared.fault.Fault.{Fault}
use Rattle.plan_words.specs.declared.fault.Fault.TheVariants.{LiarNode, LiarSound, LiarMix, LiarFlood, CrashNode, CrashClient, Lose, Hold}
use Rattle.plan_words.specs.Named.{dropped_pairs, held_pairs, pair_eq}
use Rattle.plan_followed.specs.Asked.{drops, drops_by, holds, holds_by}
use Rattle.client_duties.proofs.Folding.{from_place}

nothing : (b : Bool) (n m : ℕ) → b ≡ false → m ≡ 0 → cond b n 0 + m ≡ 0
nothing true n m e f = absurd (cc)
nothing false n m e f = omega arith

no_drops : (c i : ℕ) (rules : List Fault) → AllByRecursion (λ p. pair_eq (c, i) p ≡ false) (dropped_pairs rules) → drops rules c i ≡ 0
no_drops c i [] h = refl
no_drops c i (LiarNode node rule ∷ rules) h = no_drops c i rules h
no_drops c i (LiarSound client block time value count ∷ rules) h = no_drops c i rules h
no_drops c i (LiarMix client block time value other count ∷ rules) h = no_drops c i rules h
no_drops c i (LiarFlood client block time value other count ∷ rules) h = no_drops c i rules h
no_drops c i (CrashNode node count ∷ rules) h = no_drops c i rules h
no_drops c i (CrashClient client count ∷ rules) h = no_drops c i rules h
no_drops c i (Lose client node count ∷ rules) h = sum_by-cons (drops_by c i) (Lose client node count) rules ∙ nothing ((c == client) && (i == node)) count (drops rules c i) h.0 (no_drops c i rules h.1)
no_drops c i (Hold client node count ∷ rules) h = no_drops c i rules h

no_holds : (c i : ℕ) (rules : List Fault) → AllByRecursion (λ p. pair_eq (c, i) p ≡ false) (held_pairs rules) → holds rules c i ≡ 0
no_holds c i [] h = refl
no_holds c i (LiarNode node rule ∷ rules) h = no_holds c i rules h
no_holds c i (LiarSound client block time value count ∷ rules) h = no_holds c i rules h
no_holds c i (LiarMix client block time value other count ∷ rules) h = no_holds c i rules h
no_holds c i (LiarFlood client block time value other count ∷ rules) h = no_holds c i rules h
no_holds c i (CrashNode node count ∷ rules) h = no_holds c i rules h
no_holds c i (CrashClient client count ∷ rules) h = no_holds c i rules h
no_holds c i (Lose client node count ∷ rules) h = no_holds c i rules h
no_holds c i (Hold client node count ∷ rules) h = sum_by-cons (holds_by c i) (Hold client node count) rules ∙ nothing ((c == client) && (i == node)) count (holds rules c i) h.0 (no_holds c i rules h.1)

-- what is left of the rules after one that drops asks of the client to the node drops none of them
drops_once : (c i : ℕ) (rule : Fault) (rules : List Fault) → 0 < drops_by c i rule → IsDistinct pair_eq (dropped_pairs (rule ∷ rules)) → drops rules c i ≡ 0
unfolding IsDistinct
drops_once c i (LiarNode node rule) rules l h = absurd (omega arith)
drops_once c i (LiarSound client block time value count) rules l h = absurd (omega arith)
drops_once c i (LiarMix client block time value other count) rules l h = absurd (omega arith)
drops_once c i (LiarFlood client block time value other count) rules l h = absurd (omega arith)
drops_once c i (CrashNode node count) rules l h = absurd (omega arith)
drops_once c i (CrashClient client count) rules l h = absurd (omega arith)
drops_once c i (Hold client node count) rules l h = absurd (omega arith)
drops_once c i (Lose client node count) rules l h = no_drops c i rules (at (eqb c client) refl (eqb i node) refl l)
  where
    at : (b : Bool) → eqb c client ≡ b → (b' : Bool) → eqb i node ≡ b' → 0 < cond (b && b') count 0 → AllByRecursion (λ p. pair_eq (c, i) p ≡ false) (dropped_pairs rules)
    at true e true f m =
        let same : client ≡ c = grind (arith, nat_tests) in
        let also : node ≡ i = grind (arith, nat_tests) in
        subst (λ (x : ℕ). AllByRecursion (λ p. pair_eq (x, i) p ≡ false) (dropped_pairs rules)) same (subst (λ (y : ℕ). AllByRecursion (λ p. pair_eq (client, y) p ≡ false) (dropped_pairs rules)) also h.0)
    at true e false f m = absurd (omega arith)
    at false e b' f m = absurd (omega arith)

-- what is left of the rules after one that holds asks of the client to the node holds none of them
holds_once : (c i : ℕ) (rule : Fault) (rules : List Fault) → 0 < holds_by c i rule → IsDistinct pair_eq (held_pairs (rule ∷ rules)) → holds rules c i ≡ 0
unfolding IsDistinct
holds_once c i (LiarNode node rule) rules l h = absurd (omega arith)
holds_once c i (LiarSound client block time value count) rules l h = absurd (omega arith)
holds_once c i (LiarMix client block time value other count) rules l h = absurd (omega arith)
holds_once c i (LiarFlood client block time value other count) rules l h = absurd (omega arith)
holds_once c i (CrashNode node count) rules l h = absurd (omega arith)
holds_once c i (CrashClient client count) rules l h = absurd (omega arith)
holds_once c i (Lose client node count) rules l h = absurd (omega arith)
holds_once c i (Hold client node count) rules l h = no_holds c i rules (at (eqb c client) refl (eqb i node) refl l)
  where
    at : (b : Bool) → eqb c client ≡ b → (b' : Bool) → eqb i node ≡ b' → 0 < cond (b && b') count 0 → AllByRecursion (λ p. pair_eq (c, i) p ≡ false) (held_pairs rules)
    at true e true f m =
        let same : client ≡ c = grind (arith, nat_tests) in
        let also : node ≡ i = grind (arith, nat_tests) in
        subst (λ (x : ℕ). AllByRecursion (λ p. pair_eq (x, i) p ≡ false) (held_pairs rules)) same (subst (λ (y : ℕ). AllByRecursion (λ p. pair_eq (client, y) p ≡ false) (held_pairs rules)) also h.0)
    at true e false f m = absurd (omega arith)
    at false e b' f m = absurd (omega arith)

-- what is left of distinct pairs is distinct
pub drops_rest : (rule : Fault) (rules : List Fault) → IsDistinct pair_eq (dropped_pairs (rule ∷ rules)) → IsDistinct pair_eq (dropped_pairs rules)
unfolding IsDistinct
drops_rest (LiarNode node rule) rules h = h
drops_rest (LiarSound client block time value count) rules h = h
drops_rest (LiarMix client block time value other count) rules h = h
drops_rest (LiarFlood client block time value other count) rules h = h
drops_rest (CrashNode node count) rules h = h
drops_rest (CrashClient client count) rules h = h
drops_rest (Lose client node count) rules h = h.1
drops_rest (Hold client node count) rules h = h

pub holds_rest : (rule : Fault) (rules : List Fault) → IsDistinct pair_eq (held_pairs (rule ∷ rules)) → IsDistinct pair_eq (held_pairs rules)
unfolding IsDistinct
holds_rest (LiarNode node rule) rules h = h
holds_rest (LiarSound client block time value count) rules h = h
holds_rest (LiarMix client block time value other count) rules h = h
holds_rest (LiarFlood client block time value other count) rules h = h
holds_rest (CrashNode node count) rules h = h
holds_rest (CrashClient client count) rules h = h
holds_rest (Lose client node count) rules h = h
holds_rest (Hold client node count) rules h = h.1

-- ---- from rule to rule

pub drops_on : (rules : List Fault) (k : ℕ) (x : Fault) → k < length rules → x ≡ get_or rules k x → IsDistinct pair_eq (dropped_pairs (drop k rules)) → IsDistinct pair_eq (dropped_pairs (drop (k + 1) rules))
drops_on rules k x l e h = drops_rest x (drop (k + 1) rules) (subst (λ (xs : List Fault). IsDistinct pair_eq (dropped_pairs xs)) (from_place rules k x l e) h)

-- the sum over the rules from a place on
drops_from : (rules : List Fault) (k : ℕ) (x : Fault) (c i : ℕ) → k < length rules → x ≡ get_or rules k x → drops (drop k rules) c i ≡ drops_by c i x + drops (drop (k + 1) rules) c i
drops_from rules k x c i l e = ap (λ (xs : List Fault). drops xs c i) (from_place rules k x l e) ∙ sum_by-cons (drops_by c i) x (drop (k + 1) rules)

pub drops_next : (rules : List Fault) (k : ℕ) (x : Fault) (c i : ℕ) → k < length rules → x ≡ get_or rules k x → drops_by c i x ≡ 0 → drops (drop (k + 1) rules) c i ≡ drops (drop k rules) c i
drops_next rules k x c i l e z = let s = drops_from rules k x c i l e in omega arith

-- the first rule of the two is the only one
pub drops_only : (rules : List Fault) (k : ℕ) (x : Fault) (c i : ℕ) → k < length rules → x ≡ get_or rules k x → 0 < drops_by c i x → IsDistinct pair_eq (dropped_pairs (drop k rules)) → drops_by c i x ≡ drops (drop k rules) c i
drops_only rules k x c i l e m h =
    let s = drops_from rules k x c i l e in
    let none = drops_once c i x (drop (k + 1) rules) m (subst (λ (xs : List Fault). IsDistinct pair_eq (dropped_pairs xs)) (from_place rules k x l e) h) in
    omega arith

pub holds_on : (rules : List Fault) (k : ℕ) (x : Fault) → k < length rules → x ≡ get_or rules k x → IsDistinct pair_eq (held_pairs (drop k rules)) → IsDistinct pair_eq (held_pairs (drop (k + 1) rules))
holds_on rules k x l e h = holds_rest x (drop (k + 1) rules) (subst (λ (xs : List Fault). IsDistinct pair_eq (held_pairs xs)) (from_place rules k x l e) h)

-- the sum over the rules from a place on
holds_from : (rules : List Fault) (k : ℕ) (x : Fault) (c i : ℕ) → k < length rules → x ≡ get_or rules k x → holds (drop k rules) c i ≡ holds_by c i x + holds (drop (k + 1) rules) c i
holds_from rules k x c i l e = ap (λ (xs : List Fault). holds xs c i) (from_place rules k x l e) ∙ sum_by-cons (holds_by c i) x (drop (k + 1) rules)

pub holds_next : (rules : List Fault) (k : ℕ) (x : Fault) (c i : ℕ) → k < length rules → x ≡ get_or rules k x → holds_by c i x ≡ 0 → holds (drop (k + 1) rules) c i ≡ holds (drop k rules) c i
holds_next rules k x c i l e z = let s = holds_from rules k x c i l e in omega arith

-- the first rule of the two is the only one
pub holds_only : (rules : List Fault) (k : ℕ) (x : Fault) (c i : ℕ) → k < length rules → x ≡ get_or rules k x → 0 < holds_by c i x → IsDistinct pair_eq (held_pairs (drop k rules)) → holds_by c i x ≡ holds (drop k rules) c i
holds_only rules k x c i l e m h =
    let s = holds_from rules k x c i l e in
    let none = holds_once c i x (drop (k + 1) rules) m (subst (λ (xs : List Fault). IsDistinct pair_eq (held_pairs xs)) (from_place rules k x l e) h) in
    omega arith
