-- What a plan that fits says of its cluster: who lies is declared, is few, and doesn't crash.
use Rattle.std.proofs.Common.{◌≡◌, All, ℕ, ◌+◌, ◌<◌, ◌≤◌, Bool, true, false, ◌||◌, eqb, List, [], ◌∷◌, length, refl, sym, ap, subst, ◌∙◌, arith, inl, inr}
use Rattle.std.specs.Prelude.{fold, nat_eq, Option, None, Some}
use Rattle.std.specs.List.{AllByRecursion, IsDistinct, filter_map, cons_option}
use Rattle.std.specs.Ordering.{nat_cmp}
use Rattle.std.specs.BTreeSet.{insert_key}
use Rattle.std.proofs.lemmas.Bool.{cases_Bool}
use Rattle.std.proofs.lemmas.Bool.Decides.{eqb_tells}
use Rattle.std.proofs.lemmas.List.Elements.{All-from_recursion}
use Rattle.std.proofs.lemmas.Map.Views.{All-insert_key}
use Rattle.std.proofs.lemmas.Map.Keys.{IsDistinct-head, IsDistinct-tail}
use Rattle.std.proofs.Math.Bool.{or-false}
use Rattle.quorum_rules.specs.Limits.{Numbers}
use Rattle.wire_forms.specs.Liars.{has_number, IsClientNumber}
use Rattle.protocol.specs.Count.{count}
use Rattle.protocol.proofs.lemmas.Counting.{count_named}
use Rattle.plan_words.specs.declared.fault.Fault.{Fault}
use Rattle.plan_words.specs.declared.fault.Fault.TheVariants.{LiarNode, LiarSound, LiarMix, LiarFlood, CrashNode, CrashClient, Lose, Hold}
use Rattle.plan_words.specs.declared.plan.Plan.{Plan}
use Rattle.plan_words.specs.Named.{lying_node, lying_nodes, faulty_nodes, lying_client, lying_clients, ascending}
use Rattle.plan_words.specs.Plans.{IsFault, Fits}
use Rattle.journals.specs.Steps.{is_lying}
use Rattle.plan_followed.specs.Asked.{nature, crash_after}
use Rattle.plan_followed.specs.Laws.{OfPlans, HasConduct, HasLiars, HasCluster}
use Rattle.lists.proofs.lemmas.Tests.{or_swapped, or_twice}
use Rattle.lists.proofs.lemmas.Orders.{insert_key_cases}

-- ---- numbers in ascending order, each once

has_inserted : (ks : List ℕ) (k q : ℕ) → has_number (insert_key nat_cmp ks k) q ≡ (eqb q k || has_number ks q)
has_inserted [] k q = refl
has_inserted (x ∷ xs) k q =
    insert_key_cases x xs k (λ ks. has_number ks q ≡ (eqb q k || has_number (x ∷ xs) q))
    refl
    (λ same. rw same (or_twice (eqb q x) (has_number xs q)))
    (ap (λ (b : Bool). eqb q x || b) (has_inserted xs k q) ∙ or_swapped (eqb q x) (eqb q k) (has_number xs q))

length_inserted : (ks : List ℕ) (k : ℕ) → length (insert_key nat_cmp ks k) ≤ length ks + 1
length_inserted [] k = omega arith
length_inserted (x ∷ xs) k = let h = length_inserted xs k in insert_key_cases x xs k (λ ks. length ks ≤ length (x ∷ xs) + 1) (omega arith) (λ same. omega arith) (omega (arith, h))

has_all : (ks xs : List ℕ) (q : ℕ) → has_number (fold (insert_key nat_cmp) xs ks) q ≡ (has_number ks q || has_number xs q)
has_all [] xs q = refl
has_all (k ∷ ks) xs q =
    has_all ks (insert_key nat_cmp xs k) q ∙ ap (λ (b : Bool). has_number ks q || b) (has_inserted xs k q) ∙ turned (has_number ks q) (eqb q k) (has_number xs q)
  where
    turned : (a b c : Bool) → (a || (b || c)) ≡ ((b || a) || c)
    turned true true c = refl
    turned true false c = refl
    turned false true c = refl
    turned false false c = refl

length_all : (ks xs : List ℕ) → length (fold (insert_key nat_cmp) xs ks) ≤ length ks + length xs
length_all [] xs = omega arith
length_all (k ∷ ks) xs = omega (arith, length_all ks (insert_key nat_cmp xs k), length_inserted xs k)

all_all : (P : ℕ → Type 0) (ks xs : List ℕ) → AllByRecursion P ks → All P xs → All P (fold (insert_key nat_cmp) xs ks)
all_all P [] xs h a = a
all_all P (k ∷ ks) xs h a = all_all P ks (insert_key nat_cmp xs k) h.1 (All-insert_key nat_cmp k P xs a h.0)

has_ascending : (ks : List ℕ) (q : ℕ) → has_number (ascending ks) q ≡ has_number ks q
has_ascending ks q = has_all ks [] q ∙ or-false (has_number ks q)

length_ascending : (ks : List ℕ) → length (ascending ks) ≤ length ks
length_ascending ks = omega (arith, length_all ks [])

-- what holds of each thing with a number holds of the numbers
all_named : {X : Type 0} (h : X → Option ℕ) (Q : X → Type 0) (P : ℕ → Type 0) → ((x : X) (k : ℕ) → Q x → h x ≡ Some k → P k) → (xs : List X) → AllByRecursion Q xs → AllByRecursion P (filter_map h xs)
all_named h Q P to [] a = tt
all_named {X} h Q P to (x ∷ xs) a = at (h x) refl (all_named h Q P to xs a.1)
  where
    at : (o : Option ℕ) → h x ≡ o → AllByRecursion P (filter_map h xs) → AllByRecursion P (cons_option o (filter_map h xs))
    at None e rest = rest
    at (Some k) e rest = (to x k a.0 e, rest)

-- ---- who lies

lying_is : (rules : List Fault) (i : ℕ) → is_lying (nature rules i) ≡ has_number (lying_nodes rules) i
lying_is [] i = refl
lying_is (LiarNode node rule ∷ rs) i = elim (cases_Bool (eqb i node)) [ inl same ↦ rw same refl | inr other ↦ rw other (lying_is rs i) ]
lying_is (LiarSound client block time value count ∷ rs) i = lying_is rs i
lying_is (LiarMix client block time value other count ∷ rs) i = lying_is rs i
lying_is (LiarFlood client block time value other count ∷ rs) i = lying_is rs i
lying_is (CrashNode node count ∷ rs) i = lying_is rs i
lying_is (CrashClient client count ∷ rs) i = lying_is rs i
lying_is (Lose client node count ∷ rs) i = lying_is rs i
lying_is (Hold client node count ∷ rs) i = lying_is rs i

-- no rule of these makes the node lie or crash
abbrev IsFree : ℕ → List Fault → Type 0
IsFree i rs = AllByRecursion (λ y. nat_eq i y ≡ false) (faulty_nodes rs)

free_lasts : (rules : List Fault) (i : ℕ) → IsFree i rules → crash_after rules i ≡ None
free_lasts [] i h = refl
free_lasts (LiarNode node rule ∷ rs) i h = free_lasts rs i h.1
free_lasts (LiarSound client block time value count ∷ rs) i h = free_lasts rs i h
free_lasts (LiarMix client block time value other count ∷ rs) i h = free_lasts rs i h
free_lasts (LiarFlood client block time value other count ∷ rs) i h = free_lasts rs i h
free_lasts (CrashNode node count ∷ rs) i h = rw h.0 (free_lasts rs i h.1)
free_lasts (CrashClient client count ∷ rs) i h = free_lasts rs i h
free_lasts (Lose client node count ∷ rs) i h = free_lasts rs i h
free_lasts (Hold client node count ∷ rs) i h = free_lasts rs i h

free_is_true : (rules : List Fault) (i : ℕ) → IsFree i rules → has_number (lying_nodes rules) i ≡ false
free_is_true [] i h = refl
free_is_true (LiarNode node rule ∷ rs) i h = rw h.0 (free_is_true rs i h.1)
free_is_true (LiarSound client block time value count ∷ rs) i h = free_is_true rs i h
free_is_true (LiarMix client block time value other count ∷ rs) i h = free_is_true rs i h
free_is_true (LiarFlood client block time value other count ∷ rs) i h = free_is_true rs i h
free_is_true (CrashNode node count ∷ rs) i h = free_is_true rs i h.1
free_is_true (CrashClient client count ∷ rs) i h = free_is_true rs i h
free_is_true (Lose client node count ∷ rs) i h = free_is_true rs i h
free_is_true (Hold client node count ∷ rs) i h = free_is_true rs i h

liars_last : (rules : List Fault) (i : ℕ) → IsDistinct nat_eq (faulty_nodes rules) → has_number (lying_nodes rules) i ≡ true → crash_after rules i ≡ None
liars_last [] i h lies = refl
liars_last (LiarNode node rule ∷ rs) i h lies = elim (eqb_tells i node) [
  | inl same ↦ free_lasts rs i (subst (λ (k : ℕ). IsFree k rs) (sym same.1) (IsDistinct-head nat_eq node (faulty_nodes rs) h))
  | inr other ↦ (let rest : has_number (lying_nodes rs) i ≡ true = rw other.0 at lies in liars_last rs i (IsDistinct-tail nat_eq node (faulty_nodes rs) h) rest)
]
liars_last (LiarSound client block time value count ∷ rs) i h lies = liars_last rs i h lies
liars_last (LiarMix client block time value other count ∷ rs) i h lies = liars_last rs i h lies
liars_last (LiarFlood client block time value other count ∷ rs) i h lies = liars_last rs i h lies
liars_last (CrashNode node count ∷ rs) i h lies = elim (eqb_tells i node) [
  | inl same ↦ (
      let free = free_is_true rs i (subst (λ (k : ℕ). IsFree k rs) (sym same.1) (IsDistinct-head nat_eq node (faulty_nodes rs) h)) in
      absurd (cc)
      )
  | inr other ↦ rw other.0 (liars_last rs i (IsDistinct-tail nat_eq node (faulty_nodes rs) h) lies)
]
liars_last (CrashClient client count ∷ rs) i h lies = liars_last rs i h lies
liars_last (Lose client node count ∷ rs) i h lies = liars_last rs i h lies
liars_last (Hold client node count ∷ rs) i h lies = liars_last rs i h lies

-- ---- plans that fit

declared : (plan : Plan) → Fits plan → (i : ℕ) → has_number plan.liars.nodes i ≡ has_number (lying_nodes plan.rules) i
declared plan h i = ap (λ l. has_number l.nodes i) h.liars ∙ has_ascending (lying_nodes plan.rules) i

pub has_conduct : OfPlans HasConduct
has_conduct plan h = record {
  natures = λ i. lying_is plan.rules i ∙ sym (declared plan h i);
  lasting = λ i lies. liars_last plan.rules i h.fitting.once.nodes (sym (declared plan h i) ∙ lies);
}

-- a lying node is one, and a lying client has a client's number
node_there : (c : Numbers) (rule : Fault) (i : ℕ) → IsFault c rule → lying_node rule ≡ Some i → i < c.n
node_there c (LiarNode node rule) i h e = grind (arith, h.there)
node_there c (LiarSound client block time value count) i h e = absurd (cc)
node_there c (LiarMix client block time value other count) i h e = absurd (cc)
node_there c (LiarFlood client block time value other count) i h e = absurd (cc)
node_there c (CrashNode node count) i h e = absurd (cc)
node_there c (CrashClient client count) i h e = absurd (cc)
node_there c (Lose client node count) i h e = absurd (cc)
node_there c (Hold client node count) i h e = absurd (cc)

pub some_same : (a b : ℕ) → ◌≡◌ {A = Option ℕ} (Some a) (Some b) → IsClientNumber a → IsClientNumber b
some_same a b e h = let same : a ≡ b = cc in subst IsClientNumber same h

pub liar_there : (c : Numbers) (rule : Fault) (k : ℕ) → IsFault c rule → lying_client rule ≡ Some k → IsClientNumber k
liar_there c (LiarNode node rule) k h e = absurd (cc)
liar_there c (LiarSound client block time value count) k h e = some_same client k e h.0
liar_there c (LiarMix client block time value other count) k h e = some_same client k e h.0
liar_there c (LiarFlood client block time value other count) k h e = some_same client k e h.0
liar_there c (CrashNode node count) k h e = absurd (cc)
liar_there c (CrashClient client count) k h e = absurd (cc)
liar_there c (Lose client node count) k h e = absurd (cc)
liar_there c (Hold client node count) k h e = absurd (cc)

few_lie : (plan : Plan) → Fits plan → length plan.liars.nodes ≤ plan.config.b
few_lie plan h =
    let few = h.fitting.few.lying in
    let short = length_ascending (lying_nodes plan.rules) in
    let same : length plan.liars.nodes ≡ length (ascending (lying_nodes plan.rules)) = ap (λ l. length l.nodes) h.liars in
    omega (arith, few, short, same)

pub has_liars : OfPlans HasLiars
has_liars plan h = record {
  nodes = subst (λ l. All (λ i. i < plan.config.n) l.nodes) (sym h.liars)
      (all_all (λ i. i < plan.config.n) (lying_nodes plan.rules) [] (all_named lying_node (IsFault plan.config) (λ i. i < plan.config.n) (node_there plan.config) plan.rules h.fitting.each_rule) (All-from_recursion (λ i. i < plan.config.n) [] tt));
  few = few_lie plan h;
  clients = subst (λ l. All IsClientNumber l.clients) (sym h.liars)
      (all_all IsClientNumber (lying_clients plan.rules) [] (all_named lying_client (IsFault plan.config) IsClientNumber (liar_there plan.config) plan.rules h.fitting.each_rule) (All-from_recursion IsClientNumber [] tt));
}

pub has_cluster : OfPlans HasCluster
has_cluster plan h = record { config = h.valid; few = (let named = count_named plan.config.n plan.liars.nodes in let few = few_lie plan h in omega (arith, named, few)) }
