-- One more line of a plan: what is known of all lines after it.
use Rattle.std.proofs.Common.{◌≡◌, ℕ, ◌+◌, ◌*◌, ◌/◌, ◌^◌, ◌<◌, ◌≤◌, min, Bool, true, false, ◌||◌, ◌&&◌, cond, ltb, leb, List, [], ◌∷◌, ◌++◌, length, Option, Some, None, refl, sym, ap, subst, ◌∙◌, ◌⊎◌, inl, inr, arith}
use Rattle.std.specs.declared.cmp.Ordering.{Ordering}
use Rattle.std.specs.Prelude.{nat_eq, is_some, count_by, sum_by}
use Rattle.std.specs.List.{IsDistinct, filter_map, cons_option}
use Rattle.std.specs.Ordering.{nat_cmp, is_eq}
use Rattle.std.specs.BTreeSet.{BTreeSet, btree_set_len, IsOrdered}
use Rattle.std.specs.Set.{is_member, distinct_count}
use Rattle.std.proofs.lemmas.Bool.{cases_Bool, ltb-false, eqb-true, or_parts, or_cases}
use Rattle.std.proofs.lemmas.Bool.Decides.{nat_tests}
use Rattle.std.proofs.lemmas.Cmp.{nat_eq_equiv}
use Rattle.std.proofs.lemmas.List.{append-nil}
use Rattle.std.proofs.lemmas.List.Folds.{list_any-append}
use Rattle.std.proofs.lemmas.List.Sums.{sum_by_push}
use Rattle.std.proofs.Math.Bool.{or-false}
use Rattle.quorum_rules.specs.Limits.{Numbers}
use Rattle.plan_words.specs.Named.{pair_eq}
use Rattle.plan_words.specs.Plans.{step_limit}
use Rattle.plan_text.specs.declared.seen.Seen.{Seen}
use Rattle.plan_text.specs.Marks.{Marks}
use Rattle.plan_text.specs.Plans.{is_among, is_new, client_of}
use Rattle.plan_text.specs.Reading.{HasAll, IsSeen, AreFine, pair_cmp, seen_again, seen_of_liar, seen_client_too_many, seen_too_many, seen_cause}
use Rattle.plan_text.specs.Sets.{IsAdded}
use Rattle.plan_text.proofs.Sets.{has_more, nat_tie, pair_tie, pair_laws, more_named, more_length, distinct_more, len_is}
use Rattle.plan_text.proofs.Causes.{IsFree, no_cause}
use Rattle.lists.proofs.lemmas.Members.{all_push}

none_of_four : (a b c d : Bool) → (((a || b) || c) || d) ≡ false → (a ≡ false) × (b ≡ false) × (c ≡ false) × (d ≡ false)
none_of_four true b c d h = absurd cc
none_of_four false true c d h = absurd cc
none_of_four false false true d h = absurd cc
none_of_four false false false d h = (refl, refl, refl, h)

-- ---- what was seen

-- what a line of these marks names and counts was noted
pub record IsNoted (old new : Seen) (m : Marks) : Type 0 where
  pub faulty : IsAdded nat_cmp old.faulty new.faulty m.faulty_node
  pub crashing : IsAdded nat_cmp old.crashing new.crashing m.crashing_client
  pub dropped : IsAdded pair_cmp old.dropped new.dropped m.dropped
  pub held : IsAdded pair_cmp old.held new.held m.held
  pub lying : IsAdded nat_cmp old.lying new.lying m.lying_client
  pub asking : IsAdded nat_cmp old.asking new.asking m.asking_client
  pub clients : IsAdded nat_cmp old.clients new.clients (client_of m)
  pub lying_nodes : new.lying_nodes ≡ old.lying_nodes + cond (is_some m.lying_node) 1 0
  pub faulty_nodes : new.faulty_nodes ≡ old.faulty_nodes + cond (is_some m.faulty_node) 1 0
  pub floods : new.floods ≡ old.floods + cond m.is_flood 1 0
  pub phases : new.phases ≡ old.phases + cond m.is_phase 1 0
  pub steps : new.steps ≡ old.steps + m.steps

set_more : {K : Type 0} (cmp : K → K → Ordering) (eq : K → K → Bool) → ((x y : K) → is_eq (cmp x y) ≡ eq y x) → (g : Marks → Option K) (ms : List Marks) (m : Marks) (old new : BTreeSet K)
    → HasAll cmp eq old (filter_map g ms) → IsAdded cmp old new (g m) → HasAll cmp eq new (filter_map g (ms ++ m ∷ []))
set_more cmp eq tie g ms m old new h added q = has_more cmp eq tie old new (filter_map g ms) (g m) h added q ∙ ap (λ ks. is_member eq ks q) (sym (more_named g ms m))

ordered_more : (old new : BTreeSet ℕ) (o : Option ℕ) → IsOrdered nat_cmp old → IsAdded nat_cmp old new o → IsOrdered nat_cmp new
ordered_more old new None h added = subst (λ (s : BTreeSet ℕ). IsOrdered nat_cmp s) (sym added) h
ordered_more old new (Some k) h added = added.1

named_length : {X : Type 0} (g : Marks → Option X) (ms : List Marks) (m : Marks) → length (filter_map g (ms ++ m ∷ [])) ≡ length (filter_map g ms) + cond (is_some (g m)) 1 0
named_length {X} g ms m = ap (length {A = X}) (more_named g ms m) ∙ more_length (filter_map g ms) (g m)

pub seen_more : (ms : List Marks) (m : Marks) (old new : Seen) → IsSeen ms old → IsNoted old new m → IsSeen (ms ++ m ∷ []) new
seen_more ms m old new h n = record {
  faulty = set_more nat_cmp nat_eq nat_tie (λ e. e.faulty_node) ms m old.faulty new.faulty h.faulty n.faulty;
  crashing = set_more nat_cmp nat_eq nat_tie (λ e. e.crashing_client) ms m old.crashing new.crashing h.crashing n.crashing;
  dropped = set_more pair_cmp pair_eq pair_tie (λ e. e.dropped) ms m old.dropped new.dropped h.dropped n.dropped;
  held = set_more pair_cmp pair_eq pair_tie (λ e. e.held) ms m old.held new.held h.held n.held;
  lying = set_more nat_cmp nat_eq nat_tie (λ e. e.lying_client) ms m old.lying new.lying h.lying n.lying;
  asking = set_more nat_cmp nat_eq nat_tie (λ e. e.asking_client) ms m old.asking new.asking h.asking n.asking;
  clients = set_more nat_cmp nat_eq nat_tie client_of ms m old.clients new.clients h.clients n.clients;
  ordered = ordered_more old.clients new.clients (client_of m) h.ordered n.clients;
  lying_nodes = n.lying_nodes ∙ ap (λ x. x + cond (is_some m.lying_node) 1 0) h.lying_nodes ∙ sym (named_length (λ e. e.lying_node) ms m);
  faulty_nodes = n.faulty_nodes ∙ ap (λ x. x + cond (is_some m.faulty_node) 1 0) h.faulty_nodes ∙ sym (named_length (λ e. e.faulty_node) ms m);
  floods = n.floods ∙ ap (λ x. x + cond m.is_flood 1 0) h.floods ∙ sym (sum_by_push (λ (e : Marks). cond e.is_flood 1 0) ms m);
  phases = n.phases ∙ ap (λ x. x + cond m.is_phase 1 0) h.phases ∙ sym (sum_by_push (λ (e : Marks). cond e.is_phase 1 0) ms m);
  steps = n.steps ∙ ap (λ x. x + m.steps) h.steps ∙ sym (sum_by_push (λ (e : Marks). e.steps) ms m);
}

-- ---- nothing stands against the lines

no_room : (most n : ℕ) (b : Bool) → (b && leb most n) ≡ false → n ≤ most → n + cond b 1 0 ≤ most
no_room most n true h le = grind (arith, nat_tests)
no_room most n false h le = omega arith

apart_more : (lying asking : List ℕ) (l a : Option ℕ) → (l ≡ None) ⊎ (a ≡ None) → is_among nat_eq l asking ≡ false → is_among nat_eq a lying ≡ false
    → ((k : ℕ) → is_member nat_eq lying k ≡ true → is_member nat_eq asking k ≡ false)
    → (k : ℕ) → is_member nat_eq (lying ++ cons_option l []) k ≡ true → is_member nat_eq (asking ++ cons_option a []) k ≡ false
apart_more lying asking None None one p q h k is =
    ap (λ ks. is_member nat_eq ks k) (append-nil asking) ∙ h k (sym (ap (λ ks. is_member nat_eq ks k) (append-nil lying)) ∙ is)
apart_more lying asking None (Some x) one p q h k is =
    let there : is_member nat_eq lying k ≡ true = sym (ap (λ ks. is_member nat_eq ks k) (append-nil lying)) ∙ is in
    list_any-append (nat_eq k) asking (x ∷ [])
    ∙ elim (cases_Bool (nat_eq k x)) [
      | inl same ↦
          let e : k ≡ x = eqb-true k x same in
          let clash : true ≡ false = sym there ∙ ap (is_member nat_eq lying) e ∙ q in absurd cc
      | inr other ↦ rw (h k there, other) refl
    ]
apart_more lying asking (Some x) None one p q h k is =
    ap (λ ks. is_member nat_eq ks k) (append-nil asking)
    ∙ elim (or_cases (is_member nat_eq lying k) (nat_eq k x || false) (sym (list_any-append (nat_eq k) lying (x ∷ [])) ∙ is)) [
      | inl before ↦ h k before
      | inr now ↦ ap (is_member nat_eq asking) (eqb-true k x (sym (or-false (nat_eq k x)) ∙ now)) ∙ p
    ]
apart_more lying asking (Some x) (Some y) one p q h k is = elim one [ inl e ↦ absurd cc | inr e ↦ absurd cc ]

clients_more : (old new : BTreeSet ℕ) (keys : List ℕ) (o : Option ℕ) → HasAll nat_cmp nat_eq old keys → IsOrdered nat_cmp old → IsAdded nat_cmp old new o
    → (is_new nat_eq o keys && leb 64 (distinct_count nat_eq keys)) ≡ false → distinct_count nat_eq keys ≤ 64 → distinct_count nat_eq (keys ++ cons_option o []) ≤ 64
clients_more old new keys None h up added free few = subst (λ ks. distinct_count nat_eq ks ≤ 64) (sym (append-nil keys)) few
clients_more old new keys (Some k) h up added free few =
    let before = len_is old keys up h in
    let after = len_is new (keys ++ k ∷ []) added.1 (has_more nat_cmp nat_eq nat_tie old new keys (Some k) h added) in
    let len = added.2 in
    elim (cases_Bool (is_member nat_eq keys k)) [
      | inl there ↦ let same : btree_set_len new ≡ btree_set_len old + 0 = rw (h k, there) at len in omega arith
      | inr fresh ↦
          let one : btree_set_len new ≡ btree_set_len old + 1 = rw (h k, fresh) at len in
          let room : leb 64 (distinct_count nat_eq keys) ≡ false = rw fresh at free in
          let lt = below (distinct_count nat_eq keys) room in omega arith
    ]
  where
    below : (n : ℕ) → leb 64 n ≡ false → n < 64
    below n h = grind (arith, nat_tests)

pub fine_more : (c : Numbers) (ms : List Marks) (m : Marks) (old new : Seen) → AreFine c ms → IsFree c ms m → (m.lying_client ≡ None) ⊎ (m.asking_client ≡ None) → IsSeen ms old → IsAdded nat_cmp old.clients new.clients (client_of m)
    → AreFine c (ms ++ m ∷ [])
fine_more c ms m old new fine free one seen added =
    let again = none_of_four (is_among nat_eq m.faulty_node (filter_map (λ e. e.faulty_node) ms)) (is_among nat_eq m.crashing_client (filter_map (λ e. e.crashing_client) ms)) (is_among pair_eq m.dropped (filter_map (λ e. e.dropped) ms)) (is_among pair_eq m.held (filter_map (λ e. e.held) ms)) free.again in
    let liar = or_parts (is_among nat_eq m.lying_client (filter_map (λ e. e.asking_client) ms)) (is_among nat_eq m.asking_client (filter_map (λ e. e.lying_client) ms)) free.of_liar in
    let line = none_of_four (is_new nat_eq (client_of m) (filter_map client_of ms) && leb 64 (distinct_count nat_eq (filter_map client_of ms))) (m.is_flood && leb 8 (count_by (λ e. e.is_flood) ms)) (m.is_phase && leb 64 (count_by (λ e. e.is_phase) ms)) (ltb (step_limit c) (sum_by (λ e. e.steps) ms + m.steps)) free.line in
    record {
      nodes = subst (IsDistinct nat_eq) (sym (more_named (λ e. e.faulty_node) ms m)) (distinct_more nat_eq_equiv (filter_map (λ e. e.faulty_node) ms) m.faulty_node fine.nodes again.0);
      crashes = subst (IsDistinct nat_eq) (sym (more_named (λ e. e.crashing_client) ms m)) (distinct_more nat_eq_equiv (filter_map (λ e. e.crashing_client) ms) m.crashing_client fine.crashes again.1);
      drops = subst (IsDistinct pair_eq) (sym (more_named (λ e. e.dropped) ms m)) (distinct_more pair_laws (filter_map (λ e. e.dropped) ms) m.dropped fine.drops again.2);
      holds = subst (IsDistinct pair_eq) (sym (more_named (λ e. e.held) ms m)) (distinct_more pair_laws (filter_map (λ e. e.held) ms) m.held fine.holds again.3);
      lying = subst (λ n. n ≤ c.b) (sym (named_length (λ e. e.lying_node) ms m)) (no_room c.b _ (is_some m.lying_node) free.liar fine.lying);
      faulty = subst (λ n. n ≤ c.t) (sym (named_length (λ e. e.faulty_node) ms m)) (no_room c.t _ (is_some m.faulty_node) free.faulty fine.faulty);
      apart = λ k is.
          ap (λ ks. is_member nat_eq ks k) (more_named (λ e. e.asking_client) ms m)
          ∙ apart_more (filter_map (λ e. e.lying_client) ms) (filter_map (λ e. e.asking_client) ms) m.lying_client m.asking_client one liar.0 liar.1 fine.apart k
          (sym (ap (λ ks. is_member nat_eq ks k) (more_named (λ e. e.lying_client) ms m)) ∙ is);
      clients = subst (λ ks. distinct_count nat_eq ks ≤ 64) (sym (more_named client_of ms m)) (clients_more old.clients new.clients (filter_map client_of ms) (client_of m) seen.clients seen.ordered added line.0 fine.clients);
      floods = subst (λ n. n ≤ 8) (sym (sum_by_push (λ (e : Marks). cond e.is_flood 1 0) ms m)) (no_room 8 _ m.is_flood line.1 fine.floods);
      phases = subst (λ n. n ≤ 64) (sym (sum_by_push (λ (e : Marks). cond e.is_phase 1 0) ms m)) (no_room 64 _ m.is_phase line.2 fine.phases);
      steps = subst (λ n. n ≤ step_limit c) (sym (sum_by_push (λ (e : Marks). e.steps) ms m)) (ltb-false (step_limit c) (sum_by (λ e. e.steps) ms + m.steps) line.3);
      in_device = all_push (λ (e : Marks). e.fault ≡ None) ms m fine.in_device free.fault;
    }

limited : (n : ℕ) → min 4000 n ≤ 4000
limited n = omega arith

-- the block operations of a line that has nothing against it can be counted
pub steps_fit : (c : Numbers) (seen : Seen) (m : Marks) → seen_cause c seen m ≡ None → seen.steps + m.steps < 2 ^ 64
steps_fit c seen m h =
    let p = no_cause (seen_again seen m) (is_some m.lying_node && leb c.b seen.lying_nodes) (is_some m.faulty_node && leb c.t seen.faulty_nodes) (seen_of_liar seen m) (seen_too_many c seen m) m.fault h in
    let q = none_of_four (seen_client_too_many seen m) (m.is_flood && leb 8 seen.floods) (m.is_phase && leb 64 seen.phases) (ltb (step_limit c) (seen.steps + m.steps)) p.4 in
    let le : seen.steps + m.steps ≤ step_limit c = ltb-false (step_limit c) (seen.steps + m.steps) q.3 in
    let few : step_limit c ≤ 4000 = limited (500000000 / (c.n * (c.size + 32 * c.n + 128))) in
    below (seen.steps + m.steps) (step_limit c) le few
  where
    below : (n most : ℕ) → n ≤ most → most ≤ 4000 → n < 2 ^ 64
    below n most a b = omega arith
