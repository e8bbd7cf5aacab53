-- Nothing stands against a line of a plan that fits.
use Rattle.std.proofs.Common.{◌≡◌, ℕ, ◌+◌, ◌<◌, ◌≤◌, Bool, true, false, ◌||◌, ◌&&◌, cond, ltb, leb, List, [], ◌∷◌, ◌++◌, length, Option, Some, None, refl, sym, ap, subst, ◌∙◌, inl, inr, arith, length-append}
use Rattle.std.specs.Prelude.{nat_eq, is_some, count_by, sum_by}
use Rattle.std.specs.Cmp.{IsEquivalence}
use Rattle.std.specs.List.{AllByRecursion, IsDistinct, filter_map, cons_option}
use Rattle.std.specs.Set.{is_member, unique_keys, distinct_count}
use Rattle.std.proofs.lemmas.Bool.{cases_Bool, le-ltb, eqb-true, or_left, or_right}
use Rattle.std.proofs.lemmas.Bool.Decides.{nat_tests}
use Rattle.std.proofs.lemmas.Cmp.{nat_eq_equiv}
use Rattle.std.proofs.lemmas.List.Elements.{filter_map-append}
use Rattle.std.proofs.lemmas.List.Folds.{list_any-append}
use Rattle.std.proofs.lemmas.List.Sums.{sum_by-append, sum_by-cons}
use Rattle.std.proofs.lemmas.Map.Made.{length-le_from_is_member}
use Rattle.quorum_rules.specs.Limits.{Numbers}
use Rattle.plan_words.specs.Named.{pair_eq}
use Rattle.plan_words.specs.Plans.{step_limit}
use Rattle.plan_text.specs.Marks.{Marks}
use Rattle.plan_text.specs.Plans.{is_among, is_new, client_of, names_again, is_of_liar, is_liar_too_many, is_faulty_too_many, is_line_too_many, later_cause}
use Rattle.plan_text.specs.Reading.{AreFine}
use Rattle.plan_text.proofs.Sets.{pair_laws}

-- ---- different numbers

unique_member : (xs : List ℕ) (q : ℕ) → is_member nat_eq (unique_keys nat_eq xs) q ≡ is_member nat_eq xs q
unique_member [] q = refl
unique_member (x ∷ xs) q =
    elim (cases_Bool (is_member nat_eq xs x)) [
      | inl there ↦ rw there (unique_member xs q ∙ sym (absorbed q x xs there))
      | inr fresh ↦ rw fresh (ap (λ b. nat_eq q x || b) (unique_member xs q))
    ]
  where
    absorbed : (q x : ℕ) (xs : List ℕ) → is_member nat_eq xs x ≡ true → (nat_eq q x || is_member nat_eq xs q) ≡ is_member nat_eq xs q
    absorbed q x xs there =
        elim (cases_Bool (nat_eq q x)) [
          | inl same ↦ rw same (sym (ap (is_member nat_eq xs) (eqb-true q x same) ∙ there))
          | inr other ↦ rw other refl
        ]

absent_each : (x : ℕ) (ys : List ℕ) → is_member nat_eq ys x ≡ false → AllByRecursion (λ y. nat_eq x y ≡ false) ys
absent_each x [] h = tt
absent_each x (y ∷ ys) h = let p = parts (nat_eq x y) (is_member nat_eq ys x) h in (p.0, absent_each x ys p.1)
  where
    parts : (a b : Bool) → (a || b) ≡ false → (a ≡ false) × (b ≡ false)
    parts true b h = absurd cc
    parts false b h = (refl, h)

unique_distinct : (xs : List ℕ) → IsDistinct nat_eq (unique_keys nat_eq xs)
unfolding IsDistinct
unique_distinct [] = tt
unique_distinct (x ∷ xs) =
    elim (cases_Bool (is_member nat_eq xs x)) [
      | inl there ↦ rw there (unique_distinct xs)
      | inr fresh ↦ rw fresh (absent_each x (unique_keys nat_eq xs) (unique_member xs x ∙ fresh), unique_distinct xs)
    ]

-- a list with all that another has has as many different numbers
pub fewer_different : (xs ys : List ℕ) → ((q : ℕ) → is_member nat_eq xs q ≡ true → is_member nat_eq ys q ≡ true) → distinct_count nat_eq xs ≤ distinct_count nat_eq ys
fewer_different xs ys h =
    length-le_from_is_member nat_eq_equiv (unique_keys nat_eq xs) (unique_keys nat_eq ys) (unique_distinct xs)
    (λ q is. unique_member ys q ∙ h q (sym (unique_member xs q) ∙ is))

-- and one more where it has a further one
one_more_different : (k : ℕ) (xs ys : List ℕ) → is_member nat_eq xs k ≡ false → ((q : ℕ) → is_member nat_eq (k ∷ xs) q ≡ true → is_member nat_eq ys q ≡ true) → distinct_count nat_eq xs + 1 ≤ distinct_count nat_eq ys
one_more_different k xs ys fresh h =
    let more = fewer_different (k ∷ xs) ys h in
    let one : distinct_count nat_eq (k ∷ xs) ≡ distinct_count nat_eq xs + 1 = longer k xs fresh in
    omega arith
  where
    longer : (k : ℕ) (xs : List ℕ) → is_member nat_eq xs k ≡ false → distinct_count nat_eq (k ∷ xs) ≡ distinct_count nat_eq xs + 1
    longer k xs fresh = rw fresh (omega arith)

-- ---- one among all

first_false : (a b : Bool) → (a || b) ≡ false → a ≡ false
first_false true b h = absurd cc
first_false false b h = refl

distinct_at : {K : Type 0} {eq : K → K → Bool} → IsEquivalence eq → (xs : List K) (o : Option K) (ys : List K) → IsDistinct eq (xs ++ cons_option o ys) → is_among eq o xs ≡ false
unfolding IsDistinct
distinct_at {K} {eq} laws xs None ys h = refl
distinct_at {K} {eq} laws [] (Some x) ys h = refl
distinct_at {K} {eq} laws (z ∷ zs) (Some x) ys h = rw (laws.symm x z ∙ among z zs x ys h.0) (distinct_at {K = K} {eq = eq} laws zs (Some x) ys h.1)
  where
    among : (z : K) (zs : List K) (x : K) (ys : List K) → AllByRecursion (λ y. eq z y ≡ false) (zs ++ x ∷ ys) → eq z x ≡ false
    among z [] x ys h = h.0
    among z (w ∷ zs) x ys h = among z zs x ys h.1

room_at : {X : Type 0} (most : ℕ) (xs : List X) (o : Option X) (ys : List X) → length (xs ++ cons_option o ys) ≤ most → (is_some o && leb most (length xs)) ≡ false
room_at most xs None ys h = refl
room_at most xs (Some x) ys h = let len = length-append xs (x ∷ ys) in not_full most (length xs) (omega arith)
  where
    not_full : (most n : ℕ) → n < most → leb most n ≡ false
    not_full most n h = grind (arith, nat_tests)

-- who lies asks nowhere
apart_at : (lying asking xs : List ℕ) (o : Option ℕ) (ys more : List ℕ) → lying ≡ xs ++ cons_option o ys → asking ≡ more → ((k : ℕ) → is_member nat_eq lying k ≡ true → is_member nat_eq asking k ≡ false)
    → (before after : List ℕ) → more ≡ before ++ after → is_among nat_eq o before ≡ false
apart_at lying asking xs None ys more a b h before after e = refl
apart_at lying asking xs (Some k) ys more a b h before after e =
    let here : is_member nat_eq lying k ≡ true = ap (λ ks. is_member nat_eq ks k) a ∙ list_any-append (nat_eq k) xs (k ∷ ys) ∙ or_right _ _ (or_left (nat_eq k k) (is_member nat_eq ys k) (same k)) in
    let none : is_member nat_eq asking k ≡ false = h k here in
    let all : (is_member nat_eq before k || is_member nat_eq after k) ≡ false = sym (list_any-append (nat_eq k) before after) ∙ ap (λ ks. is_member nat_eq ks k) (sym e ∙ sym b) ∙ none in
    first_false (is_member nat_eq before k) (is_member nat_eq after k) all
  where
    same : (k : ℕ) → nat_eq k k ≡ true
    same k = grind arith

client_at : (xs : List ℕ) (o : Option ℕ) (ys : List ℕ) → distinct_count nat_eq (xs ++ cons_option o ys) ≤ 64 → (is_new nat_eq o xs && leb 64 (distinct_count nat_eq xs)) ≡ false
client_at xs None ys h = refl
client_at xs (Some k) ys h =
    elim (cases_Bool (is_member nat_eq xs k)) [
      | inl there ↦ rw there refl
      | inr fresh ↦
          let more = one_more_different k xs (xs ++ k ∷ ys) fresh (λ q is. list_any-append (nat_eq q) xs (k ∷ ys) ∙ turned (nat_eq q k) (is_member nat_eq xs q) (is_member nat_eq ys q) is) in
          rw fresh (not_full (distinct_count nat_eq xs) (omega arith))
    ]
  where
    not_full : (n : ℕ) → n < 64 → leb 64 n ≡ false
    not_full n h = grind (arith, nat_tests)

    turned : (a b d : Bool) → (a || b) ≡ true → (b || (a || d)) ≡ true
    turned true true d h = refl
    turned true false d h = refl
    turned false true d h = refl
    turned false false d h = absurd cc

count_at : (most n : ℕ) (b : Bool) (rest : ℕ) → n + (cond b 1 0 + rest) ≤ most → (b && leb most n) ≡ false
count_at most n true rest h = grind (arith, nat_tests)
count_at most n false rest h = refl

sum_at : (f : Marks → ℕ) (before : List Marks) (m : Marks) (after : List Marks) → sum_by f (before ++ m ∷ after) ≡ sum_by f before + (f m + sum_by f after)
sum_at f before m after = sum_by-append f before (m ∷ after) ∙ ap (λ n. sum_by f before + n) (sum_by-cons f m after)

none_false : (a b d e : Bool) → a ≡ false → b ≡ false → d ≡ false → e ≡ false → (((a || b) || d) || e) ≡ false
none_false a b d e p q r s = rw (p, q, r, s) refl

at_place : {A : Type 0} (P : A → Type 0) (xs : List A) (x : A) (ys : List A) → AllByRecursion P (xs ++ x ∷ ys) → P x
at_place P [] x ys h = h.0
at_place P (z ∷ zs) x ys h = at_place P zs x ys h.1

-- nothing stands against a line among lines of which this holds
pub none_standing : (c : Numbers) (before : List Marks) (m : Marks) (after : List Marks) → AreFine c (before ++ m ∷ after) → later_cause c before m ≡ None
unfolding later_cause
none_standing c before m after fine =
    let nodes = distinct_at nat_eq_equiv (filter_map (λ e. e.faulty_node) before) m.faulty_node (filter_map (λ e. e.faulty_node) after) (subst (IsDistinct nat_eq) (filter_map-append (λ (e : Marks). e.faulty_node) before (m ∷ after)) fine.nodes) in
    let crashes = distinct_at nat_eq_equiv (filter_map (λ e. e.crashing_client) before) m.crashing_client (filter_map (λ e. e.crashing_client) after) (subst (IsDistinct nat_eq) (filter_map-append (λ (e : Marks). e.crashing_client) before (m ∷ after)) fine.crashes) in
    let drops = distinct_at pair_laws (filter_map (λ e. e.dropped) before) m.dropped (filter_map (λ e. e.dropped) after) (subst (IsDistinct pair_eq) (filter_map-append (λ (e : Marks). e.dropped) before (m ∷ after)) fine.drops) in
    let holds = distinct_at pair_laws (filter_map (λ e. e.held) before) m.held (filter_map (λ e. e.held) after) (subst (IsDistinct pair_eq) (filter_map-append (λ (e : Marks). e.held) before (m ∷ after)) fine.holds) in
    let again : names_again before m ≡ false = none_false _ _ _ _ nodes crashes drops holds in
    let liar : is_liar_too_many c before m ≡ false = room_at c.b (filter_map (λ e. e.lying_node) before) m.lying_node (filter_map (λ e. e.lying_node) after) (subst (λ (ks : List ℕ). length ks ≤ c.b) (filter_map-append (λ (e : Marks). e.lying_node) before (m ∷ after)) fine.lying) in
    let faulty : is_faulty_too_many c before m ≡ false = room_at c.t (filter_map (λ e. e.faulty_node) before) m.faulty_node (filter_map (λ e. e.faulty_node) after) (subst (λ (ks : List ℕ). length ks ≤ c.t) (filter_map-append (λ (e : Marks). e.faulty_node) before (m ∷ after)) fine.faulty) in
    let all = before ++ m ∷ after in
    let lying = filter_map-append (λ (e : Marks). e.lying_client) before (m ∷ after) in
    let asking = filter_map-append (λ (e : Marks). e.asking_client) before (m ∷ after) in
    let one =
    apart_at (filter_map (λ e. e.lying_client) all) (filter_map (λ e. e.asking_client) all) (filter_map (λ e. e.lying_client) before) m.lying_client (filter_map (λ e. e.lying_client) after) (filter_map (λ e. e.asking_client) all) lying refl fine.apart
    (filter_map (λ e. e.asking_client) before) (filter_map (λ e. e.asking_client) (m ∷ after)) asking in
    let two =
    apart_at (filter_map (λ e. e.asking_client) all) (filter_map (λ e. e.lying_client) all) (filter_map (λ e. e.asking_client) before) m.asking_client (filter_map (λ e. e.asking_client) after) (filter_map (λ e. e.lying_client) all) asking refl
    (λ k is. not_both (is_member nat_eq (filter_map (λ e. e.lying_client) all) k) (is_member nat_eq (filter_map (λ e. e.asking_client) all) k) (fine.apart k) is)
    (filter_map (λ e. e.lying_client) before) (filter_map (λ e. e.lying_client) (m ∷ after)) lying in
    let of_liar : is_of_liar before m ≡ false = rw (one, two) refl in
    let client = client_at (filter_map client_of before) (client_of m) (filter_map client_of after) (subst (λ ks. distinct_count nat_eq ks ≤ 64) (filter_map-append client_of before (m ∷ after)) fine.clients) in
    let flood = count_at 8 (count_by (λ e. e.is_flood) before) m.is_flood (count_by (λ e. e.is_flood) after) (subst (λ n. n ≤ 8) (sum_at (λ e. cond e.is_flood 1 0) before m after) fine.floods) in
    let phase = count_at 64 (count_by (λ e. e.is_phase) before) m.is_phase (count_by (λ e. e.is_phase) after) (subst (λ n. n ≤ 64) (sum_at (λ e. cond e.is_phase 1 0) before m after) fine.phases) in
    let steps = below_limit (step_limit c) (sum_by (λ e. e.steps) before) m.steps (sum_by (λ e. e.steps) after) (subst (λ n. n ≤ step_limit c) (sum_at (λ e. e.steps) before m after) fine.steps) in
    let line : is_line_too_many c before m ≡ false = none_false _ _ _ _ client flood phase steps in
    let fault = at_place (λ (e : Marks). e.fault ≡ None) before m after fine.in_device in
    rw (again, liar, faulty, of_liar, line, fault) refl
  where
    not_both : (a b : Bool) → (a ≡ true → b ≡ false) → b ≡ true → a ≡ false
    not_both true b h is = let clash : true ≡ false = sym is ∙ h refl in absurd cc
    not_both false b h is = refl

    below_limit : (most n k rest : ℕ) → n + (k + rest) ≤ most → ltb most (n + k) ≡ false
    below_limit most n k rest h = le-ltb most (n + k) (omega arith)
