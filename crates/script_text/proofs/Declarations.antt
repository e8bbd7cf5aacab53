-- What liar lines declare, and their lines.
use Rattle.std.proofs.Common.{◌≡◌, All, ℕ, ◌+◌, ◌^◌, ◌≤◌, ◌<◌, Bool, true, false, ◌||◌, ◌&&◌, cond, eqb, leb, List, [], ◌∷◌, ◌++◌, length, map, drop, get_or, None, refl, sym, ap, ◌∙◌, arith, inl, inr}
use Rattle.std.specs.Prelude.{codes, decimal, count_by}
use Rattle.std.specs.List.{list_any, AllByRecursion, IsDistinct}
use Rattle.std.specs.Str.{bytes_eq}
use Rattle.std.specs.Ordering.{nat_cmp}
use Rattle.std.specs.BTreeSet.{insert_key}
use Rattle.std.proofs.lemmas.Bool.{cases_Bool, lt-leb, eqb-true, false≢true, true≢false, or_parts, eq-eqb}
use Rattle.std.proofs.lemmas.Bool.Decides.{nat_tests}
use Rattle.std.proofs.lemmas.List.Sums.{sum_by-cons, sum_by_push}
use Rattle.std.proofs.lemmas.Map.Views.{All-insert_key}
use Rattle.std.proofs.lemmas.Slice.Eq.{bytes_eq-Decides}
use Rattle.std.proofs.lemmas.Fmt.{decimal_injective}
use Rattle.quorum_rules.specs.Limits.{Numbers, IsValid, IsOfScripts}
use Rattle.text_lines.specs.Lines.{fields_of, Lacks}
use Rattle.text_lines.proofs.lemmas.Joined.{parts-joined, Lacks-append, Lacks-decimal}
use Rattle.wire_forms.specs.Liars.{Liars, has_number, IsClientNumber}
use Rattle.script_text.specs.declared.liars.Declared.{Declared}
use Rattle.script_text.specs.declared.liars.Declared.TheVariants.{Node, Client}
use Rattle.script_text.specs.Replays.{liar_fields, liar_line, IsDeclarable, is_same, with_declared, with_all, liars_of, is_liar_line, is_liar_node, is_event}
use Rattle.script_text.specs.Reading.{is_node, has_declared, again_cause, AreDeclared}
use Rattle.lists.proofs.lemmas.Members.{all_push}
use Rattle.lists.proofs.lemmas.Tests.{or_swapped, or_twice, bool_eq}
use Rattle.lists.proofs.lemmas.Orders.{insert_key_cases}

-- ---- the line of what is declared

abbrev number_in : Declared → ℕ
number_in (Node n) = n
number_in (Client k) = k

abbrev pub IsLow : Declared → Type 0
IsLow d = number_in d < 2 ^ 64

pub low : (c : Numbers) (d : Declared) → IsValid c → IsDeclarable c d → IsLow d
low c (Node n) v i = let top = v.nodes.1 in let lt : n < c.n = i in omega arith
low c (Client k) v i = let top : k ≤ 1000 = i.1 in omega arith

pub all_low : (c : Numbers) (ds : List Declared) → IsValid c → AllByRecursion (IsDeclarable c) ds → AllByRecursion IsLow ds
all_low c [] v h = tt
all_low c (d ∷ ds) v h = (low c d v h.0, all_low c ds v h.1)

pub fields_back : (d : Declared) → IsLow d → fields_of (liar_line d) ≡ liar_fields d
fields_back (Node n) lt = parts-joined 32 (codes "liar") (codes "node" ∷ decimal n ∷ []) (refl, (refl, (Lacks-decimal 32 n (omega arith) lt, tt)))
fields_back (Client k) lt = parts-joined 32 (codes "liar") (codes "client" ∷ decimal k ∷ []) (refl, (refl, (Lacks-decimal 32 k (omega arith) lt, tt)))

pub liar_lacks : (d : Declared) → IsLow d → Lacks 10 (liar_line d)
liar_lacks (Node n) lt = Lacks-append 10 (codes "liar node ") (decimal n) refl (Lacks-decimal 10 n (omega arith) lt)
liar_lacks (Client k) lt = Lacks-append 10 (codes "liar client ") (decimal k) refl (Lacks-decimal 10 k (omega arith) lt)

pub line_is_liar : (d : Declared) → IsLow d → is_liar_line (liar_line d) ≡ true
unfolding is_liar_line
line_is_liar d lt = ap (λ (fs : List (List ℕ)). bytes_eq (get_or fs 0 []) (codes "liar")) (fields_back d lt) ∙ word d
  where
    word : (d : Declared) → bytes_eq (get_or (liar_fields d) 0 []) (codes "liar") ≡ true
    word (Node n) = refl
    word (Client k) = refl

-- the first word of a liar line
pub first_is_liar : (line : List ℕ) → is_liar_line line ≡ true → get_or (fields_of line) 0 [] ≡ codes "liar"
unfolding is_liar_line
first_is_liar line h = (bytes_eq-Decides (get_or (fields_of line) 0 []) (codes "liar")).0 h

second_word : (d : Declared) → bytes_eq (get_or (liar_fields d) 1 []) (codes "node") ≡ is_node d
second_word (Node n) = refl
second_word (Client k) = refl

pub line_is_node : (d : Declared) → IsLow d → is_liar_node (liar_line d) ≡ is_node d
unfolding is_liar_node
line_is_node d lt =
    ap (λ (b : Bool). b && bytes_eq (get_or (fields_of (liar_line d)) 1 []) (codes "node")) (line_is_liar d lt)
    ∙ ap (λ (fs : List (List ℕ)). bytes_eq (get_or fs 1 []) (codes "node")) (fields_back d lt) ∙ second_word d

same_is : (d e : Declared) → is_same d e ≡ true → d ≡ e
same_is (Node m) (Node n) h = ap Node (eqb-true m n h)
same_is (Client m) (Client n) h = ap Client (eqb-true m n h)
same_is (Node m) (Client n) h = absurd (false≢true h)
same_is (Client m) (Node n) h = absurd (false≢true h)

-- different things are declared by different lines
pub line_says : (d e : Declared) → IsLow d → IsLow e → liar_line d ≡ liar_line e → d ≡ e
line_says (Node m) (Node n) p q h = ap Node (decimal_injective m n p q (ap (λ (l : List ℕ). drop 10 l) h))
line_says (Client m) (Client n) p q h = ap Client (decimal_injective m n p q (ap (λ (l : List ℕ). drop 12 l) h))
line_says (Node m) (Client n) p q h = absurd (true≢false (ap (λ (l : List ℕ). eqb (get_or l 5 0) 110) h))
line_says (Client m) (Node n) p q h = absurd (false≢true (ap (λ (l : List ℕ). eqb (get_or l 5 0) 110) h))

pub same_itself : (d : Declared) → is_same d d ≡ true
same_itself (Node n) = eq-eqb n n refl
same_itself (Client k) = eq-eqb k k refl

line_is_same : (d e : Declared) → IsLow d → IsLow e → bytes_eq (liar_line d) (liar_line e) ≡ is_same d e
line_is_same d e p q =
    bool_eq (bytes_eq (liar_line d) (liar_line e)) (is_same d e)
    (λ h. ap (is_same d) (sym (line_says d e p q ((bytes_eq-Decides (liar_line d) (liar_line e)).0 h))) ∙ same_itself d)
    (λ h. (bytes_eq-Decides (liar_line d) (liar_line e)).1 (ap liar_line (same_is d e h)))

pub lines_have : (ds : List Declared) (e : Declared) → AllByRecursion IsLow ds → IsLow e → list_any (λ l. bytes_eq l (liar_line e)) (map liar_line ds) ≡ list_any (λ d. is_same d e) ds
lines_have [] e p q = refl
lines_have (d ∷ ds) e p q = rw (line_is_same d e p.0 q, lines_have ds e p.1 q) refl

pub lines_count : (ds : List Declared) → AllByRecursion IsLow ds → count_by is_liar_node (map liar_line ds) ≡ count_by is_node ds
lines_count [] h = refl
lines_count (d ∷ ds) h =
    sum_by-cons (λ x. cond (is_liar_node x) 1 0) (liar_line d) (map liar_line ds)
    ∙ rw (line_is_node d h.0, lines_count ds h.1) (sym (sum_by-cons (λ x. cond (is_node x) 1 0) d ds))

pub no_events : (ds : List Declared) → AllByRecursion IsLow ds → list_any is_event (map liar_line ds) ≡ false
no_events [] h = refl
no_events (d ∷ ds) h = rw (line_is_liar d h.0) (no_events ds h.1)

-- ---- a number put among others

eqb_turned : (a b : ℕ) → eqb a b ≡ eqb b a
eqb_turned a b = bool_eq (eqb a b) (eqb b a) (λ h. eq-eqb b a (sym (eqb-true a b h))) (λ h. eq-eqb a b (sym (eqb-true b a h)))

pub insert_has : (ks : List ℕ) (k q : ℕ) → has_number (insert_key nat_cmp ks k) q ≡ (eqb k q || has_number ks q)
insert_has [] k q = ap (λ (b : Bool). b || false) (eqb_turned q k)
insert_has (x ∷ xs) k q =
    insert_key_cases x xs k (λ ks. has_number ks q ≡ (eqb k q || has_number (x ∷ xs) q))
    (ap (λ (b : Bool). b || has_number (x ∷ xs) q) (eqb_turned q k))
    (λ same. rw (same, eqb_turned x q) (or_twice (eqb q x) (has_number xs q)))
    (ap (λ (b : Bool). eqb q x || b) (insert_has xs k q) ∙ or_swapped (eqb q x) (eqb k q) (has_number xs q))

pub insert_longer : (ks : List ℕ) (k : ℕ) → length ks ≤ length (insert_key nat_cmp ks k)
insert_longer [] k = omega arith
insert_longer (x ∷ xs) k = let h = insert_longer xs k in insert_key_cases x xs k (λ ks. length (x ∷ xs) ≤ length ks) (omega arith) (λ same. omega arith) (omega arith)

pub insert_length : (ks : List ℕ) (k : ℕ) → has_number ks k ≡ false → length (insert_key nat_cmp ks k) ≡ length ks + 1
insert_length [] k h = refl
insert_length (x ∷ xs) k h =
    let p = or_parts (eqb k x) (has_number xs k) h in
    let more = insert_length xs k p.1 in
    insert_key_cases x xs k (λ ks. length ks ≡ length (x ∷ xs) + 1) (omega arith) (λ same. absurd (false≢true (sym p.0 ∙ eq-eqb k x same))) (omega arith)

-- ---- liars and one more

declared_has : (l : Liars) (d e : Declared) → has_declared (with_declared l d) e ≡ (is_same d e || has_declared l e)
declared_has l (Node m) (Node n) = insert_has l.nodes m n
declared_has l (Client m) (Client n) = insert_has l.clients m n
declared_has l (Node m) (Client n) = refl
declared_has l (Client m) (Node n) = refl

or_moved : (a b c : Bool) → ((a || b) || c) ≡ (b || (a || c))
or_moved true true c = refl
or_moved true false c = refl
or_moved false true c = refl
or_moved false false c = refl

all_have : (l : Liars) (ds : List Declared) (e : Declared) → has_declared (with_all l ds) e ≡ (has_declared l e || list_any (λ d. is_same d e) ds)
all_have l [] e = sym (or_end (has_declared l e))
  where
    or_end : (b : Bool) → (b || false) ≡ b
    or_end true = refl
    or_end false = refl
all_have l (d ∷ ds) e =
    all_have (with_declared l d) ds e ∙ ap (λ (b : Bool). b || list_any (λ x. is_same x e) ds) (declared_has l d e)
    ∙ or_moved (is_same d e) (has_declared l e) (list_any (λ x. is_same x e) ds)

none_has : (e : Declared) → has_declared (record { nodes = []; clients = [] }) e ≡ false
none_has (Node n) = refl
none_has (Client k) = refl

-- the liars that are declared are those of the lines
pub have_declared : (ds : List Declared) (e : Declared) → has_declared (liars_of ds) e ≡ list_any (λ d. is_same d e) ds
have_declared ds e = all_have _ ds e ∙ ap (λ (b : Bool). b || list_any (λ d. is_same d e) ds) (none_has e)

pub pushed_all : (l : Liars) (ds : List Declared) (d : Declared) → with_all l (ds ++ d ∷ []) ≡ with_declared (with_all l ds) d
pushed_all l [] d = refl
pushed_all l (x ∷ ds) d = pushed_all (with_declared l x) ds d

declared_longer : (l : Liars) (d : Declared) → length l.nodes ≤ length (with_declared l d).nodes
declared_longer l (Node n) = insert_longer l.nodes n
declared_longer l (Client k) = omega arith

pub all_longer : (l : Liars) (ds : List Declared) → length l.nodes ≤ length (with_all l ds).nodes
all_longer l [] = omega arith
all_longer l (d ∷ ds) = let a = declared_longer l d in let b = all_longer (with_declared l d) ds in omega arith

pub declared_length : (l : Liars) (d : Declared) → has_declared l d ≡ false → length (with_declared l d).nodes ≡ length l.nodes + cond (is_node d) 1 0
declared_length l (Node n) h = insert_length l.nodes n h
declared_length l (Client k) h = omega arith

-- ---- each is declared once

push_once : (ds : List Declared) (e : Declared) → IsDistinct is_same ds → list_any (λ d. is_same d e) ds ≡ false → IsDistinct is_same (ds ++ e ∷ [])
unfolding IsDistinct
push_once [] e h none = (tt, tt)
push_once (d ∷ ds) e h none =
    let p = or_parts (is_same d e) (list_any (λ x. is_same x e) ds) none in
    (all_push (λ x. is_same d x ≡ false) ds e h.0 p.0, push_once ds e h.1 p.1)

among : {A : Type 0} (P : A → Type 0) (xs more : List A) (x : A) → AllByRecursion P (xs ++ x ∷ more) → P x
among P [] more x h = h.0
among P (y ∷ ys) more x h = among P ys more x h.1

pub once_before : (ds more : List Declared) (e : Declared) → IsDistinct is_same (ds ++ e ∷ more) → list_any (λ d. is_same d e) ds ≡ false
unfolding IsDistinct
once_before [] more e h = refl
once_before (d ∷ ds) more e h = rw (among (λ x. is_same d x ≡ false) ds more e h.0) (once_before ds more e h.1)

-- ---- what was read so far

-- there is nothing against declaring one more
pub record IsFree (c : Numbers) (l : Liars) (d : Declared) : Type 0 where
  pub new : has_declared l d ≡ false
  pub room : is_node d ≡ true → length l.nodes < c.b

and_room : (a : Bool) (b n : ℕ) → (a && leb b n) ≡ false → a ≡ true → n < b
and_room true b n h e = grind (arith, nat_tests)
and_room false b n h e = absurd (false≢true e)

no_room : (a : Bool) (b n : ℕ) → (a ≡ true → n < b) → (a && leb b n) ≡ false
no_room true b n h = lt-leb b n (h refl)
no_room false b n h = refl

pub free_from_none : (c : Numbers) (l : Liars) (d : Declared) → again_cause c l d ≡ None → IsFree c l d
free_from_none c l d h =
    elim (cases_Bool (has_declared l d)) [
      | inl there ↦ let clash = rw there at h in absurd cc
      | inr new ↦ elim (cases_Bool (is_node d && leb c.b (length l.nodes))) [
        | inl full ↦ let clash = rw (new, full) at h in absurd cc
        | inr free ↦ record { new = new; room = and_room (is_node d) c.b (length l.nodes) free }
      ]
    ]

pub none_from_free : (c : Numbers) (l : Liars) (d : Declared) → IsFree c l d → again_cause c l d ≡ None
none_from_free c l d f = rw (f.new, no_room (is_node d) c.b (length l.nodes) f.room) refl

room_left : (b : Bool) (n most : ℕ) → n ≤ most → (b ≡ true → n < most) → n + cond b 1 0 ≤ most
room_left true n most h room = let lt = room refl in omega arith
room_left false n most h room = omega arith

pub none_declared : (c : Numbers) → IsValid c → IsOfScripts c → AreDeclared c [] (record { nodes = []; clients = [] })
unfolding IsDistinct
none_declared c v known = record { valid = v; of_scripts = known; declarable = tt; once = tt; all = refl; counted = refl; few = omega arith }

pub one_declared : (c : Numbers) (ds : List Declared) (l : Liars) (d : Declared) → AreDeclared c ds l → IsDeclarable c d → IsFree c l d → AreDeclared c (ds ++ d ∷ []) (with_declared l d)
one_declared c ds l d a i f =
    let new : list_any (λ x. is_same x d) ds ≡ false = sym (have_declared ds d) ∙ ap (λ (m : Liars). has_declared m d) a.all ∙ f.new in
    let longer = declared_length l d f.new in
    record {
      valid = a.valid;
      of_scripts = a.of_scripts;
      declarable = all_push (IsDeclarable c) ds d a.declarable i;
      once = push_once ds d a.once new;
      all = pushed_all _ ds d ∙ ap (λ (m : Liars). with_declared m d) a.all;
      counted = sum_by_push (λ x. cond (is_node x) 1 0) ds d ∙ ap (λ (n : ℕ). n + cond (is_node d) 1 0) a.counted ∙ sym longer;
      few = rw longer (room_left (is_node d) (length l.nodes) c.b a.few f.room);
    }

-- ---- who is declared

all_inside : (c : Numbers) (l : Liars) (ds : List Declared) → All (λ n. n < c.n) l.nodes → All IsClientNumber l.clients → AllByRecursion (IsDeclarable c) ds
    → All (λ n. n < c.n) (with_all l ds).nodes × All IsClientNumber (with_all l ds).clients
all_inside c l [] n k h = (n, k)
all_inside c l (Node m ∷ ds) n k h = all_inside c (with_declared l (Node m)) ds (All-insert_key nat_cmp m (λ n. n < c.n) l.nodes n h.0) k h.1
all_inside c l (Client m ∷ ds) n k h = all_inside c (with_declared l (Client m)) ds n (All-insert_key nat_cmp m IsClientNumber l.clients k h.0) h.1

pub declared_inside : (c : Numbers) (ds : List Declared) → AllByRecursion (IsDeclarable c) ds → All (λ n. n < c.n) (liars_of ds).nodes × All IsClientNumber (liars_of ds).clients
declared_inside c ds h = all_inside c _ ds (λ k d lt. absurd (omega arith)) (λ k d lt. absurd (omega arith)) h
