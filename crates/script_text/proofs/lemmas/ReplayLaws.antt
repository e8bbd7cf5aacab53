-- A text that spells a replay is accepted, and spells no other.
use Rattle.std.proofs.Common.{◌≡◌, ℕ, ◌+◌, ◌≤◌, ◌<◌, Bool, true, false, ◌&&◌, cond, leb, ltb, eqb, ◌^◌, lit≤, List, [], ◌∷◌, ◌++◌, length, map, drop, get_or, None, refl, sym, ap, subst, ◌∙◌, append_assoc, length-append, arith, inl, inr}
use Rattle.std.specs.Prelude.{decimal}
use Rattle.std.specs.List.{list_any, AllByRecursion, IsDistinct}
use Rattle.std.specs.List.Sorted.{IsStrictlySortedBy}
use Rattle.std.specs.Ordering.{nat_cmp}
use Rattle.std.specs.declared.cmp.Ordering.TheVariants.{Less}
use Rattle.std.specs.BTreeSet.{insert_key}
use Rattle.std.proofs.lemmas.Bool.{cases_Bool, eqb-true, lt-leb, false≢true, or_right}
use Rattle.std.proofs.lemmas.Bool.Decides.{nat_tests}
use Rattle.std.proofs.lemmas.Fmt.{decimal_nonempty}
use Rattle.std.proofs.lemmas.List.{append-nil, map_push}
use Rattle.std.proofs.lemmas.List.Concat.{flat_map-append}
use Rattle.std.proofs.lemmas.List.Elements.{recursion_from_All}
use Rattle.quorum_rules.specs.Limits.{Numbers, IsValid, IsOfScripts}
use Rattle.text_lines.specs.Lines.{fields_of, line_of_fields, text_of_lines}
use Rattle.text_lines.proofs.lemmas.Numbers.{number_of-decimal}
use Rattle.wire_forms.specs.Liars.{Liars, has_number, IsClientNumber}
use Rattle.line_forms.specs.Heads.{head_lines, head_text, header, cluster_fields}
use Rattle.line_forms.specs.Texts.{IsFaultless, ReadsTo}
use Rattle.line_forms.proofs.lemmas.Accepted.{head_accepted, one_head}
use Rattle.line_forms.proofs.lemmas.Tables.{or_none}
use Rattle.line_forms.proofs.lemmas.Texts.{reads_on, read_all, line_next, push_same}
use Rattle.event_lines.specs.Forms.{fields_cause, event_cause}
use Rattle.event_lines.specs.Lines.{event_text, IsEventLine}
use Rattle.event_lines.specs.declared.line.ReplayLine.{ReplayLine}
use Rattle.event_lines.proofs.lemmas.Accepted.{event_accepted}
use Rattle.event_lines.proofs.lemmas.Lines.{one_line}
use Rattle.event_lines.proofs.lemmas.Unique.{one_event}
use Rattle.script_text.specs.declared.liars.Declared.{Declared}
use Rattle.script_text.specs.declared.liars.Declared.TheVariants.{Node, Client}
use Rattle.script_text.specs.Replays.{liar_line, liar_fields, liar_forms, IsDeclarable, is_same, with_declared, with_all, liars_of, declarations, event_limit, IsReplay, AreAscendingLiars, Spells, replay_lines, replay_text, replay_body, replay_script, is_liar_line}
use Rattle.script_text.specs.Reading.{AreDeclared, AreAscending, has_declared, later_cause}
use Rattle.script_text.proofs.Declarations.{IsLow, low, all_low, fields_back, liar_lacks, line_is_liar, line_says, same_itself, IsFree, none_from_free, none_declared, one_declared, once_before, have_declared, pushed_all, all_longer, declared_length}
use Rattle.script_text.proofs.Causes.{liar_again, later_here, event_no_liar}
use Rattle.script_text.proofs.Steps.{body_here, body_lines}
use Rattle.script_text.proofs.lemmas.Ascending.{no_less, other_above}
use Rattle.lists.proofs.lemmas.Members.{all_push}
use Rattle.lists.proofs.lemmas.Tests.{not_zero, other_below}
use Rattle.lists.proofs.lemmas.Orders.{less_of_nat_cmp}

-- ---- liar lines

inside : (n least end : ℕ) → least ≤ n → n < end → (leb least n && ltb n end) ≡ true
inside n least end le lt = grind (arith, nat_tests)

no_form_cause : (c : Numbers) (d : Declared) → IsValid c → IsDeclarable c d → fields_cause (liar_forms c) (drop 1 (liar_fields d)) ≡ None
no_form_cause c (Node n) v i =
    let top = v.nodes.1 in
    let lt : n < c.n = i in
    let some : 0 < length (decimal n) = decimal_nonempty n (omega arith) in
    let small : n < 2 ^ 8 = omega arith in
    rw (not_zero (length (decimal n)) some, number_of-decimal (2 ^ 8) n (lit≤ tt) small, inside n 0 c.n (omega arith) lt) refl
no_form_cause c (Client k) v i =
    let first : 1 ≤ k = i.0 in
    let last : k ≤ 1000 = i.1 in
    let some : 0 < length (decimal k) = decimal_nonempty k (omega arith) in
    let small : k < 2 ^ 32 = omega arith in
    rw (not_zero (length (decimal k)) some, number_of-decimal (2 ^ 32) k (lit≤ tt) small, inside k 1 1001 first (omega arith)) refl

all_append : (l : Liars) (ds more : List Declared) → with_all l (ds ++ more) ≡ with_all (with_all l ds) more
all_append l [] more = refl
all_append l (d ∷ ds) more = all_append (with_declared l d) ds more

-- one of the lines may stand after those before it
free_here : (c : Numbers) (ds more : List Declared) (d : Declared) → IsDistinct is_same (ds ++ d ∷ more) → length (liars_of (ds ++ d ∷ more)).nodes ≤ c.b → IsFree c (liars_of ds) d
free_here c ds more d once few =
    let new : has_declared (liars_of ds) d ≡ false = have_declared ds d ∙ once_before ds more d once in
    record {
      new = new;
      room = λ is.
          let longer = declared_length (liars_of ds) d new in
          let one : length (with_declared (liars_of ds) d).nodes ≡ length (liars_of ds).nodes + 1 = longer ∙ ap (λ (b : Bool). length (liars_of ds).nodes + cond b 1 0) is in
          let more_left = all_longer (with_declared (liars_of ds) d) more in
          let whole : length (liars_of (ds ++ d ∷ more)).nodes ≡ length (with_all (with_declared (liars_of ds) d) more).nodes = ap (λ (l : Liars). length l.nodes) (all_append _ ds (d ∷ more)) in
          omega arith;
    }

push_lines : (first : List (List ℕ)) (ds : List Declared) (d : Declared) → (first ++ map liar_line ds) ++ liar_line d ∷ [] ≡ first ++ map liar_line (ds ++ d ∷ [])
push_lines first ds d = append_assoc first (map liar_line ds) (liar_line d ∷ []) ∙ ap (λ (ls : List (List ℕ)). first ++ ls) (sym (map_push liar_line ds d))

liars_accepted : (text : List ℕ) (c : Numbers) (ds more all : List Declared) (rest : List ℕ) → ds ++ more ≡ all → IsDistinct is_same all → length (liars_of all).nodes ≤ c.b → AllByRecursion (IsDeclarable c) more → AreDeclared c ds (liars_of ds)
    → ReadsTo replay_script text (head_lines c ++ map liar_line ds) (text_of_lines (map liar_line more) ++ rest) → ReadsTo replay_script text (head_lines c ++ map liar_line all) rest
liars_accepted text c ds [] all rest e once few i a r = subst (λ (xs : List Declared). ReadsTo replay_script text (head_lines c ++ map liar_line xs) rest) (sym (append-nil ds) ∙ e) r
liars_accepted text c ds (d ∷ more) all rest e once few i a r =
    let is_low = low c d a.valid i.0 in
    let free = free_here c ds more d (subst (IsDistinct is_same) (sym e) once) (subst (λ (xs : List Declared). length (liars_of xs).nodes ≤ c.b) (sym e) few) in
    let form : fields_cause (liar_forms c) (drop 1 (fields_of (liar_line d))) ≡ None = ap (λ (fs : List (List ℕ)). fields_cause (liar_forms c) (drop 1 fs)) (fields_back d is_low) ∙ no_form_cause c d a.valid i.0 in
    let none = body_here c (map liar_line ds) (liar_line d) a.valid a.of_scripts ∙ liar_again c ds (liars_of ds) d (liar_line d) a (line_is_liar d is_low) form i.0 refl ∙ none_from_free c (liars_of ds) d free in
    let on = reads_on replay_script text (head_lines c ++ map liar_line ds) (liar_line d) _ (text_of_lines (map liar_line more) ++ rest) r (line_next (liar_line d) (text_of_lines (map liar_line more)) rest (liar_lacks d is_low)) none in
    let more_declared = subst (AreDeclared c (ds ++ d ∷ [])) (sym (pushed_all _ ds d)) (one_declared c ds (liars_of ds) d a i.0 free) in
    liars_accepted text c (ds ++ d ∷ []) more all rest (append_assoc ds (d ∷ []) more ∙ e) once few i.1 more_declared
    (subst (λ (ls : List (List ℕ)). ReadsTo replay_script text ls (text_of_lines (map liar_line more) ++ rest)) (push_lines (head_lines c) ds d) on)

-- ---- event lines

no_later_cause : (c : Numbers) (n : ℕ) (e : ReplayLine) → IsEventLine c e → n < event_limit c → later_cause c n (event_text e) ≡ None
no_later_cause c n e i lt = rw (event_no_liar c e i) (or_none (event_cause c (event_text e)) _ None (event_accepted c e i) (rw (lt-leb (event_limit c) n lt) refl))

push_event : (first liars : List (List ℕ)) (es : List ReplayLine) (e : ReplayLine) → (first ++ (liars ++ map event_text es)) ++ event_text e ∷ [] ≡ first ++ (liars ++ map event_text (es ++ e ∷ []))
push_event first liars es e =
    append_assoc first (liars ++ map event_text es) (event_text e ∷ []) ∙ ap (λ (ls : List (List ℕ)). first ++ ls) (append_assoc liars (map event_text es) (event_text e ∷ []) ∙ ap (λ (ls : List (List ℕ)). liars ++ ls) (sym (map_push event_text es e)))

events_accepted : (text : List ℕ) (c : Numbers) (ds : List Declared) (es more all : List ReplayLine) (rest : List ℕ) → IsValid c → IsOfScripts c → AllByRecursion (IsDeclarable c) ds → es ++ more ≡ all → length all ≤ event_limit c → AllByRecursion (IsEventLine c) es → AllByRecursion (IsEventLine c) more
    → ReadsTo replay_script text (replay_lines c ds es) (text_of_lines (map event_text more) ++ rest) → ReadsTo replay_script text (replay_lines c ds all) rest
events_accepted text c ds es [] all rest v known i e few h k r = subst (λ (xs : List ReplayLine). ReadsTo replay_script text (replay_lines c ds xs) rest) (sym (append-nil es) ∙ e) r
events_accepted text c ds es (x ∷ more) all rest v known i e few h k r =
    let len = length-append es (x ∷ more) in
    let lt : length es < event_limit c = omega (arith, ap length e) in
    let none = body_here c (body_lines ds es) (event_text x) v known ∙ later_here c ds es (event_text x) v i h (λ none. event_no_liar c x k.0) ∙ no_later_cause c (length es) x k.0 lt in
    let on = reads_on replay_script text (replay_lines c ds es) (event_text x) _ (text_of_lines (map event_text more) ++ rest) r (line_next (event_text x) (text_of_lines (map event_text more)) rest (one_line c x k.0)) none in
    events_accepted text c ds (es ++ x ∷ []) more all rest v known i (append_assoc es (x ∷ []) more ∙ e) few (all_push (IsEventLine c) es x h k.0) k.1
    (subst (λ (ls : List (List ℕ)). ReadsTo replay_script text ls (text_of_lines (map event_text more) ++ rest)) (push_event (head_lines c) (map liar_line ds) es x) on)

-- ---- the whole text

each_there : (all ds : List Declared) → ((d : Declared) → list_any (λ x. is_same x d) ds ≡ true → list_any (λ x. is_same x d) all ≡ true) → AllByRecursion (λ d. list_any (λ x. is_same x d) all ≡ true) ds
each_there all [] f = tt
each_there all (d ∷ ds) f = (f d (rw (same_itself d) refl), each_there all ds (λ e h. f e (or_right (is_same d e) _ h)))

has_inside : (P : ℕ → Type 0) (ks : List ℕ) (q : ℕ) → AllByRecursion P ks → has_number ks q ≡ true → P q
has_inside P [] q h there = absurd (false≢true there)
has_inside P (k ∷ ks) q h there = elim (cases_Bool (eqb q k)) [ inl same ↦ subst P (sym (eqb-true q k same)) h.0 | inr other ↦ has_inside P ks q h.1 (rw other at there) ]

there_declarable : (c : Numbers) (l : Liars) (d : Declared) → AreAscendingLiars c l → has_declared l d ≡ true → IsDeclarable c d
there_declarable c l (Node n) a h = has_inside (λ k. k < c.n) l.nodes n (recursion_from_All (λ k. k < c.n) l.nodes a.may_lie.nodes) h
there_declarable c l (Client n) a h = has_inside IsClientNumber l.clients n (recursion_from_All IsClientNumber l.clients a.may_lie.clients) h

each_declarable : (c : Numbers) (all ds : List Declared) → AreAscendingLiars c (liars_of all) → AllByRecursion (λ d. list_any (λ x. is_same x d) all ≡ true) ds → AllByRecursion (IsDeclarable c) ds
each_declarable c all [] a h = tt
each_declarable c all (d ∷ ds) a h = (there_declarable c (liars_of all) d a (have_declared all d ∙ h.0), each_declarable c all ds a h.1)

pub spelled_declarable : (text : List ℕ) (c : Numbers) (l : Liars) (es : List ReplayLine) (s : Spells text c l es) → IsReplay c l es → AllByRecursion (IsDeclarable c) s.declared
spelled_declarable text c l es s r = each_declarable c s.declared s.declared (subst (AreAscendingLiars c) (sym s.all) r.lying) (each_there s.declared s.declared (λ d h. h))

pub spelled_reads : (text : List ℕ) (c : Numbers) (l : Liars) (es : List ReplayLine) (s : Spells text c l es) → IsReplay c l es → ReadsTo replay_script text (replay_lines c s.declared es) []
spelled_reads text c l es s r =
    let liars = text_of_lines (map liar_line s.declared) in
    let events = text_of_lines (map event_text es) in
    let whole : head_text c ++ (liars ++ (events ++ [])) ≡ text =
    ap (λ (t : List ℕ). head_text c ++ (liars ++ t)) (append-nil events) ∙ ap (λ (t : List ℕ). head_text c ++ t) (sym (flat_map-append (λ l. l ++ 10 ∷ []) (map liar_line s.declared) (map event_text es)))
    ∙ sym (flat_map-append (λ l. l ++ 10 ∷ []) (head_lines c) (body_lines s.declared es)) ∙ sym s.spelled in
    let head = subst (λ (t : List ℕ). ReadsTo replay_script t (head_lines c) (liars ++ (events ++ []))) whole (head_accepted replay_body c (liars ++ (events ++ [])) r.valid r.of_scripts) in
    let declarable = spelled_declarable text c l es s r in
    let few : length (liars_of s.declared).nodes ≤ c.b = subst (λ (k : Liars). length k.nodes ≤ c.b) (sym s.all) r.lying.may_lie.few in
    let declared = liars_accepted text c [] s.declared s.declared (events ++ []) refl s.once few declarable (none_declared c r.valid r.of_scripts) head in
    let lines : head_lines c ++ map liar_line s.declared ≡ replay_lines c s.declared [] = ap (λ (ls : List (List ℕ)). head_lines c ++ ls) (sym (append-nil (map liar_line s.declared))) in
    events_accepted text c s.declared [] es es [] r.valid r.of_scripts declarable refl r.limited tt r.events (subst (λ (ls : List (List ℕ)). ReadsTo replay_script text ls (events ++ [])) lines declared)

pub replay_accepted : (text : List ℕ) (c : Numbers) (l : Liars) (es : List ReplayLine) → IsReplay c l es → Spells text c l es → IsFaultless replay_script text
replay_accepted text c l es r s = read_all replay_script text (header c.edition) (line_of_fields (cluster_fields c) ∷ body_lines s.declared es) [] (spelled_reads text c l es s r) refl refl

-- ---- one text, one replay

events_one : (c : Numbers) (es fs : List ReplayLine) → AllByRecursion (IsEventLine c) es → AllByRecursion (IsEventLine c) fs → map event_text es ≡ map event_text fs → es ≡ fs
events_one c [] [] h k e = refl
events_one c [] (f ∷ fs) h k e = absurd cc
events_one c (x ∷ es) [] h k e = absurd cc
events_one c (x ∷ es) (f ∷ fs) h k e =
    let head : event_text x ≡ event_text f = ap (λ (ls : List (List ℕ)). get_or ls 0 []) e in
    let tail = events_one c es fs h.1 k.1 (ap (λ (ls : List (List ℕ)). drop 1 ls) e) in
    ap (λ (y : ReplayLine). y ∷ es) (one_event c x f h.0 k.0 head) ∙ ap (λ (ys : List ReplayLine). f ∷ ys) tail

no_liar_among : (c : Numbers) (es : List ReplayLine) (d : Declared) (lines : List (List ℕ)) → AllByRecursion (IsEventLine c) es → IsLow d → map event_text es ≡ liar_line d ∷ lines → ⊥
no_liar_among c [] d lines h lt e = cc
no_liar_among c (x ∷ es) d lines h lt e =
    let same : event_text x ≡ liar_line d = ap (λ (ls : List (List ℕ)). get_or ls 0 []) e in
    false≢true (sym (event_no_liar c x h.0) ∙ ap is_liar_line same ∙ line_is_liar d lt)

body_one : (c : Numbers) (ds gs : List Declared) (es fs : List ReplayLine) → AllByRecursion IsLow ds → AllByRecursion IsLow gs → AllByRecursion (IsEventLine c) es → AllByRecursion (IsEventLine c) fs → body_lines ds es ≡ body_lines gs fs → (ds ≡ gs) × (es ≡ fs)
body_one c [] [] es fs p q h k e = (refl, events_one c es fs h k e)
body_one c [] (g ∷ gs) es fs p q h k e = absurd (no_liar_among c es g (body_lines gs fs) h q.0 e)
body_one c (d ∷ ds) [] es fs p q h k e = absurd (no_liar_among c fs d (body_lines ds es) k p.0 (sym e))
body_one c (d ∷ ds) (g ∷ gs) es fs p q h k e =
    let head = line_says d g p.0 q.0 (ap (λ (ls : List (List ℕ)). get_or ls 0 []) e) in
    let tail = body_one c ds gs es fs p.1 q.1 h k (ap (λ (ls : List (List ℕ)). drop 1 ls) e) in
    (ap (λ (x : Declared). x ∷ ds) head ∙ ap (λ (xs : List Declared). g ∷ xs) tail.0, tail.1)

pub one_replay : (text : List ℕ) (c d : Numbers) (l m : Liars) (es fs : List ReplayLine) → IsReplay c l es → IsReplay d m fs → Spells text c l es → Spells text d m fs → (c ≡ d) × (l ≡ m) × (es ≡ fs)
one_replay text c d l m es fs r q s t =
    let lines : replay_lines c s.declared es ≡ replay_lines d t.declared fs = push_same _ _ [] (sym (spelled_reads text c l es s r).parts ∙ (spelled_reads text d m fs t q).parts) in
    let config : c ≡ d = one_head c d _ _ r.valid r.of_scripts q.valid q.of_scripts lines in
    let body : body_lines s.declared es ≡ body_lines t.declared fs = ap (λ (ls : List (List ℕ)). drop 2 ls) lines in
    let there = subst (λ (k : Numbers). AllByRecursion (IsEventLine k) fs) (sym config) q.events in
    let both = body_one c s.declared t.declared es fs (all_low c s.declared r.valid (spelled_declarable text c l es s r)) (all_low d t.declared q.valid (spelled_declarable text d m fs t q)) r.events there body in
    (config, sym s.all ∙ ap liars_of both.0 ∙ t.all, both.1)

-- ---- the text with ascending liar lines

insert_end : (ks : List ℕ) (k : ℕ) → AllByRecursion (λ x. nat_cmp x k ≡ Less) ks → insert_key nat_cmp ks k ≡ ks ++ k ∷ []
insert_end [] k h = refl
insert_end (x ∷ xs) k h =
    let lt = less_of_nat_cmp x k h.0 in
    rw (no_less k x (omega arith), other_below k x lt) (ap (λ (ys : List ℕ). x ∷ ys) (insert_end xs k h.1))

each_before : (before : List ℕ) (k : ℕ) (ks : List ℕ) → IsStrictlySortedBy nat_cmp (before ++ k ∷ ks) → AllByRecursion (λ x. nat_cmp x k ≡ Less) before
unfolding IsStrictlySortedBy
each_before [] k ks h = tt
each_before (x ∷ before) k ks h = (among x before ks k h.0, each_before before k ks h.1)
  where
    among : (x : ℕ) (xs more : List ℕ) (k : ℕ) → AllByRecursion (λ y. nat_cmp x y ≡ Less) (xs ++ k ∷ more) → nat_cmp x k ≡ Less
    among x [] more k h = h.0
    among x (y ∷ ys) more k h = among x ys more k h.1

nodes_all : (before ks cs : List ℕ) → IsStrictlySortedBy nat_cmp (before ++ ks) → with_all (record { nodes = before; clients = cs }) (map Node ks) ≡ record { nodes = before ++ ks; clients = cs }
nodes_all before [] cs h = ap (λ (ns : List ℕ). record { nodes = ns; clients = cs }) (sym (append-nil before))
nodes_all before (k ∷ ks) cs h =
    let put = insert_end before k (each_before before k ks h) in
    ap (λ (ns : List ℕ). with_all (record { nodes = ns; clients = cs }) (map Node ks)) put
    ∙ nodes_all (before ++ k ∷ []) ks cs (subst (IsStrictlySortedBy nat_cmp) (sym (append_assoc before (k ∷ []) ks)) h)
    ∙ ap (λ (ns : List ℕ). record { nodes = ns; clients = cs }) (append_assoc before (k ∷ []) ks)

clients_all : (ns before ks : List ℕ) → IsStrictlySortedBy nat_cmp (before ++ ks) → with_all (record { nodes = ns; clients = before }) (map Client ks) ≡ record { nodes = ns; clients = before ++ ks }
clients_all ns before [] h = ap (λ (cs : List ℕ). record { nodes = ns; clients = cs }) (sym (append-nil before))
clients_all ns before (k ∷ ks) h =
    let put = insert_end before k (each_before before k ks h) in
    ap (λ (cs : List ℕ). with_all (record { nodes = ns; clients = cs }) (map Client ks)) put
    ∙ clients_all ns (before ++ k ∷ []) ks (subst (IsStrictlySortedBy nat_cmp) (sym (append_assoc before (k ∷ []) ks)) h)
    ∙ ap (λ (cs : List ℕ). record { nodes = ns; clients = cs }) (append_assoc before (k ∷ []) ks)

pub all_declared : (l : Liars) → AreAscending l → liars_of (declarations l) ≡ l
all_declared l up =
    all_append _ (map Node l.nodes) (map Client l.clients) ∙ ap (λ (m : Liars). with_all m (map Client l.clients)) (nodes_all [] l.nodes [] up.0) ∙ clients_all l.nodes [] l.clients up.1

clients_differ : (n : ℕ) (ks : List ℕ) → AllByRecursion (λ y. is_same (Node n) y ≡ false) (map Client ks)
clients_differ n [] = tt
clients_differ n (k ∷ ks) = (refl, clients_differ n ks)

nodes_differ : (n : ℕ) (ks cs : List ℕ) → AllByRecursion (λ y. nat_cmp n y ≡ Less) ks → AllByRecursion (λ y. is_same (Node n) y ≡ false) (map Node ks ++ map Client cs)
nodes_differ n [] cs h = clients_differ n cs
nodes_differ n (k ∷ ks) cs h = (other_above n k (less_of_nat_cmp n k h.0), nodes_differ n ks cs h.1)

later_differ : (n : ℕ) (ks : List ℕ) → AllByRecursion (λ y. nat_cmp n y ≡ Less) ks → AllByRecursion (λ y. is_same (Client n) y ≡ false) (map Client ks)
later_differ n [] h = tt
later_differ n (k ∷ ks) h = (other_above n k (less_of_nat_cmp n k h.0), later_differ n ks h.1)

once_all : (ns cs : List ℕ) → IsStrictlySortedBy nat_cmp ns → IsStrictlySortedBy nat_cmp cs → IsDistinct is_same (map Node ns ++ map Client cs)
unfolding IsStrictlySortedBy IsDistinct
once_all [] [] p q = tt
once_all [] (c ∷ cs) p q = (later_differ c cs q.0, once_all [] cs p q.1)
once_all (n ∷ ns) cs p q = (nodes_differ n ns cs p.0, once_all ns cs p.1 q)

pub text_spells : (c : Numbers) (l : Liars) (es : List ReplayLine) → IsReplay c l es → Spells (replay_text c l es) c l es
text_spells c l es r = record {
  declared = declarations l;
  once = once_all l.nodes l.clients r.lying.ascending.0 r.lying.ascending.1;
  all = all_declared l r.lying.ascending;
  spelled = refl;
}
