-- A text that spells a plan that fits is accepted, and spells no other.
use Rattle.std.proofs.Common.{◌≡◌, ℕ, ◌^◌, ◌<◌, ◌≤◌, cond, List, [], ◌∷◌, ◌++◌, length, map, drop, get_or, None, refl, sym, ap, subst, ◌∙◌, append_assoc, arith}
use Rattle.std.specs.Prelude.{nat_eq}
use Rattle.std.specs.List.{AllByRecursion, IsDistinct, filter_map}
use Rattle.std.specs.Set.{is_member}
use Rattle.std.proofs.lemmas.List.{append-nil, map_push, map-append}
use Rattle.std.proofs.lemmas.List.Concat.{flat_map-append}
use Rattle.quorum_rules.specs.Limits.{Numbers, IsValid, IsOfScripts}
use Rattle.text_lines.specs.Lines.{fields_of, line_of_fields, text_of_lines}
use Rattle.wire_forms.specs.Liars.{Liars}
use Rattle.line_forms.specs.Heads.{head_lines, head_text, header, edition_of, cluster_fields, numbers_in}
use Rattle.line_forms.specs.Tables.{or_then}
use Rattle.line_forms.specs.Texts.{IsFaultless, ReadsTo}
use Rattle.line_forms.proofs.lemmas.Accepted.{head_accepted, numbers_back}
use Rattle.line_forms.proofs.lemmas.Texts.{reads_on, read_all, line_next, push_same}
use Rattle.plan_words.specs.declared.fault.Fault.{Fault}
use Rattle.plan_words.specs.declared.job.Job.{Job}
use Rattle.plan_words.specs.declared.plan.Plan.{Plan}
use Rattle.plan_words.specs.Named.{lying_node, faulty_node, crashing_client, dropped_pair, held_pair, pair_eq, clients, is_flood, is_phase, liars_of}
use Rattle.plan_words.specs.Plans.{IsFault, IsJob, device_fault, step_count, step_limit, AreFitting, Fits}
use Rattle.plan_words.specs.declared.line.PlanLine.{PlanLine}
use Rattle.plan_words.specs.declared.line.PlanLine.TheVariants.{Rule, Work}
use Rattle.plan_words.specs.Forms.{line_cause}
use Rattle.plan_words.specs.Lines.{IsPlanLine, line_text}
use Rattle.plan_text.specs.Marks.{line_marks}
use Rattle.plan_text.specs.Plans.{client_of, marks_of, later_cause, plan_cause, plan_body, plan_lines, plan_script, plan_text, rules_in, work_in, Spells}
use Rattle.plan_text.specs.Reading.{AreFine}
use Rattle.plan_words.proofs.lemmas.Accepted.{line_fine}
use Rattle.plan_text.proofs.Fitting.{lying_is, asking_is, clients_are}
use Rattle.plan_text.proofs.Marked.{marks_back, all_marks_back, named_by_rules, counted_by_rules, counted_by_work}
use Rattle.plan_text.proofs.lemmas.Standing.{fewer_different, none_standing}
use Rattle.plan_words.proofs.lemmas.Texts.{fields_back, one_line}
use Rattle.plan_words.proofs.lemmas.Unique.{one_plan_line}
use Rattle.lists.proofs.lemmas.Members.{all_push}

small : (c : Numbers) → IsValid c → c.n < 2 ^ 64
small c v = let top = v.nodes.1 in omega arith

-- ---- the lines of a plan that fits

each_line : (c : Numbers) (ls : List PlanLine) → AllByRecursion (IsFault c) (rules_in ls) → AllByRecursion (IsJob c) (work_in ls) → AllByRecursion (IsPlanLine c) ls
each_line c [] h k = tt
each_line c (Rule f ∷ ls) h k = (h.0, each_line c ls h.1 k)
each_line c (Work j ∷ ls) h k = (k.0, each_line c ls h k.1)

all_in_device : (c : Numbers) (ls : List PlanLine) → AllByRecursion (λ job. device_fault c job ≡ None) (work_in ls) → AllByRecursion (λ m. m.fault ≡ None) (map (line_marks c) ls)
all_in_device c [] h = tt
all_in_device c (Rule f ∷ ls) h = (refl, all_in_device c ls h)
all_in_device c (Work j ∷ ls) h = (h.0, all_in_device c ls h.1)

all_fine : (c : Numbers) (ls : List PlanLine) → AreFitting c (rules_in ls) (work_in ls) → AreFine c (map (line_marks c) ls)
all_fine c ls h =
    let fewer = fewer_different (filter_map client_of (map (line_marks c) ls)) (clients (rules_in ls) (work_in ls)) (λ q is. sym (clients_are c ls q) ∙ is) in
    let few = h.few.clients in
    record {
      nodes = subst (IsDistinct nat_eq) (sym (named_by_rules c (λ m. m.faulty_node) faulty_node (λ f. refl) (λ j. refl) ls)) h.once.nodes;
      crashes = subst (IsDistinct nat_eq) (sym (named_by_rules c (λ m. m.crashing_client) crashing_client (λ f. refl) (λ j. refl) ls)) h.once.clients;
      drops = subst (IsDistinct pair_eq) (sym (named_by_rules c (λ m. m.dropped) dropped_pair (λ f. refl) (λ j. refl) ls)) h.once.drops;
      holds = subst (IsDistinct pair_eq) (sym (named_by_rules c (λ m. m.held) held_pair (λ f. refl) (λ j. refl) ls)) h.once.holds;
      lying = subst (λ (ks : List ℕ). length ks ≤ c.b) (sym (named_by_rules c (λ m. m.lying_node) lying_node (λ f. refl) (λ j. refl) ls)) h.few.lying;
      faulty = subst (λ (ks : List ℕ). length ks ≤ c.t) (sym (named_by_rules c (λ m. m.faulty_node) faulty_node (λ f. refl) (λ j. refl) ls)) h.few.faulty;
      apart = λ k is. asking_is c ls k ∙ h.apart k (sym (ap (λ ks. is_member nat_eq ks k) (lying_is c ls)) ∙ is);
      clients = omega arith;
      floods = subst (λ n. n ≤ 8) (sym (counted_by_rules c (λ m. cond m.is_flood 1 0) (λ f. cond (is_flood f) 1 0) (λ f. refl) (λ j. refl) ls)) h.few.floods;
      phases = subst (λ n. n ≤ 64) (sym (counted_by_work c (λ m. cond m.is_phase 1 0) (λ j. cond (is_phase j) 1 0) (λ f. refl) (λ j. refl) ls)) h.few.phases;
      steps = subst (λ n. n ≤ step_limit c) (sym (counted_by_work c (λ m. m.steps) (step_count c) (λ f. refl) (λ j. refl) ls)) h.few.steps;
      in_device = all_in_device c ls h.in_device;
    }

-- the lines of a text that spells a plan that fits
record AreSpelled (c : Numbers) (ls : List PlanLine) : Type 0 where
  each : AllByRecursion (IsPlanLine c) ls
  fine : AreFine c (map (line_marks c) ls)

spelled_lines : (text : List ℕ) (p : Plan) (s : Spells text p) → Fits p → AreSpelled p.config s.lines
spelled_lines text p s f =
    let h : AreFitting p.config (rules_in s.lines) (work_in s.lines) = subst (λ (rs : List Fault). AreFitting p.config rs (work_in s.lines)) (sym s.rules) (subst (λ (js : List Job). AreFitting p.config p.rules js) (sym s.work) f.fitting) in
    record { each = each_line p.config s.lines h.each_rule h.each_job; fine = all_fine p.config s.lines h }

-- ---- they are read one after the other

no_cause : (c : Numbers) (before after : List PlanLine) (l : PlanLine) → IsValid c → IsOfScripts c → AllByRecursion (IsPlanLine c) before → IsPlanLine c l → AreFine c (map (line_marks c) (before ++ l ∷ after)) → plan_script.cause (plan_lines c before) (line_text l) ≡ None
unfolding plan_cause
no_cause c before after l v known each h fine =
    let s = small c v in
    let marks : map (line_marks c) (before ++ l ∷ after) ≡ map (line_marks c) before ++ line_marks c l ∷ map (line_marks c) after = map-append (line_marks c) before (l ∷ after) in
    ap (λ (k : Numbers). plan_cause k (map line_text before) (line_text l)) (numbers_back c v known)
    ∙ ap (λ o. or_then o (later_cause c (map (marks_of c) (map line_text before)) (marks_of c (line_text l)))) (ap (line_cause c) (fields_back c l s h) ∙ line_fine c l v h)
    ∙ ap (λ ms. later_cause c ms (marks_of c (line_text l))) (all_marks_back c before s each)
    ∙ ap (later_cause c (map (line_marks c) before)) (marks_back c l s h)
    ∙ none_standing c (map (line_marks c) before) (line_marks c l) (map (line_marks c) after) (subst (AreFine c) marks fine)

lines_accepted : (text : List ℕ) (c : Numbers) (before more all : List PlanLine) (rest : List ℕ) → IsValid c → IsOfScripts c → before ++ more ≡ all → AllByRecursion (IsPlanLine c) before → AllByRecursion (IsPlanLine c) more → AreFine c (map (line_marks c) all)
    → ReadsTo plan_script text (plan_lines c before) (text_of_lines (map line_text more) ++ rest) → ReadsTo plan_script text (plan_lines c all) rest
lines_accepted text c before [] all rest v known e h k fine r = subst (λ (ls : List PlanLine). ReadsTo plan_script text (plan_lines c ls) rest) (sym (append-nil before) ∙ e) r
lines_accepted text c before (l ∷ more) all rest v known e h k fine r =
    let none = no_cause c before more l v known h k.0 (subst (λ (ls : List PlanLine). AreFine c (map (line_marks c) ls)) (sym e) fine) in
    let on = reads_on plan_script text (plan_lines c before) (line_text l) _ (text_of_lines (map line_text more) ++ rest) r (line_next (line_text l) (text_of_lines (map line_text more)) rest (one_line c l (small c v) k.0)) none in
    let lines : plan_lines c before ++ line_text l ∷ [] ≡ plan_lines c (before ++ l ∷ []) =
    append_assoc (head_lines c) (map line_text before) (line_text l ∷ []) ∙ ap (λ (ls : List (List ℕ)). head_lines c ++ ls) (sym (map_push line_text before l)) in
    lines_accepted text c (before ++ l ∷ []) more all rest v known (append_assoc before (l ∷ []) more ∙ e) (all_push (IsPlanLine c) before l h k.0) k.1 fine
    (subst (λ (ls : List (List ℕ)). ReadsTo plan_script text ls (text_of_lines (map line_text more) ++ rest)) lines on)

spelled_reads : (text : List ℕ) (p : Plan) (s : Spells text p) → Fits p → ReadsTo plan_script text (plan_lines p.config s.lines) []
spelled_reads text p s f =
    let c = p.config in
    let are = spelled_lines text p s f in
    let body = text_of_lines (map line_text s.lines) in
    let whole : head_text c ++ (body ++ []) ≡ text =
    ap (λ (t : List ℕ). head_text c ++ t) (append-nil body) ∙ sym (flat_map-append (λ l. l ++ 10 ∷ []) (head_lines c) (map line_text s.lines)) ∙ sym s.spelled in
    let head = subst (λ (t : List ℕ). ReadsTo plan_script t (head_lines c) (body ++ [])) whole (head_accepted plan_body c (body ++ []) f.valid s.of_scripts) in
    lines_accepted text c [] s.lines s.lines [] f.valid s.of_scripts refl tt are.each are.fine head

pub plan_accepted : (text : List ℕ) (p : Plan) → Fits p → Spells text p → IsFaultless plan_script text
plan_accepted text p f s = read_all plan_script text (header p.config.edition) (line_of_fields (cluster_fields p.config) ∷ map line_text s.lines) [] (spelled_reads text p s f) refl refl

-- ---- one text, one plan

lines_one : (c : Numbers) (ls ks : List PlanLine) → c.n < 2 ^ 64 → AllByRecursion (IsPlanLine c) ls → AllByRecursion (IsPlanLine c) ks → map line_text ls ≡ map line_text ks → ls ≡ ks
lines_one c [] [] s h g e = refl
lines_one c [] (k ∷ ks) s h g e = absurd cc
lines_one c (l ∷ ls) [] s h g e = absurd cc
lines_one c (l ∷ ls) (k ∷ ks) s h g e =
    let head : line_text l ≡ line_text k = ap (λ (xs : List (List ℕ)). get_or xs 0 []) e in
    let tail = lines_one c ls ks s h.1 g.1 (ap (λ (xs : List (List ℕ)). drop 1 xs) e) in
    ap (λ (x : PlanLine). x ∷ ls) (one_plan_line c l k s h.0 g.0 head) ∙ ap (λ (xs : List PlanLine). k ∷ xs) tail

same_plan : (p q : Plan) → p.config ≡ q.config → p.liars ≡ q.liars → p.rules ≡ q.rules → p.work ≡ q.work → p ≡ q
same_plan p q a b c d =
    let plan : Numbers → Liars → List Fault → List Job → Plan = λ c l r w. record { config = c; liars = l; rules = r; work = w } in
    ap (λ (x : Numbers). plan x p.liars p.rules p.work) a ∙ ap (λ (x : Liars). plan q.config x p.rules p.work) b
    ∙ ap (λ (x : List Fault). plan q.config q.liars x p.work) c ∙ ap (λ (x : List Job). plan q.config q.liars q.rules x) d

pub one_plan : (text : List ℕ) (p q : Plan) → Fits p → Fits q → Spells text p → Spells text q → p ≡ q
one_plan text p q f g s t =
    let lines : plan_lines p.config s.lines ≡ plan_lines q.config t.lines = push_same _ _ [] (sym (spelled_reads text p s f).parts ∙ (spelled_reads text q t g).parts) in
    let config : p.config ≡ q.config = sym (numbers_back p.config f.valid s.of_scripts) ∙ ap (λ (ls : List (List ℕ)). numbers_in (edition_of (get_or ls 0 [])) (fields_of (get_or ls 1 []))) lines ∙ numbers_back q.config g.valid t.of_scripts in
    let body : map line_text s.lines ≡ map line_text t.lines = ap (λ (ls : List (List ℕ)). drop 2 ls) lines in
    let each = subst (λ (k : Numbers). AllByRecursion (IsPlanLine k) t.lines) (sym config) (spelled_lines text q t g).each in
    let same = lines_one p.config s.lines t.lines (small p.config f.valid) (spelled_lines text p s f).each each body in
    let rules : p.rules ≡ q.rules = sym s.rules ∙ ap rules_in same ∙ t.rules in
    let work : p.work ≡ q.work = sym s.work ∙ ap work_in same ∙ t.work in
    same_plan p q config (f.liars ∙ ap liars_of rules ∙ sym g.liars) rules work

-- ---- the text with all rules first

rules_first : (rs : List Fault) (js : List Job) → rules_in (map Rule rs ++ map Work js) ≡ rs
rules_first [] [] = refl
rules_first [] (j ∷ js) = rules_first [] js
rules_first (r ∷ rs) js = ap (λ (xs : List Fault). r ∷ xs) (rules_first rs js)

work_last : (rs : List Fault) (js : List Job) → work_in (map Rule rs ++ map Work js) ≡ js
work_last [] [] = refl
work_last [] (j ∷ js) = ap (λ (xs : List Job). j ∷ xs) (work_last [] js)
work_last (r ∷ rs) js = work_last rs js

pub text_spells : (p : Plan) → IsOfScripts p.config → Spells (plan_text p) p
text_spells p known = record { of_scripts = known; lines = map Rule p.rules ++ map Work p.work; rules = rules_first p.rules p.work; work = work_last p.rules p.work; spelled = refl }
