-- The lines of a plan, read one after the other.
use Rattle.std.proofs.Common.{◌≡◌, ◌≢◌, ℕ, ◌+◌, ◌-◌, ◌^◌, ◌≤◌, ◌<◌, List, [], ◌∷◌, ◌++◌, length, map, drop, take, Option, Some, None, refl, sym, ap, subst, ◌∙◌, arith, append_assoc, length-append}
use Rattle.std.specs.List.{AllByRecursion, IsDistinct, filter_map, cons_option}
use Rattle.std.specs.Ordering.{nat_cmp}
use Rattle.std.specs.BTreeSet.{insert_key}
use Rattle.std.proofs.lemmas.List.{map_push, append-nil, length-map, length-drop}
use Rattle.std.proofs.lemmas.List.Elements.{filter_map-append}
use Rattle.std.proofs.lemmas.List.Sums.{fold_push}
use Rattle.quorum_rules.specs.Limits.{Numbers, IsValid, IsOfScripts}
use Rattle.text_lines.specs.Lines.{fields_of, parts_of, line_of_fields}
use Rattle.text_lines.proofs.lemmas.Cuts.{rest_part}
use Rattle.wire_forms.specs.Liars.{Liars}
use Rattle.line_forms.specs.Heads.{header, head_lines, cluster_fields}
use Rattle.line_forms.specs.Tables.{first_of, or_then}
use Rattle.line_forms.specs.Texts.{IsFault, IsFaultless, ReadsTo, end_causes}
use Rattle.line_forms.specs.declared.cause.Cause.{Cause}
use Rattle.line_forms.specs.declared.cause.Cause.TheVariants.{Cut}
use Rattle.line_forms.proofs.lemmas.Accepted.{numbers_back}
use Rattle.line_forms.proofs.lemmas.Texts.{reads_on, line_fault, end_fault, read_all, text_read}
use Rattle.plan_words.specs.declared.fault.Fault.{Fault}
use Rattle.plan_words.specs.declared.job.Job.{Job}
use Rattle.plan_words.specs.declared.plan.Plan.{Plan}
use Rattle.plan_words.specs.Named.{lying_node, lying_client, ascending, liars_of}
use Rattle.plan_words.specs.declared.line.PlanLine.{PlanLine}
use Rattle.plan_words.specs.declared.line.PlanLine.TheVariants.{Rule, Work}
use Rattle.plan_text.specs.declared.seen.Seen.{Seen}
use Rattle.plan_words.specs.Forms.{line_cause}
use Rattle.plan_words.specs.Lines.{IsPlanLine, line_text}
use Rattle.plan_text.specs.Marks.{Marks, line_marks}
use Rattle.plan_text.specs.Plans.{marks_of, later_cause, plan_cause, plan_lines, plan_script, rule_of, job_of, rules_in, work_in, Spells}
use Rattle.plan_text.specs.Reading.{IsSeen, AreFine, BodyRead, next_cause, seen_cause, with_number, with_liar}
use Rattle.plan_text.proofs.Marked.{marks_back, all_marks_back, one_sided}
use Rattle.plan_text.proofs.Causes.{seen_is, free_from_none}
use Rattle.plan_text.proofs.Steps.{IsNoted, seen_more, fine_more}
use Rattle.lists.proofs.lemmas.Members.{all_push}

small : (c : Numbers) → IsValid c → c.n < 2 ^ 64
small c v = let top = v.nodes.1 in omega arith

-- what is wrong with a line that spells this line of a plan is what stands against it
pub next_is : (c : Numbers) (seen : Seen) (line : List ℕ) (l : PlanLine) → IsValid c → line_cause c (fields_of line) ≡ None → IsPlanLine c l → line_text l ≡ line → next_cause c seen line ≡ seen_cause c seen (line_marks c l)
next_is c seen line l v none h e =
    ap (λ o. or_then o (seen_cause c seen (marks_of c line))) none ∙ ap (seen_cause c seen) (ap (marks_of c) (sym e) ∙ marks_back c l (small c v) h)

-- ---- what is wrong with the next line

body_cause : (text : List ℕ) (plan : Plan) (seen : Seen) (rest line : List ℕ) (number : ℕ) (h : BodyRead text plan seen rest number) → plan_script.cause (plan_lines plan.config h.lines) line ≡ next_cause plan.config seen line
unfolding plan_cause
body_cause text plan seen rest line number h =
    let c = plan.config in
    ap (λ (k : Numbers). plan_cause k (map line_text h.lines) line) (numbers_back c h.valid h.of_scripts)
    ∙ ap (λ ms. or_then (line_cause c (fields_of line)) (later_cause c ms (marks_of c line))) (all_marks_back c h.lines (small c h.valid) h.each)
    ∙ ap (or_then (line_cause c (fields_of line))) (sym (seen_is c (map (line_marks c) h.lines) seen (marks_of c line) h.noted))

number_at : (text : List ℕ) (plan : Plan) (seen : Seen) (rest : List ℕ) (number : ℕ) (h : BodyRead text plan seen rest number) → length (plan_lines plan.config h.lines) + 1 ≡ number
number_at text plan seen rest number h = let len = length-map h.lines line_text in let is = h.number_is in omega arith

pub body_fault : (text : List ℕ) (plan : Plan) (seen : Seen) (rest line after : List ℕ) (number : ℕ) (cause : Cause) → BodyRead text plan seen rest number → parts_of rest ≡ line ∷ parts_of after → next_cause plan.config seen line ≡ Some cause → IsFault plan_script text number cause
body_fault text plan seen rest line after number cause h e wrong =
    let here = line_fault plan_script text (plan_lines plan.config h.lines) line rest after cause h.reads e (body_cause text plan seen rest line number h ∙ wrong) in
    subst (λ (n : ℕ). IsFault plan_script text n cause) (number_at text plan seen rest number h) here

pub body_cut : (text : List ℕ) (plan : Plan) (seen : Seen) (rest : List ℕ) (number : ℕ) → BodyRead text plan seen rest number → rest ≢ [] → parts_of rest ≡ rest ∷ [] → IsFault plan_script text number Cut
body_cut text plan seen rest number h some e =
    let c = plan.config in
    let here = end_fault plan_script text (plan_lines c h.lines) rest Cut h.reads e (cut_end rest some) in
    subst (λ (n : ℕ). IsFault plan_script text n Cut) (number_at text plan seen rest number h) here
  where
    cut_end : (rest : List ℕ) → rest ≢ [] → first_of (end_causes plan_script (plan_lines plan.config h.lines) rest) ≡ Some Cut
    cut_end [] some = absurd (some refl)
    cut_end (b ∷ rest) some = refl

-- ---- nothing was read yet

fine_none : (c : Numbers) → AreFine c []
unfolding IsDistinct
fine_none c = record {
  nodes = tt;
  crashes = tt;
  drops = tt;
  holds = tt;
  lying = omega arith;
  faulty = omega arith;
  apart = λ k is. absurd cc;
  clients = omega arith;
  floods = omega arith;
  phases = omega arith;
  steps = omega arith;
  in_device = tt;
}

pub body_begins : (text : List ℕ) (plan : Plan) (seen : Seen) (at : ℕ) → IsValid plan.config → IsOfScripts plan.config → plan.rules ≡ [] → plan.work ≡ [] → plan.liars.nodes ≡ [] → plan.liars.clients ≡ [] → IsSeen [] seen → at ≤ length text
    → ReadsTo plan_script text (head_lines plan.config) (drop at text) → BodyRead text plan seen (take (length text - at) (drop at text)) 3
body_begins text plan seen at v known rules work ns ks none low r =
    let whole = rest_part text at in
    let len = length-drop at text in
    let liars : List ℕ → List ℕ → Liars = λ ns ks. record { nodes = ns; clients = ks } in
    record {
      lines = [];
      valid = v;
      of_scripts = known;
      rules = sym rules;
      work = sym work;
      liars = ap (λ (x : List ℕ). liars x plan.liars.clients) ns ∙ ap (λ (x : List ℕ). liars [] x) ks ∙ ap liars_of (sym rules);
      each = tt;
      fine = fine_none plan.config;
      noted = none;
      reads = subst (ReadsTo plan_script text (head_lines plan.config)) (sym whole) r;
      number_is = refl;
      room = omega (arith, ap length whole, len);
    }

-- ---- one more line

ascending_more : (ks : List ℕ) (o : Option ℕ) → ascending (ks ++ cons_option o []) ≡ with_number (ascending ks) o
ascending_more ks None = ap ascending (append-nil ks)
ascending_more ks (Some k) = fold_push (insert_key nat_cmp) [] ks k

liars_more : (c : Numbers) (rs : List Fault) (l : PlanLine) → with_liar (liars_of rs) (line_marks c l) ≡ liars_of (rs ++ rules_in (l ∷ []))
liars_more c rs (Work j) = ap liars_of (sym (append-nil rs))
liars_more c rs (Rule f) =
    let liars : List ℕ → List ℕ → Liars = λ ns ks. record { nodes = ns; clients = ks } in
    let nodes = ap ascending (filter_map-append lying_node rs (f ∷ [])) ∙ ascending_more (filter_map lying_node rs) (lying_node f) in
    let clients = ap ascending (filter_map-append lying_client rs (f ∷ [])) ∙ ascending_more (filter_map lying_client rs) (lying_client f) in
    sym (ap (λ (x : List ℕ). liars x (ascending (filter_map lying_client (rs ++ f ∷ [])))) nodes ∙ ap (λ (x : List ℕ). liars (with_number (ascending (filter_map lying_node rs)) (lying_node f)) x) clients)

pub body_more : (text : List ℕ) (plan new : Plan) (seen later : Seen) (rest line after : List ℕ) (number next : ℕ) (l : PlanLine) → BodyRead text plan seen rest number → parts_of rest ≡ line ∷ parts_of after → length after < length rest
    → next_cause plan.config seen line ≡ None → IsPlanLine plan.config l × (line_text l ≡ line) × (seen_cause plan.config seen (line_marks plan.config l) ≡ None) → IsNoted seen later (line_marks plan.config l)
    → new.config ≡ plan.config → new.rules ≡ plan.rules ++ rules_in (l ∷ []) → new.work ≡ plan.work ++ work_in (l ∷ []) → new.liars ≡ with_liar plan.liars (line_marks plan.config l) → next ≡ number + 1
    → BodyRead text new later after next
body_more text plan new seen later rest line after number next l h e shorter none says noted same rules work liars count =
    let c = plan.config in
    let m = line_marks c l in
    let ms = map (line_marks c) h.lines in
    let push : map (line_marks c) (h.lines ++ l ∷ []) ≡ ms ++ m ∷ [] = map_push (line_marks c) h.lines l in
    let free = free_from_none c ms m (sym (seen_is c ms seen m h.noted) ∙ says.2) in
    let on = reads_on plan_script text (plan_lines c h.lines) line rest after h.reads e (body_cause text plan seen rest line number h ∙ none) in
    let lines : plan_lines c h.lines ++ line ∷ [] ≡ plan_lines c (h.lines ++ l ∷ []) =
    append_assoc (head_lines c) (map line_text h.lines) (line ∷ []) ∙ ap (λ (x : List ℕ). head_lines c ++ (map line_text h.lines ++ x ∷ [])) (sym says.1)
    ∙ ap (λ (ls : List (List ℕ)). head_lines c ++ ls) (sym (map_push line_text h.lines l)) in
    let len = length-append h.lines (l ∷ []) in
    let is_number = h.number_is in
    let room = h.room in
    record {
      lines = h.lines ++ l ∷ [];
      valid = subst IsValid (sym same) h.valid;
      of_scripts = subst IsOfScripts (sym same) h.of_scripts;
      rules = filter_map-append rule_of h.lines (l ∷ []) ∙ ap (λ (rs : List Fault). rs ++ rules_in (l ∷ [])) h.rules ∙ sym rules;
      work = filter_map-append job_of h.lines (l ∷ []) ∙ ap (λ (js : List Job). js ++ work_in (l ∷ [])) h.work ∙ sym work;
      liars = liars ∙ ap (λ (x : Liars). with_liar x m) h.liars ∙ liars_more c plan.rules l ∙ ap liars_of (sym rules);
      each = subst (λ (k : Numbers). AllByRecursion (IsPlanLine k) (h.lines ++ l ∷ [])) (sym same) (all_push (IsPlanLine c) h.lines l h.each says.0);
      fine = subst (λ (k : Numbers). AreFine k (map (line_marks k) (h.lines ++ l ∷ []))) (sym same) (subst (AreFine c) (sym push) (fine_more c ms m seen later h.fine free (one_sided c l) h.noted noted.clients));
      noted = subst (λ (k : Numbers). IsSeen (map (line_marks k) (h.lines ++ l ∷ [])) later) (sym same) (subst (λ (xs : List Marks). IsSeen xs later) (sym push) (seen_more ms m seen later h.noted noted));
      reads = subst (λ (k : Numbers). ReadsTo plan_script text (plan_lines k (h.lines ++ l ∷ [])) after) (sym same) (subst (λ (ls : List (List ℕ)). ReadsTo plan_script text ls after) lines on);
      number_is = omega arith;
      room = omega arith;
    }

-- ---- a text read to its end

pub body_spelled : (text : List ℕ) (plan : Plan) (seen : Seen) (rest : List ℕ) (number : ℕ) → BodyRead text plan seen rest number → rest ≡ [] → Spells text plan
body_spelled text plan seen rest number h none = record {
  of_scripts = h.of_scripts;
  lines = h.lines;
  rules = h.rules;
  work = h.work;
  spelled = text_read plan_script text (plan_lines plan.config h.lines) rest h.reads none;
}

pub body_faultless : (text : List ℕ) (plan : Plan) (seen : Seen) (rest : List ℕ) (number : ℕ) → BodyRead text plan seen rest number → rest ≡ [] → IsFaultless plan_script text
body_faultless text plan seen rest number h none = read_all plan_script text (header plan.config.edition) (line_of_fields (cluster_fields plan.config) ∷ map line_text h.lines) rest h.reads none refl
