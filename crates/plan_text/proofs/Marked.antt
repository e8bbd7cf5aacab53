-- The marks of lines: those of a line's text, and what rules and work have of the marks of all lines.
use Rattle.std.proofs.Common.{◌≡◌, ℕ, ◌^◌, ◌<◌, Bool, true, false, ◌||◌, List, [], ◌∷◌, ◌++◌, map, Option, Some, None, refl, sym, ap, ◌∙◌, ◌⊎◌, inl, inr, arith}
use Rattle.std.specs.Prelude.{nat_eq, sum_by}
use Rattle.std.specs.List.{AllByRecursion, filter_map, cons_option}
use Rattle.std.specs.Set.{is_member}
use Rattle.std.proofs.lemmas.List.Sums.{sum_by-cons}
use Rattle.std.proofs.lemmas.List.Folds.{list_any-append}
use Rattle.quorum_rules.specs.Limits.{Numbers}
use Rattle.wire_forms.specs.declared.op.Op.TheVariants as ops
use Rattle.wire_forms.specs.declared.device.DeviceOp.TheVariants as commands
use Rattle.plan_words.specs.declared.fault.Fault.{Fault}
use Rattle.plan_words.specs.declared.fault.Fault.TheVariants.{LiarNode, LiarSound, LiarMix, LiarFlood, CrashNode, CrashClient, Lose, Hold}
use Rattle.plan_words.specs.declared.job.Job.{Job}
use Rattle.plan_words.specs.declared.job.Job.TheVariants.{Block, Device, Phase}
use Rattle.plan_words.specs.Plans.{IsFault, IsJob}
use Rattle.plan_words.specs.declared.line.PlanLine.{PlanLine}
use Rattle.plan_words.specs.declared.line.PlanLine.TheVariants.{Rule, Work}
use Rattle.plan_words.specs.Lines.{IsPlanLine, line_fields, line_text}
use Rattle.plan_text.specs.Marks.{Marks, marks_in, line_marks, rule_marks, job_marks}
use Rattle.plan_text.specs.Plans.{marks_of, rules_in, work_in}
use Rattle.plan_words.proofs.lemmas.Texts.{fields_back}
use Rattle.lists.proofs.lemmas.Tests.{or_swapped}
use Rattle.event_lines.proofs.lemmas.Unique.{u64_back, value_back}
use Rattle.plan_words.proofs.lemmas.Unique.{node_back, client_back}

-- ---- the marks of a line's text

rule_back : (c : Numbers) (f : Fault) → IsFault c f → marks_in c (line_fields (Rule f)) ≡ rule_marks f
rule_back c (LiarNode i r) h = rw (node_back c i h) refl
rule_back c (LiarSound k b t v n) h = rw (client_back k h.0) refl
rule_back c (LiarMix k b t v w n) h = rw (client_back k h.0) refl
rule_back c (LiarFlood k b t v w n) h = rw (client_back k h.0) refl
rule_back c (CrashNode i n) h = rw (node_back c i h.0) refl
rule_back c (CrashClient k n) h = rw (client_back k h.0) refl
rule_back c (Lose k i n) h = rw (client_back k h.0, node_back c i h.1) refl
rule_back c (Hold k i n) h = rw (client_back k h.0, node_back c i h.1) refl

job_back : (c : Numbers) (j : Job) → IsJob c j → marks_in c (line_fields (Work j)) ≡ job_marks c j
job_back c (Block k (ops.Read b)) h = rw (client_back k h.0) refl
job_back c (Block k (ops.Write b v)) h = rw (client_back k h.0) refl
job_back c (Device k (commands.Get o n)) h = rw (client_back k h.0, u64_back o h.1.0, u64_back n h.1.1) refl
job_back c (Device k (commands.Put o v)) h = rw (client_back k h.0, u64_back o h.1.0, value_back v h.1.1) refl
job_back c Phase h = refl

line_back : (c : Numbers) (l : PlanLine) → IsPlanLine c l → marks_in c (line_fields l) ≡ line_marks c l
line_back c (Rule f) h = rule_back c f h
line_back c (Work j) h = job_back c j h

pub marks_back : (c : Numbers) (l : PlanLine) → c.n < 2 ^ 64 → IsPlanLine c l → marks_of c (line_text l) ≡ line_marks c l
marks_back c l s h = ap (marks_in c) (fields_back c l s h) ∙ line_back c l h

pub all_marks_back : (c : Numbers) (ls : List PlanLine) → c.n < 2 ^ 64 → AllByRecursion (IsPlanLine c) ls → map (marks_of c) (map line_text ls) ≡ map (line_marks c) ls
all_marks_back c [] s h = refl
all_marks_back c (l ∷ ls) s h = rw (marks_back c l s h.0, all_marks_back c ls s h.1) refl

-- no line both gives a client something to ask and declares one lying
pub one_sided : (c : Numbers) (l : PlanLine) → ((line_marks c l).lying_client ≡ None) ⊎ ((line_marks c l).asking_client ≡ None)
one_sided c (Rule (LiarNode i r)) = inl refl
one_sided c (Rule (LiarSound k b t v n)) = inr refl
one_sided c (Rule (LiarMix k b t v w n)) = inr refl
one_sided c (Rule (LiarFlood k b t v w n)) = inr refl
one_sided c (Rule (CrashNode i n)) = inl refl
one_sided c (Rule (CrashClient k n)) = inl refl
one_sided c (Rule (Lose k i n)) = inl refl
one_sided c (Rule (Hold k i n)) = inl refl
one_sided c (Work j) = inl refl

-- ---- the marks of all lines

-- what only rules name
pub named_by_rules : {X : Type 0} (c : Numbers) (g : Marks → Option X) (r : Fault → Option X) → ((f : Fault) → g (rule_marks f) ≡ r f) → ((j : Job) → g (job_marks c j) ≡ None) → (ls : List PlanLine)
    → filter_map g (map (line_marks c) ls) ≡ filter_map r (rules_in ls)
named_by_rules c g r hr hj [] = refl
named_by_rules c g r hr hj (Rule f ∷ ls) = rw (hr f) (ap (cons_option (r f)) (named_by_rules c g r hr hj ls))
named_by_rules c g r hr hj (Work j ∷ ls) = rw (hj j) (named_by_rules c g r hr hj ls)

-- it is there, and equal to this
abbrev is_this : ℕ → Option ℕ → Bool
is_this q None = false
is_this q (Some k) = nat_eq q k

member_cons : (q : ℕ) (o : Option ℕ) (ks : List ℕ) → is_member nat_eq (cons_option o ks) q ≡ (is_this q o || is_member nat_eq ks q)
member_cons q None ks = refl
member_cons q (Some k) ks = refl

or_assoc : (a b c : Bool) → (a || (b || c)) ≡ ((a || b) || c)
or_assoc true b c = refl
or_assoc false b c = refl

-- what rules and jobs name
pub named_by_both : (c : Numbers) (g : Marks → Option ℕ) (r : Fault → Option ℕ) (w : Job → Option ℕ) → ((f : Fault) → g (rule_marks f) ≡ r f) → ((j : Job) → g (job_marks c j) ≡ w j) → (ls : List PlanLine) (q : ℕ)
    → is_member nat_eq (filter_map g (map (line_marks c) ls)) q ≡ is_member nat_eq (filter_map r (rules_in ls) ++ filter_map w (work_in ls)) q
named_by_both c g r w hr hj [] q = refl
named_by_both c g r w hr hj (Rule f ∷ ls) q =
    let M = filter_map g (map (line_marks c) ls) in
    let R = filter_map r (rules_in ls) in
    let W = filter_map w (work_in ls) in
    ap (λ o. is_member nat_eq (cons_option o M) q) (hr f) ∙ member_cons q (r f) M ∙ ap (λ b. is_this q (r f) || b) (named_by_both c g r w hr hj ls q ∙ list_any-append (nat_eq q) R W)
    ∙ or_assoc (is_this q (r f)) (is_member nat_eq R q) (is_member nat_eq W q) ∙ ap (λ b. b || is_member nat_eq W q) (sym (member_cons q (r f) R))
    ∙ sym (list_any-append (nat_eq q) (cons_option (r f) R) W)
named_by_both c g r w hr hj (Work j ∷ ls) q =
    let M = filter_map g (map (line_marks c) ls) in
    let R = filter_map r (rules_in ls) in
    let W = filter_map w (work_in ls) in
    ap (λ o. is_member nat_eq (cons_option o M) q) (hj j) ∙ member_cons q (w j) M ∙ ap (λ b. is_this q (w j) || b) (named_by_both c g r w hr hj ls q ∙ list_any-append (nat_eq q) R W)
    ∙ or_swapped (is_this q (w j)) (is_member nat_eq R q) (is_member nat_eq W q) ∙ ap (λ b. is_member nat_eq R q || b) (sym (member_cons q (w j) W))
    ∙ sym (list_any-append (nat_eq q) R (cons_option (w j) W))

-- what rules alone count
pub counted_by_rules : (c : Numbers) (g : Marks → ℕ) (r : Fault → ℕ) → ((f : Fault) → g (rule_marks f) ≡ r f) → ((j : Job) → g (job_marks c j) ≡ 0) → (ls : List PlanLine)
    → sum_by g (map (line_marks c) ls) ≡ sum_by r (rules_in ls)
counted_by_rules c g r hr hj [] = refl
counted_by_rules c g r hr hj (Rule f ∷ ls) =
    sum_by-cons g (rule_marks f) (map (line_marks c) ls) ∙ rw (hr f, counted_by_rules c g r hr hj ls) (sym (sum_by-cons r f (rules_in ls)))
counted_by_rules c g r hr hj (Work j ∷ ls) =
    sum_by-cons g (job_marks c j) (map (line_marks c) ls) ∙ rw (hj j, counted_by_rules c g r hr hj ls) (omega arith)

-- what jobs alone count
pub counted_by_work : (c : Numbers) (g : Marks → ℕ) (w : Job → ℕ) → ((f : Fault) → g (rule_marks f) ≡ 0) → ((j : Job) → g (job_marks c j) ≡ w j) → (ls : List PlanLine)
    → sum_by g (map (line_marks c) ls) ≡ sum_by w (work_in ls)
counted_by_work c g w hr hj [] = refl
counted_by_work c g w hr hj (Rule f ∷ ls) =
    sum_by-cons g (rule_marks f) (map (line_marks c) ls) ∙ rw (hr f, counted_by_work c g w hr hj ls) (omega arith)
counted_by_work c g w hr hj (Work j ∷ ls) =
    sum_by-cons g (job_marks c j) (map (line_marks c) ls) ∙ rw (hj j, counted_by_work c g w hr hj ls) (sym (sum_by-cons w j (work_in ls)))
