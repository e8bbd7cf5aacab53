-- Plans as texts: the head lines of a script, and then rules and work in any order.
use Rattle.std.specs.Prelude.{ℕ, ◌≡◌, ◌+◌, Bool, true, false, not, ◌&&◌, ◌||◌, nat_lt, nat_le, nat_eq, List, [], ◌∷◌, ◌++◌, length, map, count_by, sum_by, Option, Some, None, is_some, option_map}
use Rattle.std.specs.List.{filter_map}
use Rattle.std.specs.Option.{option_or}
use Rattle.std.specs.Set.{is_member, distinct_count}
use Rattle.quorum_rules.specs.Limits.{Numbers, IsOfScripts}
use Rattle.text_lines.specs.Lines.{fields_of, text_of_lines}
use Rattle.line_forms.specs.Tables.{first_of, or_then}
use Rattle.line_forms.specs.Texts.{Grammar}
use Rattle.line_forms.specs.Heads.{Body, script, head_lines}
use Rattle.line_forms.specs.declared.cause.Cause.{Cause}
use Rattle.line_forms.specs.declared.cause.Cause.TheVariants.{Twice, TooManyLiars, TooManyFaulty, LyingClient, TooManyLines, Device as DeviceCause}
use Rattle.plan_words.specs.declared.fault.Fault.{Fault}
use Rattle.plan_words.specs.declared.job.Job.{Job}
use Rattle.plan_words.specs.declared.plan.Plan.{Plan}
use Rattle.plan_words.specs.Named.{pair_eq}
use Rattle.plan_words.specs.Plans.{step_limit}
use Rattle.plan_words.specs.declared.line.PlanLine.{PlanLine}
use Rattle.plan_words.specs.declared.line.PlanLine.TheVariants.{Rule, Work}
use Rattle.plan_words.specs.Lines.{line_text}
use Rattle.plan_words.specs.Forms.{line_cause}
use Rattle.plan_text.specs.Marks.{Marks, marks_in}

-- ---- texts

abbrev pub rule_of : PlanLine → Option Fault
rule_of (Rule fault) = Some fault
rule_of (Work job) = None

abbrev pub job_of : PlanLine → Option Job
job_of (Rule fault) = None
job_of (Work job) = Some job

abbrev pub rules_in : List PlanLine → List Fault
rules_in lines = filter_map rule_of lines

abbrev pub work_in : List PlanLine → List Job
work_in lines = filter_map job_of lines

-- the lines of a text with these lines in its body
abbrev pub plan_lines : Numbers → List PlanLine → List (List ℕ)
plan_lines c lines = head_lines c ++ map line_text lines

-- the text is a plan's, whose rules and work stand in their order, in whichever order among each other
pub record Spells (text : List ℕ) (plan : Plan) : Type 0 where
  pub of_scripts : IsOfScripts plan.config
  pub lines : List PlanLine
  pub rules : rules_in lines ≡ plan.rules
  pub work : work_in lines ≡ plan.work
  pub spelled : text ≡ text_of_lines (plan_lines plan.config lines)

-- the text of a plan, rules first
abbrev pub plan_text : Plan → List ℕ
plan_text plan = text_of_lines (plan_lines plan.config (map Rule plan.rules ++ map Work plan.work))

-- ---- what stands against a line after others, by their marks

-- it is one of these
abbrev pub is_among : {X : Type 0} → (X → X → Bool) → Option X → List X → Bool
is_among eq None xs = false
is_among eq (Some x) xs = is_member eq xs x

-- it is there, and none of these
abbrev pub is_new : {X : Type 0} → (X → X → Bool) → Option X → List X → Bool
is_new eq None xs = false
is_new eq (Some x) xs = not (is_member eq xs x)

-- the client that a line names
abbrev pub client_of : Marks → Option ℕ
client_of m = option_or m.lying_client m.asking_client

-- it names again what an earlier line of its kind names, or makes a node lie or crash that an earlier line does
abbrev pub names_again : List Marks → Marks → Bool
names_again before m =
    is_among nat_eq m.faulty_node (filter_map (λ e. e.faulty_node) before)
    || is_among nat_eq m.crashing_client (filter_map (λ e. e.crashing_client) before)
    || is_among pair_eq m.dropped (filter_map (λ e. e.dropped) before)
    || is_among pair_eq m.held (filter_map (λ e. e.held) before)

-- it gives a client that lies something to ask, or declares one lying that asks
abbrev pub is_of_liar : List Marks → Marks → Bool
is_of_liar before m =
    is_among nat_eq m.lying_client (filter_map (λ e. e.asking_client) before)
    || is_among nat_eq m.asking_client (filter_map (λ e. e.lying_client) before)

-- it is one node, client, flood, phase or block operation more than there may be
abbrev pub is_liar_too_many : Numbers → List Marks → Marks → Bool
is_liar_too_many c before m = is_some m.lying_node && nat_le c.b (length (filter_map (λ e. e.lying_node) before))

abbrev pub is_faulty_too_many : Numbers → List Marks → Marks → Bool
is_faulty_too_many c before m = is_some m.faulty_node && nat_le c.t (length (filter_map (λ e. e.faulty_node) before))

abbrev pub is_client_too_many : List Marks → Marks → Bool
is_client_too_many before m = is_new nat_eq (client_of m) (filter_map client_of before) && nat_le 64 (distinct_count nat_eq (filter_map client_of before))

abbrev pub is_line_too_many : Numbers → List Marks → Marks → Bool
is_line_too_many c before m =
    is_client_too_many before m
    || (m.is_flood && nat_le 8 (count_by (λ e. e.is_flood) before))
    || (m.is_phase && nat_le 64 (count_by (λ e. e.is_phase) before))
    || nat_lt (step_limit c) (sum_by (λ e. e.steps) before + m.steps)

abbrev pub mark_causes : Numbers → List Marks → Marks → List (Bool × Cause)
mark_causes c before m =
    (names_again before m, Twice)
    ∷ (is_liar_too_many c before m, TooManyLiars)
    ∷ (is_faulty_too_many c before m, TooManyFaulty)
    ∷ (is_of_liar before m, LyingClient)
    ∷ (is_line_too_many c before m, TooManyLines)
    ∷ []

-- what stands against a line of these marks, which has no cause by itself
unfoldable pub later_cause : Numbers → List Marks → Marks → Option Cause
later_cause c before m = or_then (first_of (mark_causes c before m)) (option_map DeviceCause m.fault)

-- ---- the grammar

abbrev pub marks_of : Numbers → List ℕ → Marks
marks_of c line = marks_in c (fields_of line)

-- what is wrong with a line after these
unfoldable pub plan_cause : Numbers → List (List ℕ) → List ℕ → Option Cause
plan_cause c before line = or_then (line_cause c (fields_of line)) (later_cause c (map (marks_of c) before) (marks_of c line))

abbrev pub plan_may_end : Numbers → List (List ℕ) → Bool
plan_may_end c before = true

abbrev pub plan_body : Body
plan_body = record { cause = plan_cause; may_end = plan_may_end }

-- the texts that are read as plans
abbrev pub plan_script : Grammar
plan_script = script plan_body
