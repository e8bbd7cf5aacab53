-- What is known while a plan is read.
use Rattle.std.specs.Prelude.{ℕ, ◌≡◌, ◌+◌, ◌≤◌, Bool, true, false, not, ◌&&◌, ◌||◌, nat_le, nat_lt, List, [], ◌∷◌, length, map, count_by, sum_by, nat_eq, Option, Some, None, is_some, option_map}
use Rattle.std.specs.List.{filter_map, AllByRecursion, IsDistinct}
use Rattle.std.specs.declared.cmp.Ordering.{Ordering}
use Rattle.std.specs.Ordering.{nat_cmp, ordering_then}
use Rattle.std.specs.Set.{is_member, distinct_count}
use Rattle.std.specs.BTreeSet.{BTreeSet, contains, btree_set_len, IsOrdered, insert_key}
use Rattle.quorum_rules.specs.Limits.{Numbers, IsValid, IsOfScripts}
use Rattle.text_lines.specs.Lines.{fields_of}
use Rattle.wire_forms.specs.Liars.{Liars}
use Rattle.line_forms.specs.Tables.{first_of, or_then}
use Rattle.line_forms.specs.Texts.{ReadsTo}
use Rattle.line_forms.specs.declared.cause.Cause.{Cause}
use Rattle.line_forms.specs.declared.cause.Cause.TheVariants.{Twice, TooManyLiars, TooManyFaulty, LyingClient, TooManyLines, Device as DeviceCause}
use Rattle.plan_words.specs.declared.plan.Plan.{Plan}
use Rattle.plan_words.specs.Named.{pair_eq, liars_of}
use Rattle.plan_words.specs.Plans.{step_limit}
use Rattle.plan_words.specs.declared.line.PlanLine.{PlanLine}
use Rattle.plan_text.specs.declared.seen.Seen.{Seen}
use Rattle.plan_words.specs.Lines.{IsPlanLine}
use Rattle.plan_text.specs.Marks.{Marks, line_marks}
use Rattle.plan_words.specs.Forms.{line_cause}
use Rattle.plan_text.specs.Plans.{client_of, marks_of, rules_in, work_in, plan_lines, plan_script}
use Rattle.plan_text.specs.Sets.{has}

-- the order of pairs
abbrev pub pair_cmp : ℕ × ℕ → ℕ × ℕ → Ordering
pair_cmp a b = ordering_then (nat_cmp a.0 b.0) (nat_cmp a.1 b.1)

-- the set has these and no others
abbrev pub HasAll : {K : Type 0} → (K → K → Ordering) → (K → K → Bool) → BTreeSet K → List K → Type 0
HasAll {K} cmp eq set keys = (q : K) → contains cmp set q ≡ is_member eq keys q

-- what was seen are these lines
pub record IsSeen (lines : List Marks) (seen : Seen) : Type 0 where
  pub faulty : HasAll nat_cmp nat_eq seen.faulty (filter_map (λ m. m.faulty_node) lines)
  pub crashing : HasAll nat_cmp nat_eq seen.crashing (filter_map (λ m. m.crashing_client) lines)
  pub dropped : HasAll pair_cmp pair_eq seen.dropped (filter_map (λ m. m.dropped) lines)
  pub held : HasAll pair_cmp pair_eq seen.held (filter_map (λ m. m.held) lines)
  pub lying : HasAll nat_cmp nat_eq seen.lying (filter_map (λ m. m.lying_client) lines)
  pub asking : HasAll nat_cmp nat_eq seen.asking (filter_map (λ m. m.asking_client) lines)
  pub clients : HasAll nat_cmp nat_eq seen.clients (filter_map client_of lines)
  pub ordered : IsOrdered nat_cmp seen.clients
  pub lying_nodes : seen.lying_nodes ≡ length (filter_map (λ m. m.lying_node) lines)
  pub faulty_nodes : seen.faulty_nodes ≡ length (filter_map (λ m. m.faulty_node) lines)
  pub floods : seen.floods ≡ count_by (λ m. m.is_flood) lines
  pub phases : seen.phases ≡ count_by (λ m. m.is_phase) lines
  pub steps : seen.steps ≡ sum_by (λ m. m.steps) lines

-- nothing stands against any of these lines, each after those before it
pub record AreFine (c : Numbers) (lines : List Marks) : Type 0 where
  pub nodes : IsDistinct nat_eq (filter_map (λ m. m.faulty_node) lines)
  pub crashes : IsDistinct nat_eq (filter_map (λ m. m.crashing_client) lines)
  pub drops : IsDistinct pair_eq (filter_map (λ m. m.dropped) lines)
  pub holds : IsDistinct pair_eq (filter_map (λ m. m.held) lines)
  pub lying : length (filter_map (λ m. m.lying_node) lines) ≤ c.b
  pub faulty : length (filter_map (λ m. m.faulty_node) lines) ≤ c.t
  pub apart : (k : ℕ) → is_member nat_eq (filter_map (λ m. m.lying_client) lines) k ≡ true → is_member nat_eq (filter_map (λ m. m.asking_client) lines) k ≡ false
  pub clients : distinct_count nat_eq (filter_map client_of lines) ≤ 64
  pub floods : count_by (λ m. m.is_flood) lines ≤ 8
  pub phases : count_by (λ m. m.is_phase) lines ≤ 64
  pub steps : sum_by (λ m. m.steps) lines ≤ step_limit c
  pub in_device : AllByRecursion (λ m. m.fault ≡ None) lines

-- ---- what stands against a line, by what was seen

abbrev pub seen_again : Seen → Marks → Bool
seen_again seen m = has nat_cmp seen.faulty m.faulty_node || has nat_cmp seen.crashing m.crashing_client || has pair_cmp seen.dropped m.dropped || has pair_cmp seen.held m.held

abbrev pub seen_of_liar : Seen → Marks → Bool
seen_of_liar seen m = has nat_cmp seen.asking m.lying_client || has nat_cmp seen.lying m.asking_client

abbrev pub seen_client_too_many : Seen → Marks → Bool
seen_client_too_many seen m = is_some (client_of m) && not (has nat_cmp seen.clients (client_of m)) && nat_le 64 (btree_set_len seen.clients)

abbrev pub seen_too_many : Numbers → Seen → Marks → Bool
seen_too_many c seen m =
    seen_client_too_many seen m
    || (m.is_flood && nat_le 8 seen.floods)
    || (m.is_phase && nat_le 64 seen.phases)
    || nat_lt (step_limit c) (seen.steps + m.steps)

-- the first cause against a line of these marks
abbrev pub seen_cause : Numbers → Seen → Marks → Option Cause
seen_cause c seen m =
    or_then (first_of (
    (seen_again seen m, Twice)
    ∷ (is_some m.lying_node && nat_le c.b seen.lying_nodes, TooManyLiars)
    ∷ (is_some m.faulty_node && nat_le c.t seen.faulty_nodes, TooManyFaulty)
    ∷ (seen_of_liar seen m, LyingClient)
    ∷ (seen_too_many c seen m, TooManyLines)
    ∷ []
    )) (option_map DeviceCause m.fault)

-- the first cause of a line
abbrev pub next_cause : Numbers → Seen → List ℕ → Option Cause
next_cause c seen line = or_then (line_cause c (fields_of line)) (seen_cause c seen (marks_of c line))

-- ---- plans that are read

-- these numbers and the one that is there
abbrev pub with_number : List ℕ → Option ℕ → List ℕ
with_number numbers None = numbers
with_number numbers (Some k) = insert_key nat_cmp numbers k

-- these liars and those that a line of these marks declares
abbrev pub with_liar : Liars → Marks → Liars
with_liar liars m = record { nodes = with_number liars.nodes m.lying_node; clients = with_number liars.clients m.lying_client }

-- lines of the body were read, this is left, and its first line has this number
pub record BodyRead (text : List ℕ) (plan : Plan) (seen : Seen) (rest : List ℕ) (number : ℕ) : Type 0 where
  pub lines : List PlanLine
  pub valid : IsValid plan.config
  pub of_scripts : IsOfScripts plan.config
  pub rules : rules_in lines ≡ plan.rules
  pub work : work_in lines ≡ plan.work
  pub liars : plan.liars ≡ liars_of plan.rules
  pub each : AllByRecursion (IsPlanLine plan.config) lines
  pub fine : AreFine plan.config (map (line_marks plan.config) lines)
  pub noted : IsSeen (map (line_marks plan.config) lines) seen
  pub reads : ReadsTo plan_script text (plan_lines plan.config lines) rest
  pub number_is : number ≡ length lines + 3
  pub room : number + length rest ≤ length text + 3
