-- The plan that a number makes can be run.
use Rattle.std.proofs.Common.{◌≡◌, ℕ, zero, suc, ◌+◌, ◌/◌, ◌%◌, ◌<◌, ◌≤◌, Bool, true, false, ◌||◌, List, [], ◌∷◌, ◌++◌, length, map, None, refl, sym, ap, subst, ◌∙◌, inl, inr, arith}
use Rattle.std.specs.Prelude.{nat_eq, nat_le, ◌==◌, if◌then◌else◌, count_by, sum_by, slice_index}
use Rattle.std.specs.List.{AllByRecursion, IsDistinct, range_with_len, filter_map}
use Rattle.std.specs.Set.{is_member, distinct_count}
use Rattle.std.proofs.Math.Nat.{mod-lt}
use Rattle.std.proofs.lemmas.Bool.{cases_Bool, eqb-true}
use Rattle.std.proofs.lemmas.Bool.Decides.{nat_tests}
use Rattle.std.proofs.lemmas.List.Sums.{sum_by-cons}
use Rattle.std.proofs.lemmas.List.FromFn.{length-range_with_len, length-map-range_with_len}
use Rattle.plan_text.proofs.lemmas.Standing.{fewer_different}
use Rattle.text_lines.specs.Fields.{IsBytes}
use Rattle.quorum_rules.specs.Limits.{Numbers, IsValid}
use Rattle.event_lines.specs.Lines.{IsNode, IsBlock, IsValue}
use Rattle.wire_forms.specs.Liars.{Liars, IsClientNumber}
use Rattle.wire_forms.specs.declared.rule.Rule.TheVariants.{Bad}
use Rattle.wire_forms.specs.declared.op.Op.TheVariants.{Read, Write}
use Rattle.plan_words.specs.declared.fault.Fault.{Fault}
use Rattle.plan_words.specs.declared.fault.Fault.TheVariants.{LiarNode, Lose, Hold}
use Rattle.plan_words.specs.declared.job.Job.{Job}
use Rattle.plan_words.specs.declared.plan.Plan.{Plan}
use Rattle.plan_words.specs.Named.{clients, asking_clients, lying_clients, lying_nodes, faulty_nodes, troubled_client, job_client, is_phase, is_flood, liars_of}
use Rattle.plan_words.specs.Plans.{IsFault, IsOp, IsJob, device_fault, step_count, step_limit, NameOnce, AreApart, AreFitting, Fits}
use Rattle.soak_loads.proofs.Blocks.{block_there}
use Rattle.soak_loads.specs.MadePlans.{cluster, rules_of, generator, word_at, value_from, block_of, op_of, job_of, work_of, plan_of}

valid : IsValid cluster
valid = record {
  nodes = (omega arith, omega arith);
  liars = omega arith;
  low = omega arith;
  high = omega arith;
  shares = (omega arith, omega arith);
  size = (omega arith, omega arith);
  blocks = (omega arith, omega arith);
}

-- ---- rules

-- the rules, by whether there is a second client
abbrev rules_by : Bool → List Fault
rules_by b = LiarNode 4 Bad ∷ Lose 1 1 2 ∷ (if b then Hold 2 2 3 ∷ [] else [])

each_rule : (b : Bool) → AllByRecursion (IsFault cluster) (rules_by b)
each_rule b = (node 4 (omega arith), ((client 1 (omega arith) (omega arith), node 1 (omega arith), omega arith), by b))
  where
    node : (i : ℕ) → i < 5 → IsNode cluster i
    node i below = record { typed = omega arith; there = below }

    client : (c : ℕ) → 1 ≤ c → c ≤ 16 → IsClientNumber c
    client c some few = (some, omega arith)

    by : (b : Bool) → AllByRecursion (IsFault cluster) (if b then Hold 2 2 3 ∷ [] else [])
    by true = ((client 2 (omega arith) (omega arith), node 2 (omega arith), omega arith), tt)
    by false = tt

once : (b : Bool) → NameOnce (rules_by b)
unfolding IsDistinct
once true = record { nodes = (tt, tt); clients = tt; drops = (tt, tt); holds = (tt, tt) }
once false = record { nodes = (tt, tt); clients = tt; drops = (tt, tt); holds = tt }

-- whoever has asks lost or late is one of the clients
troubled_within : (b : Bool) → AllByRecursion (λ k. (1 ≤ k) × (k ≤ 16)) (filter_map troubled_client (rules_by b))
troubled_within true = ((omega arith, omega arith), ((omega arith, omega arith), tt))
troubled_within false = ((omega arith, omega arith), tt)

pub liars_are : (count : ℕ) → liars_of (rules_of count) ≡ record { nodes = 4 ∷ []; clients = [] }
liars_are count = by (nat_le 2 count)
  where
    by : (b : Bool) → liars_of (rules_by b) ≡ record { nodes = 4 ∷ []; clients = [] }
    by true = refl
    by false = refl

-- ---- operations

value_bytes : (first : ℕ) → IsBytes (value_from first)
unfolding IsBytes
value_bytes first = bytes_in (range_with_len 0 512)
  where
    bytes_in : (ks : List ℕ) (i : ℕ) → slice_index (map (λ k. (first + k) % 256) ks) i < 256
    bytes_in [] i = omega arith
    bytes_in (k ∷ ks) zero = mod-lt (first + k) (omega arith)
    bytes_in (k ∷ ks) (suc i) = bytes_in ks i

module _ (clients : ℕ) (some : 1 ≤ clients) (few : clients ≤ 16) where
  op_fits : (j word : ℕ) → IsOp cluster (op_of clients j word)
  op_fits j word = by (word / 4 % 2 == 1)
    where
      block : IsBlock cluster (block_of clients j word)
      block = let below = block_there clients j word some few in record { typed = omega arith; there = below }

      value : IsValue cluster (value_from (word / 8))
      value = record { whole = length-map-range_with_len (λ i. (word / 8 + i) % 256) 0 512; bytes = value_bytes (word / 8) }

      by : (b : Bool) → IsOp cluster (if b then Write (block_of clients j word) (value_from (word / 8)) else Read (block_of clients j word))
      by true = (block, value)
      by false = block

  client_within : (j : ℕ) → (1 ≤ 1 + j % clients) × (1 + j % clients ≤ 16)
  client_within j = let below : j % clients < clients = mod-lt j (omega arith) in (omega arith, omega arith)

  job_fits : (j word : ℕ) → IsJob cluster (job_of clients j word)
  job_fits j word = let within = client_within j in ((within.0, omega arith), op_fits j word)

  module _ (word : ℕ → ℕ) where
    abbrev jobs : List ℕ → List Job
    jobs js = map (λ j. job_of clients j (word j)) js

    each_job : (js : List ℕ) → AllByRecursion (IsJob cluster) (jobs js)
    each_job [] = tt
    each_job (j ∷ js) = (job_fits j (word j), each_job js)

    in_device : (js : List ℕ) → AllByRecursion (λ job. device_fault cluster job ≡ None) (jobs js)
    in_device [] = tt
    in_device (j ∷ js) = (refl, in_device js)

    working_within : (js : List ℕ) → AllByRecursion (λ k. (1 ≤ k) × (k ≤ 16)) (filter_map job_client (jobs js))
    working_within [] = tt
    working_within (j ∷ js) = (client_within j, working_within js)

    no_phases : (js : List ℕ) → count_by is_phase (jobs js) ≡ 0
    no_phases [] = refl
    no_phases (j ∷ js) = no_phases js

    one_step_each : (js : List ℕ) → sum_by (step_count cluster) (jobs js) ≡ length js
    one_step_each [] = refl
    one_step_each (j ∷ js) =
        let rest = one_step_each js in
        let step : step_count cluster (job_of clients j (word j)) + sum_by (step_count cluster) (jobs js) ≡ suc (length js) = omega arith in
        sum_by-cons (step_count cluster) (job_of clients j (word j)) (jobs js) ∙ step

-- ---- few clients

there : (n a k : ℕ) → a ≤ k → k < a + n → is_member nat_eq (range_with_len a n) k ≡ true
there zero a k low high = absurd (omega arith)
there (suc n) a k low high =
    elim (cases_Bool (nat_eq k a)) [
      | inl same ↦ rw same refl
      | inr other ↦ rw other (there n (a + 1) k (grind (arith, nat_tests)) (omega arith))
    ]

among : (xs ys : List ℕ) → AllByRecursion (λ k. is_member nat_eq ys k ≡ true) xs → (q : ℕ) → is_member nat_eq xs q ≡ true → is_member nat_eq ys q ≡ true
among [] ys h q is = absurd cc
among (x ∷ xs) ys h q is =
    elim (cases_Bool (nat_eq q x)) [
      | inl same ↦ ap (is_member nat_eq ys) (eqb-true q x same) ∙ h.0
      | inr other ↦ among xs ys h.1 q (ap (λ b. b || is_member nat_eq xs q) (sym other) ∙ is)
    ]

few_of : (xs ys : List ℕ) → AllByRecursion (λ k. (1 ≤ k) × (k ≤ 16)) xs → AllByRecursion (λ k. (1 ≤ k) × (k ≤ 16)) ys → distinct_count nat_eq (xs ++ ys) ≤ 16
few_of xs ys h k = fewer_different (xs ++ ys) (range_with_len 1 16) (among (xs ++ ys) (range_with_len 1 16) (all xs ys h k))
  where
    each : (ys : List ℕ) → AllByRecursion (λ k. (1 ≤ k) × (k ≤ 16)) ys → AllByRecursion (λ k. is_member nat_eq (range_with_len 1 16) k ≡ true) ys
    each [] k = tt
    each (y ∷ ys) k = (there 16 1 y k.0.0 (omega (arith, k.0.1)), each ys k.1)

    all : (xs ys : List ℕ) → AllByRecursion (λ k. (1 ≤ k) × (k ≤ 16)) xs → AllByRecursion (λ k. (1 ≤ k) × (k ≤ 16)) ys → AllByRecursion (λ k. is_member nat_eq (range_with_len 1 16) k ≡ true) (xs ++ ys)
    all [] ys h k = each ys k
    all (x ∷ xs) ys h k = (there 16 1 x h.0.0 (omega (arith, h.0.1)), all xs ys h.1 k)

-- ---- the whole

limit : step_limit cluster ≡ 4000
limit = refl

-- no client lies, so each has work or is one whose asks are lost or late
none_lies : (b : Bool) → lying_clients (rules_by b) ≡ []
none_lies true = refl
none_lies false = refl

lying : (b : Bool) → length (lying_nodes (rules_by b)) ≡ 1
lying true = refl
lying false = refl

faulty : (b : Bool) → length (faulty_nodes (rules_by b)) ≡ 1
faulty true = refl
faulty false = refl

no_floods : (b : Bool) → count_by is_flood (rules_by b) ≡ 0
no_floods true = refl
no_floods false = refl

module _ (count : ℕ) (some : 1 ≤ count) (few : count ≤ 16) (word : ℕ → ℕ) (b : Bool) (js : List ℕ) where
  abbrev work : List Job
  work = map (λ j. job_of count j (word j)) js

  named : distinct_count nat_eq (clients (rules_by b) work) ≤ 16
  named =
      subst (λ (ks : List ℕ). distinct_count nat_eq (ks ++ asking_clients (rules_by b) work) ≤ 16) (sym (none_lies b))
      (few_of (filter_map troubled_client (rules_by b)) (filter_map job_client work) (troubled_within b) (working_within count some few word js))

  apart : AreApart (rules_by b) work
  apart k is = let none : false ≡ true = ap (λ ks. is_member nat_eq ks k) (sym (none_lies b)) ∙ is in absurd cc

  fitting : length js ≤ 4000 → AreFitting cluster (rules_by b) work
  fitting short = record {
    each_rule = each_rule b;
    each_job = each_job count some few word js;
    in_device = in_device count some few word js;
    once = once b;
    few = record {
      lying = omega (arith, lying b);
      faulty = omega (arith, faulty b);
      clients = omega (arith, named);
      floods = omega (arith, no_floods b);
      phases = omega (arith, no_phases count some few word js);
      steps = omega (arith, one_step_each count some few word js, limit);
    };
    apart = apart;
  }

pub plan_fits : (number count ops : ℕ) → 1 ≤ count → count ≤ 16 → ops ≤ 4000 → Fits (plan_of number count ops)
plan_fits number count ops some few short = record {
  valid = valid;
  fitting = fitting count some few (word_at (generator number)) (nat_le 2 count) (range_with_len 0 ops) (omega (arith, length-range_with_len 0 ops));
  liars = refl;
}

abbrev plan_with : Numbers → Liars → List Fault → List Job → Plan
plan_with config liars rules jobs = record { config = config; liars = liars; rules = rules; work = jobs }

same_plan : (config c : Numbers) (liars l : Liars) (rules r : List Fault) (jobs k : List Job) → config ≡ c → liars ≡ l → rules ≡ r → jobs ≡ k → plan_with config liars rules jobs ≡ plan_with c l r k
same_plan config c liars l rules r jobs k a b d e i = plan_with (a i) (b i) (d i) (e i)

-- what is made of these parts can be run
pub parts_fit : (number count ops : ℕ) → 1 ≤ count → count ≤ 16 → ops ≤ 4000 → (config : Numbers) (liars : Liars) (rules : List Fault) (jobs : List Job)
    → config ≡ cluster → liars.nodes ≡ 4 ∷ [] → liars.clients ≡ [] → rules ≡ rules_of count → jobs ≡ work_of number count ops
    → Fits (plan_with config liars rules jobs)
parts_fit number count ops some few short config liars rules jobs c nodes none r w =
    subst Fits (sym (same_plan config cluster liars (liars_of (rules_of count)) rules (rules_of count) jobs (work_of number count ops) c (same_liars ∙ sym (liars_are count)) r w))
    (plan_fits number count ops some few short)
  where
    these : List ℕ → List ℕ → Liars
    these ns cs = record { nodes = ns; clients = cs }

    same_liars : liars ≡ these (4 ∷ []) []
    same_liars i = these (nodes i) (none i)
