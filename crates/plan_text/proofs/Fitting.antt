-- A plan whose lines have nothing against them fits.
use Rattle.std.proofs.Common.{◌≡◌, ℕ, ◌≤◌, Bool, true, false, ◌||◌, cond, List, [], ◌∷◌, length, map, Option, Some, None, refl, sym, ap, subst, ◌∙◌, ◌⊎◌, inl, inr}
use Rattle.std.specs.Prelude.{nat_eq}
use Rattle.std.specs.List.{AllByRecursion, IsDistinct, filter_map, cons_option}
use Rattle.std.specs.Option.{option_or}
use Rattle.std.specs.Ordering.{nat_cmp}
use Rattle.std.specs.Set.{is_member}
use Rattle.std.proofs.lemmas.List.Folds.{list_any-append}
use Rattle.quorum_rules.specs.Limits.{Numbers}
use Rattle.plan_words.specs.declared.fault.Fault.{Fault}
use Rattle.plan_words.specs.declared.job.Job.{Job}
use Rattle.plan_words.specs.declared.plan.Plan.{Plan}
use Rattle.plan_words.specs.Named.{lying_node, faulty_node, lying_client, crashing_client, troubled_client, job_client, dropped_pair, held_pair, pair_eq, lying_clients, asking_clients, clients, is_flood, is_phase}
use Rattle.plan_words.specs.Plans.{IsFault, IsJob, device_fault, step_count, step_limit, AreFitting, Fits}
use Rattle.plan_words.specs.declared.line.PlanLine.{PlanLine}
use Rattle.plan_words.specs.declared.line.PlanLine.TheVariants.{Rule, Work}
use Rattle.plan_text.specs.declared.seen.Seen.{Seen}
use Rattle.plan_words.specs.Lines.{IsPlanLine}
use Rattle.plan_text.specs.Marks.{line_marks}
use Rattle.plan_text.specs.Plans.{client_of, rules_in, work_in}
use Rattle.plan_text.specs.Reading.{HasAll, IsSeen, AreFine, BodyRead}
use Rattle.plan_text.proofs.Marked.{one_sided, named_by_rules, named_by_both, counted_by_rules, counted_by_work}
use Rattle.plan_text.proofs.Sets.{len_is}
use Rattle.lists.proofs.lemmas.Tests.{or_swapped}

each_rule : (c : Numbers) (ls : List PlanLine) → AllByRecursion (IsPlanLine c) ls → AllByRecursion (IsFault c) (rules_in ls)
each_rule c [] h = tt
each_rule c (Rule f ∷ ls) h = (h.0, each_rule c ls h.1)
each_rule c (Work j ∷ ls) h = each_rule c ls h.1

each_job : (c : Numbers) (ls : List PlanLine) → AllByRecursion (IsPlanLine c) ls → AllByRecursion (IsJob c) (work_in ls)
each_job c [] h = tt
each_job c (Rule f ∷ ls) h = each_job c ls h.1
each_job c (Work j ∷ ls) h = (h.0, each_job c ls h.1)

in_device : (c : Numbers) (ls : List PlanLine) → AllByRecursion (λ m. m.fault ≡ None) (map (line_marks c) ls) → AllByRecursion (λ job. device_fault c job ≡ None) (work_in ls)
in_device c [] h = tt
in_device c (Rule f ∷ ls) h = in_device c ls h.1
in_device c (Work j ∷ ls) h = (h.0, in_device c ls h.1)

or_assoc : (a b c : Bool) → (a || (b || c)) ≡ ((a || b) || c)
or_assoc true b c = refl
or_assoc false b c = refl

split_cons : (l a : Option ℕ) → (l ≡ None) ⊎ (a ≡ None) → (C L A : List ℕ) (q : ℕ) → is_member nat_eq C q ≡ (is_member nat_eq L q || is_member nat_eq A q)
    → is_member nat_eq (cons_option (option_or l a) C) q ≡ (is_member nat_eq (cons_option l L) q || is_member nat_eq (cons_option a A) q)
split_cons None None one C L A q h = h
split_cons None (Some x) one C L A q h = ap (λ b. nat_eq q x || b) h ∙ or_swapped (nat_eq q x) (is_member nat_eq L q) (is_member nat_eq A q)
split_cons (Some x) None one C L A q h = ap (λ b. nat_eq q x || b) h ∙ or_assoc (nat_eq q x) (is_member nat_eq L q) (is_member nat_eq A q)
split_cons (Some x) (Some y) one C L A q h = elim one [ inl e ↦ absurd cc | inr e ↦ absurd cc ]

-- a client that a line names lies or asks
clients_split : (c : Numbers) (ls : List PlanLine) (q : ℕ) → is_member nat_eq (filter_map client_of (map (line_marks c) ls)) q
    ≡ (is_member nat_eq (filter_map (λ m. m.lying_client) (map (line_marks c) ls)) q || is_member nat_eq (filter_map (λ m. m.asking_client) (map (line_marks c) ls)) q)
clients_split c [] q = refl
clients_split c (l ∷ ls) q =
    let m = line_marks c l in
    let ms = map (line_marks c) ls in
    split_cons m.lying_client m.asking_client (one_sided c l) (filter_map client_of ms) (filter_map (λ e. e.lying_client) ms) (filter_map (λ e. e.asking_client) ms) q (clients_split c ls q)

pub lying_is : (c : Numbers) (ls : List PlanLine) → filter_map (λ m. m.lying_client) (map (line_marks c) ls) ≡ lying_clients (rules_in ls)
lying_is c ls = named_by_rules c (λ m. m.lying_client) lying_client (λ f. refl) (λ j. refl) ls

pub asking_is : (c : Numbers) (ls : List PlanLine) (q : ℕ) → is_member nat_eq (filter_map (λ m. m.asking_client) (map (line_marks c) ls)) q ≡ is_member nat_eq (asking_clients (rules_in ls) (work_in ls)) q
asking_is c ls q = named_by_both c (λ m. m.asking_client) troubled_client job_client (λ f. refl) (λ j. refl) ls q

pub clients_are : (c : Numbers) (ls : List PlanLine) (q : ℕ) → is_member nat_eq (filter_map client_of (map (line_marks c) ls)) q ≡ is_member nat_eq (clients (rules_in ls) (work_in ls)) q
clients_are c ls q =
    clients_split c ls q ∙ ap (λ ks. is_member nat_eq ks q || is_member nat_eq (filter_map (λ m. m.asking_client) (map (line_marks c) ls)) q) (lying_is c ls)
    ∙ ap (λ b. is_member nat_eq (lying_clients (rules_in ls)) q || b) (asking_is c ls q)
    ∙ sym (list_any-append (nat_eq q) (lying_clients (rules_in ls)) (asking_clients (rules_in ls) (work_in ls)))

fitting : (c : Numbers) (ls : List PlanLine) (seen : Seen) → AllByRecursion (IsPlanLine c) ls → AreFine c (map (line_marks c) ls) → IsSeen (map (line_marks c) ls) seen → AreFitting c (rules_in ls) (work_in ls)
fitting c ls seen each fine noted =
    let ms = map (line_marks c) ls in
    let rules = rules_in ls in
    let work = work_in ls in
    let has : HasAll nat_cmp nat_eq seen.clients (clients rules work) = λ q. noted.clients q ∙ clients_are c ls q in
    let count = sym (len_is seen.clients (filter_map client_of ms) noted.ordered noted.clients) ∙ len_is seen.clients (clients rules work) noted.ordered has in
    record {
      each_rule = each_rule c ls each;
      each_job = each_job c ls each;
      in_device = in_device c ls fine.in_device;
      once = record {
        nodes = subst (IsDistinct nat_eq) (named_by_rules c (λ m. m.faulty_node) faulty_node (λ f. refl) (λ j. refl) ls) fine.nodes;
        clients = subst (IsDistinct nat_eq) (named_by_rules c (λ m. m.crashing_client) crashing_client (λ f. refl) (λ j. refl) ls) fine.crashes;
        drops = subst (IsDistinct pair_eq) (named_by_rules c (λ m. m.dropped) dropped_pair (λ f. refl) (λ j. refl) ls) fine.drops;
        holds = subst (IsDistinct pair_eq) (named_by_rules c (λ m. m.held) held_pair (λ f. refl) (λ j. refl) ls) fine.holds;
      };
      few = record {
        lying = subst (λ (ks : List ℕ). length ks ≤ c.b) (named_by_rules c (λ m. m.lying_node) lying_node (λ f. refl) (λ j. refl) ls) fine.lying;
        faulty = subst (λ (ks : List ℕ). length ks ≤ c.t) (named_by_rules c (λ m. m.faulty_node) faulty_node (λ f. refl) (λ j. refl) ls) fine.faulty;
        clients = subst (λ n. n ≤ 64) count fine.clients;
        floods = subst (λ n. n ≤ 8) (counted_by_rules c (λ m. cond m.is_flood 1 0) (λ f. cond (is_flood f) 1 0) (λ f. refl) (λ j. refl) ls) fine.floods;
        phases = subst (λ n. n ≤ 64) (counted_by_work c (λ m. cond m.is_phase 1 0) (λ j. cond (is_phase j) 1 0) (λ f. refl) (λ j. refl) ls) fine.phases;
        steps = subst (λ n. n ≤ step_limit c) (counted_by_work c (λ m. m.steps) (step_count c) (λ f. refl) (λ j. refl) ls) fine.steps;
      };
      apart = λ k is. sym (asking_is c ls k) ∙ fine.apart k (ap (λ ks. is_member nat_eq ks k) (lying_is c ls) ∙ is);
    }

pub body_fits : (text : List ℕ) (plan : Plan) (seen : Seen) (rest : List ℕ) (number : ℕ) → BodyRead text plan seen rest number → Fits plan
body_fits text plan seen rest number h = record {
  valid = h.valid;
  fitting = subst (λ (js : List Job). AreFitting plan.config plan.rules js) h.work (subst (λ (rs : List Fault). AreFitting plan.config rs (work_in h.lines)) h.rules (fitting plan.config h.lines seen h.each h.fine h.noted));
  liars = h.liars;
}
