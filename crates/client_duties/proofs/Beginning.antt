-- A client that has done nothing stands before its first phase.
use Rattle.std.proofs.Common.{◌≡◌, ℕ, zero, suc, ◌+◌, ◌-◌, ◌<◌, false, List, [], ◌++◌, length, map, take, Option, refl, sym, ap, subst, ◌∙◌, arith, inl}
use Rattle.std.specs.declared.option.Option.TheVariants.{None, Some}
use Rattle.std.specs.Prelude.{slice_get}
use Rattle.std.specs.List.{range_with_len}
use Rattle.std.proofs.lemmas.List.FromFn.{length-map-range_with_len}
use Rattle.quorum_rules.specs.Limits.{IsValid}
use Rattle.block_device.specs.declared.steps.BlockStep.{BlockStep}
use Rattle.plan_words.specs.declared.plan.Plan.{Plan}
use Rattle.client_desks.specs.Desks.{DeskView}
use Rattle.plan_followed.specs.Asked.{drops, holds, client_crash}
use Rattle.plan_followed.specs.Clients.{InEach, GoesByPlan, IsDone}
use Rattle.plan_followed.proofs.lemmas.Entries as followed
use Rattle.client_duties.specs.declared.task.Ways.{Ways}
use Rattle.client_duties.specs.declared.task.ClientTask.{ClientTask}
use Rattle.client_duties.specs.Phases.{all_steps}
use Rattle.client_duties.specs.Tasks.{ways_of, IsClientTask}
use Rattle.client_duties.specs.declared.correct_client.CorrectClient.{CorrectClient}
use Rattle.client_duties.specs.ClientDuty.{ways_left, asks_left, phase_in, steps_of_first, HasSteps, Counts, IsReady}

get_range : {A : Type 0} (f : ℕ → A) (from n i : ℕ) → i < n → slice_get (map f (range_with_len from n)) i ≡ Some (f (from + i))
get_range f from zero i l = absurd (omega arith)
get_range f from (suc n) zero l = let e : from ≡ from + 0 = omega arith in ap (λ (k : ℕ). Some (f k)) e
get_range f from (suc n) (suc i) l = let e : from + 1 + i ≡ from + suc i = omega arith in get_range f (from + 1) n i (omega arith) ∙ ap (λ (k : ℕ). Some (f k)) e

abbrev pair : ℕ → ℕ → Ways
pair drops holds = record { drops = drops; holds = holds }

none_asked : (drops holds : ℕ) → pair drops holds ≡ ways_left drops holds 0
none_asked drops holds =
    let a : drops ≡ drops - 0 = omega arith in
    let b : holds ≡ holds - (0 - drops) = omega arith in
    ap (λ (x : ℕ). pair x holds) a ∙ ap (pair (drops - 0)) b

all_left : (o : Option ℕ) → o ≡ asks_left 0 o
all_left None = refl
all_left (Some count) = let e : count ≡ count - 0 = omega arith in ap Some e

module _ (plan : Plan) (t : ClientTask) (h : IsClientTask plan t) where
  pub none_done : phase_in plan t.phases ≡ 0
  none_done = let c = h.count in omega arith

  first_is : steps_of_first plan t.client (phase_in plan t.phases) ≡ []
  first_is = ap (steps_of_first plan t.client) none_done

  steps_left : HasSteps plan t.client t.phases
  steps_left = record {
    fewer = (let c = h.count in omega arith);
    next = λ k.
        let e : phase_in plan t.phases + k ≡ k = (let z = none_done in omega arith) in
        ap (steps_of_first plan t.client) e ∙ sym (h.steps k) ∙ ap (λ (x : List BlockStep). x ++ all_steps (take k t.phases)) (sym first_is);
    all = sym h.all ∙ ap (λ (x : List BlockStep). x ++ all_steps t.phases) (sym first_is);
    few = (let e = ap length h.all in let f = h.few in omega arith);
    fit = h.fit;
  }

  ways_at : (i : ℕ) → i < plan.config.n → slice_get t.ways i ≡ Some (ways_left (drops plan.rules t.client i) (holds plan.rules t.client i) 0)
  ways_at i l =
      let e : 0 + i ≡ i = omega arith in
      ap (λ (ws : List Ways). slice_get ws i) h.ways ∙ get_range (ways_of plan.rules t.client) 0 plan.config.n i l ∙ ap (λ (k : ℕ). Some (ways_of plan.rules t.client k)) e
      ∙ ap Some (none_asked (drops plan.rules t.client i) (holds plan.rules t.client i))

module _ (w : CorrectClient) (t : ClientTask) (d : DeskView) (h : IsClientTask w.plan.value t) (valid : IsValid w.plan.value.config) (same : w.config ≡ w.plan.value.config) (client : w.client ≡ t.client) (phases : w.phases.items ≡ t.phases)
    (ways : w.ways ≡ t.ways) (crash : w.crash_after ≡ t.crash_after) (config : d.config ≡ w.plan.value.config) (id : d.id ≡ w.client) (correct : d.lying ≡ false) (entries : d.entries ≡ []) where
  counts_none : Counts w []
  counts_none = record {
    nodes = ap length (ways ∙ h.ways) ∙ length-map-range_with_len (ways_of w.plan.value.rules t.client) 0 w.plan.value.config.n;
    ways = λ i l. ap (λ (ws : List Ways). slice_get ws i) ways ∙ ways_at w.plan.value t h i l
        ∙ ap (λ (c : ℕ). Some (ways_left (drops w.plan.value.rules c i) (holds w.plan.value.rules c i) 0)) (sym client);
    left = crash ∙ h.crash ∙ ap (client_crash w.plan.value.rules) (sym client) ∙ all_left (client_crash w.plan.value.rules w.client);
    few = λ count e. omega arith;
  }

  steps_all : HasSteps w.plan.value w.client w.phases.items
  steps_all = subst (λ (c : ℕ). HasSteps w.plan.value c w.phases.items) (sym client) (subst (HasSteps w.plan.value t.client) (sym phases) (steps_left w.plan.value t h))

  done_none : IsDone w.plan.value w.client (steps_of_first w.plan.value w.client (phase_in w.plan.value w.phases.items)) []
  done_none = inl (record {
    started = (let e : phase_in w.plan.value w.phases.items ≡ 0 = ap (phase_in w.plan.value) phases ∙ none_done w.plan.value t h in ap (λ (k : ℕ). length (steps_of_first w.plan.value w.client k)) (sym e));
    ended = refl;
    up = refl;
    few = λ count e. omega arith;
  })

  pub begins : IsReady w d
  begins = record {
    stands = record {
      goes = record {
        its = record { valid = valid; same = same; config = config; id = id; correct = correct };
        acts = subst (InEach (GoesByPlan w.plan.value w.client)) (sym entries) (followed.each_in (GoesByPlan w.plan.value w.client) [] tt);
        counts = subst (Counts w) (sym entries) counts_none;
      };
      done = subst (IsDone w.plan.value w.client (steps_of_first w.plan.value w.client (phase_in w.plan.value w.phases.items))) (sym entries) done_none;
      steps = steps_all;
    };
    left = (let e = ap length phases in let c = h.count in omega arith);
  }
