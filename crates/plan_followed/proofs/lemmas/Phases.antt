-- Journals that follow a plan are those of a run in phases.
use Rattle.std.proofs.Common.{◌≡◌, ℕ, ◌+◌, ◌<◌, length, Bool, true, false, ◌&&◌, cond, List, [], ◌∷◌, ◌++◌, map, refl, sym, ap, subst, ◌∙◌, arith, inl, inr}
use Rattle.std.specs.Prelude.{Option, None, Some, nat_lt, nat_le, slice_get}
use Rattle.std.specs.List.{Contains, AllByRecursion, filter_map, cons_option}
use Rattle.std.proofs.lemmas.Bool.Decides.{nat_tests, eqb_tells}
use Rattle.std.proofs.lemmas.List.Elements.{Contains-append_cases}
use Rattle.stamp_order.specs.declared.Stamp.{Stamp}
use Rattle.quorum_rules.specs.Limits.{Numbers}
use Rattle.wire_forms.specs.Liars.{has_number, IsClientNumber}
use Rattle.protocol.specs.Instance.{IsCluster}
use Rattle.plan_words.specs.declared.fault.Fault.{Fault}
use Rattle.plan_words.specs.declared.fault.Fault.TheVariants.{LiarNode, LiarSound, LiarMix, LiarFlood, CrashNode, CrashClient, Lose, Hold}
use Rattle.plan_words.specs.declared.job.Job.{Job}
use Rattle.plan_words.specs.declared.job.Job.TheVariants.{Block, Device, Phase as PhaseEnd}
use Rattle.plan_words.specs.declared.plan.Plan.{Plan}
use Rattle.plan_words.specs.Named.{lying_client, troubled_client, job_client, lying_clients, asking_clients}
use Rattle.plan_words.specs.Plans.{IsFault, IsJob, Fits}
use Rattle.block_device.specs.declared.steps.BlockStep.{BlockStep}
use Rattle.journals.specs.declared.desk.DeskJournal.{DeskJournal}
use Rattle.journals.specs.declared.node.NodeAct.TheVariants.{Pruned}
use Rattle.journals.specs.declared.node.NodeAct.{NodeAct}
use Rattle.journals.specs.declared.node.NodeEntry.{NodeEntry}
use Rattle.journals.specs.declared.desk.DeskEntry.{DeskEntry}
use Rattle.journals.specs.Desks.{new_desk, desk_after_all}
use Rattle.journals.specs.declared.whole.Journals.{Journals}
use Rattle.journals.specs.Journals.{setting_for, at_node, at_desk, entries_of, desks_before, cluster_at}
use Rattle.journals.specs.Phases.{Phase, IsWithin, IsAtRest, IsPhase, IsGreatest, AreClients, PhasesFollow}
use Rattle.plan_followed.specs.Asked.{conduct_of, steps_for, first_phases}
use Rattle.plan_followed.specs.Clients.{IsDone, ClientFollows}
use Rattle.plan_followed.specs.Nodes.{Pruning, act_of, nodes_within}
use Rattle.plan_followed.specs.Followed.{FollowsAs, Follows, AreOfPlan}
use Rattle.plan_followed.specs.Laws.{OfPlans, HasCluster, PlansPhase, PlansRun}
use Rattle.plan_followed.proofs.lemmas.Plans.{liar_there, some_same}
use Rattle.lists.proofs.lemmas.Members.{Contains-head, Contains-none, Contains-rest, Contains-cons_cases, Contains-map_cases, Contains-map, filter_has, place_of}
use Rattle.journals.proofs.lemmas.Projections.{there_below}

-- ---- who has a desk is a client

-- what a list of numbers was made of
named_cases : {X : Type 0} (h : X → Option ℕ) (P : ℕ → Type 0) (Q : X → Type 0) → ((x : X) (k : ℕ) → Q x → h x ≡ Some k → P k) → (xs : List X) → AllByRecursion Q xs → (k : ℕ) → Contains (filter_map h xs) k → P k
named_cases h P Q to [] a k there = absurd (Contains-none k there)
named_cases {X} h P Q to (x ∷ xs) a k there = at (h x) refl there (named_cases h P Q to xs a.1 k)
  where
    at : (o : Option ℕ) → h x ≡ o → Contains (cons_option o (filter_map h xs)) k → (Contains (filter_map h xs) k → P k) → P k
    at None e there rest = rest there
    at (Some q) e there rest = elim (Contains-cons_cases k q (filter_map h xs) there) [
      | inl same ↦ subst P (sym same) (to x q a.0 e)
      | inr r ↦ rest r
    ]

pub troubled_there : (c : Numbers) (rule : Fault) (k : ℕ) → IsFault c rule → troubled_client rule ≡ Some k → IsClientNumber k
troubled_there c (LiarNode node rule) k h e = absurd (cc)
troubled_there c (LiarSound client block time value count) k h e = absurd (cc)
troubled_there c (LiarMix client block time value other count) k h e = absurd (cc)
troubled_there c (LiarFlood client block time value other count) k h e = absurd (cc)
troubled_there c (CrashNode node count) k h e = absurd (cc)
troubled_there c (CrashClient client count) k h e = some_same client k e h.0
troubled_there c (Lose client node count) k h e = some_same client k e h.0
troubled_there c (Hold client node count) k h e = some_same client k e h.0

pub worker_there : (c : Numbers) (job : Job) (k : ℕ) → IsJob c job → job_client job ≡ Some k → IsClientNumber k
worker_there c (Block client op) k h e = some_same client k e h.0
worker_there c (Device client op) k h e = some_same client k e h.0
worker_there c PhaseEnd k h e = absurd (cc)

named_there : (plan : Plan) → Fits plan → (k : ℕ) → Contains (lying_clients plan.rules ++ asking_clients plan.rules plan.work) k → IsClientNumber k
named_there plan h k there = elim (Contains-append_cases (lying_clients plan.rules) (asking_clients plan.rules plan.work) k there) [
  | inl lies ↦ named_cases lying_client IsClientNumber (IsFault plan.config) (liar_there plan.config) plan.rules h.fitting.each_rule k lies
  | inr asks ↦ elim (Contains-append_cases (filter_map troubled_client plan.rules) (filter_map job_client plan.work) k asks) [
    | inl troubled ↦ named_cases troubled_client IsClientNumber (IsFault plan.config) (troubled_there plan.config) plan.rules h.fitting.each_rule k troubled
    | inr works ↦ named_cases job_client IsClientNumber (IsJob plan.config) (worker_there plan.config) plan.work h.fitting.each_job k works
  ]
]

-- who has an entry has a desk
desk_of : (ds : List DeskJournal) (c : ℕ) (e : DeskEntry) → Contains (entries_of ds c) e → (d : DeskJournal) × Contains ds d × (d.client ≡ c)
desk_of [] c e there = absurd (Contains-none e there)
desk_of (d ∷ ds) c e there = elim (eqb_tells d.client c) [
  | inl same ↦ (d, Contains-head d ds, same.1)
  | inr other ↦ (
      let rest : Contains (entries_of ds c) e = rw other.0 at there in
      let q = desk_of ds c e rest in
      (q.0, Contains-rest q.0 d ds q.1, q.2)
      )
]

clients_there : (plan : Plan) (j : Journals) (drawn : ℕ) → AreOfPlan plan j drawn → AreClients j
clients_there plan j drawn h c e there = let q = desk_of j.desks c e there in subst IsClientNumber q.2 (named_there plan h.fits q.0.client (h.follows.are_for.named q.0 q.1))

-- ---- phases

module _ (plan : Plan) (j : Journals) (all : length j.nodes ≡ j.config.n) (h : Follows plan j) where
  client_is : (c : ℕ) → (setting_for j).lying_client c ≡ false → ClientFollows plan c h.phases (at_desk j c)
  client_is c right =
      let true_one : has_number plan.liars.clients c ≡ false = ap (λ l. has_number l.clients c) (sym h.are_for.liars) ∙ right in
      subst (λ (b : Bool). FollowsAs b plan h.phases c (at_desk j c)) true_one (h.clients c)

  -- who is done does nothing any more
  done_rests : (config : Numbers) (c : ℕ) (steps : List BlockStep) (es : List DeskEntry) → config ≡ plan.config → IsDone plan c steps es → IsAtRest (desk_after_all (new_desk config c) es)
  done_rests config c steps es same (inl x) = inr (subst (λ (n : Numbers). (desk_after_all (new_desk n c) es).client.seen.task ≡ None) (sym same) x.ended)
  done_rests config c steps es same (inr x) = inl (subst (λ (n : Numbers). (desk_after_all (new_desk n c) es).crashed ≡ true) (sym same) x.down)

  rests : (k : ℕ) (p : Phase) → slice_get h.phases k ≡ Some p → (c : ℕ) → (setting_for j).lying_client c ≡ false → IsAtRest ((cluster_at (conduct_of plan.rules) j p.close).desks c)
  rests k p at c right = done_rests j.config c (steps_for plan.config c (first_phases (k + 1) plan.work)) (desks_before p.close (at_desk j c)) h.are_for.config ((client_is c right).closed k p at)

  is_phase : (p : Phase) → Contains h.phases p → IsPhase (conduct_of plan.rules) j p
  is_phase p there = let k = place_of h.phases p there in record { rest = rests k.0 p k.1; still = λ c e is. h.cut.still c e is p there }

  -- ---- prunes

  passes : (p : Phase) (n : ℕ) → IsWithin p n → (nat_le p.close n && nat_lt n p.end) ≡ true
  passes p n w = grind (arith, nat_tests, w.0, w.1)

  -- what is pruned is one of the prunes of the phase
  listed : (b : Bool) (prunes : List Pruning) (a : NodeAct) → Contains (cond b (map act_of prunes) []) a → (x : Pruning) × Contains prunes x × (a ≡ act_of x)
  listed true prunes a there = Contains-map_cases act_of prunes a there
  listed false prunes a there = absurd (Contains-none a there)

  greatest_at : (p : Phase) (x : Pruning) (block : ℕ) (stamp : Stamp) → ◌≡◌ {A = NodeAct} (Pruned block stamp) (act_of x) → IsGreatest (conduct_of plan.rules) j p.close x.block x.stamp → IsGreatest (conduct_of plan.rules) j p.close block stamp
  greatest_at p x block stamp e g =
      let b : x.block ≡ block = cc in
      let s : x.stamp ≡ stamp = cc in
      subst (λ (t : Stamp). IsGreatest (conduct_of plan.rules) j p.close block t) s (subst (λ (k : ℕ). IsGreatest (conduct_of plan.rules) j p.close k x.stamp) b g)

  prune_is : (i n block : ℕ) (stamp : Stamp) → Contains (at_node j i) (record { number = n; act = Pruned block stamp }) → (p : Phase) × Contains h.phases p × IsWithin p n × IsGreatest (conduct_of plan.rules) j p.close block stamp
  prune_is i n block stamp there =
      let is_node : i < plan.config.n = (let l = there_below j.nodes i (record { number = n; act = Pruned block stamp }) there in let c = ap (λ (x : Numbers). x.n) h.are_for.config in omega (arith, l, all, c)) in
      let q = (h.nodes i is_node).only n block stamp there in
      let k = place_of h.phases q.0 q.1 in
      let within = filter_has (λ e. nat_le q.0.close e.number && nat_lt e.number q.0.end) (at_node j i) (record { number = n; act = Pruned block stamp }) there (passes q.0 n q.2) in
      let act = Contains-map (λ (e : NodeEntry). e.act) (nodes_within q.0 (at_node j i)) (record { number = n; act = Pruned block stamp }) within in
      let x = listed _ (h.prunes k.0) (Pruned block stamp) (subst (λ (acts : List NodeAct). Contains acts (Pruned block stamp)) ((h.nodes i is_node).closed k.0 q.0 k.1).acts act) in
      (q.0, q.1, q.2, greatest_at q.0 x.0 block stamp x.2 ((h.pruned k.0 q.0 k.1).greatest x.0 x.1))

pub plans_phase : PlansPhase
plans_phase plan j drawn h = record { phase = is_phase plan j h.kept.count h.follows; prunes = prune_is plan j h.kept.count h.follows }

-- ---- the whole

pub plans_run : PhasesFollow → OfPlans HasCluster → PlansRun
plans_run phases cluster plan j drawn h = record {
  cluster = subst (λ l. IsCluster j.config (has_number l.nodes)) (sym h.follows.are_for.liars) (subst (λ (c : Numbers). IsCluster c (has_number plan.liars.nodes)) (sym h.follows.are_for.config) (cluster plan h.fits));
  kept = h.kept;
  pairs = h.pairs;
  follow = phases (conduct_of plan.rules) j h.follows.phases (clients_there plan j drawn h) (plans_phase plan j drawn h);
  drawn = drawn;
  numbers = h.numbers;
}
