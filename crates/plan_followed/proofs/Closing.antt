-- What was closed stays closed, and one phase more closes.
use Rattle.std.proofs.Common.{◌≡◌, ◌⊎◌, ℕ, suc, ◌+◌, ◌<◌, ◌≤◌, Bool, true, false, cond, List, [], ◌∷◌, ◌++◌, length, map, refl, sym, ◌∙◌, ap, subst, inl, inr, arith}
use Rattle.std.specs.Prelude.{slice_get}
use Rattle.std.specs.declared.option.Option.TheVariants.{Some}
use Rattle.std.specs.List.{Contains, count_by}
use Rattle.std.proofs.lemmas.List.Elements.{Contains-append_cases, Contains-append_left, Contains-append_right, Contains-push}
use Rattle.quorum_rules.specs.Limits.{Numbers}
use Rattle.stamp_order.specs.declared.Stamp.{Stamp}
use Rattle.wire_forms.specs.Liars.{has_number, Liars}
use Rattle.std.proofs.lemmas.Option.{slice_get_within}
use Rattle.std.proofs.lemmas.List.Sums.{sum_by-cons}
use Rattle.protocol.specs.Count.{update}
use Rattle.block_device.specs.declared.steps.BlockStep.{BlockStep}
use Rattle.plan_words.specs.declared.plan.Plan.{Plan}
use Rattle.plan_words.specs.declared.job.Job.{Job}
use Rattle.plan_words.specs.declared.job.Job.TheVariants.{Block, Device, Phase as PhaseEnd}
use Rattle.plan_words.specs.Named.{is_phase}
use Rattle.journals.specs.declared.node.NodeAct.TheVariants.{Pruned}
use Rattle.journals.specs.declared.node.NodeEntry.{NodeEntry}
use Rattle.journals.specs.declared.desk.DeskEntry.{DeskEntry}
use Rattle.journals.specs.declared.whole.Journals.{Journals}
use Rattle.journals.specs.Acts.{can_prune}
use Rattle.journals.specs.Desks.{DeskState, new_desk, desk_after_all}
use Rattle.journals.specs.Steps.{HasGiven}
use Rattle.journals.specs.Journals.{setting_for, at_node, at_desk, desks_before, nodes_before, cluster_at}
use Rattle.journals.specs.Phases.{Phase, IsWithin}
use Rattle.journals.proofs.lemmas.Lists.{update-other}
use Rattle.plan_followed.specs.Asked.{conduct_of, steps_for, steps_in, first_phases, nature}
use Rattle.plan_followed.specs.Clients.{IsDone}
use Rattle.plan_followed.specs.Nodes.{Pruning, act_of, node_after, nodes_within, IsClosed}
use Rattle.plan_followed.specs.Followed.{begin_of, IsGivenIn, ArePrunes, FollowsAs}
use Rattle.plan_followed.specs.Closed.{NodeGoesOn, DeskGoesOn, AreBelow, HasPruned, next_begin, IsDoneWith, ClosedAs, HaveClosed, AreWorked, FinishedAs, IsWorkedOff, HavePruned, Begins, GoesOn, Closes, Ends}
use Rattle.plan_followed.proofs.lemmas.Later.{below_same, within_same, below_all, within_more}
use Rattle.plan_followed.proofs.Turns.{ends_before, closes_before, in_turn, get_pushed, same_begin}
use Rattle.lists.proofs.lemmas.Members.{Contains-none, Contains-one, Contains-slice_get}
use Rattle.protocol.proofs.lemmas.Counting.{update-same}

abbrev number_at : NodeEntry → ℕ
number_at = λ e. e.number

abbrev number_in : DeskEntry → ℕ
number_in = λ e. e.number

-- ---- where clients are as they were when the phase closed, its prunes are as they were

-- both have the cluster, and each client is in both what it was at this number
record AreAlike (plan : Plan) (k : ℕ) (a b : Journals) : Type 0 where
  config : a.config ≡ b.config
  liars : a.liars ≡ b.liars
  desks : (c : ℕ) → desks_before k (at_desk a c) ≡ desks_before k (at_desk b c)

turned : (plan : Plan) (k : ℕ) (a b : Journals) → AreAlike plan k a b → AreAlike plan k b a
turned plan k a b h = record { config = sym h.config; liars = sym h.liars; desks = λ c. sym (h.desks c) }

module _ (plan : Plan) (k : ℕ) (a b : Journals) (h : AreAlike plan k a b) where
  same_client : (c : ℕ) → (cluster_at (conduct_of plan.rules) a k).desks c ≡ (cluster_at (conduct_of plan.rules) b k).desks c
  same_client c = ap (λ (n : Numbers). desk_after_all (new_desk n c) (desks_before k (at_desk a c))) h.config ∙ ap (desk_after_all (new_desk b.config c)) (h.desks c)

  correct_too : (c : ℕ) → has_number a.liars.clients c ≡ false → has_number b.liars.clients c ≡ false
  correct_too c e = ap (λ (l : Liars). has_number l.clients c) (sym h.liars) ∙ e

  given_too : (block : ℕ) (stamp : Stamp) → HasGiven (setting_for a) (cluster_at (conduct_of plan.rules) a k) block stamp → HasGiven (setting_for b) (cluster_at (conduct_of plan.rules) b k) block stamp
  given_too block stamp x = record {
    client = x.client;
    correct = correct_too x.client x.correct;
    read = x.read;
    there = subst (λ (d : DeskState). Contains d.ended x.read) (same_client x.client) x.there;
    gives = x.gives;
  }

module _ (plan : Plan) (a b : Journals) (from : ℕ) (p : Phase) (h : AreAlike plan p.close a b) where
  given_in : (block : ℕ) → IsGivenIn plan a from p block → IsGivenIn plan b from p block
  given_in block x = record {
    client = x.client;
    correct = correct_too plan p.close a b h x.client x.correct;
    read = x.read;
    there = subst (λ (d : DeskState). Contains d.ended x.read) (same_client plan p.close a b h x.client) x.there;
    stamp = x.stamp;
    gives = x.gives;
    since = x.since;
  }

prunes_too : (plan : Plan) (a b : Journals) (from : ℕ) (p : Phase) (ps : List Pruning) → AreAlike plan p.close a b → ArePrunes plan a from p ps → ArePrunes plan b from p ps
prunes_too plan a b from p ps h x = record {
  ascend = x.ascend;
  all = λ block g. x.all block (given_in plan b a from p (turned plan p.close a b h) block g);
  given = λ y there. given_in plan a b from p h y.block (x.given y there);
  greatest = λ y there. (let g = x.greatest y there in record {
    given = given_too plan p.close a b h y.block y.stamp g.given;
    greatest = λ other o. g.greatest other (given_too plan p.close b a (turned plan p.close a b h) y.block other o);
  });
}

-- ---- what comes later

module _ (plan : Plan) (old new : Journals) (phases : List Phase) (prunes : ℕ → List Pruning) (h : HaveClosed plan old phases prunes)
    (config : new.config ≡ old.config) (liars : new.liars ≡ old.liars)
    (nodes : (i : ℕ) → NodeGoesOn (next_begin phases) (at_node old i) (at_node new i))
    (desks : (c : ℕ) → DeskGoesOn (next_begin phases) (at_desk old c) (at_desk new c)) where
  ends : (p : Phase) → Contains phases p → p.end ≤ next_begin phases
  ends p there = ends_before phases h.turns p there

  closed : (p : Phase) → Contains phases p → p.close ≤ next_begin phases
  closed p there = let l = ends p there in let m = closes_before phases h.turns p there in omega (arith, l, m)

  pub same_desks : (p : Phase) → Contains phases p → (c : ℕ) → desks_before p.close (at_desk new c) ≡ desks_before p.close (at_desk old c)
  same_desks p there c = below_same number_in (next_begin phases) (at_desk old c) (at_desk new c) (desks c) p.close (closed p there)

  same_nodes : (p : Phase) → Contains phases p → (i : ℕ) → nodes_before p.close (at_node new i) ≡ nodes_before p.close (at_node old i)
  same_nodes p there i = below_same number_at (next_begin phases) (at_node old i) (at_node new i) (nodes i) p.close (closed p there)

  same_within : (p : Phase) → Contains phases p → (i : ℕ) → nodes_within p (at_node new i) ≡ nodes_within p (at_node old i)
  same_within p there i = within_same number_at (next_begin phases) (at_node old i) (at_node new i) (nodes i) p (ends p there)

  -- nobody does anything in the prunes that were done
  pub still_on : (c : ℕ) (e : DeskEntry) → Contains (at_desk new c) e → (p : Phase) → Contains phases p → IsWithin p e.number → ⊥
  still_on c e there p at w =
      let g = desks c in
      elim (Contains-append_cases (at_desk old c) g.more e (subst (λ (es : List DeskEntry). Contains es e) g.grown there)) [
        | inl was ↦ h.still c e was p at w
        | inr came ↦ (let l = g.later e came in let m = ends p at in let u = w.1 in absurd (omega (arith, l, m, u)))
      ]

  pub closed_on : (i : ℕ) → i < plan.config.n → (k : ℕ) (p : Phase) → slice_get phases k ≡ Some p → IsClosed plan i p (prunes k) (at_node new i)
  closed_on i l k p at =
      let there = Contains-slice_get phases k p at in
      let was = h.nodes i l k p at in
      record {
        late = subst (λ (es : List NodeEntry). (node_after plan i es).late ≡ []) (sym (same_nodes p there i)) was.late;
        acts = subst (λ (es : List NodeEntry). map (λ e. e.act) (nodes_within p (at_node new i)) ≡ cond (can_prune (node_after plan i es) (nature plan.rules i)) (map act_of (prunes k)) []) (sym (same_nodes p there i))
            (ap (λ (es : List NodeEntry). map (λ (e : NodeEntry). e.act) es) (same_within p there i) ∙ was.acts);
      }

  pub pruned_on : (k : ℕ) (p : Phase) → slice_get phases k ≡ Some p → ArePrunes plan new (begin_of phases k) p (prunes k)
  pruned_on k p at =
      prunes_too plan old new (begin_of phases k) p (prunes k) (record { config = sym config; liars = sym liars; desks = λ c. sym (same_desks p (Contains-slice_get phases k p at) c) }) (h.pruned k p at)

  pub done_on : (c k : ℕ) (p : Phase) → slice_get phases k ≡ Some p → IsDoneWith plan (k + 1) c (desks_before p.close (at_desk old c)) → IsDoneWith plan (k + 1) c (desks_before p.close (at_desk new c))
  done_on c k p at d = subst (IsDoneWith plan (k + 1) c) (sym (same_desks p (Contains-slice_get phases k p at) c)) d

module _ (plan : Plan) (old new : Journals) (phases : List Phase) (prunes : ℕ → List Pruning) (h : HaveClosed plan old phases prunes) (w : AreWorked plan phases old new) where
  clients_on : (c : ℕ) → ClosedAs (has_number plan.liars.clients c) plan phases c (at_desk new c)
  clients_on c = at (has_number plan.liars.clients c) refl (h.clients c)
    where
      at : (b : Bool) → has_number plan.liars.clients c ≡ b → ClosedAs b plan phases c (at_desk old c) → ClosedAs b plan phases c (at_desk new c)
      at true e was = elim (w.quiet c e) [
        | inl none ↦ λ p there. absurd (nothing p (subst (λ (ps : List Phase). slice_get ps 0 ≡ Some p) none there))
        | inr same ↦ λ p there. subst (λ (es : List DeskEntry). desks_before p.close es ≡ es) (sym same) (was p there)
      ]
        where
          nothing : (p : Phase) → slice_get [] 0 ≡ Some p → ⊥
          nothing p e = absurd (cc)
      at false e was = λ k p there. done_on plan old new phases prunes h w.later.config w.later.liars w.later.nodes w.later.desks c k p there (was k p there)

pub goes_on : GoesOn
goes_on plan old new phases prunes h w =
    let l = w.later in
    record {
      config = l.config ∙ h.config;
      liars = l.liars ∙ h.liars;
      turns = h.turns;
      still = still_on plan old new phases prunes h l.config l.liars l.nodes l.desks;
      clients = clients_on plan old new phases prunes h w;
      nodes = closed_on plan old new phases prunes h l.config l.liars l.nodes l.desks;
      only = λ i n block stamp there. h.only i n block stamp (w.calm i n block stamp there);
      pruned = pruned_on plan old new phases prunes h l.config l.liars l.nodes l.desks;
    }

pub begins : Begins
begins plan j prunes h = record {
  config = h.config;
  liars = h.liars;
  turns = tt;
  still = λ c e there p at w. Contains-none p at;
  clients = λ c. nothing_closed (has_number plan.liars.clients c) c;
  nodes = λ i l k p at. absurd (none_at k p at);
  only = λ i n block stamp there. absurd (Contains-none _ (subst (λ (es : List NodeEntry). Contains es (record { number = n; act = Pruned block stamp })) (h.nodes i) there));
  pruned = λ k p at. absurd (none_at k p at);
}
  where
    none_at : (k : ℕ) (p : Phase) → slice_get [] k ≡ Some p → ⊥
    none_at k p at = Contains-none p (Contains-slice_get [] k p at)

    nothing_closed : (b : Bool) (c : ℕ) → ClosedAs b plan [] c (at_desk j c)
    nothing_closed true c = λ p at. absurd (none_at 0 p at)
    nothing_closed false c = λ k p at. absurd (none_at k p at)

-- ---- one phase more

module _ (plan : Plan) (old new : Journals) (phases : List Phase) (prunes : ℕ → List Pruning) (p : Phase) (ps : List Pruning)
    (h : HaveClosed plan old phases prunes) (off : IsWorkedOff plan old phases) (after : next_begin phases ≤ p.close) (longer : p.close ≤ p.end)
    (low : AreBelow p.close old) (are : ArePrunes plan old (next_begin phases) p ps) (did : HavePruned plan p ps old new) (high : AreBelow p.end new) where
  nodes_later : (i : ℕ) → NodeGoesOn (next_begin phases) (at_node old i) (at_node new i)
  nodes_later i = let g = did.nodes i in record { more = g.more; grown = g.grown; later = λ e there. (let l = g.later e there in omega (arith, after, l)) }

  desks_later : (c : ℕ) → DeskGoesOn (next_begin phases) (at_desk old c) (at_desk new c)
  desks_later c = record { more = []; grown = did.desks c ∙ nil (at_desk old c); later = λ e there. absurd (Contains-none e there) }
    where
      nil : (es : List DeskEntry) → es ≡ es ++ []
      nil [] = refl
      nil (e ∷ es) = ap (λ (l : List DeskEntry). e ∷ l) (nil es)

  all_before : (c : ℕ) → desks_before p.close (at_desk new c) ≡ at_desk old c
  all_before c = ap (desks_before p.close) (did.desks c) ∙ below_all number_in p.close (at_desk old c) (low.desks c)

  alike : AreAlike plan p.close old new
  alike = record { config = sym did.config; liars = sym did.liars; desks = λ c. ap (desks_before p.close) (sym (did.desks c)) }

  more_below : (i : ℕ) (e : NodeEntry) → Contains (did.nodes i).more e → e.number < p.end
  more_below i e there = high.nodes i e (subst (λ (es : List NodeEntry). Contains es e) (sym (did.nodes i).grown) (Contains-append_right (at_node old i) (did.nodes i).more e there))

  node_before : (i : ℕ) → nodes_before p.close (at_node new i) ≡ at_node old i
  node_before i =
      below_same number_at p.close (at_node old i) (at_node new i) (did.nodes i) p.close (omega arith) ∙ below_all number_at p.close (at_node old i) (low.nodes i)

  closed_now : (i : ℕ) → i < plan.config.n → IsClosed plan i p ps (at_node new i)
  closed_now i l =
      let w : nodes_within p (at_node new i) ≡ (did.nodes i).more = within_more number_at p (at_node old i) (at_node new i) (did.nodes i) (low.nodes i) (more_below i) in
      record {
        late = subst (λ (es : List NodeEntry). (node_after plan i es).late ≡ []) (sym (node_before i)) (off.late i l);
        acts = subst (λ (es : List NodeEntry). map (λ e. e.act) (nodes_within p (at_node new i)) ≡ cond (can_prune (node_after plan i es) (nature plan.rules i)) (map act_of ps) []) (sym (node_before i))
            (ap (λ (es : List NodeEntry). map (λ (e : NodeEntry). e.act) es) w ∙ did.acts i l);
      }

  -- the entries that the prunes added are prunes of the phase
  only_now : (i n block : ℕ) (stamp : Stamp) → HasPruned new i n block stamp → (q : Phase) × Contains (phases ++ p ∷ []) q × IsWithin q n
  only_now i n block stamp there =
      let g = did.nodes i in
      let e : NodeEntry = record { number = n; act = Pruned block stamp } in
      elim (Contains-append_cases (at_node old i) g.more e (subst (λ (es : List NodeEntry). Contains es e) g.grown there)) [
        | inl was ↦ (let q = h.only i n block stamp was in (q.0, Contains-append_left phases (p ∷ []) q.0 q.1, q.2))
        | inr came ↦ (p, Contains-push phases p, (g.later e came, more_below i e came))
      ]

  still_now : (c : ℕ) (e : DeskEntry) → Contains (at_desk new c) e → (q : Phase) → Contains (phases ++ p ∷ []) q → IsWithin q e.number → ⊥
  still_now c e there q at w = elim (Contains-append_cases phases (p ∷ []) q at) [
    | inl was ↦ still_on plan old new phases prunes h did.config did.liars nodes_later desks_later c e there q was w
    | inr came ↦ (
        let same : q.close ≡ p.close = ap (λ (x : Phase). x.close) (Contains-one q p came) in
        let l = low.desks c e (subst (λ (es : List DeskEntry). Contains es e) (did.desks c) there) in
        let m = w.0 in
        absurd (omega (arith, same, l, m))
        )
  ]

  -- a phase of the longer list, with its prunes, is one of the others or the last
  abbrev OfAll : (ℕ → Phase → List Pruning → Type 0) → Type 0
  OfAll P = (k : ℕ) (q : Phase) → slice_get (phases ++ p ∷ []) k ≡ Some q → P k q (update prunes (length phases) ps k)

  each_phase : (P : ℕ → Phase → List Pruning → Type 0) → ((k : ℕ) (q : Phase) → slice_get phases k ≡ Some q → P k q (prunes k)) → P (length phases) p ps → OfAll P
  each_phase P others last k q at = elim (get_pushed phases p q k at) [
    | inl was ↦ (
        let other : k ≡ length phases → ⊥ = λ e. (let l = was.0 in absurd (omega (arith, l, e))) in
        subst (P k q) (sym (update-other prunes (length phases) ps k other)) (others k q was.1)
        )
    | inr came ↦ (
        let moved : P k p ps = subst (λ (m : ℕ). P m p ps) (sym came.0) last in
        let mine : update prunes (length phases) ps k ≡ ps = subst (λ (m : ℕ). update prunes (length phases) ps m ≡ ps) (sym came.0) (update-same prunes (length phases) ps) in
        subst (P k q) (sym mine) (subst (λ (x : Phase). P k x ps) (sym came.1) moved)
        )
  ]

  pruned_now : (k : ℕ) (q : Phase) → slice_get (phases ++ p ∷ []) k ≡ Some q → ArePrunes plan new (begin_of (phases ++ p ∷ []) k) q (update prunes (length phases) ps k)
  pruned_now = each_phase (λ k q xs. ArePrunes plan new (begin_of (phases ++ p ∷ []) k) q xs) others last
    where
      others : (k : ℕ) (q : Phase) → slice_get phases k ≡ Some q → ArePrunes plan new (begin_of (phases ++ p ∷ []) k) q (prunes k)
      others k q at =
          let l : k ≤ length phases = (let m = slice_get_within phases k q at in omega (arith, m)) in
          subst (λ (n : ℕ). ArePrunes plan new n q (prunes k)) (sym (same_begin phases p k l)) (pruned_on plan old new phases prunes h did.config did.liars nodes_later desks_later k q at)

      last : ArePrunes plan new (begin_of (phases ++ p ∷ []) (length phases)) p ps
      last = subst (λ (n : ℕ). ArePrunes plan new n p ps) (sym (same_begin phases p (length phases) (omega arith))) (prunes_too plan old new (next_begin phases) p ps alike are)

  closed_all : (i : ℕ) → i < plan.config.n → (k : ℕ) (q : Phase) → slice_get (phases ++ p ∷ []) k ≡ Some q → IsClosed plan i q (update prunes (length phases) ps k) (at_node new i)
  closed_all i l = each_phase (λ k q xs. IsClosed plan i q xs (at_node new i)) (closed_on plan old new phases prunes h did.config did.liars nodes_later desks_later i l) (closed_now i l)

  clients_now : (c : ℕ) → ClosedAs (has_number plan.liars.clients c) plan (phases ++ p ∷ []) c (at_desk new c)
  clients_now c = at (has_number plan.liars.clients c) (h.clients c) (off.clients c)
    where
      first_of : (qs : List Phase) (q : Phase) → slice_get (qs ++ p ∷ []) 0 ≡ Some q → (slice_get qs 0 ≡ Some q) ⊎ (q ≡ p)
      first_of [] q e = (let same : q ≡ p = cc in inr same)
      first_of (r ∷ qs) q e = inl e

      at : (b : Bool) → ClosedAs b plan phases c (at_desk old c) → FinishedAs b plan (length phases + 1) c (at_desk old c) → ClosedAs b plan (phases ++ p ∷ []) c (at_desk new c)
      at true was off = λ q there. elim (first_of phases q there) [
        | inl first ↦ subst (λ (es : List DeskEntry). desks_before q.close es ≡ es) (sym (did.desks c)) (was q first)
        | inr same ↦ subst (λ (x : Phase). desks_before x.close (at_desk new c) ≡ at_desk new c) (sym same) (all_before c ∙ sym (did.desks c))
      ]
      at false was off = λ k q there. each_phase (λ k q xs. IsDoneWith plan (k + 1) c (desks_before q.close (at_desk new c)))
          (λ k q there. done_on plan old new phases prunes h did.config did.liars nodes_later desks_later c k q there (was k q there))
          (subst (IsDoneWith plan (length phases + 1) c) (sym (all_before c)) off.1) k q there

pub closes : Closes
closes plan old new phases prunes p ps h off after longer low are did high = record {
  config = did.config ∙ h.config;
  liars = did.liars ∙ h.liars;
  turns = in_turn phases p h.turns after longer;
  still = still_now plan old new phases prunes p ps h off after longer low are did high;
  clients = clients_now plan old new phases prunes p ps h off after longer low are did high;
  nodes = closed_all plan old new phases prunes p ps h off after longer low are did high;
  only = only_now plan old new phases prunes p ps h off after longer low are did high;
  pruned = pruned_now plan old new phases prunes p ps h off after longer low are did high;
}

-- ---- the last phase

-- so many phases are all of them
all_steps : (config : Numbers) (c : ℕ) (work : List Job) (n : ℕ) → n ≡ count_by is_phase work → steps_for config c (first_phases (suc n) work) ≡ steps_for config c work
all_steps config c [] n e = refl
all_steps config c (PhaseEnd ∷ work) n e =
    let k : n ≡ suc (count_by is_phase work) = (let q = sum_by-cons (λ (x : Job). cond (is_phase x) 1 0) PhaseEnd work in omega (arith, e, q)) in
    rw k (all_steps config c work (count_by is_phase work) refl)
all_steps config c (Block client op ∷ work) n e =
    let k : n ≡ count_by is_phase work = (let q = sum_by-cons (λ (x : Job). cond (is_phase x) 1 0) (Block client op) work in omega (arith, e, q)) in
    ap (λ (l : List BlockStep). steps_in config c (Block client op) ++ l) (all_steps config c work n k)
all_steps config c (Device client op ∷ work) n e =
    let k : n ≡ count_by is_phase work = (let q = sum_by-cons (λ (x : Job). cond (is_phase x) 1 0) (Device client op) work in omega (arith, e, q)) in
    ap (λ (l : List BlockStep). steps_in config c (Device client op) ++ l) (all_steps config c work n k)

pub ends_all : Ends
ends_all plan j phases prunes for h count off = record {
  are_for = for;
  phases = phases;
  cut = record { count = count; turns = h.turns; still = h.still };
  clients = λ c. client (has_number plan.liars.clients c) c (h.clients c) (off.clients c);
  prunes = prunes;
  nodes = λ i l. record { closed = λ k p at. h.nodes i l k p at; late = off.late i l; only = h.only i };
  pruned = h.pruned;
}
  where
    done : (c : ℕ) → IsDoneWith plan (length phases + 1) c (at_desk j c) → IsDone plan c (steps_for plan.config c plan.work) (at_desk j c)
    done c d =
        let same : steps_for plan.config c (first_phases (length phases + 1) plan.work) ≡ steps_for plan.config c plan.work =
        (let e : length phases + 1 ≡ suc (length phases) = omega arith in ap (λ (k : ℕ). steps_for plan.config c (first_phases k plan.work)) e) ∙ all_steps plan.config c plan.work (length phases) count in
        subst (λ (steps : List BlockStep). IsDone plan c steps (at_desk j c)) same d

    client : (b : Bool) (c : ℕ) → ClosedAs b plan phases c (at_desk j c) → FinishedAs b plan (length phases + 1) c (at_desk j c) → FollowsAs b plan phases c (at_desk j c)
    client true c was off = record { sends = off; early = was }
    client false c was off = record { acts = off.0; closed = was; done = done c off.1 }
