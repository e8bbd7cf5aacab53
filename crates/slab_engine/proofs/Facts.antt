-- What is known before a batch is written: what the node remembers, and how the batch was made of asks.
use Rattle.std.proofs.Common.{◌≡◌, ℕ, zero, suc, ◌<◌, Bool, true, false, if◌then◌else◌, List, [], ◌∷◌, length, map, get_or, refl, sym, ◌∙◌, ap, arith}
use Rattle.std.specs.Prelude.{Contains}
use Rattle.std.specs.declared.option.Option.TheVariants.{None, Some}
use Rattle.std.proofs.lemmas.List.{get_or-map}
use Rattle.quorum_rules.specs.Limits.{Numbers}
use Rattle.protocol.specs.Messages.{Version, Ask}
use Rattle.protocol.specs.Instance.{setting}
use Rattle.protocol.specs.Nodes.{first_version, refusal}
use Rattle.wire_forms.specs.declared.Request.TheVariants.{Write}
use Rattle.node_core.specs.Seen.{SeenNode, accepts_of}
use Rattle.slab_node.specs.Held.{held_with}
use Rattle.slab_index.specs.declared.kept.Kept.{Kept}
use Rattle.slab_index.specs.Kept.{kept_in}
use Rattle.slab_engine.specs.declared.batch.Batch.{Batch}
use Rattle.slab_engine.specs.declared.plan.Plan.{Plan}
use Rattle.slab_engine.specs.declared.plan.Plan.TheVariants.{Silent, Adds}
use Rattle.slab_engine.specs.Seen.{Leaving, listed, counted, has_slot, answered}
use Rattle.slab_engine.specs.Plans.{plan_in, plan_at}
use Rattle.slab_engine.specs.Written.{IsPlannedBatch}
use Rattle.slab_engine.proofs.Planned.{plan_adds, plan_adds_none}
use Rattle.slab_engine.proofs.Filtered.{filter_has, has_filter, listed_below}

silent_adds : Silent ≡ Adds → ⊥
silent_adds e = cc

-- a plan to add is one of a block that is answered for
pub answered_plan : (a : Bool) (p : Plan) → (if a then p else Silent) ≡ Adds → (a ≡ true) × (p ≡ Adds)
answered_plan true p e = (refl, e)
answered_plan false p e = absurd (silent_adds e)

module _ (c : Numbers) (number key : ℕ) (old : List ℕ) (index : List (List Kept)) (free : List Bool) (next : ℕ) (leaving cleared : List Leaving)
    (answers : List Bool) (asks : List Ask) (plans : List Plan) (added slots : List ℕ) (batch : Batch)
    (f : IsPlannedBatch c number key old index free next leaving cleared answers asks plans added slots batch) where
  abbrev node : SeenNode
  node = held_with c number (has_slot cleared) old

  abbrev pub plan_of : Ask → Plan
  plan_of ask = plan_in (setting c) number (first_version (setting c) number).stamp (kept_in index ask.block) ask.request

  abbrev planner : Ask → Plan
  planner = plan_at (setting c) number (first_version (setting c) number).stamp (listed answers) index

  length_planned : (xs' : List Ask) → length (map planner xs') ≡ length xs'
  length_planned [] = refl
  length_planned (x ∷ xs) = ap suc (length_planned xs)

  -- a block that is answered for is there
  pub is_below : (ask : Ask) → listed answers ask.block ≡ true → ask.block < c.blocks
  is_below ask is = (let low = listed_below answers ask.block is in omega (arith, low, f.blocks))

  pub plan_is : (i : ℕ) (a : Ask) (p : Plan) → i < length asks → get_or plans i p ≡ planner (get_or asks i a)
  plan_is i a p lt = ap (λ (ps : List Plan). get_or ps i p) f.planned ∙ get_or-map planner asks i a p lt

  pub plan_count : length plans ≡ length asks
  plan_count = ap length f.planned ∙ length_planned asks

  -- an ask that adds a version
  pub adds_of : (ask : Ask) → listed answers ask.block ≡ true → plan_of ask ≡ Adds → (v : Version) × (ask.request ≡ Write v) × (refusal (setting c) number v ≡ None) × (accepts_of node ask ≡ Some v)
  adds_of ask is adds = plan_adds c number (counted c cleared old) old ask.block (is_below ask is) index f.tells.index ask refl adds

  pub adds_none_of : (ask : Ask) → listed answers ask.block ≡ true → (plan_of ask ≡ Adds → ⊥) → accepts_of node ask ≡ None
  adds_none_of ask is not_so = plan_adds_none c number (counted c cleared old) old ask.block (is_below ask is) index f.tells.index ask refl not_so

  pub added_low : (k : ℕ) → k < length added → get_or added k 0 < length asks
  added_low k lt = (let low = (f.adding.each k 0 lt).0 in omega (arith, low, plan_count))

  pub added_plan : (k : ℕ) (a : Ask) → (lt : k < length added) → planner (get_or asks (get_or added k 0) a) ≡ Adds
  added_plan k a lt = sym (plan_is (get_or added k 0) a Silent (added_low k lt)) ∙ (f.adding.each k 0 lt).1 Silent

  pub added_answered : (k : ℕ) (a : Ask) → (lt : k < length added) → listed answers (get_or asks (get_or added k 0) a).block ≡ true
  added_answered k a lt = (answered_plan (listed answers (get_or asks (get_or added k 0) a).block) (plan_of (get_or asks (get_or added k 0) a)) (added_plan k a lt)).0

  pub added_adds : (k : ℕ) (a : Ask) → (lt : k < length added) → plan_of (get_or asks (get_or added k 0) a) ≡ Adds
  added_adds k a lt = (answered_plan (listed answers (get_or asks (get_or added k 0) a).block) (plan_of (get_or asks (get_or added k 0) a)) (added_plan k a lt)).1

  -- each ask of the batch is one of those that are answered
  pub added_there : (k : ℕ) (a : Ask) → (lt : k < length added) → Contains (answered (listed answers) asks) (get_or asks (get_or added k 0) a)
  added_there k a lt =
      let low = added_low k lt in
      filter_has (λ (ask : Ask). listed answers ask.block) asks (get_or asks (get_or added k 0) a) (get_or added k 0, low, again asks (get_or added k 0) a low) (added_answered k a lt)
    where
      again : (xs : List Ask) (i : ℕ) (d : Ask) → i < length xs → get_or xs i (get_or xs i d) ≡ get_or xs i d
      again [] i d lt = absurd (omega (arith, lt))
      again (x ∷ xs) zero d lt = refl
      again (x ∷ xs) (suc i) d lt = again xs i d (omega (arith, lt))

  -- each ask that adds a version is one of the batch
  pub in_added : (ask : Ask) → Contains (answered (listed answers) asks) ask → plan_of ask ≡ Adds → (k : ℕ) × (k < length added) × (get_or asks (get_or added k 0) ask ≡ ask)
  in_added ask there adds =
      let at = has_filter (λ (a : Ask). listed answers a.block) asks ask there in
      let planner_adds : planner ask ≡ Adds = rw at.1 adds in
      let i : ℕ = at.0.0 in
      let here : i < length asks = at.0.1 in
      let is : get_or asks i ask ≡ ask = at.0.2 in
      let plan_adds : (d : Plan) → get_or plans i d ≡ Adds = λ d. plan_is i ask d here ∙ ap planner is ∙ planner_adds in
      let one = f.adding.all i Silent (omega (arith, here, plan_count)) (plan_adds Silent) in
      (one.0, one.1, ap (λ n. get_or asks n ask) (default added one.0 i one.1 one.2) ∙ is)
    where
      default : (xs : List ℕ) (k i : ℕ) → k < length xs → get_or xs k i ≡ i → get_or xs k 0 ≡ i
      default [] k i lt e = absurd (omega (arith, lt))
      default (x ∷ xs) zero i lt e = e
      default (x ∷ xs) (suc k) i lt e = default xs k i (omega (arith, lt)) e
