-- An ask of a client in turn, and its crash: both go by the plan.
use Rattle.std.proofs.Common.{◌≡◌, ℕ, ◌-◌, ◌*◌, ◌^◌, ◌%◌, ◌<◌, ◌≤◌, Bool, true, false, cond, [], ◌∷◌, ◌++◌, Option, refl, sym, ap, subst, ◌∙◌, arith}
use Rattle.std.specs.declared.option.Option.TheVariants.{None, Some}
use Rattle.std.specs.Option.{IsSome}
use Rattle.std.specs.Prelude.{nat_lt}
use Rattle.quorum_rules.specs.Limits.{Numbers}
use Rattle.protocol.specs.Messages.{Tag, Message}
use Rattle.protocol.specs.Instance.{setting}
use Rattle.protocol.specs.Operations.{Outcome, outstanding}
use Rattle.protocol.specs.Seen.{SeenTask, outstanding_of, phase_of, ops_of, task_at as whole_task}
use Rattle.journals.specs.declared.desk.Way.{Way}
use Rattle.journals.specs.declared.desk.DeskAct.TheVariants.{Crash, Call}
use Rattle.journals.specs.declared.desk.DeskEntry.{DeskEntry}
use Rattle.journals.specs.Desks.{DeskState, new_desk, desk_told, desk_after}
use Rattle.client_desks.specs.Desks.{DeskView, state_at, task_at, asks_of as asks_node, with_call, desk_entry, ending}
use Rattle.plan_followed.specs.Asked.{drops, holds, client_crash}
use Rattle.plan_followed.specs.Clients.{InEach, GoesByPlan, IsNext, IsCutOff, client_after, times, asks, asks_of, last_of, turn_after, way_of}
use Rattle.plan_followed.proofs.lemmas.Entries as followed
use Rattle.client_endpoints.specs.Endpoint.{IsAskOn, AsksOn}
use Rattle.client_duties.specs.declared.correct_client.CorrectClient.{CorrectClient}
use Rattle.client_duties.specs.ClientDuty.{asks_left, Counts, Goes, counted, HasCounted, IsOn}
use Rattle.client_duties.proofs.Heard.{numbered, GoesOnWith, told_on, told_end}
use Rattle.client_duties.proofs.Going.{state_is, same_times, counts_more, way_is}
use Rattle.journals.proofs.lemmas.Lists.{state_snoc}

-- what is asked of a node is to it, and of the phase and the operation under way
asked_is : (config : Numbers) (id node : ℕ) (t : SeenTask) (ask : Message) → outstanding_of (setting config) id (Some t) node ≡ Some ask → (ask.node ≡ node) × (ask.tag ≡ record { op = t.op; phase = t.phase })
asked_is config id node t ask = at (nat_lt node config.n)
  where
    at : (b : Bool) → cond b (Some (outstanding (setting config) id (whole_task 0 t) node)) None ≡ Some ask → (ask.node ≡ node) × (ask.tag ≡ record { op = t.op; phase = t.phase })
    at true e = let same : outstanding (setting config) id (whole_task 0 t) node ≡ ask = cc in (ap (λ (m : Message). m.node) (sym same), ap (λ (m : Message). m.tag) (sym same))
    at false e = absurd (cc)

abbrev tag : ℕ → ℕ → Tag
tag op phase = record { op = op; phase = phase }

-- the tag of what is asked next
abbrev pub tag_at : DeskView → Tag
tag_at d = record { op = ops_of (state_at d).client.seen; phase = phase_of (task_at d) }

asked_now : (d : DeskView) (node : ℕ) (t : SeenTask) (ask : Message) → task_at d ≡ Some t → asks_node d node ≡ Some ask → (ask.node ≡ node) × (ask.tag ≡ tag_at d)
asked_now d node t ask e a =
    let h = asked_is d.config d.id node t ask (ap (λ (x : Option SeenTask). outstanding_of (setting d.config) d.id x node) (sym e) ∙ a) in
    let n = numbered d.config d.id d.entries in
    let op = n.op t e in
    let life : (state_at d).client.seen.life ≡ 0 = n.life in
    let started = n.started in
    let o : t.op ≡ ops_of (state_at d).client.seen = omega (arith, ap (λ (x : ℕ). x * 2 ^ 32) life) in
    let p : t.phase ≡ phase_of (task_at d) = ap phase_of (sym e) in
    (h.0, h.1 ∙ ap (λ (x : ℕ). tag x t.phase) o ∙ ap (tag (ops_of (state_at d).client.seen)) p)

-- what is asked is on the operation's block
pub asks_block : (d : DeskView) (node block : ℕ) → IsOn block d → AsksOn d node block
asks_block d node block on ask asked = at (nat_lt node d.config.n) (ap (λ (x : Option SeenTask). outstanding_of (setting d.config) d.id x node) (sym on.1) ∙ asked)
  where
    at : (b : Bool) → cond b (Some (outstanding (setting d.config) d.id (whole_task 0 on.0) node)) None ≡ Some ask → IsAskOn block ask.body
    at true e = let same : outstanding (setting d.config) d.id (whole_task 0 on.0) node ≡ ask = cc in subst (λ (m : Message). IsAskOn block m.body) same on.2
    at false e = absurd (cc)

next_is : (n m : ℕ) (o p : Option SeenTask) (from to i j : ℕ) → n ≡ m → o ≡ p → from ≡ to → i ≡ j → IsNext n o from i → IsNext m p to j
next_is n m o p from to i j a b c e h =
    subst (λ (x : ℕ). IsNext m p to x) e (subst (λ (x : ℕ). IsNext m p x i) c (subst (λ (x : Option SeenTask). IsNext m x from i) b (subst (λ (x : ℕ). IsNext x o from i) a h)))

module _ (w w' : CorrectClient) (d : DeskView) (n node : ℕ) (way : Way) (ask : Message) (reply : Option Message) (t : SeenTask) (g : Goes w d) (busy : task_at d ≡ Some t) (asked : asks_node d node ≡ Some ask) (below : node < d.config.n)
    (up : w.crash_after ≡ Some 0 → ⊥) (count : HasCounted w node way w') (next : IsNext d.config.n (task_at d) (turn_after (d.id % d.config.n) (tag_at d) (last_of d.entries)) node) where
  abbrev e : DeskEntry
  e = desk_entry n (Call way ask reply)

  to : ask.node ≡ node
  to = (asked_now d node t ask busy asked).0

  inside : node < w.plan.value.config.n
  inside = let q = ap (λ (x : Numbers). x.n) g.its.config in omega arith

  in_turn : IsNext w.plan.value.config.n (client_after w.plan.value w.client d.entries).client.seen.task (turn_after (w.client % w.plan.value.config.n) ask.tag (last_of d.entries)) ask.node
  in_turn =
      next_is d.config.n w.plan.value.config.n (task_at d) (client_after w.plan.value w.client d.entries).client.seen.task
      (turn_after (d.id % d.config.n) (tag_at d) (last_of d.entries)) (turn_after (w.client % w.plan.value.config.n) ask.tag (last_of d.entries)) node ask.node
      (ap (λ (x : Numbers). x.n) g.its.config)
      (ap (λ (x : DeskState). x.client.seen.task) (sym (state_is w d g.its)))
      (ap (λ (x : ℕ). turn_after (x % d.config.n) (tag_at d) (last_of d.entries)) g.its.id
      ∙ ap (λ (x : Numbers). turn_after (w.client % x.n) (tag_at d) (last_of d.entries)) g.its.config
      ∙ ap (λ (x : Tag). turn_after (w.client % w.plan.value.config.n) x (last_of d.entries)) (sym (asked_now d node t ask busy asked).1))
      (sym to) next

  on_its_way : way ≡ way_of (drops w.plan.value.rules w.client ask.node) (holds w.plan.value.rules w.client ask.node) (times (asks_of ask.node) d.entries)
  on_its_way = subst (λ (i : ℕ). way ≡ way_of (drops w.plan.value.rules w.client i) (holds w.plan.value.rules w.client i) (times (asks_of i) d.entries)) (sym to) (way_is w d.entries node way w' inside g.counts count)

  by_plan : InEach (GoesByPlan w.plan.value w.client) (d.entries ++ e ∷ [])
  by_plan = followed.one_more w.plan.value w.client d.entries e g.acts (record { start = tt; turn = in_turn; way = on_its_way })

  counts_on : Counts w' (d.entries ++ e ∷ [])
  counts_on =
      counts_more w d.entries n way way ask reply w' (let q = to in let i = inside in omega arith) up g.counts
      (subst (λ (i : ℕ). HasCounted w i way w') (sym to) count)

  -- the client after the entry
  now_is : state_at (with_call d n (Call way ask reply)) ≡ desk_told (state_at d) n reply
  now_is = state_snoc (new_desk d.config d.id) d.entries e

  -- its answer ends nothing
  module _ (on : ending (state_at d).client reply ≡ None) where
    goes_with : GoesOnWith (state_at d) (desk_told (state_at d) n reply) t
    goes_with = told_on (state_at d) n t reply busy on

    inner_on : Goes (counted w node count.was) (with_call d n (Call way ask reply))
    inner_on = record {
      its = record { valid = g.its.valid; same = g.its.same; config = g.its.config; id = g.its.id; correct = g.its.correct };
      acts = by_plan;
      counts = subst (λ (x : CorrectClient). Counts x (d.entries ++ e ∷ [])) count.is counts_on;
    }

    pub asked_goes : Goes w' (with_call d n (Call way ask reply))
    asked_goes = subst (λ (x : CorrectClient). Goes x (with_call d n (Call way ask reply))) (sym count.is) inner_on

    pub asked_on : (block : ℕ) → t.block ≡ block → IsOn block (with_call d n (Call way ask reply))
    asked_on block q = (goes_with.next, ap (λ (x : DeskState). x.client.seen.task) now_is ∙ goes_with.task, goes_with.block ∙ q)

    pub asked_up : (state_at d).crashed ≡ false → (state_at (with_call d n (Call way ask reply))).crashed ≡ false
    asked_up q = ap (λ (x : DeskState). x.crashed) now_is ∙ (Rattle.client_duties.proofs.Heard.told_stays (state_at d) n reply).crashed ∙ q

  -- its answer ends the operation
  module _ (outcome : Outcome) (end : ending (state_at d).client reply ≡ Some outcome) where
    pub ended_goes : Goes w' (with_call d n (Call way ask reply))
    ended_goes = subst (λ (x : CorrectClient). Goes x (with_call d n (Call way ask reply))) (sym count.is) (record {
      its = record { valid = g.its.valid; same = g.its.same; config = g.its.config; id = g.its.id; correct = g.its.correct };
      acts = by_plan;
      counts = subst (λ (x : CorrectClient). Counts x (d.entries ++ e ∷ [])) count.is counts_on;
    })

    pub ended_idle : task_at (with_call d n (Call way ask reply)) ≡ None
    ended_idle = ap (λ (x : DeskState). x.client.seen.task) now_is ∙ told_end (state_at d) n reply outcome end

    pub ended_up : (state_at d).crashed ≡ false → (state_at (with_call d n (Call way ask reply))).crashed ≡ false
    ended_up q = ap (λ (x : DeskState). x.crashed) now_is ∙ (Rattle.client_duties.proofs.Heard.told_stays (state_at d) n reply).crashed ∙ q

-- ---- a crash

none_left : (before : ℕ) (o : Option ℕ) → asks_left before o ≡ Some 0 → ((count : ℕ) → o ≡ Some count → before ≤ count) → o ≡ Some before
none_left before None e few = absurd (cc)
none_left before (Some count) e few =
    let l = few count refl in
    let z : count - before ≡ 0 = cc in
    ap Some (omega arith)

-- a client that has no ask left crashes in its operation
pub crash_cuts : (w : CorrectClient) (d : DeskView) (n : ℕ) → Goes w d → w.crash_after ≡ Some 0 → IsSome (task_at d) → IsCutOff w.plan.value w.client (d.entries ++ desk_entry n Crash ∷ [])
crash_cuts w d n g none busy =
    let e : DeskEntry = desk_entry n Crash in
    let now : client_after w.plan.value w.client (d.entries ++ e ∷ []) ≡ desk_after (state_at d) n Crash = state_snoc (new_desk w.plan.value.config w.client) d.entries e ∙ ap (λ (x : DeskState). desk_after x n Crash) (state_is w d g.its) in
    record {
      count = none_left (times asks d.entries) (client_crash w.plan.value.rules w.client) (sym g.counts.left ∙ none) g.counts.few ∙ ap Some (sym (same_times asks d.entries e refl));
      down = ap (λ (x : DeskState). x.crashed) now;
      busy = subst (λ (x : DeskState). IsSome x.client.seen.task) (sym now) busy;
    }
