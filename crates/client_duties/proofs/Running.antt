-- What a call of the next node leaves, and what a worker is after it.
use Rattle.std.proofs.Common.{◌≡◌, ℕ, inl, inr, ◌+◌, ◌%◌, ◌<◌, ◌≤◌, false, List, Option, refl, sym, ap, subst, ◌∙◌}
use Rattle.std.specs.declared.option.Option.TheVariants.{None, Some}
use Rattle.std.specs.declared.result.Result.{Result}
use Rattle.std.specs.declared.result.Result.TheVariants.{Ok, Err}
use Rattle.std.specs.Option.{IsSome}
use Rattle.std.specs.Prelude.{OnOk, slice_get}
use Rattle.quorum_rules.specs.Limits.{Numbers}
use Rattle.wire_forms.specs.declared.op.Op.{Op}
use Rattle.block_device.specs.declared.steps.BlockStep.{BlockStep}
use Rattle.block_device.specs.Latest.{AreWhole}
use Rattle.block_device.specs.Ops.{op_of}
use Rattle.locked_nodes.specs.declared.answers.CellRefusal.{CellRefusal}
use Rattle.locked_nodes.specs.declared.cell_shard.CellShard.{CellShard}
use Rattle.plan_words.specs.declared.plan.Plan.{Plan}
use Rattle.plan_followed.specs.Asked.{holds}
use Rattle.protocol.specs.Operations.{Outcome}
use Rattle.protocol.specs.World.{Record}
use Rattle.protocol.specs.Seen.{block_of}
use Rattle.journals.specs.declared.desk.Way.{Way}
use Rattle.journals.specs.declared.desk.DeskAct.TheVariants.{Start, Crash, Call}
use Rattle.journals.specs.Records.{client_records}
use Rattle.client_desks.specs.Desks.{DeskView, CanStart, state_at, task_at, records_at, with_own, desk_entry}
use Rattle.client_endpoints.specs.Endpoint.{EndpointView, SharedCellsView, Fit, HasCalled, fixed, refusal_in}
use Rattle.client_desks.specs.Later.{IsLater}
use Rattle.plan_followed.specs.Clients.{IsNext, client_after, last_of, turn_after, times, starts}
use Rattle.client_duties.specs.declared.correct_client.CorrectClient.{CorrectClient}
use Rattle.client_duties.specs.ClientDuty.{every_step, Goes, HasCounted, HasAskedOn, IsOn, IsSame, HoldsWhole}
use Rattle.client_duties.proofs.lemmas.Given.{given_whole}
use Rattle.client_duties.proofs.Going.{state_is, same_times, start_goes, crash_goes}
use Rattle.client_duties.proofs.Asking.{tag_at, asked_goes, asked_on, asked_up, ended_goes, ended_idle, ended_up, crash_cuts}
use Rattle.client_duties.proofs.Phasing.{start_on, start_up, start_counts}

-- ---- the same worker

pub same_on : (a b c : CorrectClient) → IsSame a b → IsSame b c → IsSame a c
same_on a b c x y = record {
  plan = y.plan ∙ x.plan;
  client = y.client ∙ x.client;
}

pub whole_on : (a b : CorrectClient) (cell_shards : List CellShard) → IsSame a b → HoldsWhole a cell_shards → HoldsWhole b cell_shards
whole_on a b cell_shards x whole node some =
    whole node (subst (λ (c : ℕ). 0 < holds a.plan.value.rules c node) x.client (subst (λ (p : Plan). 0 < holds p.rules b.client node) x.plan some))

pub same_counted : (w w' : CorrectClient) (node : ℕ) (way : Way) → HasCounted w node way w' → IsSame w w'
same_counted w w' node way c = subst (IsSame w) (sym c.is) (record { plan = refl; client = refl })

pub counted_phases : (w w' : CorrectClient) (node : ℕ) (way : Way) → HasCounted w node way w' → w'.phases.items ≡ w.phases.items
counted_phases w w' node way c = ap (λ (x : CorrectClient). x.phases.items) c.is

-- ---- a call of the next node

-- what is known before it
pub record MayCall (w w' : CorrectClient) (d : DeskView) (node : ℕ) (way : Way) : Type 0 where
  pub goes : Goes w d
  pub up : (state_at d).crashed ≡ false
  pub below : node < d.config.n
  pub left : w.crash_after ≡ Some 0 → ⊥
  pub count : HasCounted w node way w'
  pub next : IsNext d.config.n (task_at d) (turn_after (d.id % d.config.n) (tag_at d) (last_of d.entries)) node

-- the operation goes on
pub record CallGoesOn (w' : CorrectClient) (block : ℕ) (d d' : DeskView) : Type 0 where
  pub goes : Goes w' d'
  pub on : IsOn block d'
  pub up : (state_at d').crashed ≡ false
  pub starts : times starts d'.entries ≡ times starts d.entries

-- it ended
pub record CallEnds (w' : CorrectClient) (d d' : DeskView) : Type 0 where
  pub goes : Goes w' d'
  pub idle : task_at d' ≡ None
  pub up : (state_at d').crashed ≡ false
  pub starts : times starts d'.entries ≡ times starts d.entries

pub call_on : (w w' : CorrectClient) (d d' : DeskView) (node : ℕ) (way : Way) (block : ℕ) → MayCall w w' d node way → IsOn block d → HasCalled d node way None d' → CallGoesOn w' block d d'
call_on w w' d d' node way block m on h =
    let n = h.call.number in
    subst (CallGoesOn w' block d) (sym h.call.desk) (record {
      goes = asked_goes w w' d n node way h.ask h.reply on.0 m.goes on.1 h.asked m.below m.left m.count m.next (sym h.ended);
      on = asked_on w w' d n node way h.ask h.reply on.0 m.goes on.1 h.asked m.below m.left m.count m.next (sym h.ended) block on.2;
      up = asked_up w w' d n node way h.ask h.reply on.0 m.goes on.1 h.asked m.below m.left m.count m.next (sym h.ended) m.up;
      starts = same_times starts d.entries (desk_entry n (Call way h.ask h.reply)) refl;
    })

pub call_ends : (w w' : CorrectClient) (d d' : DeskView) (node : ℕ) (way : Way) (block : ℕ) (outcome : Outcome) → MayCall w w' d node way → IsOn block d → HasCalled d node way (Some outcome) d' → CallEnds w' d d'
call_ends w w' d d' node way block outcome m on h =
    let n = h.call.number in
    subst (CallEnds w' d) (sym h.call.desk) (record {
      goes = ended_goes w w' d n node way h.ask h.reply on.0 m.goes on.1 h.asked m.below m.left m.count m.next outcome (sym h.ended);
      idle = ended_idle w w' d n node way h.ask h.reply on.0 m.goes on.1 h.asked m.below m.left m.count m.next outcome (sym h.ended);
      up = ended_up w w' d n node way h.ask h.reply on.0 m.goes on.1 h.asked m.below m.left m.count m.next outcome (sym h.ended) m.up;
      starts = same_times starts d.entries (desk_entry n (Call way h.ask h.reply)) refl;
    })

-- ---- asking on

-- a worker that asks nodes in an operation on the block, from when it began to
pub record IsAsking (from w : CorrectClient) (first endpoint : EndpointView) (shared_cells : SharedCellsView) (block : ℕ) : Type 0 where
  pub stays : fixed endpoint ≡ fixed first
  pub fit : Fit endpoint shared_cells
  pub sound : endpoint.refused ≡ None
  pub later : IsLater first.desk endpoint.desk
  pub same : IsSame from w
  pub phases : w.phases.items ≡ from.phases.items
  pub goes : Goes w endpoint.desk
  pub up : (state_at endpoint.desk).crashed ≡ false
  pub on : IsOn block endpoint.desk
  pub starts : times starts endpoint.desk.entries ≡ times starts first.desk.entries

-- what holds of an Ok, where no refusal came
pub ok_gives : {A P : Type 0} (r : Result A CellRefusal) → refusal_in r ≡ None → OnOk r P → P
ok_gives (Ok x) e h = h
ok_gives (Err f) e h = absurd (cc)

pub may_call : (w w' : CorrectClient) (d seen : DeskView) (node : ℕ) (way : Way) → Goes w d → (state_at d).crashed ≡ false → seen ≡ d → node < seen.config.n → HasCounted w node way w'
    → IsNext seen.config.n (task_at seen) (turn_after (seen.id % seen.config.n) (tag_at seen) (last_of seen.entries)) node → MayCall w w' d node way
may_call w w' d seen node way g up e below c next = record {
  goes = g;
  up = up;
  below = subst (λ (x : DeskView). node < x.config.n) e below;
  left = c.left;
  count = c;
  next = subst (λ (x : DeskView). IsNext x.config.n (task_at x) (turn_after (x.id % x.config.n) (tag_at x) (last_of x.entries)) node) e next;
}

module _ (from w w' : CorrectClient) (first endpoint endpoint' : EndpointView) (shared_cells : SharedCellsView) (block node : ℕ) (way : Way) (a : IsAsking from w first endpoint shared_cells block) (m : MayCall w w' endpoint.desk node way) where
  -- it asks on
  pub asking_on : (answer : Option Outcome) → answer ≡ None → HasCalled endpoint.desk node way answer endpoint'.desk → fixed endpoint' ≡ fixed endpoint → Fit endpoint' shared_cells → endpoint'.refused ≡ None → IsLater first.desk endpoint'.desk → IsAsking from w' first endpoint' shared_cells block
  asking_on answer e h stays fit sound later =
      let x = call_on w w' endpoint.desk endpoint'.desk node way block m a.on (subst (λ (o : Option Outcome). HasCalled endpoint.desk node way o endpoint'.desk) e h) in
      record {
        stays = stays ∙ a.stays;
        fit = fit;
        sound = sound;
        later = later;
        same = same_on from w w' a.same (same_counted w w' node way m.count);
        phases = counted_phases w w' node way m.count ∙ a.phases;
        goes = x.goes;
        up = x.up;
        on = x.on;
        starts = x.starts ∙ a.starts;
      }

  -- the operation ended
  pub asked_out : (answer : Option Outcome) → IsSome answer → HasCalled endpoint.desk node way answer endpoint'.desk → HasAskedOn from first.desk w' endpoint'.desk
  asked_out None some h = absurd (cc)
  asked_out (Some outcome) some h =
      let x = call_ends w w' endpoint.desk endpoint'.desk node way block outcome m a.on h in
      record {
        same = same_on from w w' a.same (same_counted w w' node way m.count);
        phases = counted_phases w w' node way m.count ∙ a.phases;
        goes = x.goes;
        starts = x.starts ∙ a.starts;
        over = inl (x.idle, x.up);
      }

-- no ask was left, and the client crashed
pub crashed_out : (from w : CorrectClient) (first endpoint : EndpointView) (shared_cells : SharedCellsView) (block : ℕ) (d' : DeskView) → IsAsking from w first endpoint shared_cells block → w.crash_after ≡ Some 0
    → ((n : ℕ) × (endpoint.desk.pass.seen ≤ n) × (d' ≡ with_own endpoint.desk n Crash)) → HasAskedOn from first.desk w d'
crashed_out from w first endpoint shared_cells block d' a none s =
    let d = endpoint.desk in
    let busy : IsSome (task_at d) = subst IsSome (sym a.on.1) refl in
    subst (HasAskedOn from first.desk w) (sym s.2) (record {
      same = a.same;
      phases = a.phases;
      goes = crash_goes w d s.0 a.goes;
      starts = same_times starts d.entries (desk_entry s.0 Crash) refl ∙ a.starts;
      over = inr (crash_cuts w d s.0 a.goes none busy);
    })

-- ---- a start

-- the operation of a step is under way
pub record HasBegun (w : CorrectClient) (block : ℕ) (before d : DeskView) : Type 0 where
  pub goes : Goes w d
  pub up : (state_at d).crashed ≡ false
  pub on : IsOn block d
  pub starts : times starts d.entries ≡ times starts before.entries + 1

pub begun : (w : CorrectClient) (d seen d' : DeskView) (records : List Record) (step : BlockStep) (op : Op) (block : ℕ) → Goes w d → CanStart d → slice_get (every_step w.plan.value w.client) (times starts d.entries) ≡ Some step
    → seen ≡ d → records ≡ records_at seen → op ≡ op_of w.config.size w.client records step → block ≡ block_of op
    → ((n : ℕ) × (d.pass.seen ≤ n) × (d' ≡ with_own d n (Start op))) → HasBegun w block d d'
begun w d seen d' records step op block g can next same told o b s =
    let now = client_after w.plan.value w.client d.entries in
    let all : records ≡ client_records w.client now =
    told ∙ ap records_at same ∙ ap (λ (c : ℕ). client_records c (state_at d)) g.its.id ∙ ap (client_records w.client) (sym (state_is w d g.its)) in
    let is : op ≡ op_of w.plan.value.config.size w.client (client_records w.client now) step =
    o ∙ ap (λ (c : Numbers). op_of c.size w.client records step) g.its.same ∙ ap (λ (rs : List Record). op_of w.plan.value.config.size w.client rs step) all in
    subst (HasBegun w block d) (sym s.2) (record {
      goes = start_goes w d s.0 op step g next is;
      up = start_up d s.0 op can.up.up;
      on = start_on d s.0 op block (sym b);
      starts = start_counts d s.0 op;
    })

-- what the client's reads gave is as long as a block
pub reads_whole : (w : CorrectClient) (d seen : DeskView) (records : List Record) → Goes w d → seen ≡ d → records ≡ records_at seen → AreWhole w.config.size records
reads_whole w d seen records g same told =
    let config : d.config ≡ w.config = g.its.config ∙ sym g.its.same in
    subst (λ (c : Numbers). AreWhole c.size records) config (subst (AreWhole d.config.size) (sym (told ∙ ap records_at same))
    (given_whole d.config (subst (λ (c : Numbers). 1 ≤ c.m) (sym g.its.config) g.its.valid.shares.0) d.id d.entries))
