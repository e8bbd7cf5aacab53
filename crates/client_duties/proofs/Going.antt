-- A client that goes by its plan goes on so: what each entry keeps of what its thread counts.
use Rattle.std.proofs.Common.{◌≡◌, ◌≢◌, ◌⊎◌, ℕ, zero, suc, ◌+◌, ◌-◌, ◌<◌, ◌≤◌, ◌==◌, Bool, true, false, cond, eqb, List, [], ◌∷◌, ◌++◌, length, Option, refl, sym, ap, subst, ◌∙◌, arith, inl, inr}
use Rattle.std.specs.declared.option.Option.TheVariants.{None, Some}
use Rattle.std.specs.Prelude.{slice_get, slice_set, nat_lt}
use Rattle.std.proofs.lemmas.Bool.Decides.{nat_tests}
use Rattle.quorum_rules.specs.Limits.{Numbers}
use Rattle.wire_forms.specs.declared.op.Op.{Op}
use Rattle.block_device.specs.declared.steps.BlockStep.{BlockStep}
use Rattle.block_device.specs.Ops.{op_of}
use Rattle.protocol.specs.Messages.{Message}
use Rattle.journals.specs.declared.desk.Way.{Way}
use Rattle.journals.specs.declared.desk.Way.TheVariants.{Call as ByCall, Lose as ByLose, Hold as ByHold}
use Rattle.journals.specs.declared.desk.DeskAct.{DeskAct}
use Rattle.journals.specs.declared.desk.DeskAct.TheVariants.{Start, Crash, Call}
use Rattle.journals.specs.declared.desk.DeskEntry.{DeskEntry}
use Rattle.journals.specs.Desks.{new_desk, desk_after_all}
use Rattle.journals.specs.Records.{client_records}
use Rattle.locked_nodes.specs.declared.cell_shard.CellShard.{CellShard}
use Rattle.locked_nodes.specs.CellShards.{IsWholeAt}
use Rattle.client_desks.specs.Desks.{DeskView, state_at, with_own, desk_entry}
use Rattle.plan_followed.specs.Asked.{drops, holds, client_crash}
use Rattle.plan_followed.specs.Clients.{client_after, times, starts, asks, asks_of, way_of}
use Rattle.plan_followed.proofs.lemmas.Entries as followed
use Rattle.client_duties.specs.declared.task.Ways.{Ways}
use Rattle.client_duties.specs.declared.correct_client.CorrectClient.{CorrectClient}
use Rattle.client_duties.specs.ClientDuty.{ways_left, asks_left, every_step, IsItsDesk, Counts, Goes, counted, HasCounted, HoldsWhole}
use Rattle.client_duties.proofs.Heard.{times_snoc}
use Rattle.lists.proofs.lemmas.Members.{slice_get-set}

-- ---- lists

put_other : {A : Type 0} (xs : List A) (k i : ℕ) (y : A) → i ≢ k → slice_get (slice_set xs k y) i ≡ slice_get xs i
put_other [] k i y e = refl
put_other (z ∷ xs) zero zero y e = absurd (e refl)
put_other (z ∷ xs) zero (suc i) y e = refl
put_other (z ∷ xs) (suc k) zero y e = refl
put_other (z ∷ xs) (suc k) (suc i) y e = put_other xs k i y (λ (q : i ≡ k). e (ap suc q))

put_length : {A : Type 0} (xs : List A) (k : ℕ) (y : A) → length (slice_set xs k y) ≡ length xs
put_length [] k y = refl
put_length (z ∷ xs) zero y = refl
put_length (z ∷ xs) (suc k) y = ap suc (put_length xs k y)

-- ---- the client as its journal tells

pub state_is : (w : CorrectClient) (d : DeskView) → IsItsDesk w d → client_after w.plan.value w.client d.entries ≡ state_at d
state_is w d its =
    ap (λ (c : Numbers). desk_after_all (new_desk c w.client) d.entries) (sym its.config)
    ∙ ap (λ (k : ℕ). desk_after_all (new_desk d.config k) d.entries) (sym its.id)

plus_none : (n : ℕ) → n + 0 ≡ n
plus_none n = omega arith

pub same_times : (test : DeskAct → Bool) (es : List DeskEntry) (e : DeskEntry) → test e.act ≡ false → times test (es ++ e ∷ []) ≡ times test es
same_times test es e f = times_snoc test es e ∙ ap (λ (b : Bool). times test es + cond b 1 0) f ∙ plus_none (times test es)

pub more_times : (test : DeskAct → Bool) (es : List DeskEntry) (e : DeskEntry) → test e.act ≡ true → times test (es ++ e ∷ []) ≡ times test es + 1
more_times test es e f = times_snoc test es e ∙ ap (λ (b : Bool). times test es + cond b 1 0) f

-- ---- an entry that is no ask

counts_still : (w : CorrectClient) (es : List DeskEntry) (e : DeskEntry) → asks e.act ≡ false → ((i : ℕ) → asks_of i e.act ≡ false) → Counts w es → Counts w (es ++ e ∷ [])
counts_still w es e not_ask none h = record {
  nodes = h.nodes;
  ways = λ i l. h.ways i l ∙ ap (λ (k : ℕ). Some (ways_left (drops w.plan.value.rules w.client i) (holds w.plan.value.rules w.client i) k)) (sym (same_times (asks_of i) es e (none i)));
  left = h.left ∙ ap (λ (k : ℕ). asks_left k (client_crash w.plan.value.rules w.client)) (sym (same_times asks es e not_ask));
  few = λ count q. let a = same_times asks es e not_ask in let b = h.few count q in omega arith;
}

-- it starts the operation of its next step
pub start_goes : (w : CorrectClient) (d : DeskView) (n : ℕ) (op : Op) (step : BlockStep) → Goes w d → slice_get (every_step w.plan.value w.client) (times starts d.entries) ≡ Some step
    → op ≡ op_of w.plan.value.config.size w.client (client_records w.client (client_after w.plan.value w.client d.entries)) step → Goes w (with_own d n (Start op))
start_goes w d n op step g next is = record {
  its = record { valid = g.its.valid; same = g.its.same; config = g.its.config; id = g.its.id; correct = g.its.correct };
  acts = followed.one_more w.plan.value w.client d.entries (desk_entry n (Start op)) g.acts (record { start = (step, next, is); turn = tt; way = tt });
  counts = counts_still w d.entries (desk_entry n (Start op)) refl (λ i. refl) g.counts;
}

pub crash_goes : (w : CorrectClient) (d : DeskView) (n : ℕ) → Goes w d → Goes w (with_own d n Crash)
crash_goes w d n g = record {
  its = record { valid = g.its.valid; same = g.its.same; config = g.its.config; id = g.its.id; correct = g.its.correct };
  acts = followed.one_more w.plan.value w.client d.entries (desk_entry n Crash) g.acts (record { start = tt; turn = tt; way = tt });
  counts = counts_still w d.entries (desk_entry n Crash) refl (λ i. refl) g.counts;
}

-- ---- an ask

abbrev ways : ℕ → ℕ → Ways
ways drops holds = record { drops = drops; holds = holds }

one_less : (drops holds before : ℕ) → ways_left (drops - before) (holds - (before - drops)) 1 ≡ ways_left drops holds (before + 1)
one_less drops holds before =
    let a : drops - before - 1 ≡ drops - (before + 1) = omega arith in
    let b : holds - (before - drops) - (1 - (drops - before)) ≡ holds - (before + 1 - drops) = omega arith in
    ap (λ (x : ℕ). ways x (holds - (before - drops) - (1 - (drops - before)))) a ∙ ap (ways (drops - (before + 1))) b

less_left : (before : ℕ) (o : Option ℕ) → asks_left 1 (asks_left before o) ≡ asks_left (before + 1) o
less_left before None = refl
less_left before (Some count) = ap Some (omega arith)

still_few : (before count : ℕ) (o : Option ℕ) → (asks_left before o ≡ Some 0 → ⊥) → o ≡ Some count → before ≤ count → before + 1 ≤ count
still_few before count None more e l = absurd (cc)
still_few before count (Some c) more e l =
    let same : c ≡ count = cc in
    elim (cases_of c before (omega arith)) [ inl q ↦ absurd (more (ap Some (omega arith))) | inr q ↦ omega arith ]
  where
    cases_of : (a b : ℕ) → b ≤ a → (a ≡ b) ⊎ (b < a)
    cases_of zero zero l = inl refl
    cases_of zero (suc b) l = absurd (omega arith)
    cases_of (suc a) zero l = inr (omega arith)
    cases_of (suc a) (suc b) l = elim (cases_of a b (omega arith)) [ inl q ↦ inl (ap suc q) | inr q ↦ inr (omega arith) ]

asks_other : (node i : ℕ) → i ≢ node → (node == i) ≡ false
asks_other node i e = grind (arith, nat_tests)

-- what is counted after an ask
pub counts_more : (w : CorrectClient) (es : List DeskEntry) (n : ℕ) (way way' : Way) (ask : Message) (reply : Option Message) (w' : CorrectClient) → ask.node < w.plan.value.config.n → (w.crash_after ≡ Some 0 → ⊥)
    → Counts w es → HasCounted w ask.node way' w' → Counts w' (es ++ desk_entry n (Call way ask reply) ∷ [])
counts_more w es n way way' ask reply w' below up h c = subst (λ (x : CorrectClient). Counts x (es ++ desk_entry n (Call way ask reply) ∷ [])) (sym c.is) inner
  where
    e : DeskEntry
    e = desk_entry n (Call way ask reply)

    d : ℕ
    d = drops w.plan.value.rules w.client ask.node

    k : ℕ
    k = holds w.plan.value.rules w.client ask.node

    was_is : c.was ≡ ways_left d k (times (asks_of ask.node) es)
    was_is = let a = c.there in let b = h.ways ask.node below in cc

    hit : asks_of ask.node e.act ≡ true
    hit = grind (arith, nat_tests)

    at_node : slice_get (counted w ask.node c.was).ways ask.node ≡ Some (ways_left d k (times (asks_of ask.node) (es ++ e ∷ [])))
    at_node =
        slice_get-set w.ways ask.node c.was (ways_left c.was.drops c.was.holds 1) c.there
        ∙ ap (λ (x : Ways). Some (ways_left x.drops x.holds 1)) was_is
        ∙ ap Some (one_less d k (times (asks_of ask.node) es))
        ∙ ap (λ (x : ℕ). Some (ways_left d k x)) (sym (more_times (asks_of ask.node) es e hit))

    at : (i : ℕ) (b : Bool) → eqb i ask.node ≡ b → i < w.plan.value.config.n → slice_get (counted w ask.node c.was).ways i ≡ Some (ways_left (drops w.plan.value.rules w.client i) (holds w.plan.value.rules w.client i) (times (asks_of i) (es ++ e ∷ [])))
    at i true q l = let same : ask.node ≡ i = grind (arith, nat_tests) in subst (λ (j : ℕ). slice_get (counted w ask.node c.was).ways j ≡ Some (ways_left (drops w.plan.value.rules w.client j) (holds w.plan.value.rules w.client j) (times (asks_of j) (es ++ e ∷ [])))) same at_node
    at i false q l =
        let other : i ≢ ask.node = grind (arith, nat_tests) in
        put_other w.ways ask.node i (ways_left c.was.drops c.was.holds 1) other
        ∙ h.ways i l
        ∙ ap (λ (x : ℕ). Some (ways_left (drops w.plan.value.rules w.client i) (holds w.plan.value.rules w.client i) x)) (sym (same_times (asks_of i) es e (asks_other ask.node i other)))

    inner : Counts (counted w ask.node c.was) (es ++ e ∷ [])
    inner = record {
      nodes = put_length w.ways ask.node (ways_left c.was.drops c.was.holds 1) ∙ h.nodes;
      ways = λ i l. at i (eqb i ask.node) refl l;
      left = ap (asks_left 1) h.left ∙ less_left (times asks es) (client_crash w.plan.value.rules w.client) ∙ ap (λ (x : ℕ). asks_left x (client_crash w.plan.value.rules w.client)) (sym (more_times asks es e refl));
      few = λ count q.
          let a = h.few count q in
          let b = more_times asks es e refl in
          let r = still_few (times asks es) count (client_crash w.plan.value.rules w.client) (λ z. up (h.left ∙ z)) q a in
          omega arith;
    }

-- the way of the next of what is left is that of an ask after so many
way_on : (drops holds before : ℕ) → way_of (drops - before) (holds - (before - drops)) 0 ≡ way_of drops holds before
way_on drops holds before = at (nat_lt before drops) refl (nat_lt before (drops + holds)) refl
  where
    at : (b : Bool) → nat_lt before drops ≡ b → (b' : Bool) → nat_lt before (drops + holds) ≡ b' → way_of (drops - before) (holds - (before - drops)) 0 ≡ cond b ByLose (cond b' ByHold ByCall)
    at true e b' f = let g : nat_lt 0 (drops - before) ≡ true = grind (arith, nat_tests) in ap (λ (x : Bool). cond x ByLose (cond (nat_lt 0 (drops - before + (holds - (before - drops)))) ByHold ByCall)) g
    at false e true f =
        let g : nat_lt 0 (drops - before) ≡ false = grind (arith, nat_tests) in
        let h : nat_lt 0 (drops - before + (holds - (before - drops))) ≡ true = grind (arith, nat_tests) in
        ap (λ (x : Bool). cond x ByLose (cond (nat_lt 0 (drops - before + (holds - (before - drops)))) ByHold ByCall)) g ∙ ap (λ (x : Bool). cond x ByHold ByCall) h
    at false e false f =
        let g : nat_lt 0 (drops - before) ≡ false = grind (arith, nat_tests) in
        let h : nat_lt 0 (drops - before + (holds - (before - drops))) ≡ false = grind (arith, nat_tests) in
        ap (λ (x : Bool). cond x ByLose (cond (nat_lt 0 (drops - before + (holds - (before - drops)))) ByHold ByCall)) g ∙ ap (λ (x : Bool). cond x ByHold ByCall) h

pub way_is : (w : CorrectClient) (es : List DeskEntry) (node : ℕ) (way : Way) (w' : CorrectClient) → node < w.plan.value.config.n → Counts w es → HasCounted w node way w'
    → way ≡ way_of (drops w.plan.value.rules w.client node) (holds w.plan.value.rules w.client node) (times (asks_of node) es)
way_is w es node way w' below h c =
    let d = drops w.plan.value.rules w.client node in
    let k = holds w.plan.value.rules w.client node in
    let was : c.was ≡ ways_left d k (times (asks_of node) es) = (let a = c.there in let b = h.ways node below in cc) in
    c.goes ∙ ap (λ (x : Ways). way_of x.drops x.holds 0) was ∙ way_on d k (times (asks_of node) es)

-- an ask that is held back is one that the plan holds
held_some : (drops holds : ℕ) → way_of drops holds 0 ≡ ByHold → 0 < holds
held_some drops holds e = at (nat_lt 0 drops) (nat_lt 0 (drops + holds)) refl refl e
  where
    at : (b c : Bool) → nat_lt 0 drops ≡ b → nat_lt 0 (drops + holds) ≡ c → cond b ByLose (cond c ByHold ByCall) ≡ ByHold → 0 < holds
    at true c x y e = absurd (cc)
    at false true x y e = grind (arith, nat_tests)
    at false false x y e = absurd (cc)

pub held_whole : (w : CorrectClient) (es : List DeskEntry) (node : ℕ) (way : Way) (w' : CorrectClient) (cell_shards : List CellShard) → node < w.plan.value.config.n → Counts w es → HasCounted w node way w' → HoldsWhole w cell_shards → way ≡ ByHold → IsWholeAt cell_shards node
held_whole w es node way w' cell_shards below h c whole is =
    let d = drops w.plan.value.rules w.client node in
    let k = holds w.plan.value.rules w.client node in
    let was : c.was ≡ ways_left d k (times (asks_of node) es) = (let a = c.there in let b = h.ways node below in cc) in
    let some = held_some c.was.drops c.was.holds (sym c.goes ∙ is) in
    let left : c.was.holds ≡ k - (times (asks_of node) es - d) = ap (λ (x : Ways). x.holds) was in
    whole node (omega (arith, some, left))
