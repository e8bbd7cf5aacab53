-- A desk's journal with one more entry.
use Rattle.std.proofs.Common.{◌≡◌, ℕ, ◌+◌, ◌-◌, ◌^◌, ◌<◌, ◌≤◌, Bool, true, false, List, [], ◌∷◌, ◌++◌, Option, refl, sym, ap, subst, ◌∙◌, arith, append_assoc, append-nil, Result, Ok, Err}
use Rattle.std.specs.declared.option.Option.TheVariants.{None, Some}
use Rattle.std.specs.Prelude.{if◌then◌else◌, nat_lt, IfSome, IsSome, IfOk}
use Rattle.lists.specs.declared.memory.NoMemory.{NoMemory}
use Rattle.protocol.specs.World.{Record}
use Rattle.protocol.specs.Setting.{Setting}
use Rattle.protocol.specs.Instance.{setting}
use Rattle.protocol.specs.Operations.{outstanding}
use Rattle.protocol.specs.Seen.{SeenTask, task_at, outstanding_of, phase_of}
use Rattle.std.proofs.lemmas.List.{map-append}
use Rattle.protocol.specs.Messages.{Message, IsFormedBody}
use Rattle.quorum_rules.specs.Limits.{Numbers}
use Rattle.protocol.specs.Seen.{Hearing}
use Rattle.protocol.specs.Seen.Hearing.{Ignored, Counted, Begins as BeginsPhase, Ended}
use Rattle.operation_core.specs.Clients.{ClientView, hears}
use Rattle.event_clock.specs.Passes.{Holder, met, heeded}
use Rattle.journals.specs.declared.desk.Way.{Way}
use Rattle.journals.specs.declared.desk.Way.TheVariants.{Call as ByCall}
use Rattle.journals.specs.declared.desk.DeskAct.{DeskAct}
use Rattle.journals.specs.declared.desk.DeskAct.TheVariants.{Start, Crash, Call}
use Rattle.journals.specs.declared.desk.DeskEntry.{DeskEntry}
use Rattle.journals.specs.Desks.{DeskState, new_desk, by_hearing, desk_told, desk_after, desk_after_all, ActsAs, LiarCalls, DeskKept}
use Rattle.journals.specs.Records.{client_records}
use Rattle.locked_nodes.specs.Cells.{Rises, with_seen}
use Rattle.client_desks.specs.Desks.{DeskView, state_at, asks_of, CanCall, own_of, own_numbers, numbers_of, IsDesk, desk_entry, heard}
use Rattle.journals.proofs.lemmas.Lists.{state_snoc}
use Rattle.locked_nodes.proofs.lemmas.Growing.{rises_snoc, rises_more}

kept_snoc : (lying : Bool) (d : DeskState) (es : List DeskEntry) (e : DeskEntry) → DeskKept lying d es → ActsAs lying (desk_after_all d es) e.act → DeskKept lying d (es ++ e ∷ [])
kept_snoc lying d [] e kept may = (may, tt)
kept_snoc lying d (x ∷ es) e kept may = (kept.0, kept_snoc lying (desk_after d x.number x.act) es e kept.1 may)

own_snoc : (es : List DeskEntry) (e : DeskEntry) → own_numbers (es ++ e ∷ []) ≡ own_numbers es ++ own_of e.number e.act
own_snoc [] e = append-nil (own_of e.number e.act)
own_snoc (x ∷ es) e = ap (λ l. own_of x.number x.act ++ l) (own_snoc es e) ∙ sym (append_assoc (own_of x.number x.act) (own_numbers es) (own_of e.number e.act))

-- whose client it is stays
hearing_keeps : (c : ClientView) (h : Hearing) → ((by_hearing c h).config ≡ c.config) × ((by_hearing c h).id ≡ c.id)
hearing_keeps c Ignored = (refl, refl)
hearing_keeps c (Counted t) = (refl, refl)
hearing_keeps c (BeginsPhase t) = (refl, refl)
hearing_keeps c (Ended outcome) = (refl, refl)

told_keeps : (d : DeskState) (n : ℕ) (reply : Option Message) → ((desk_told d n reply).client.config ≡ d.client.config) × ((desk_told d n reply).client.id ≡ d.client.id)
told_keeps d n None = (refl, refl)
told_keeps d n (Some m) = hearing_keeps d.client (hears d.client d.client.seen.task m)

after_keeps : (d : DeskState) (n : ℕ) (a : DeskAct) → ((desk_after d n a).client.config ≡ d.client.config) × ((desk_after d n a).client.id ≡ d.client.id)
after_keeps d n (Start op) = (refl, refl)
after_keeps d n Crash = (refl, refl)
after_keeps d n (Call way ask reply) = told_keeps d n reply

state_keeps : (d : DeskState) (es : List DeskEntry) → ((desk_after_all d es).client.config ≡ d.client.config) × ((desk_after_all d es).client.id ≡ d.client.id)
state_keeps d [] = (refl, refl)
state_keeps d (e ∷ es) =
    let more = state_keeps (desk_after d e.number e.act) es in
    let one = after_keeps d e.number e.act in
    (more.0 ∙ one.0, more.1 ∙ one.1)

pub config_at : (config : Numbers) (id : ℕ) (es : List DeskEntry) → (desk_after_all (new_desk config id) es).client.config ≡ config
config_at config id es = (state_keeps (new_desk config id) es).0

id_at : (config : Numbers) (id : ℕ) (es : List DeskEntry) → (desk_after_all (new_desk config id) es).client.id ≡ id
id_at config id es = (state_keeps (new_desk config id) es).1

-- what a reply does to a client is what it does to the journal's
pub told_client : (d : DeskState) (n : ℕ) (reply : Option Message) → (desk_told d n reply).client ≡ heard d.client reply
told_client d n None = refl
told_client d n (Some m) = refl

pub told_crashed : (d : DeskState) (n : ℕ) (reply : Option Message) → (desk_told d n reply).crashed ≡ d.crashed
told_crashed d n None = refl
told_crashed d n (Some m) = refl

-- a desk with one more entry
pub desk_grows : (config : Numbers) (id : ℕ) (lying : Bool) (client now : ClientView) (crashed fell : Bool) (es gs : List DeskEntry) (rs ts : List Record) (p q : Holder) (n : ℕ) (a : DeskAct)
    → IsDesk config id lying client crashed es rs p → ActsAs lying (desk_after_all (new_desk config id) es) a → p.seen ≤ n → q.seen ≡ n + 1 → q.drawn ≡ p.drawn ++ own_of n a
    → now ≡ (desk_after (desk_after_all (new_desk config id) es) n a).client → fell ≡ (desk_after (desk_after_all (new_desk config id) es) n a).crashed → gs ≡ es ++ desk_entry n a ∷ []
    → ts ≡ client_records id (desk_after (desk_after_all (new_desk config id) es) n a)
    → IsDesk config id lying now fell gs ts q
desk_grows config id lying client now crashed fell es gs rs ts p q n a desk may le seen drawn to falls list told =
    let d = new_desk config id in
    let e = desk_entry n a in
    let numbers : numbers_of (es ++ e ∷ []) ≡ numbers_of es ++ n ∷ [] = map-append (λ (x : DeskEntry). x.number) es (e ∷ []) in
    subst (λ l. IsDesk config id lying now fell l ts q) (sym list) (record {
      kept = kept_snoc lying d es e desk.kept may;
      left = to ∙ sym (ap (λ (s : DeskState). s.client) (state_snoc d es e));
      fell = falls ∙ sym (ap (λ (s : DeskState). s.crashed) (state_snoc d es e));
      told = told ∙ sym (ap (client_records id) (state_snoc d es e));
      drawn = drawn ∙ ap (λ l. l ++ own_of n a) desk.drawn ∙ sym (own_snoc es e);
      rises = subst (λ h. Rises 0 (numbers_of (es ++ e ∷ [])) h) (sym seen) (subst (λ l. Rises 0 l (n + 1)) (sym numbers) (rises_snoc 0 (numbers_of es) p.seen n desk.rises le));
    })

-- a pass that heeds a note of a number not below what it had seen
pub heeds_call : (p : Holder) (seen n : ℕ) → p.seen ≤ n → seen ≡ n + 1 → heeded p seen ≡ with_seen p (n + 1)
heeds_call p seen n le is = ap (λ m. with_seen p m) (omega (arith, le, is))

-- what the client asks of a node, as the desk's journal tells it
pub asks_at : (config : Numbers) (id : ℕ) (es : List DeskEntry) (client : ClientView) (node : ℕ) → client ≡ (desk_after_all (new_desk config id) es).client
    → outstanding_of (setting client.config) client.id client.seen.task node ≡ outstanding_of (setting config) id (desk_after_all (new_desk config id) es).client.seen.task node
asks_at config id es client node left =
    let state = desk_after_all (new_desk config id) es in
    ap (λ (k : ClientView). outstanding_of (setting k.config) k.id k.seen.task node) left
    ∙ ap (λ g. outstanding_of (setting g) state.client.id state.client.seen.task node) (config_at config id es)
    ∙ ap (λ m. outstanding_of (setting config) m state.client.seen.task node) (id_at config id es)

picked : {A : Type 0} (b : Bool) (m ask : A) → (if b then Some m else None) ≡ Some ask → m ≡ ask
picked true m ask is = cc
picked false m ask is = absurd cc

-- what is asked of a node is an ask of the client to it
pub asks_node : (s : Setting) (id : ℕ) (task : Option SeenTask) (node : ℕ) (ask : Message) → outstanding_of s id task node ≡ Some ask → ask.node ≡ node
asks_node s id None node ask is = cc
asks_node s id (Some t) node ask is = ap (λ (m : Message). m.node) (sym (picked (nat_lt node s.n) (outstanding s id (task_at 0 t) node) ask is))

pub asks_client : (s : Setting) (id : ℕ) (task : Option SeenTask) (node : ℕ) (ask : Message) → outstanding_of s id task node ≡ Some ask → ask.client ≡ id
asks_client s id None node ask is = cc
asks_client s id (Some t) node ask is = ap (λ (m : Message). m.client) (sym (picked (nat_lt node s.n) (outstanding s id (task_at 0 t) node) ask is))

-- of a desk, where the answer is one
pub asks_to : (answer : Result (Option Message) NoMemory) (d : DeskView) (node : ℕ) → IfOk answer (λ ask. ask ≡ asks_of d node) → IfOk answer (λ ask. IfSome ask (λ m. (m.node ≡ node) × (m.client ≡ d.id)))
asks_to (Err e) d node is = tt
asks_to (Ok None) d node is = tt
asks_to (Ok (Some m)) d node is =
    let task = (state_at d).client.seen.task in
    (asks_node (setting d.config) d.id task node m (sym is), asks_client (setting d.config) d.id task node m (sym is))

pub asks_some : (answer : Result (Option Message) NoMemory) (asked : Option Message) → IfOk answer (λ ask. ask ≡ asked) → IsSome asked → IfOk answer (λ ask. IsSome ask)
asks_some (Err e) asked is some = tt
asks_some (Ok ask) asked is some = subst IsSome (sym is) some

-- the call of what is asked of a node is one that the client may make
pub calls_as : (d : DeskView) (way : Way) (ask : Message) (reply : Option Message) → CanCall d ask.node → asks_of d ask.node ≡ Some ask → ActsAs d.lying (state_at d) (Call way ask reply)
calls_as d way ask reply can asked =
    let goes : ActsAs false (state_at d) (Call way ask reply) = (
      can.up.up,
      record { outstanding = asks_at d.config d.id d.entries (state_at d).client ask.node refl ∙ asked; unanswered = can.unanswered },
    ) in
    subst (λ b. ActsAs b (state_at d) (Call way ask reply)) (sym can.up.correct) goes

-- a lying client's own client does nothing
told_idle : (d : DeskState) (n : ℕ) (reply : Option Message) → d.client.seen.task ≡ None → (desk_told d n reply).client.seen.task ≡ None
told_idle d n None idle = idle
told_idle d n (Some m) idle = ap (λ t. (by_hearing d.client (hears d.client t m)).seen.task) idle ∙ idle

liar_act : (d : DeskState) (n : ℕ) (a : DeskAct) → LiarCalls d.client.id a → d.client.seen.task ≡ None → (desk_after d n a).client.seen.task ≡ None
liar_act d n (Start op) calls idle = absurd calls
liar_act d n Crash calls idle = absurd calls
liar_act d n (Call way ask reply) calls idle = told_idle d n reply idle

liar_idle : (d : DeskState) (es : List DeskEntry) → DeskKept true d es → d.client.seen.task ≡ None → (desk_after_all d es).client.seen.task ≡ None
liar_idle d [] kept idle = idle
liar_idle d (e ∷ es) kept idle = liar_idle (desk_after d e.number e.act) es kept.1 (liar_act d e.number e.act kept.0 idle)

pub liar_phase : (d : DeskView) → d.lying ≡ true → DeskKept d.lying (new_desk d.config d.id) d.entries → phase_of (state_at d).client.seen.task < 2 ^ 64 - 1
liar_phase d lying kept =
    let idle : (state_at d).client.seen.task ≡ None = liar_idle (new_desk d.config d.id) d.entries (subst (λ b. DeskKept b (new_desk d.config d.id) d.entries) lying kept) refl in
    subst (λ t. phase_of t < 2 ^ 64 - 1) (sym idle) (omega arith)

-- the call of its ask is one that it may make
pub liar_calls : (d : DeskView) (ask : Message) (reply : Option Message) → d.lying ≡ true → ask.client ≡ d.id → IsFormedBody ask.body → ActsAs d.lying (state_at d) (Call ByCall ask reply)
liar_calls d ask reply lying own formed =
    let calls : LiarCalls (state_at d).client.id (Call ByCall ask reply) = (refl, own ∙ sym (id_at d.config d.id d.entries), formed) in
    subst (λ b. ActsAs b (state_at d) (Call ByCall ask reply)) (sym lying) calls

-- a desk whose pass meets another one
pub desk_meets : (config : Numbers) (id : ℕ) (lying : Bool) (client : ClientView) (crashed : Bool) (es : List DeskEntry) (rs : List Record) (pass other : Holder)
    → IsDesk config id lying client crashed es rs pass → IsDesk config id lying client crashed es rs (met pass other)
desk_meets config id lying client crashed es rs pass other h =
    record { kept = h.kept; left = h.left; fell = h.fell; told = h.told; drawn = h.drawn; rises = rises_more 0 (numbers_of es) pass.seen (met pass other).seen h.rises (omega arith) }
