-- A phase that threads did, and what came late after them: it is worked off.
use Rattle.std.proofs.Common.{◌≡◌, ◌⊎◌, ℕ, zero, suc, ◌+◌, ◌<◌, ◌≤◌, Bool, true, false, List, [], ◌∷◌, ◌++◌, length, map, drop, refl, sym, ◌∙◌, ap, subst, inl, inr, arith, append_assoc}
use Rattle.std.specs.Prelude.{slice_get, ◌==◌}
use Rattle.event_clock.specs.Passes.{ClockId}
use Rattle.std.specs.declared.option.Option.TheVariants.{Some}
use Rattle.std.specs.List.{Contains, AllZip, All, filter_map}
use Rattle.std.proofs.lemmas.Bool.Decides.{eqb_tells}
use Rattle.std.proofs.lemmas.List.Elements.{Contains-append_right, All-nil, All-cons, All-head, All-tail, All-contains}
use Rattle.std.proofs.lemmas.List.{append-nil}
use Rattle.protocol.specs.Messages.{Message}
use Rattle.wire_forms.specs.Liars.{has_number}
use Rattle.quorum_rules.specs.Limits.{Numbers}
use Rattle.journals.specs.declared.desk.DeskEntry.{DeskEntry}
use Rattle.journals.specs.declared.node.NodeEntry.{NodeEntry}
use Rattle.journals.specs.Phases.{Phase}
use Rattle.locked_nodes.specs.Cells.{CellView, KeptCell, HasNoLateMail, numbers, HasMoreAside}
use Rattle.client_desks.specs.Desks.{DeskView, numbers_of}
use Rattle.client_desks.specs.Later.{IsLater}
use Rattle.plan_words.specs.declared.plan.Plan.{Plan}
use Rattle.plan_words.specs.declared.job.Job.{Job}
use Rattle.plan_words.specs.declared.job.Job.TheVariants.{Block, Device, Phase as PhaseEnd}
use Rattle.plan_words.specs.Named.{job_client, clients, lying_clients, asking_clients, troubled_client}
use Rattle.plan_followed.specs.Asked.{steps_for, first_phases, messages, nature, crash_after}
use Rattle.plan_followed.specs.Clients.{InEach, GoesByPlan, IsDone, all_asked}
use Rattle.plan_followed.specs.Nodes.{node_after}
use Rattle.plan_followed.specs.Closed.{next_begin, HaveClosed, AreWorked, FinishedAs, IsWorkedOff, GoesOn}
use Rattle.locked_nodes.specs.CellShards.{cell_shard_of, cell_shards_of, Cover}
use Rattle.phase_threads.specs.Standing.{IsCellOf, IsDeskAt, AreCells, AreInside, IsPlanned, HaveOwnShards, HasWorked, ArePlanned, HaveSeen, PairsStand, PhasesWork, NothingLate, journals_of}
use Rattle.phase_threads.specs.Ended.{AreClients}
use Rattle.phase_threads.proofs.lemmas.Cells.{journal_of, journal_is, entries_at, desk_at, rises_from}
use Rattle.phase_threads.specs.declared.duty.Seat.{Seat}
use Rattle.client_duties.specs.declared.work.ClientDuty.{ClientDuty}
use Rattle.client_duties.specs.declared.work.ClientDuty.TheVariants.{Client, Lying}
use Rattle.client_duties.specs.ClientDuty.{phase_at}
use Rattle.client_threads.specs.Running.{desks_of, clients_of, plan_of, journals_in, StandsAt, LiarsNamed, IsOpen, IsStanding, HasDonePhase, IsBetween, IsWorked}
use Rattle.client_threads.specs.declared.state.Run.{Run}
use Rattle.client_threads.proofs.Pairs.{HasMoreAlone, HasSameEntries, pairs_on}
use Rattle.lists.proofs.lemmas.Members.{Contains-head, Contains-none, Contains-rest, Contains-map_cases, Contains-slice_get}

-- ---- lists beside each other

pub zip_map : {X Y : Type 0} (R S : X → Y → Type 0) (xs : List X) (ys : List Y) → ((x : X) (y : Y) → R x y → S x y) → AllZip R xs ys → AllZip S xs ys
zip_map R S [] [] h z = tt
zip_map R S [] (y ∷ ys) h z = absurd z
zip_map R S (x ∷ xs) [] h z = absurd z
zip_map R S (x ∷ xs) (y ∷ ys) h z = (h x y z.0, zip_map R S xs ys h z.1)

pub zip_same : {X : Type 0} (R : X → X → Type 0) (xs : List X) → ((x : X) → R x x) → AllZip R xs xs
zip_same R [] h = tt
zip_same R (x ∷ xs) h = (h x, zip_same R xs h)

pub zip_then : {X : Type 0} (R S T : X → X → Type 0) (xs ys zs : List X) → ((x y z : X) → R x y → S y z → T x z) → AllZip R xs ys → AllZip S ys zs → AllZip T xs zs
zip_then R S T [] [] [] h a b = tt
zip_then R S T [] [] (z ∷ zs) h a b = absurd b
zip_then R S T [] (y ∷ ys) zs h a b = absurd a
zip_then R S T (x ∷ xs) [] zs h a b = absurd a
zip_then R S T (x ∷ xs) (y ∷ ys) [] h a b = absurd b
zip_then R S T (x ∷ xs) (y ∷ ys) (z ∷ zs) h a b = (h x y z a.0 b.0, zip_then R S T xs ys zs h a.1 b.1)

-- what holds of all in one list holds of all beside them
pub zip_all : {X Y : Type 0} (R : X → Y → Type 0) (P : X → Type 0) (Q : Y → Type 0) (xs : List X) (ys : List Y) → ((x : X) (y : Y) → R x y → P x → Q y) → AllZip R xs ys → All P xs → All Q ys
zip_all R P Q [] [] h z a = All-nil Q
zip_all R P Q [] (y ∷ ys) h z a = absurd z
zip_all R P Q (x ∷ xs) [] h z a = absurd z
zip_all R P Q (x ∷ xs) (y ∷ ys) h z a = All-cons Q y ys (h x y z.0 (All-head P x xs a)) (zip_all R P Q xs ys h z.1 (All-tail P x xs a))

-- and with what holds of each of the other ones
pub zip_with : {X Y : Type 0} (R S : X → Y → Type 0) (Q : Y → Type 0) (xs : List X) (ys : List Y) → ((x : X) (y : Y) → R x y → Q y → S x y) → AllZip R xs ys → All Q ys → AllZip S xs ys
zip_with R S Q [] [] h z a = tt
zip_with R S Q [] (y ∷ ys) h z a = absurd z
zip_with R S Q (x ∷ xs) [] h z a = absurd z
zip_with R S Q (x ∷ xs) (y ∷ ys) h z a = (h x y z.0 (All-head Q y ys a), zip_with R S Q xs ys h z.1 (All-tail Q y ys a))

-- ---- clients

no_entry : (e : DeskEntry) (before rest : List DeskEntry) → [] ≡ before ++ e ∷ rest → ⊥
no_entry e [] rest p = absurd (cc)
no_entry e (b ∷ bs) rest p = absurd (cc)

-- whose steps are none of a plan's work
idle_steps : (config : Numbers) (c : ℕ) (work : List Job) → (Contains (filter_map job_client work) c → ⊥) → (k : ℕ) → steps_for config c (first_phases k work) ≡ []
idle_steps config c work none zero = refl
idle_steps config c [] none (suc k) = refl
idle_steps config c (PhaseEnd ∷ work) none (suc k) = idle_steps config c work none k
idle_steps config c (Block client op ∷ work) none (suc k) =
    let other : (c == client) ≡ false = not_same (λ e. none (subst (λ (d : ℕ). Contains (client ∷ filter_map job_client work) d) (sym e) (Contains-head client (filter_map job_client work)))) in
    let rest = idle_steps config c work (λ there. none (Contains-rest c client (filter_map job_client work) there)) (suc k) in
    rw other rest
  where
    not_same : {a b : ℕ} → (a ≡ b → ⊥) → (a == b) ≡ false
    not_same {a} {b} h = elim (eqb_tells a b) [ inl e ↦ absurd (h e.1) | inr n ↦ n.0 ]
idle_steps config c (Device client op ∷ work) none (suc k) =
    let other : (c == client) ≡ false = not_same (λ e. none (subst (λ (d : ℕ). Contains (client ∷ filter_map job_client work) d) (sym e) (Contains-head client (filter_map job_client work)))) in
    let rest = idle_steps config c work (λ there. none (Contains-rest c client (filter_map job_client work) there)) (suc k) in
    rw other rest
  where
    not_same : {a b : ℕ} → (a ≡ b → ⊥) → (a == b) ≡ false
    not_same {a} {b} h = elim (eqb_tells a b) [ inl e ↦ absurd (h e.1) | inr n ↦ n.0 ]

-- a client that does nothing has finished
pub idle_client : (plan : Plan) (c k : ℕ) → (Contains (clients plan.rules plan.work) c → ⊥) → FinishedAs false plan k c []
idle_client plan c k none =
    let jobless : Contains (filter_map job_client plan.work) c → ⊥ = λ there. none (Contains-append_right (lying_clients plan.rules) (asking_clients plan.rules plan.work) c (Contains-append_right (filter_map troubled_client plan.rules) (filter_map job_client plan.work) c there)) in
    let steps = idle_steps plan.config c plan.work jobless k in (
      λ before rest e p. absurd (no_entry e before rest p),
      inl (record {
        started = ap length (sym steps);
        ended = refl;
        up = refl;
        few = λ count is. omega arith;
      }),
    )

-- a thread's part that is done is its client's
pub finished : (plan : Plan) (k : ℕ) (w : ClientDuty) (d : DeskView) → StandsAt plan (suc k) w d → d.lying ≡ has_number plan.liars.clients d.id → FinishedAs (has_number plan.liars.clients d.id) plan (suc k) d.id d.entries
finished plan k (Client w) d h honest =
    let stands = h.1 in
    let its = stands.goes.its in
    let bool : has_number plan.liars.clients d.id ≡ false = sym honest ∙ its.correct in
    let acts1 = subst (λ (p : Plan). InEach (GoesByPlan p w.client) d.entries) h.0 stands.goes.acts in
    let acts2 = subst (λ (c : ℕ). InEach (GoesByPlan plan c) d.entries) (sym its.id) acts1 in
    let done1 = subst (λ (p : Plan). IsDone p w.client (steps_for p.config w.client (first_phases (phase_at w) p.work)) d.entries) h.0 stands.done in
    let done2 = subst (λ (c : ℕ). IsDone plan c (steps_for plan.config c (first_phases (phase_at w) plan.work)) d.entries) (sym its.id) done1 in
    let done3 = subst (λ (m : ℕ). IsDone plan d.id (steps_for plan.config d.id (first_phases m plan.work)) d.entries) h.2 done2 in
    subst (λ (b : Bool). FinishedAs b plan (suc k) d.id d.entries) (sym bool) (acts2, done3)
finished plan k (Lying w) d h honest =
    let mail = h.1 in
    let bool : has_number plan.liars.clients d.id ≡ true = sym honest ∙ mail.lying in
    let none : w.mail.items ≡ [] = h.2 (omega arith) in
    let sent1 : all_asked d.entries ≡ messages w.plan.value.config w.plan.value.rules w.client = sym (append-nil (all_asked d.entries)) ∙ ap (λ (l : List Message). all_asked d.entries ++ l) (sym none) ∙ mail.sent in
    let sent2 : all_asked d.entries ≡ messages plan.config plan.rules w.client = sent1 ∙ ap (λ (p : Plan). messages p.config p.rules w.client) h.0 in
    let sent3 : all_asked d.entries ≡ messages plan.config plan.rules d.id = sent2 ∙ ap (messages plan.config plan.rules) (sym mail.id) in
    subst (λ (b : Bool). FinishedAs b plan (suc k) d.id d.entries) (sym bool) sent3

-- every client is done with the phase
pub all_finished : (plan : Plan) (k : ℕ) (seats : List (Seat ClientDuty)) → AreClients plan (desks_of seats) → ((c : ℕ) → has_number plan.liars.clients c ≡ true → Contains (clients plan.rules plan.work) c)
    → All (λ s. StandsAt plan (suc k) s.duty s.desk) seats → (c : ℕ) → FinishedAs (has_number plan.liars.clients c) plan (suc k) c (entries_at (desks_of seats) c)
all_finished plan k seats are liars works c = elim (desk_at (desks_of seats) c).is [
  | inl q ↦ (
      let s = Contains-map_cases (λ (s : Seat ClientDuty). s.desk) seats q.0 q.1 in
      let honest : q.0.lying ≡ has_number plan.liars.clients q.0.id = All-contains (λ d. d.lying ≡ has_number plan.liars.clients d.id) (desks_of seats) q.0 are.honesty q.1 in
      let stands = All-contains (λ s. StandsAt plan (suc k) s.duty s.desk) seats s.0 works s.1 in
      let f = finished plan k s.0.duty q.0 (subst (StandsAt plan (suc k) s.0.duty) (sym s.2) stands) honest in
      let g = subst (λ (m : ℕ). FinishedAs (has_number plan.liars.clients m) plan (suc k) m q.0.entries) q.2 f in
      subst (FinishedAs (has_number plan.liars.clients c) plan (suc k) c) (sym q.3) g
      )
  | inr none ↦ subst (FinishedAs (has_number plan.liars.clients c) plan (suc k) c) (sym none.0) (nobody (has_number plan.liars.clients c) refl none.1)
]
  where
    nobody : (b : Bool) → has_number plan.liars.clients c ≡ b → (Contains (map (λ d. d.id) (desks_of seats)) c → ⊥) → FinishedAs b plan (suc k) c []
    nobody true e none = absurd (none (are.all c (liars c e)))
    nobody false e none = idle_client plan c (suc k) (λ there. none (are.all c there))

-- ---- cells

-- a cell that worked, and to which mail came late
pub worked_on : (a b c : CellView) → HasWorked a b → HasMoreAside b c → HasWorked a c
worked_on a b c w m = record {
  charter = m.charter ∙ w.charter;
  grew = (w.grew.0 ++ m.more, m.grew ∙ ap (λ (es : List NodeEntry). es ++ m.more) w.grew.1 ∙ append_assoc a.journal w.grew.0 m.more);
}

pub seen_on : (from : ℕ) (a b : CellView) → HasWorked a b → KeptCell b → from ≤ a.pass.seen → from ≤ b.pass.seen
seen_on from a b w k l =
    let e : b.charter.pass.seen ≡ a.pass.seen = ap (λ c. c.pass.seen) w.charter in
    let r = rises_from b.charter.pass.seen (numbers (drop b.charter.base b.journal)) b.pass.seen k.since in
    omega (arith, e, r, l)

-- the item beside one at its place
pub beside_at : {X Y : Type 0} (R : X → Y → Type 0) (xs : List X) (ys : List Y) → AllZip R xs ys → (i : ℕ) (y : Y) → slice_get ys i ≡ Some y → (x : X) × (slice_get xs i ≡ Some x) × R x y
beside_at R [] [] z i y at = absurd (Contains-none y (Contains-slice_get [] i y at))
beside_at R [] (b ∷ ys) z i y at = absurd z
beside_at R (a ∷ xs) [] z i y at = absurd z
beside_at R (a ∷ xs) (b ∷ ys) z zero y at = (let same : b ≡ y = cc in (a, refl, subst (R a) same z.0))
beside_at R (a ∷ xs) (b ∷ ys) z (suc i) y at = beside_at R xs ys z.1 i y at

pub zip_long : {X Y : Type 0} (R : X → Y → Type 0) (xs : List X) (ys : List Y) → AllZip R xs ys → length ys ≡ length xs
zip_long R [] [] z = refl
zip_long R [] (y ∷ ys) z = absurd z
zip_long R (x ∷ xs) [] z = absurd z
zip_long R (x ∷ xs) (y ∷ ys) z = ap suc (zip_long R xs ys z.1)

-- what is fixed about two cells alike
pub record IsFixedAs (a b : CellView) : Type 0 where
  pub config : b.charter.config ≡ a.charter.config
  pub number : b.charter.number ≡ a.charter.number
  pub whole : (b.charter.shard ≡ a.charter.shard) × (b.charter.shards ≡ a.charter.shards)
  pub nature : b.charter.nature ≡ a.charter.nature
  pub crash : b.charter.crash_after ≡ a.charter.crash_after
  pub clock : b.charter.pass.clock ≡ a.charter.pass.clock

pub fixed_same : (a b : CellView) → b.charter ≡ a.charter → IsFixedAs a b
fixed_same a b e = record {
  config = ap (λ c. c.config) e;
  number = ap (λ c. c.number) e;
  whole = (ap (λ c. c.shard) e, ap (λ c. c.shards) e);
  nature = ap (λ c. c.nature) e;
  crash = ap (λ c. c.crash_after) e;
  clock = ap (λ c. c.pass.clock) e;
}

shards_fixed : (xs ys : List CellView) → AllZip IsFixedAs xs ys → cell_shards_of ys ≡ cell_shards_of xs
shards_fixed [] [] z = refl
shards_fixed [] (y ∷ ys) z = absurd z
shards_fixed (x ∷ xs) [] z = absurd z
shards_fixed (x ∷ xs) (y ∷ ys) z = λ i. record { node = z.0.number i; shard = z.0.whole.0 i; shards = z.0.whole.1 i } ∷ shards_fixed xs ys z.1 i

pub cells_fixed : (config : Numbers) (clock : ClockId) (xs ys : List CellView) → AllZip IsFixedAs xs ys → AreCells config clock xs → AreCells config clock ys
cells_fixed config clock xs ys z h = record {
  each = zip_all IsFixedAs (IsCellOf config clock) (IsCellOf config clock) xs ys (λ x y f q. record { cluster = f.config ∙ q.cluster; some = subst (λ (k : ℕ). 0 < k) (sym f.whole.1) q.some; ticks = f.clock ∙ q.ticks }) z h.each;
  cover = subst (Cover config.n) (sym (shards_fixed xs ys z)) h.cover;
}

pub inside_fixed : (config : Numbers) (xs ys : List CellView) → AllZip IsFixedAs xs ys → AreInside config xs → AreInside config ys
inside_fixed config xs ys z h =
    zip_all IsFixedAs (λ c. c.charter.number < config.n) (λ c. c.charter.number < config.n) xs ys (λ x y f q. subst (λ (k : ℕ). k < config.n) (sym f.number) q) z h

shard_fixed : (a b : CellView) → IsFixedAs a b → cell_shard_of b.charter ≡ cell_shard_of a.charter
shard_fixed a b f = λ i. record { node = f.number i; shard = f.whole.0 i; shards = f.whole.1 i }

own_fixed : (xs ys : List CellView) → AllZip IsFixedAs xs ys → HaveOwnShards xs → HaveOwnShards ys
own_fixed xs ys z h k m a b at there same =
    let p = beside_at IsFixedAs xs ys z k a at in
    let q = beside_at IsFixedAs xs ys z m b there in
    h k m p.0 q.0 p.1 q.1 (sym (shard_fixed p.0 a p.2) ∙ same ∙ shard_fixed q.0 b q.2)

cell_fixed : (plan : Plan) (shards : ℕ → ℕ) (a b : CellView) → IsFixedAs a b → IsPlanned plan shards a → IsPlanned plan shards b
cell_fixed plan shards a b f h = record {
  shard = (let s = f.whole.0 in let t = f.whole.1 in let l = h.shard in omega (arith, s, t, l));
  shards = f.whole.1 ∙ h.shards ∙ ap shards (sym f.number);
  nature = f.nature ∙ h.nature ∙ ap (nature plan.rules) (sym f.number);
  crash = f.crash ∙ h.crash ∙ ap (crash_after plan.rules) (sym f.number);
}

pub planned_fixed : (plan : Plan) (clock : ClockId) (xs ys : List CellView) → AllZip IsFixedAs xs ys → ArePlanned plan clock xs → ArePlanned plan clock ys
planned_fixed plan clock xs ys z h = record {
  cells = cells_fixed plan.config clock xs ys z h.cells;
  inside = inside_fixed plan.config xs ys z h.inside;
  own = own_fixed xs ys z h.own;
  shards = h.shards;
  some = h.some;
  whole = h.whole;
  each = zip_all IsFixedAs (IsPlanned plan h.shards) (IsPlanned plan h.shards) xs ys (cell_fixed plan h.shards) z h.each;
}

no_phases : (phases : List Phase) (k : ℕ) → length phases ≡ k → k ≡ 0 → phases ≡ []
no_phases [] k e z = refl
no_phases (p ∷ ps) k e z = absurd (omega (arith, e, z))

-- ---- the phase

-- mail came late to the cells of a run
pub record IsMailed (old new : Run) : Type 0 where
  pub plan : plan_of new ≡ plan_of old
  pub clock : new.clock ≡ old.clock
  pub clients : new.clients.items ≡ old.clients.items
  pub keeper : new.keeper ≡ old.keeper
  pub begun : new.begun ≡ old.begun
  pub cells : AllZip HasMoreAside old.cells.items new.cells.items

pub open_mailed : (old new : Run) → IsMailed old new → IsOpen old → IsOpen new
open_mailed old new m h = record {
  cells = subst (λ (p : Plan). AreCells p.config new.clock new.cells.items) (sym m.plan) (subst (λ (c : ClockId). AreCells (plan_of old).config c new.cells.items) (sym m.clock)
      (cells_fixed (plan_of old).config old.clock old.cells.items new.cells.items fixed h.cells));
  inside = subst (λ (p : Plan). AreInside p.config new.cells.items) (sym m.plan) (inside_fixed (plan_of old).config old.cells.items new.cells.items fixed h.inside);
  desks = subst (λ (l : List (Seat ClientDuty)). All (IsDeskAt (plan_of new).config new.clock) (desks_of l)) (sym m.clients)
      (subst (λ (p : Plan). All (IsDeskAt p.config new.clock) (clients_of old)) (sym m.plan) (subst (λ (c : ClockId). All (IsDeskAt (plan_of old).config c) (clients_of old)) (sym m.clock) h.desks));
  keeper = (ap (λ p. p.clock) m.keeper ∙ h.keeper.0 ∙ sym m.clock, ap (λ p. p.drawn) m.keeper ∙ h.keeper.1);
  passes =
      let a : new.clock.passes ≡ old.clock.passes = ap (λ c. c.passes) m.clock in
      let b : length new.cells.items ≡ length old.cells.items = zip_long HasMoreAside old.cells.items new.cells.items m.cells in
      let c : length new.clients.items ≡ length old.clients.items = ap length m.clients in
      let d = h.passes in
      omega (arith, a, b, c, d);
}
  where
    fixed : AllZip IsFixedAs old.cells.items new.cells.items
    fixed = zip_map HasMoreAside IsFixedAs old.cells.items new.cells.items (λ x y b. fixed_same x y b.charter) m.cells

pub standing_mailed : (k : ℕ) (old new : Run) → IsMailed old new → IsStanding k old → IsStanding k new
standing_mailed k old new m h = record {
  opened = open_mailed old new m h.opened;
  planned = subst (λ (p : Plan). ArePlanned p new.clock new.cells.items) (sym m.plan) (subst (λ (c : ClockId). ArePlanned (plan_of old) c new.cells.items) (sym m.clock)
      (planned_fixed (plan_of old) old.clock old.cells.items new.cells.items (zip_map HasMoreAside IsFixedAs old.cells.items new.cells.items (λ x y b. fixed_same x y b.charter) m.cells) h.planned));
  clients = subst (λ (l : List (Seat ClientDuty)). AreClients (plan_of new) (desks_of l)) (sym m.clients) (subst (λ (p : Plan). AreClients p (clients_of old)) (sym m.plan) h.clients);
  works = subst (λ (l : List (Seat ClientDuty)). All (λ s. StandsAt (plan_of new) k s.duty s.desk) l) (sym m.clients) (subst (λ (p : Plan). All (λ s. StandsAt p k s.duty s.desk) old.clients.items) (sym m.plan) h.works);
  pairs = subst (λ (l : List (Seat ClientDuty)). PairsStand new.cells.items (desks_of l)) (sym m.clients)
      (pairs_on old.cells.items new.cells.items (clients_of old) (clients_of old)
      (zip_map HasMoreAside HasMoreAlone old.cells.items new.cells.items (λ x y b. record { more = b.more; grew = b.grew; alone = b.aside }) m.cells)
      (zip_same HasSameEntries (clients_of old) (λ d. record { id = refl; entries = refl })) h.pairs);
  named = subst LiarsNamed (sym m.plan) h.named;
}

module _ (works : PhasesWork) (goes : GoesOn) (nothing : NothingLate) (k : ℕ) (run mid new : Run) (b : IsBetween k run) (d : HasDonePhase k run mid) (m : IsMailed mid new)
    (kept : All KeptCell new.cells.items) (none : All HasNoLateMail new.cells.items) where
  abbrev plan : Plan
  plan = plan_of run

  same_plan : plan_of new ≡ plan
  same_plan = m.plan ∙ d.same.plan

  worked : AllZip HasWorked run.cells.items new.cells.items
  worked = zip_then HasWorked HasMoreAside HasWorked run.cells.items mid.cells.items new.cells.items worked_on d.cells m.cells

  later : AllZip IsLater (clients_of run) (clients_of new)
  later = subst (λ (l : List (Seat ClientDuty)). AllZip IsLater (clients_of run) (desks_of l)) (sym m.clients) d.desks

  quiet : AllZip (λ d e. has_number plan.liars.clients d.id ≡ true → (b.phases ≡ []) ⊎ (e.entries ≡ d.entries)) (clients_of run) (clients_of new)
  quiet =
      let q = zip_map (λ d e. has_number plan.liars.clients d.id ≡ true → (k ≡ 0) ⊎ (e.entries ≡ d.entries)) (λ d e. has_number plan.liars.clients d.id ≡ true → (b.phases ≡ []) ⊎ (e.entries ≡ d.entries)) (clients_of run) (clients_of mid)
      (λ x y h lies. elim (h lies) [ inl z ↦ inl (no_phases b.phases k b.count z) | inr s ↦ inr s ]) d.quiet in
      subst (λ (l : List (Seat ClientDuty)). AllZip (λ d e. has_number plan.liars.clients d.id ≡ true → (b.phases ≡ []) ⊎ (e.entries ≡ d.entries)) (clients_of run) (desks_of l)) (sym m.clients) q

  journals_go : AreWorked plan b.phases (journals_in run) (journals_of plan new.cells.items (clients_of new))
  journals_go = works plan b.phases run.cells.items (clients_of run) new.cells.items (clients_of new) b.low b.standing.planned.inside b.seen (record { cells = worked; desks = later; quiet = quiet }) kept

  closed : HaveClosed plan (journals_of plan new.cells.items (clients_of new)) b.phases b.prunes
  closed = goes plan (journals_in run) (journals_of plan new.cells.items (clients_of new)) b.phases b.prunes b.closed journals_go

  standing : IsStanding (k + 1) new
  standing = standing_mailed (k + 1) mid new m d.standing

  off : IsWorkedOff plan (journals_of plan new.cells.items (clients_of new)) b.phases
  off = record { clients = clients_off; late = late_off }
    where
      are : AreClients plan (clients_of new)
      are = subst (λ (p : Plan). AreClients p (clients_of new)) same_plan standing.clients

      parts : All (λ s. StandsAt plan (suc k) s.duty s.desk) new.clients.items
      parts =
          let e : k + 1 ≡ suc k = omega arith in
          subst (λ (n : ℕ). All (λ s. StandsAt plan n s.duty s.desk) new.clients.items) e (subst (λ (p : Plan). All (λ s. StandsAt p (k + 1) s.duty s.desk) new.clients.items) same_plan standing.works)

      clients_off : (c : ℕ) → FinishedAs (has_number plan.liars.clients c) plan (length b.phases + 1) c (entries_at (clients_of new) c)
      clients_off c =
          let e : suc k ≡ length b.phases + 1 = (let n = b.count in omega (arith, n)) in
          subst (λ (n : ℕ). FinishedAs (has_number plan.liars.clients c) plan n c (entries_at (clients_of new) c)) e (all_finished plan k new.clients.items are b.standing.named parts c)

      late_off : (i : ℕ) → i < plan.config.n → (node_after plan i (journal_of plan.config new.cells.items i)).late ≡ []
      late_off i l =
          let planned = subst (λ (p : Plan). ArePlanned p new.clock new.cells.items) same_plan standing.planned in
          ap (λ (es : List NodeEntry). (node_after plan i es).late) (journal_is plan.config new.cells.items planned.inside i) ∙ nothing plan new.clock new.cells.items planned kept none i l

  seen : HaveSeen (next_begin b.phases) new.cells.items (clients_of new)
  seen = record {
    cells = zip_all (λ x y. HasWorked x y × KeptCell y) (λ c. next_begin b.phases ≤ c.pass.seen) (λ c. next_begin b.phases ≤ c.pass.seen) run.cells.items new.cells.items
        (λ x y h l. seen_on (next_begin b.phases) x y h.0 h.1 l) (zip_with HasWorked (λ x y. HasWorked x y × KeptCell y) KeptCell run.cells.items new.cells.items (λ x y w q. (w, q)) worked kept) b.seen.cells;
    desks = zip_all IsLater (λ d. next_begin b.phases ≤ d.pass.seen) (λ d. next_begin b.phases ≤ d.pass.seen) (clients_of run) (clients_of new)
        (λ x y h l. (let r = rises_from x.pass.seen (numbers_of h.more) y.pass.seen h.rises in omega (arith, r, l))) later b.seen.desks;
  }

  pub is_worked : IsWorked k new
  is_worked = record {
    standing = standing;
    phases = b.phases;
    count = b.count;
    prunes = b.prunes;
    closed = subst (λ (p : Plan). HaveClosed p (journals_of p new.cells.items (clients_of new)) b.phases b.prunes) (sym same_plan) closed;
    off = subst (λ (p : Plan). IsWorkedOff p (journals_of p new.cells.items (clients_of new)) b.phases) (sym same_plan) off;
    seen = seen;
    began = (let e : new.keeper.seen ≡ run.keeper.seen = ap (λ p. p.seen) (m.keeper ∙ d.same.keeper) in let l = b.began in omega (arith, e, l));
    begun = m.begun ∙ d.same.begun ∙ b.begun;
  }
