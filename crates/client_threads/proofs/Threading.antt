-- The threads of a phase: what they may begin with, and what they leave.
use Rattle.std.proofs.Common.{◌≡◌, ◌⊎◌, ℕ, zero, suc, ◌+◌, ◌<◌, ◌≤◌, true, List, [], ◌∷◌, ◌++◌, length, map, refl, sym, ◌∙◌, ap, subst, inl, inr, arith}
use Rattle.std.specs.List.{Contains, AllZip, All}
use Rattle.std.proofs.lemmas.List.Elements.{All-nil, All-cons, All-head, All-tail, All-contains}
use Rattle.protocol.specs.Report.{Ascend}
use Rattle.plan_words.specs.Named.{clients}
use Rattle.wire_forms.specs.Liars.{has_number}
use Rattle.event_clock.specs.Passes.{ClockId}
use Rattle.quorum_rules.specs.Limits.{Numbers}
use Rattle.locked_nodes.specs.Cells.{CellView, KeptCell}
use Rattle.locked_nodes.specs.declared.cell_shard.CellShard.{CellShard}
use Rattle.locked_nodes.specs.CellShards.{cell_shard_of, cell_shards_of, IsWholeAt}
use Rattle.client_desks.specs.Desks.{DeskView}
use Rattle.client_desks.specs.Later.{IsLater}
use Rattle.plan_words.specs.declared.plan.Plan.{Plan}
use Rattle.plan_followed.specs.Asked.{holds}
use Rattle.phase_threads.specs.Standing.{IsDeskAt, AreCells, AreInside, IsPlanned, PairsStand, HasWorked, ArePlanned}
use Rattle.phase_threads.specs.Ended.{AreClients}
use Rattle.phase_threads.proofs.lemmas.Sharded.{holds_whole}
use Rattle.phase_threads.specs.declared.duty.Seat.{Seat}
use Rattle.phase_threads.specs.Phases.{MayPhase}
use Rattle.thread_work.proofs.lemmas.Places.{map_get}
use Rattle.client_duties.specs.declared.work.ClientDuty.{ClientDuty}
use Rattle.client_duties.specs.declared.work.ClientDuty.TheVariants.{Client, Lying}
use Rattle.client_duties.specs.ClientDuty.{Ready, Done}
use Rattle.client_threads.specs.Running.{desks_of, clients_of, plan_of, StandsAt, cuts, LiarsNamed, IsOpen, IsStanding, HasDonePhase}
use Rattle.client_threads.specs.declared.state.Run.{Run}
use Rattle.client_threads.proofs.Working.{IsFixedAs, zip_all, zip_long, cells_fixed, inside_fixed, planned_fixed}
use Rattle.lists.proofs.lemmas.Members.{Contains-slice_get}

-- ---- before the phase

-- a node that is to hold back asks stands in one cell
pub whole_where : (plan : Plan) (clock : ClockId) (cells : List CellView) → ArePlanned plan clock cells → (c node : ℕ) → 0 < holds plan.rules c node → IsWholeAt (cell_shards_of cells) node
whole_where plan clock cells h c node some place s there of =
    let q = map_get (λ (x : CellView). cell_shard_of x.charter) cells place s there in
    let p = All-contains (IsPlanned plan h.shards) cells q.0 h.each (Contains-slice_get cells place q.0 q.1) in
    let number : q.0.charter.number ≡ node = ap (λ (x : CellShard). x.node) q.2 ∙ of in
    ap (λ (x : CellShard). x.shards) (sym q.2) ∙ p.shards ∙ ap h.shards number ∙ h.whole node (holds_whole plan c node some)

-- the shards of cells in which such nodes are whole
abbrev pub AreWhole : Plan → List CellShard → Type 0
AreWhole plan cell_shards = (c node : ℕ) → 0 < holds plan.rules c node → IsWholeAt cell_shards node

ready_of : (plan : Plan) (k : ℕ) → k ≤ cuts plan → (cell_shards : List CellShard) → AreWhole plan cell_shards → (w : ClientDuty) (d : DeskView) → StandsAt plan k w d → Ready w cell_shards d
ready_of plan k few cell_shards whole (Client w) d h = (
  record {
    stands = h.1;
    left =
        let c : cuts w.plan.value ≡ cuts plan = ap cuts h.0 in
        let at = h.2 in
        omega (arith, c, at, few);
  },
  λ node some. whole w.client node (subst (λ (p : Plan). 0 < holds p.rules w.client node) h.0 some),
)
ready_of plan k few cell_shards whole (Lying w) d h = h.1

pub all_ready : (plan : Plan) (k : ℕ) → k ≤ cuts plan → (cell_shards : List CellShard) → AreWhole plan cell_shards → (seats : List (Seat ClientDuty)) → All (λ s. StandsAt plan k s.duty s.desk) seats → All (λ s. Ready s.duty cell_shards s.desk) seats
all_ready plan k few cell_shards whole [] works = All-nil (λ s. Ready s.duty cell_shards s.desk)
all_ready plan k few cell_shards whole (s ∷ seats) works =
    All-cons (λ s. Ready s.duty cell_shards s.desk) s seats (ready_of plan k few cell_shards whole s.duty s.desk (All-head (λ s. StandsAt plan k s.duty s.desk) s seats works))
    (all_ready plan k few cell_shards whole seats (All-tail (λ s. StandsAt plan k s.duty s.desk) s seats works))

pub desks_pushed : (seats : List (Seat ClientDuty)) (s : Seat ClientDuty) → desks_of (seats ++ s ∷ []) ≡ desks_of seats ++ s.desk ∷ []
desks_pushed [] s = refl
desks_pushed (x ∷ seats) s = ap (λ (l : List DeskView). x.desk ∷ l) (desks_pushed seats s)

-- ---- after it

done_of : (plan : Plan) (k : ℕ) (v w : ClientDuty) (d e : DeskView) → StandsAt plan k v d → Done v d w e → StandsAt plan (k + 1) w e
done_of plan k (Client v) (Client w) d e h done =
    let same : w.plan.value ≡ plan = done.same.plan ∙ h.0 in
    let a : cuts v.plan.value ≡ cuts plan = ap cuts h.0 in
    let b : cuts w.plan.value ≡ cuts plan = ap cuts same in
    let at = h.2 in
    let one = done.one in
    let fewer = h.1.steps.fewer in
    (same, done.stands, omega (arith, a, b, at, one, fewer))
done_of plan k (Lying v) (Lying w) d e h done = (done.plan ∙ h.0, done.mail, λ l. done.all)
done_of plan k (Client v) (Lying w) d e h done = absurd done
done_of plan k (Lying v) (Client w) d e h done = absurd done

pub all_done : (plan : Plan) (k : ℕ) (xs ys : List (Seat ClientDuty)) → All (λ s. StandsAt plan k s.duty s.desk) xs → AllZip (λ s t. Done s.duty s.desk t.duty t.desk) xs ys → All (λ s. StandsAt plan (k + 1) s.duty s.desk) ys
all_done plan k [] [] works z = All-nil (λ s. StandsAt plan (k + 1) s.duty s.desk)
all_done plan k [] (y ∷ ys) works z = absurd z
all_done plan k (x ∷ xs) [] works z = absurd z
all_done plan k (x ∷ xs) (y ∷ ys) works z =
    All-cons (λ s. StandsAt plan (k + 1) s.duty s.desk) y ys (done_of plan k x.duty y.duty x.desk y.desk (All-head (λ s. StandsAt plan k s.duty s.desk) x xs works) z.0)
    (all_done plan k xs ys (All-tail (λ s. StandsAt plan k s.duty s.desk) x xs works) z.1)

quiet_of : (plan : Plan) (k : ℕ) (v w : ClientDuty) (d e : DeskView) → StandsAt plan k v d → Done v d w e → d.lying ≡ has_number plan.liars.clients d.id → has_number plan.liars.clients d.id ≡ true → (k ≡ 0) ⊎ (e.entries ≡ d.entries)
quiet_of plan zero (Lying v) (Lying w) d e h done honest lies = inl refl
quiet_of plan (suc k) (Lying v) (Lying w) d e h done honest lies = inr (done.none (h.2 (omega arith)))
quiet_of plan k (Client v) w d e h done honest lies = absurd (let c = h.1.goes.its.correct in cc (c, honest, lies))
quiet_of plan k (Lying v) (Client w) d e h done honest lies = absurd done

pub all_quiet : (plan : Plan) (k : ℕ) (xs ys : List (Seat ClientDuty)) → All (λ s. StandsAt plan k s.duty s.desk) xs → AllZip (λ s t. Done s.duty s.desk t.duty t.desk) xs ys
    → All (λ d. d.lying ≡ has_number plan.liars.clients d.id) (desks_of xs) → AllZip (λ d e. has_number plan.liars.clients d.id ≡ true → (k ≡ 0) ⊎ (e.entries ≡ d.entries)) (desks_of xs) (desks_of ys)
all_quiet plan k [] [] works z honest = tt
all_quiet plan k [] (y ∷ ys) works z honest = absurd z
all_quiet plan k (x ∷ xs) [] works z honest = absurd z
all_quiet plan k (x ∷ xs) (y ∷ ys) works z honest = (
  quiet_of plan k x.duty y.duty x.desk y.desk (All-head (λ s. StandsAt plan k s.duty s.desk) x xs works) z.0 (All-head (λ d. d.lying ≡ has_number plan.liars.clients d.id) x.desk (desks_of xs) honest),
  all_quiet plan k xs ys (All-tail (λ s. StandsAt plan k s.duty s.desk) x xs works) z.1 (All-tail (λ d. d.lying ≡ has_number plan.liars.clients d.id) x.desk (desks_of xs) honest),
)

-- seats side by side have desks side by side
pub desks_beside : (R : DeskView → DeskView → Type 0) (xs ys : List (Seat ClientDuty)) → AllZip (λ s t. R s.desk t.desk) xs ys → AllZip R (desks_of xs) (desks_of ys)
desks_beside R [] [] z = tt
desks_beside R [] (y ∷ ys) z = absurd z
desks_beside R (x ∷ xs) [] z = absurd z
desks_beside R (x ∷ xs) (y ∷ ys) z = (z.0, desks_beside R xs ys z.1)

-- clients' desks that went on
ids_later : (xs ys : List DeskView) → AllZip IsLater xs ys → map (λ d. d.id) ys ≡ map (λ d. d.id) xs
ids_later [] [] z = refl
ids_later [] (y ∷ ys) z = absurd z
ids_later (x ∷ xs) [] z = absurd z
ids_later (x ∷ xs) (y ∷ ys) z = λ i. z.0.id i ∷ ids_later xs ys z.1 i

pub clients_later : (plan : Plan) (xs ys : List DeskView) → AllZip IsLater xs ys → AreClients plan xs → AreClients plan ys
clients_later plan xs ys z h = record {
  ascend = subst Ascend (sym (ids_later xs ys z)) h.ascend;
  named = zip_all IsLater (λ d. Contains (clients plan.rules plan.work) d.id) (λ d. Contains (clients plan.rules plan.work) d.id) xs ys (λ x y m p. subst (Contains (clients plan.rules plan.work)) (sym m.id) p) z h.named;
  all = λ c there. subst (λ (l : List ℕ). Contains l c) (sym (ids_later xs ys z)) (h.all c there);
  cluster = zip_all IsLater (λ d. d.config ≡ plan.config) (λ d. d.config ≡ plan.config) xs ys (λ x y m p. m.config ∙ p) z h.cluster;
  honesty = zip_all IsLater (λ d. d.lying ≡ has_number plan.liars.clients d.id) (λ d. d.lying ≡ has_number plan.liars.clients d.id) xs ys (λ x y m p. m.lying ∙ p ∙ ap (has_number plan.liars.clients) (sym m.id)) z h.honesty;
}

pub desks_tick : (config : Numbers) (clock : ClockId) (xs ys : List DeskView) → AllZip IsLater xs ys → All (IsDeskAt config clock) xs → All (IsDeskAt config clock) ys
desks_tick config clock xs ys z h = zip_all IsLater (IsDeskAt config clock) (IsDeskAt config clock) xs ys (λ x y m p. record { cluster = m.config ∙ p.cluster; ticks = m.clock ∙ p.ticks }) z h

-- cells that worked are fixed as they were
pub worked_fixed : (a b : CellView) → HasWorked a b → KeptCell a → IsFixedAs a b
worked_fixed a b w k = record {
  config = ap (λ c. c.config) w.charter;
  number = ap (λ c. c.number) w.charter;
  whole = (ap (λ c. c.shard) w.charter, ap (λ c. c.shards) w.charter);
  nature = ap (λ c. c.nature) w.charter;
  crash = ap (λ c. c.crash_after) w.charter;
  clock = ap (λ c. c.pass.clock) w.charter ∙ k.own.0;
}

-- ---- the run

pub all_desks : (P : DeskView → Type 0) (seats : List (Seat ClientDuty)) → All P (desks_of seats) → All (λ s. P s.desk) seats
all_desks P [] a = All-nil (λ s. P s.desk)
all_desks P (s ∷ seats) a = All-cons (λ s. P s.desk) s seats (All-head P s.desk (desks_of seats) a) (all_desks P seats (All-tail P s.desk (desks_of seats) a))

-- so a run that stands may do its next phase
pub may_phase : (run : Run) (k : ℕ) → length run.clients.items ≤ 65535 → IsStanding k run → k ≤ cuts (plan_of run) → MayPhase Ready run.clock run.cells.items run.clients.items
may_phase run k most h few =
    let config = (plan_of run).config in
    let cell_shards = cell_shards_of run.cells.items in
    record {
      cluster = (config, h.opened.cells, all_desks (IsDeskAt config run.clock) run.clients.items h.opened.desks);
      pairs = h.pairs;
      ready = all_ready (plan_of run) k few cell_shards (whole_where (plan_of run) run.clock run.cells.items h.planned) run.clients.items h.works;
      count = most;
    }

-- the parts of a run whose threads have ended
pub record HasEndedThreads (old new : Run) : Type 0 where
  pub plan : plan_of new ≡ plan_of old
  pub clock : new.clock ≡ old.clock
  pub keeper : new.keeper ≡ old.keeper
  pub begun : new.begun ≡ old.begun
  pub cells : AllZip HasWorked old.cells.items new.cells.items
  pub desks : AllZip (λ s t. IsLater s.desk t.desk) old.clients.items new.clients.items

module _ (old new : Run) (e : HasEndedThreads old new) (kept : All KeptCell old.cells.items) where
  later : AllZip IsLater (clients_of old) (clients_of new)
  later = desks_beside IsLater old.clients.items new.clients.items e.desks

  fixed : AllZip IsFixedAs old.cells.items new.cells.items
  fixed = zip_kept old.cells.items new.cells.items e.cells kept
    where
      zip_kept : (xs ys : List CellView) → AllZip HasWorked xs ys → All KeptCell xs → AllZip IsFixedAs xs ys
      zip_kept [] [] z a = tt
      zip_kept [] (y ∷ ys) z a = absurd z
      zip_kept (x ∷ xs) [] z a = absurd z
      zip_kept (x ∷ xs) (y ∷ ys) z a = (worked_fixed x y z.0 (All-head KeptCell x xs a), zip_kept xs ys z.1 (All-tail KeptCell x xs a))

  pub open_after : IsOpen old → IsOpen new
  open_after h = record {
    cells = subst (λ (p : Plan). AreCells p.config new.clock new.cells.items) (sym e.plan) (subst (λ (c : ClockId). AreCells (plan_of old).config c new.cells.items) (sym e.clock) (cells_fixed (plan_of old).config old.clock old.cells.items new.cells.items fixed h.cells));
    inside = subst (λ (p : Plan). AreInside p.config new.cells.items) (sym e.plan) (inside_fixed (plan_of old).config old.cells.items new.cells.items fixed h.inside);
    desks = subst (λ (p : Plan). All (IsDeskAt p.config new.clock) (clients_of new)) (sym e.plan) (subst (λ (c : ClockId). All (IsDeskAt (plan_of old).config c) (clients_of new)) (sym e.clock) (desks_tick (plan_of old).config old.clock (clients_of old) (clients_of new) later h.desks));
    keeper = (ap (λ p. p.clock) e.keeper ∙ h.keeper.0 ∙ sym e.clock, ap (λ p. p.drawn) e.keeper ∙ h.keeper.1);
    passes =
        let a : new.clock.passes ≡ old.clock.passes = ap (λ c. c.passes) e.clock in
        let b : length new.cells.items ≡ length old.cells.items = zip_long HasWorked old.cells.items new.cells.items e.cells in
        let c : length new.clients.items ≡ length old.clients.items = zip_long (λ s t. IsLater s.desk t.desk) old.clients.items new.clients.items e.desks in
        let d = h.passes in
        omega (arith, a, b, c, d);
  }

  module _ (done : AllZip (λ s t. Done s.duty s.desk t.duty t.desk) old.clients.items new.clients.items) (pairs : PairsStand new.cells.items (clients_of new)) where
    pub phase_done : (k : ℕ) → IsStanding k old → HasDonePhase k old new
    phase_done k h = record {
      same = record { plan = e.plan; clock = e.clock; keeper = e.keeper; begun = e.begun };
      standing = record {
        opened = open_after h.opened;
        planned = subst (λ (p : Plan). ArePlanned p new.clock new.cells.items) (sym e.plan) (subst (λ (c : ClockId). ArePlanned (plan_of old) c new.cells.items) (sym e.clock) (planned_fixed (plan_of old) old.clock old.cells.items new.cells.items fixed h.planned));
        clients = subst (λ (p : Plan). AreClients p (clients_of new)) (sym e.plan) (clients_later (plan_of old) (clients_of old) (clients_of new) later h.clients);
        works = subst (λ (p : Plan). All (λ s. StandsAt p (k + 1) s.duty s.desk) new.clients.items) (sym e.plan) (all_done (plan_of old) k old.clients.items new.clients.items h.works done);
        pairs = pairs;
        named = subst LiarsNamed (sym e.plan) h.named;
      };
      cells = e.cells;
      desks = later;
      quiet = all_quiet (plan_of old) k old.clients.items new.clients.items h.works done h.clients.honesty;
    }
