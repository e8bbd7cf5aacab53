-- A run in which nobody has done anything.
use Rattle.std.proofs.Common.{◌≡◌, ◌⊎◌, ℕ, ◌<◌, ◌≤◌, ◌%◌, Bool, true, false, cond, List, [], ◌∷◌, refl, sym, ◌∙◌, ap, subst, inl, inr, arith}
use Rattle.std.proofs.Math.Nat.{mod-lt}
use Rattle.std.specs.declared.option.Option.TheVariants.{Some}
use Rattle.std.specs.List.{Contains, All}
use Rattle.std.proofs.lemmas.List.Elements.{All-nil, All-cons, All-head, All-tail, All-contains}
use Rattle.event_clock.specs.Passes.{ClockId}
use Rattle.journals.specs.declared.node.NodeEntry.{NodeEntry}
use Rattle.journals.specs.declared.desk.DeskAct.{DeskAct}
use Rattle.journals.specs.declared.desk.DeskEntry.{DeskEntry}
use Rattle.journals.specs.declared.whole.Journals.{Journals}
use Rattle.journals.specs.Steps.{side, IsOwn}
use Rattle.locked_nodes.specs.Cells.{CellView}
use Rattle.client_desks.specs.Desks.{DeskView}
use Rattle.plan_words.specs.declared.plan.Plan.{Plan}
use Rattle.plan_followed.specs.Closed.{AreBelow, AreEmpty, Begins}
use Rattle.locked_nodes.specs.CellShards.{cell_shard_of, cell_shards_of, Cover}
use Rattle.phase_threads.specs.Standing.{IsCellOf, IsPlanned, node_journal, is_whole, HasSideIn, HasSideOn, PairsStand, ArePlanned, journals_of}
use Rattle.phase_threads.specs.Ended.{AreClients}
use Rattle.phase_threads.proofs.lemmas.Nodes.{journal_cases}
use Rattle.phase_threads.proofs.lemmas.Cells.{journal_is, desk_at}
use Rattle.phase_threads.specs.declared.duty.Seat.{Seat}
use Rattle.thread_work.proofs.lemmas.Places.{all_from_places, get_map}
use Rattle.client_duties.specs.declared.work.ClientDuty.{ClientDuty}
use Rattle.client_threads.specs.Opened.{IsNewCell, AreNewCells, IsNewSeat, shards_of}
use Rattle.client_threads.specs.Running.{desks_of, clients_of, plan_of, journals_in, StandsAt, LiarsNamed, IsOpen, IsBetween}
use Rattle.client_threads.specs.declared.state.Run.{Run}
use Rattle.lists.proofs.lemmas.Members.{Contains-head, Contains-none, Contains-map_cases, place_of}

-- a node has one cell or so many
pub shards_cases : (plan : Plan) (shards i : ℕ) → (shards_of plan shards i ≡ 1) ⊎ (shards_of plan shards i ≡ shards)
shards_cases plan shards i = at (is_whole plan i)
  where
    at : (b : Bool) → (cond b 1 shards ≡ 1) ⊎ (cond b 1 shards ≡ shards)
    at true = inl refl
    at false = inr refl

shards_whole : (plan : Plan) (shards i : ℕ) → is_whole plan i ≡ true → shards_of plan shards i ≡ 1
shards_whole plan shards i whole = ap (λ (b : Bool). cond b 1 shards) whole

-- a new cell
cell_of : (plan : Plan) (shards : ℕ) (clock : ClockId) (i s : ℕ) (cell : CellView) → IsNewCell plan shards clock i s cell → IsCellOf plan.config clock cell
cell_of plan shards clock i s cell n = subst (IsCellOf plan.config clock) (sym n.is) (record { cluster = refl; some = (let l = n.below in omega (arith, l)); ticks = n.unused.ticks })

cell_planned : (plan : Plan) (shards : ℕ) (clock : ClockId) (i s : ℕ) (cell : CellView) → IsNewCell plan shards clock i s cell → IsPlanned plan (shards_of plan shards) cell
cell_planned plan shards clock i s cell n = subst (IsPlanned plan (shards_of plan shards)) (sym n.is) (record { shard = n.below; shards = refl; nature = refl; crash = refl })

pub cells_planned : (plan : Plan) (shards : ℕ) → 1 ≤ shards → (clock : ClockId) (cells : List CellView) → AreNewCells plan shards clock plan.config.n 0 cells → ArePlanned plan clock cells
cells_planned plan shards some clock cells h = record {
  cells = record { each = all_from_places (IsCellOf plan.config clock) cells (λ k cell at. cell_of plan shards clock cell.charter.number cell.charter.shard cell (h.each k cell at)); cover = cover };
  inside = all_from_places (λ c. c.charter.number < plan.config.n) cells (λ k cell at. elim (h.before k cell at) [ inl less ↦ less | inr none ↦ absurd (let l = none.1 in omega (arith, l)) ]);
  own = h.own;
  shards = shards_of plan shards;
  some = some_shards;
  whole = shards_whole plan shards;
  each = all_from_places (IsPlanned plan (shards_of plan shards)) cells (λ k cell at. cell_planned plan shards clock cell.charter.number cell.charter.shard cell (h.each k cell at));
}
  where
    some_shards : (i : ℕ) → 0 < shards_of plan shards i
    some_shards i = elim (shards_cases plan shards i) [ inl one ↦ omega (arith, one) | inr all ↦ omega (arith, all, some) ]

    cover : Cover plan.config.n (cell_shards_of cells)
    cover i block below =
        let s = block % shards_of plan shards i in
        let c = h.all i s (inl below) (mod-lt block (some_shards i)) in
        let cell = c.1 in
        let p = cell_planned plan shards clock cell.charter.number cell.charter.shard cell (h.each c.0 cell c.2) in
        let shards : cell.charter.shards ≡ shards_of plan shards i = p.shards ∙ ap (shards_of plan shards) c.3 in (
          c.0,
          record {
            cell_shard = cell_shard_of cell.charter;
            there = get_map (λ (x : CellView). cell_shard_of x.charter) cells c.0 cell c.2;
            is = record { of = c.3; share = ap (λ (n : ℕ). block % n) shards ∙ sym c.4 };
          },
        )

cell_empty : (plan : Plan) (shards : ℕ) (clock : ClockId) (i s : ℕ) (cell : CellView) → IsNewCell plan shards clock i s cell → cell.journal ≡ []
cell_empty plan shards clock i s cell n = ap (λ (c : CellView). c.journal) n.is

seat_empty : (plan : Plan) (clock : ClockId) (s : Seat ClientDuty) → IsNewSeat plan clock s → s.desk.entries ≡ []
seat_empty plan clock s n = ap (λ (d : DeskView). d.entries) n.is

-- nobody has an entry
pub no_pairs : (plan : Plan) (shards : ℕ) (clock : ClockId) (cells : List CellView) (seats : List (Seat ClientDuty)) → AreNewCells plan shards clock plan.config.n 0 cells → All (IsNewSeat plan clock) seats → PairsStand cells (desks_of seats)
no_pairs plan shards clock cells seats c s = record { called = called; answered = answered }
  where
    called : (cell : CellView) (n : NodeEntry) (k : ℕ) (act : DeskAct) → Contains cells cell → Contains cell.journal n → side n.act ≡ Some (k, act) → HasSideOn (desks_of seats) k n.number act
    called cell n k act among there is =
        let at = place_of cells cell among in
        let none = cell_empty plan shards clock cell.charter.number cell.charter.shard cell (c.each at.0 cell at.1) in
        absurd (Contains-none n (subst (λ (es : List NodeEntry). Contains es n) none there))

    answered : (d : DeskView) (e : DeskEntry) → Contains (desks_of seats) d → Contains d.entries e → IsOwn e.act ⊎ HasSideIn cells d.id e
    answered d e among there =
        let q = Contains-map_cases (λ (s : Seat ClientDuty). s.desk) seats d among in
        let none = seat_empty plan clock q.0 (All-contains (IsNewSeat plan clock) seats q.0 s q.1) in
        absurd (Contains-none e (subst (λ (es : List DeskEntry). Contains es e) (ap (λ (x : DeskView). x.entries) q.2 ∙ none) there))

no_entries : (es : List NodeEntry) → ((e : NodeEntry) → Contains es e → ⊥) → es ≡ []
no_entries [] none = refl
no_entries (e ∷ es) none = absurd (none e (Contains-head e es))

pub journals_empty : (plan : Plan) (shards : ℕ) → 1 ≤ shards → (clock : ClockId) (cells : List CellView) (seats : List (Seat ClientDuty)) → AreNewCells plan shards clock plan.config.n 0 cells → All (IsNewSeat plan clock) seats → AreEmpty plan (journals_of plan cells (desks_of seats))
journals_empty plan shards some clock cells seats c s = record {
  config = refl;
  liars = refl;
  nodes = λ i. journal_is plan.config cells (cells_planned plan shards some clock cells c).inside i ∙ no_entries (node_journal cells i) (λ e there.
      let q = journal_cases cells i e there in
      let at = place_of cells q.cell q.there in
      let none = cell_empty plan shards clock q.cell.charter.number q.cell.charter.shard q.cell (c.each at.0 q.cell at.1) in
      Contains-none e (subst (λ (es : List NodeEntry). Contains es e) none q.stands));
  desks = λ k. elim (desk_at (desks_of seats) k).is [
    | inl q ↦ (
        let m = Contains-map_cases (λ (s : Seat ClientDuty). s.desk) seats q.0 q.1 in
        q.3 ∙ ap (λ (x : DeskView). x.entries) m.2 ∙ seat_empty plan clock m.0 (All-contains (IsNewSeat plan clock) seats m.0 s m.1)
        )
    | inr none ↦ none.0
  ];
}

pub nothing_below : (bound : ℕ) (plan : Plan) (j : Journals) → AreEmpty plan j → AreBelow bound j
nothing_below bound plan j h = record {
  nodes = λ i e there. absurd (Contains-none e (subst (λ (es : List NodeEntry). Contains es e) (h.nodes i) there));
  desks = λ c e there. absurd (Contains-none e (subst (λ (es : List DeskEntry). Contains es e) (h.desks c) there));
}

seen_all : {X : Type 0} (seen : X → ℕ) (xs : List X) → All (λ x. 0 ≤ seen x) xs
seen_all seen [] = All-nil (λ x. 0 ≤ seen x)
seen_all seen (x ∷ xs) = All-cons (λ x. 0 ≤ seen x) x xs (omega arith) (seen_all seen xs)

-- so the run stands before its first phase
pub is_first : (begins : Begins) (run : Run) (shards : ℕ) → 1 ≤ shards → IsOpen run → AreNewCells (plan_of run) shards run.clock (plan_of run).config.n 0 run.cells.items → All (IsNewSeat (plan_of run) run.clock) run.clients.items
    → AreClients (plan_of run) (clients_of run) → run.begun ≡ 0 → LiarsNamed (plan_of run) → IsBetween 0 run
is_first begins run shards some is_open c s are begun named =
    let empty = journals_empty (plan_of run) shards some run.clock run.cells.items run.clients.items c s in
    record {
      standing = record {
        opened = is_open;
        planned = cells_planned (plan_of run) shards some run.clock run.cells.items c;
        clients = are;
        works = parts run.clients.items s;
        pairs = no_pairs (plan_of run) shards run.clock run.cells.items run.clients.items c s;
        named = named;
      };
      phases = [];
      count = refl;
      prunes = λ k. [];
      closed = begins (plan_of run) (journals_in run) (λ k. []) empty;
      low = nothing_below 0 (plan_of run) (journals_in run) empty;
      seen = record { cells = seen_all (λ (c : CellView). c.pass.seen) run.cells.items; desks = seen_all (λ (d : DeskView). d.pass.seen) (clients_of run) };
      began = omega arith;
      begun = begun;
    }
  where
    parts : (seats : List (Seat ClientDuty)) → All (IsNewSeat (plan_of run) run.clock) seats → All (λ s. StandsAt (plan_of run) 0 s.duty s.desk) seats
    parts [] a = All-nil (λ s. StandsAt (plan_of run) 0 s.duty s.desk)
    parts (x ∷ seats) a = All-cons (λ s. StandsAt (plan_of run) 0 s.duty s.desk) x seats (All-head (IsNewSeat (plan_of run) run.clock) x seats a).part (parts seats (All-tail (IsNewSeat (plan_of run) run.clock) x seats a))
