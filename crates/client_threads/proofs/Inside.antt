-- What reads gave is of the cluster's blocks, and cells may prune these.
use Rattle.std.proofs.Common.{◌≡◌, ℕ, ◌+◌, ◌<◌, Bool, List, [], ◌∷◌, ◌++◌, length, map, sym, ◌∙◌, ap, subst, arith}
use Rattle.std.specs.List.{Contains, AllZip, All}
use Rattle.std.proofs.lemmas.List.Elements.{All-nil, All-cons, All-contains}
use Rattle.quorum_rules.specs.Limits.{Numbers}
use Rattle.event_clock.specs.Passes.{ClockId}
use Rattle.journals.specs.Desks.{DeskKept, new_desk}
use Rattle.locked_nodes.specs.Cells.{KeptCell}
use Rattle.client_desks.specs.Desks.{KeptDesk}
use Rattle.plan_words.specs.declared.plan.Plan.{Plan}
use Rattle.plan_followed.specs.declared.prunes.BlockStamp.{BlockStamp}
use Rattle.plan_followed.specs.Prunings.{ArePrunings}
use Rattle.plan_followed.specs.Closed.{next_begin}
use Rattle.phase_threads.specs.Standing.{AreCells, AreInside, ArePlanned, IsDeskAt}
use Rattle.phase_threads.specs.Ended.{AreClients}
use Rattle.phase_threads.specs.declared.duty.Seat.{Seat}
use Rattle.client_duties.specs.declared.work.ClientDuty.{ClientDuty}
use Rattle.client_duties.proofs.lemmas.Given.{ended_inside}
use Rattle.client_threads.specs.Met.{IsKeeper, HasMetCell}
use Rattle.client_threads.specs.Meeting.{HasMetAll}
use Rattle.client_threads.specs.Pruned.{HasMorePrunes, reopened}
use Rattle.client_threads.specs.Reads.{early_reads, late_reads}
use Rattle.client_threads.specs.Running.{StandsAt, IsOpen, IsWorked, plan_of, clients_of, desks_of}
use Rattle.client_threads.specs.declared.state.Run.{Run}
use Rattle.client_threads.proofs.Gathering.{IsGiven, given_late, given_early, given_any}
use Rattle.client_threads.proofs.Phasing.{works_met, clients_met, desks_met, pruned_fixed}
use Rattle.client_threads.proofs.Working.{IsFixedAs, fixed_same, cells_fixed, inside_fixed, planned_fixed, zip_map, zip_long}
use Rattle.lists.proofs.lemmas.Members.{Contains-head, Contains-rest, Contains-map}

-- ---- reads

all_where : {X : Type 0} (P : X → Type 0) (xs : List X) → ((x : X) → Contains xs x → P x) → All P xs
all_where P [] h = All-nil P
all_where P (x ∷ xs) h = All-cons P x xs (h x (Contains-head x xs)) (all_where P xs (λ y there. h y (Contains-rest y x xs there)))

-- what reads gave is of the cluster's blocks
module _ (plan : Plan) (k from : ℕ) (seats : List (Seat ClientDuty)) (works : All (λ s. StandsAt plan k s.duty s.desk) seats)
    (clients : AreClients plan (desks_of seats)) (kept : All KeptDesk (desks_of seats)) where
  inside_of : (x : BlockStamp) → IsGiven seats x → x.block < plan.config.blocks
  inside_of x g =
      let d = g.seat.desk in
      let among : Contains (desks_of seats) d = Contains-map (λ (s : Seat ClientDuty). s.desk) seats g.seat g.among in
      let keeps : KeptDesk d = All-contains KeptDesk (desks_of seats) d kept among in
      let cluster : d.config ≡ plan.config = All-contains (λ d. d.config ≡ plan.config) (desks_of seats) d clients.cluster among in
      let low = ended_inside d.config d.id d.entries (subst (λ (b : Bool). DeskKept b (new_desk d.config d.id) d.entries) g.correct keeps.kept) g.operation g.there in
      subst (λ (c : Numbers). x.block < c.blocks) cluster (subst (λ (b : ℕ). b < d.config.blocks) g.gives.0 low)

  pub late_inside : All (λ x. x.block < plan.config.blocks) (late_reads from seats)
  late_inside = all_where (λ (x : BlockStamp). x.block < plan.config.blocks) (late_reads from seats) (λ x there. inside_of x (given_late plan k from seats works x there).0)

  pub early_inside : All (λ x. x.block < plan.config.blocks) (early_reads from seats)
  early_inside = all_where (λ (x : BlockStamp). x.block < plan.config.blocks) (early_reads from seats) (λ x there. inside_of x (given_early plan k from seats works x there))

  -- and so is what is pruned
  pub prunings_inside : (ps : List BlockStamp) → ArePrunings (late_reads from seats ++ early_reads from seats) (late_reads from seats) ps → All (λ x. x.block < plan.config.blocks) ps
  prunings_inside ps h = all_where (λ (x : BlockStamp). x.block < plan.config.blocks) ps (λ x there. inside_of x (given_any plan k from seats works x (h.given x there)))

-- ---- a phase that is worked off

module _ (k : ℕ) (run0 run1 : Run) (b : IsWorked k run0) (m : HasMetAll run0 run1) (kept : All KeptDesk (clients_of run1)) where
  abbrev from : ℕ
  from = next_begin b.phases

  clients1 : AreClients (plan_of run0) (clients_of run1)
  clients1 = clients_met (plan_of run0) (clients_of run0) (clients_of run1) (desks_met run0.clients.items run1.clients.items m.seats) b.standing.clients

  -- the number from which on the phase is
  pub begun_met : run1.begun ≡ from
  begun_met = m.begun ∙ b.begun

  pub late_met : All (λ x. x.block < (plan_of run0).config.blocks) (late_reads run1.begun run1.clients.items)
  late_met = subst (λ (n : ℕ). All (λ x. x.block < (plan_of run0).config.blocks) (late_reads n run1.clients.items)) (sym begun_met)
      (late_inside (plan_of run0) (k + 1) from run1.clients.items (works_met k run0 run1 b m) clients1 kept)

  pub early_met : All (λ x. x.block < (plan_of run0).config.blocks) (early_reads run1.begun run1.clients.items)
  early_met = subst (λ (n : ℕ). All (λ x. x.block < (plan_of run0).config.blocks) (early_reads n run1.clients.items)) (sym begun_met)
      (early_inside (plan_of run0) (k + 1) from run1.clients.items (works_met k run0 run1 b m) clients1 kept)

  -- the prunes are those of the run's reads
  pub prunings_met : (early late ps : List BlockStamp) → early ≡ early_reads run1.begun run1.clients.items → late ≡ late_reads run1.begun run1.clients.items → ArePrunings (late ++ early) late ps
      → ArePrunings (late_reads from run1.clients.items ++ early_reads from run1.clients.items) (late_reads from run1.clients.items) ps
  prunings_met early late ps e l h =
      subst (λ (n : ℕ). ArePrunings (late_reads n run1.clients.items ++ early_reads n run1.clients.items) (late_reads n run1.clients.items) ps) begun_met
      (subst (λ (x : List BlockStamp). ArePrunings (late_reads run1.begun run1.clients.items ++ x) (late_reads run1.begun run1.clients.items) ps) e
      (subst (λ (x : List BlockStamp). ArePrunings (x ++ early) x ps) l h))

  -- and they are of the cluster's blocks
  pub blocks_met : (ps : List BlockStamp) → ArePrunings (late_reads from run1.clients.items ++ early_reads from run1.clients.items) (late_reads from run1.clients.items) ps → All (λ x. x.block < (plan_of run0).config.blocks) ps
  blocks_met = prunings_inside (plan_of run0) (k + 1) from run1.clients.items (works_met k run0 run1 b m) clients1 kept

-- after the first meeting the cells are those of the plan
pub planned_met : (k : ℕ) (run0 run1 : Run) → IsWorked k run0 → HasMetAll run0 run1 → ArePlanned (plan_of run0) run1.clock run1.cells.items
planned_met k run0 run1 b m =
    subst (λ (c : ClockId). ArePlanned (plan_of run0) c run1.cells.items) (sym m.clock)
    (planned_fixed (plan_of run0) run0.clock run0.cells.items run1.cells.items (zip_map HasMetCell IsFixedAs run0.cells.items run1.cells.items (λ x y q. fixed_same x y q.charter) m.cells) b.standing.planned)

-- a run whose nodes pruned is open as before
pub open_pruned : (old new : Run) → plan_of new ≡ plan_of old → new.clock ≡ old.clock → new.clients.items ≡ old.clients.items → IsKeeper old.keeper new.keeper
    → AllZip HasMorePrunes (reopened old.cells.items) new.cells.items → All KeptCell old.cells.items → IsOpen old → IsOpen new
open_pruned old new plan clock clients keeper some kept o = record {
  cells = subst (λ (p : Plan). AreCells p.config new.clock new.cells.items) (sym plan) (subst (λ (c : ClockId). AreCells (plan_of old).config c new.cells.items) (sym clock)
      (cells_fixed (plan_of old).config old.clock old.cells.items new.cells.items fixed o.cells));
  inside = subst (λ (p : Plan). AreInside p.config new.cells.items) (sym plan) (inside_fixed (plan_of old).config old.cells.items new.cells.items fixed o.inside);
  desks = subst (λ (p : Plan). All (IsDeskAt p.config new.clock) (clients_of new)) (sym plan) (subst (λ (c : ClockId). All (IsDeskAt (plan_of old).config c) (clients_of new)) (sym clock)
      (subst (λ (l : List (Seat ClientDuty)). All (IsDeskAt (plan_of old).config old.clock) (map (λ s. s.desk) l)) (sym clients) o.desks));
  keeper = (keeper.clock ∙ o.keeper.0 ∙ sym clock, keeper.drawn ∙ o.keeper.1);
  passes =
      let a = ap (λ (c : ClockId). c.passes) clock in
      let b = zip_long IsFixedAs old.cells.items new.cells.items fixed in
      let c = ap length clients in
      let d = o.passes in
      omega (arith, a, b, c, d);
}
  where
    fixed : AllZip IsFixedAs old.cells.items new.cells.items
    fixed = pruned_fixed old.cells.items new.cells.items kept some
