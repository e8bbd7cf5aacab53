-- A run of a plan, between its phases and in them.
use Rattle.std.specs.Prelude.{◌≡◌, ◌⊎◌, ℕ, ◌+◌, ◌<◌, ◌≤◌, true, List, [], ◌++◌, length, map, count_by, All}
use Rattle.std.specs.List.{AllZip, Contains, flat_map, range_with_len}
use Rattle.wire_forms.specs.Liars.{has_number}
use Rattle.event_clock.specs.declared.rule.Share.{Share}
use Rattle.event_clock.specs.Passes.{share_of}
use Rattle.journals.specs.declared.whole.Journals.{Journals}
use Rattle.journals.specs.Phases.{Phase}
use Rattle.journals.specs.declared.node.NodeEntry.{NodeEntry}
use Rattle.locked_nodes.specs.Cells.{CellView}
use Rattle.protocol.specs.World.{Record}
use Rattle.client_desks.specs.Desks.{DeskView, records_at}
use Rattle.client_desks.specs.Later.{IsLater}
use Rattle.plan_words.specs.declared.plan.Plan.{Plan}
use Rattle.plan_words.specs.Named.{is_phase, clients}
use Rattle.plan_followed.specs.Nodes.{Pruning}
use Rattle.plan_followed.specs.Closed.{next_begin, HaveClosed, IsWorkedOff, AreBelow}
use Rattle.phase_threads.specs.Standing.{AreCells, AreInside, IsDeskAt, PairsStand, HasWorked, ArePlanned, HaveSeen, node_journal, journals_of}
use Rattle.phase_threads.specs.Ended.{AreClients}
use Rattle.phase_threads.specs.declared.duty.Seat.{Seat}
use Rattle.client_duties.specs.declared.work.ClientDuty.{ClientDuty}
use Rattle.client_duties.specs.declared.work.ClientDuty.TheVariants.{Client, Lying}
use Rattle.client_duties.specs.ClientDuty.{Stands, HasMail, phase_at}
use Rattle.client_threads.specs.declared.state.Run.{Run}

-- ---- views of a run

abbrev pub desks_of : List (Seat ClientDuty) → List DeskView
desks_of seats = map (λ s. s.desk) seats

abbrev pub clients_of : Run → List DeskView
clients_of run = desks_of run.clients.items

abbrev pub plan_of : Run → Plan
plan_of run = run.plan.value

-- what the passes of cells and clients drew
abbrev pub shares_of : Run → List Share
shares_of run = map (λ c. share_of c.pass) run.cells.items ++ map (λ d. share_of d.pass) (clients_of run)

-- the records that the desks keep, one client's after another's
abbrev pub kept_records : List DeskView → List Record
kept_records desks = flat_map records_at desks

-- the journals of so many nodes
abbrev pub node_journals : List CellView → ℕ → List (List NodeEntry)
node_journals cells count = map (node_journal cells) (range_with_len 0 count)

-- the journals that it has so far
abbrev pub journals_in : Run → Journals
journals_in run = journals_of (plan_of run) run.cells.items (clients_of run)

-- how often the plan's work is cut
abbrev pub cuts : Plan → ℕ
cuts plan = count_by is_phase plan.work

-- ---- what holds of it

-- a thread's part, when so many phases are done
abbrev pub StandsAt : Plan → ℕ → ClientDuty → DeskView → Type 0
StandsAt plan k (Client w) d = (w.plan.value ≡ plan) × Stands w d × (phase_at w ≡ k)
StandsAt plan k (Lying w) d = (w.plan.value ≡ plan) × HasMail w d × (0 < k → w.mail.items ≡ [])

-- who lies is named
abbrev pub LiarsNamed : Plan → Type 0
LiarsNamed plan = (c : ℕ) → has_number plan.liars.clients c ≡ true → Contains (clients plan.rules plan.work) c

-- all passes are those of its clock, and the keeper's drew nothing
pub record IsOpen (run : Run) : Type 0 where
  pub cells : AreCells (plan_of run).config run.clock run.cells.items
  pub inside : AreInside (plan_of run).config run.cells.items
  pub desks : All (IsDeskAt (plan_of run).config run.clock) (clients_of run)
  pub keeper : (run.keeper.clock ≡ run.clock) × (run.keeper.drawn ≡ [])
  pub passes : run.clock.passes ≡ length run.cells.items + length run.clients.items + 1

-- so many phases are done, and cells and desks agree in pairs
pub record IsStanding (k : ℕ) (run : Run) : Type 0 where
  pub opened : IsOpen run
  pub planned : ArePlanned (plan_of run) run.clock run.cells.items
  pub clients : AreClients (plan_of run) (clients_of run)
  pub works : All (λ s. StandsAt (plan_of run) k s.duty s.desk) run.clients.items
  pub pairs : PairsStand run.cells.items (clients_of run)
  pub named : LiarsNamed (plan_of run)

-- but for cells and clients it is as it was
pub record IsSameRun (old new : Run) : Type 0 where
  pub plan : plan_of new ≡ plan_of old
  pub clock : new.clock ≡ old.clock
  pub keeper : new.keeper ≡ old.keeper
  pub begun : new.begun ≡ old.begun

-- the threads did phase k
pub record HasDonePhase (k : ℕ) (old new : Run) : Type 0 where
  pub same : IsSameRun old new
  pub standing : IsStanding (k + 1) new
  pub cells : AllZip HasWorked old.cells.items new.cells.items
  pub desks : AllZip IsLater (clients_of old) (clients_of new)
  pub quiet : AllZip (λ d e. has_number (plan_of old).liars.clients d.id ≡ true → (k ≡ 0) ⊎ (e.entries ≡ d.entries)) (clients_of old) (clients_of new)

-- k phases are closed, and nobody has begun with the next
pub record IsBetween (k : ℕ) (run : Run) : Type 0 where
  pub standing : IsStanding k run
  pub phases : List Phase
  pub count : length phases ≡ k
  pub prunes : ℕ → List Pruning
  pub closed : HaveClosed (plan_of run) (journals_in run) phases prunes
  pub low : AreBelow (next_begin phases) (journals_in run)
  pub seen : HaveSeen (next_begin phases) run.cells.items (clients_of run)
  pub began : next_begin phases ≤ run.keeper.seen
  pub begun : run.begun ≡ next_begin phases

-- k phases are closed, and the next is worked off
pub record IsWorked (k : ℕ) (run : Run) : Type 0 where
  pub standing : IsStanding (k + 1) run
  pub phases : List Phase
  pub count : length phases ≡ k
  pub prunes : ℕ → List Pruning
  pub closed : HaveClosed (plan_of run) (journals_in run) phases prunes
  pub off : IsWorkedOff (plan_of run) (journals_in run) phases
  pub seen : HaveSeen (next_begin phases) run.cells.items (clients_of run)
  pub began : next_begin phases ≤ run.keeper.seen
  pub begun : run.begun ≡ next_begin phases
