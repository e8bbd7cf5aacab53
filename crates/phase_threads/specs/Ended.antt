-- A run that has ended, and its journals.
use Rattle.std.specs.Prelude.{◌≡◌, ℕ, List, ◌++◌, length, map, All, count_by}
use Rattle.std.specs.List.{Contains}
use Rattle.wire_forms.specs.Liars.{has_number}
use Rattle.protocol.specs.Report.{Ascend}
use Rattle.event_clock.specs.Passes.{ClockId, share_of}
use Rattle.event_clock.specs.Views.{IsDrawnOnce}
use Rattle.journals.specs.Phases.{Phase}
use Rattle.locked_nodes.specs.Cells.{CellView}
use Rattle.client_desks.specs.Desks.{DeskView}
use Rattle.plan_words.specs.declared.plan.Plan.{Plan}
use Rattle.plan_words.specs.Plans.{Fits}
use Rattle.plan_words.specs.Named.{clients, is_phase}
use Rattle.plan_followed.specs.Nodes.{Pruning}
use Rattle.plan_followed.specs.Followed.{AreOfPlan}
use Rattle.plan_followed.specs.Closed.{HaveClosed, IsWorkedOff}
use Rattle.phase_threads.specs.Standing.{ArePlanned, AreKept, PairsStand, journals_of}

-- the desks are those of the plan's clients, by ascending number, each lying where the plan says so
pub record AreClients (plan : Plan) (desks : List DeskView) : Type 0 where
  pub ascend : Ascend (map (λ d. d.id) desks)
  pub named : All (λ d. Contains (clients plan.rules plan.work) d.id) desks
  pub all : (c : ℕ) → Contains (clients plan.rules plan.work) c → Contains (map (λ d. d.id) desks) c
  pub cluster : All (λ d. d.config ≡ plan.config) desks
  pub honesty : All (λ d. d.lying ≡ has_number plan.liars.clients d.id) desks

-- a run has ended: its cells and desks are those of the plan, and agree in pairs; their passes drew the numbers below a count, each once; and the last
-- phase is worked off
pub record HasEnded (plan : Plan) (clock : ClockId) (row : List CellView) (table : List DeskView) (drawn : ℕ) (phases : List Phase) (prunes : ℕ → List Pruning) : Type 0 where
  pub cells : ArePlanned plan clock row
  pub clients : AreClients plan table
  pub kept : AreKept row table
  pub pairs : PairsStand row table
  pub numbers : IsDrawnOnce drawn (map (λ c. share_of c.pass) row ++ map (λ d. share_of d.pass) table)
  pub closed : HaveClosed plan (journals_of plan row table) phases prunes
  pub count : length phases ≡ count_by is_phase plan.work
  pub done : IsWorkedOff plan (journals_of plan row table) phases

-- its journals are those of a run of the plan
abbrev pub RunsEnd : Type 0
RunsEnd =
    (plan : Plan) (clock : ClockId) (cells : List CellView) (desks : List DeskView) (drawn : ℕ) (phases : List Phase) (prunes : ℕ → List Pruning)
    → Fits plan → HasEnded plan clock cells desks drawn phases prunes → AreOfPlan plan (journals_of plan cells desks) drawn
