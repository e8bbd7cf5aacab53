-- What journals have followed of a plan when its first phases are closed, and how that goes on.
use Rattle.std.specs.Prelude.{◌≡◌, ◌⊎◌, ℕ, ◌+◌, ◌<◌, ◌≤◌, Bool, true, false, if◌then◌else◌, List, [], ◌∷◌, ◌++◌, length, map, count_by, slice_get}
use Rattle.std.specs.declared.option.Option.TheVariants.{Some}
use Rattle.std.specs.List.{Contains}
use Rattle.protocol.specs.Count.{update}
use Rattle.stamp_order.specs.declared.Stamp.{Stamp}
use Rattle.wire_forms.specs.Liars.{has_number}
use Rattle.plan_words.specs.declared.plan.Plan.{Plan}
use Rattle.plan_words.specs.Named.{is_phase}
use Rattle.journals.specs.declared.node.NodeAct.TheVariants.{Pruned}
use Rattle.journals.specs.declared.node.NodeEntry.{NodeEntry}
use Rattle.journals.specs.declared.desk.DeskEntry.{DeskEntry}
use Rattle.journals.specs.declared.whole.Journals.{Journals}
use Rattle.journals.specs.Acts.{can_prune}
use Rattle.journals.specs.Journals.{at_node, at_desk, desks_before}
use Rattle.journals.specs.Phases.{Phase, IsWithin}
use Rattle.plan_followed.specs.Asked.{steps_for, first_phases, nature, messages}
use Rattle.plan_followed.specs.Clients.{InEach, GoesByPlan, IsDone, all_asked}
use Rattle.plan_followed.specs.Nodes.{Pruning, act_of, node_after, IsClosed}
use Rattle.plan_followed.specs.Followed.{AreInTurn, begin_of, ArePrunes, AreFor, Follows}

-- ---- what comes later

-- the list has only entries more, none with a number below this one
pub record ComesLater {E : Type 0} (number : E → ℕ) (from : ℕ) (old new : List E) : Type 0 where
  pub more : List E
  pub grown : new ≡ old ++ more
  pub later : (e : E) → Contains more e → from ≤ number e

abbrev pub NodeGoesOn : ℕ → List NodeEntry → List NodeEntry → Type 0
NodeGoesOn = ComesLater (λ e. e.number)

abbrev pub DeskGoesOn : ℕ → List DeskEntry → List DeskEntry → Type 0
DeskGoesOn = ComesLater (λ e. e.number)

-- the journals went on, from this number
pub record AreLater (from : ℕ) (old new : Journals) : Type 0 where
  pub config : new.config ≡ old.config
  pub liars : new.liars ≡ old.liars
  pub nodes : (i : ℕ) → NodeGoesOn from (at_node old i) (at_node new i)
  pub desks : (c : ℕ) → DeskGoesOn from (at_desk old c) (at_desk new c)

-- all numbers are below this one
pub record AreBelow (bound : ℕ) (j : Journals) : Type 0 where
  pub nodes : (i : ℕ) (e : NodeEntry) → Contains (at_node j i) e → e.number < bound
  pub desks : (c : ℕ) (e : DeskEntry) → Contains (at_desk j c) e → e.number < bound

-- the node did a prune
abbrev pub HasPruned : Journals → ℕ → ℕ → ℕ → Stamp → Type 0
HasPruned j i n block stamp = Contains (at_node j i) (record { number = n; act = Pruned block stamp })

-- ---- phases that are closed

-- where the next phase begins
abbrev pub next_begin : List Phase → ℕ
next_begin phases = begin_of phases (length phases)

-- the steps of a client in the first phases
abbrev pub IsDoneWith : Plan → ℕ → ℕ → List DeskEntry → Type 0
IsDoneWith plan k c es = IsDone plan c (steps_for plan.config c (first_phases k plan.work)) es

-- a correct client did the steps up to each phase's close, and a liar sent nothing after the first
abbrev pub ClosedAs : Bool → Plan → List Phase → ℕ → List DeskEntry → Type 0
ClosedAs true plan phases c es = (p : Phase) → slice_get phases 0 ≡ Some p → desks_before p.close es ≡ es
ClosedAs false plan phases c es = (k : ℕ) (p : Phase) → slice_get phases k ≡ Some p → IsDoneWith plan (k + 1) c (desks_before p.close es)

-- these phases are closed, with these prunes
pub record HaveClosed (plan : Plan) (j : Journals) (phases : List Phase) (prunes : ℕ → List Pruning) : Type 0 where
  pub config : j.config ≡ plan.config
  pub liars : j.liars ≡ plan.liars
  pub turns : AreInTurn 0 phases
  pub still : (c : ℕ) (e : DeskEntry) → Contains (at_desk j c) e → (p : Phase) → Contains phases p → IsWithin p e.number → ⊥
  pub clients : (c : ℕ) → ClosedAs (has_number plan.liars.clients c) plan phases c (at_desk j c)
  pub nodes : (i : ℕ) → i < plan.config.n → (k : ℕ) (p : Phase) → slice_get phases k ≡ Some p → IsClosed plan i p (prunes k) (at_node j i)
  pub only : (i n block : ℕ) (stamp : Stamp) → HasPruned j i n block stamp → (p : Phase) × Contains phases p × IsWithin p n
  pub pruned : (k : ℕ) (p : Phase) → slice_get phases k ≡ Some p → ArePrunes plan j (begin_of phases k) p (prunes k)

-- ---- how it goes on

-- journals in which nobody did anything
pub record AreEmpty (plan : Plan) (j : Journals) : Type 0 where
  pub config : j.config ≡ plan.config
  pub liars : j.liars ≡ plan.liars
  pub nodes : (i : ℕ) → at_node j i ≡ []
  pub desks : (c : ℕ) → at_desk j c ≡ []

-- after the closed phases only correct clients go on, and no node prunes
pub record AreWorked (plan : Plan) (phases : List Phase) (old new : Journals) : Type 0 where
  pub later : AreLater (next_begin phases) old new
  pub quiet : (c : ℕ) → has_number plan.liars.clients c ≡ true → (phases ≡ []) ⊎ (at_desk new c ≡ at_desk old c)
  pub calm : (i n block : ℕ) (stamp : Stamp) → HasPruned new i n block stamp → HasPruned old i n block stamp

-- a client is done with a phase: a correct one did the steps so far, entry by entry by the plan, and a liar sent all that it sends
abbrev pub FinishedAs : Bool → Plan → ℕ → ℕ → List DeskEntry → Type 0
FinishedAs true plan k c es = all_asked es ≡ messages plan.config plan.rules c
FinishedAs false plan k c es = InEach (GoesByPlan plan c) es × IsDoneWith plan k c es

-- the phase that was open is worked off: all is numbered below its close, each client is done, and nothing is held back
pub record IsWorkedOff (plan : Plan) (j : Journals) (phases : List Phase) : Type 0 where
  pub clients : (c : ℕ) → FinishedAs (has_number plan.liars.clients c) plan (length phases + 1) c (at_desk j c)
  pub late : (i : ℕ) → i < plan.config.n → (node_after plan i (at_node j i)).late ≡ []

-- after the phase was worked off nodes did its prunes and nothing else, and no client did anything
pub record HavePruned (plan : Plan) (p : Phase) (ps : List Pruning) (old new : Journals) : Type 0 where
  pub config : new.config ≡ old.config
  pub liars : new.liars ≡ old.liars
  pub desks : (c : ℕ) → at_desk new c ≡ at_desk old c
  pub nodes : (i : ℕ) → NodeGoesOn p.close (at_node old i) (at_node new i)
  pub acts : (i : ℕ) → i < plan.config.n → map (λ e. e.act) (nodes i).more ≡ (if can_prune (node_after plan i (at_node old i)) (nature plan.rules i) then map act_of ps else [])

-- in empty journals nothing is closed
abbrev pub Begins : Type 0
Begins = (plan : Plan) (j : Journals) (prunes : ℕ → List Pruning) → AreEmpty plan j → HaveClosed plan j [] prunes

-- what was closed stays closed
abbrev pub GoesOn : Type 0
GoesOn =
    (plan : Plan) (old new : Journals) (phases : List Phase) (prunes : ℕ → List Pruning)
    → HaveClosed plan old phases prunes → AreWorked plan phases old new → HaveClosed plan new phases prunes

-- one phase more closes
abbrev pub Closes : Type 0
Closes =
    (plan : Plan) (old new : Journals) (phases : List Phase) (prunes : ℕ → List Pruning) (p : Phase) (ps : List Pruning)
    → HaveClosed plan old phases prunes → IsWorkedOff plan old phases
    → next_begin phases ≤ p.close → p.close ≤ p.end → AreBelow p.close old
    → ArePrunes plan old (next_begin phases) p ps → HavePruned plan p ps old new → AreBelow p.end new
    → HaveClosed plan new (phases ++ p ∷ []) (update prunes (length phases) ps)

-- when the last phase is worked off the plan is followed
abbrev pub Ends : Type 0
Ends =
    (plan : Plan) (j : Journals) (phases : List Phase) (prunes : ℕ → List Pruning)
    → AreFor plan j → HaveClosed plan j phases prunes → length phases ≡ count_by is_phase plan.work → IsWorkedOff plan j phases → Follows plan j
