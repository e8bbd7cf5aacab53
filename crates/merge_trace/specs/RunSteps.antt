-- Entries of journals by number, as steps.
use Rattle.std.specs.Prelude.{◌≡◌, ◌⊎◌, ℕ, List, map, Option, IsSome, slice_get}
use Rattle.std.specs.declared.option.Option.TheVariants.{Some}
use Rattle.std.specs.List.{Contains}
use Rattle.std.specs.Ordering.{nat_cmp}
use Rattle.std.specs.BTreeMap.{BTreeMap, get}
use Rattle.journals.specs.declared.node.NodeEntry.{NodeEntry}
use Rattle.journals.specs.declared.desk.DeskEntry.{DeskEntry}
use Rattle.journals.specs.declared.desk.DeskJournal.{DeskJournal}
use Rattle.journals.specs.declared.whole.Journals.{Journals}
use Rattle.protocol.specs.Lines.{FitsLine}
use Rattle.journals.specs.Journals.{setting_for, IsEntry}
use Rattle.journals.specs.Merging.{line_of}
use Rattle.journals.specs.Steps.{Step, IsOwn}
use Rattle.journals.specs.Steps.Step.{AtNode, AtDesk}
use Rattle.merge_trace.specs.declared.order.RunStep.{RunStep}
use Rattle.merge_trace.specs.declared.order.RunStep.TheVariants.{Node, Desk}

-- the step that a turn is
abbrev pub step_of : RunStep → Step
step_of (Node i act) = AtNode i act.now
step_of (Desk c act) = AtDesk c act.now

-- the turn of a number, if there is one
abbrev pub turn_at : BTreeMap ℕ RunStep → ℕ → Option RunStep
turn_at turns n = get nat_cmp turns n

-- all turns by number
abbrev pub steps_of : BTreeMap ℕ RunStep → List (ℕ × Step)
steps_of turns = map (λ p. (p.0, step_of p.1)) turns.entries

-- each new turn is one of these entries of the node, and each of them has a turn
pub record HasNode (old new : BTreeMap ℕ RunStep) (i : ℕ) (es : List NodeEntry) : Type 0 where
  pub sound : (q : ℕ) (t : RunStep) → turn_at new q ≡ Some t → (turn_at old q ≡ Some t) ⊎ ((x : NodeEntry) × Contains es x × (x.number ≡ q) × (step_of t ≡ AtNode i x.act))
  pub kept : (q : ℕ) → IsSome (turn_at old q) → IsSome (turn_at new q)
  pub added : (x : NodeEntry) → Contains es x → IsSome (turn_at new x.number)

-- each new turn is one of the client's own entries, and each of these has a turn
pub record HasDesk (old new : BTreeMap ℕ RunStep) (c : ℕ) (es : List DeskEntry) : Type 0 where
  pub sound : (q : ℕ) (t : RunStep) → turn_at new q ≡ Some t → (turn_at old q ≡ Some t) ⊎ ((x : DeskEntry) × Contains es x × IsOwn x.act × (x.number ≡ q) × (step_of t ≡ AtDesk c x.act))
  pub kept : (q : ℕ) → IsSome (turn_at old q) → IsSome (turn_at new q)
  pub added : (x : DeskEntry) → Contains es x → IsOwn x.act → IsSome (turn_at new x.number)

-- each new turn is an entry of these nodes, numbered from 0, and each of these has a turn
pub record HasNodes (old new : BTreeMap ℕ RunStep) (nodes : List (List NodeEntry)) : Type 0 where
  pub sound : (q : ℕ) (t : RunStep) → turn_at new q ≡ Some t → (turn_at old q ≡ Some t) ⊎ ((i : ℕ) × (es : List NodeEntry) × (x : NodeEntry) × (slice_get nodes i ≡ Some es) × Contains es x × (x.number ≡ q) × (step_of t ≡ AtNode i x.act))
  pub kept : (q : ℕ) → IsSome (turn_at old q) → IsSome (turn_at new q)
  pub added : (i : ℕ) (es : List NodeEntry) (x : NodeEntry) → slice_get nodes i ≡ Some es → Contains es x → IsSome (turn_at new x.number)

-- each new turn is an own entry of these clients, and each of these has a turn
pub record HasDesks (old new : BTreeMap ℕ RunStep) (desks : List DeskJournal) : Type 0 where
  pub sound : (q : ℕ) (t : RunStep) → turn_at new q ≡ Some t → (turn_at old q ≡ Some t) ⊎ ((d : DeskJournal) × (x : DeskEntry) × Contains desks d × Contains d.entries x × IsOwn x.act × (x.number ≡ q) × (step_of t ≡ AtDesk d.client x.act))
  pub kept : (q : ℕ) → IsSome (turn_at old q) → IsSome (turn_at new q)
  pub added : (d : DeskJournal) (x : DeskEntry) → Contains desks d → Contains d.entries x → IsOwn x.act → IsSome (turn_at new x.number)

-- no number stands twice
abbrev pub IsOnce : Journals → Type 0
IsOnce j = (n : ℕ) (e f : Step) → IsEntry j n e → IsEntry j n f → e ≡ f

-- the line of each entry is one that a run of the journals' cluster may have
abbrev pub AllFitting : Journals → Type 0
AllFitting j = (n : ℕ) (e : Step) → IsEntry j n e → (k : ℕ) → FitsLine (setting_for j) (line_of (setting_for j) k e)
