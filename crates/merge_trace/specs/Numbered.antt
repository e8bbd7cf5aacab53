-- The steps of journals, and when journals can be merged.
use Rattle.std.specs.Prelude.{◌≡◌, ◌⊎◌, ℕ, ◌+◌, ◌≤◌, true, false, List, [], ◌∷◌, ◌++◌, map, length}
use Rattle.std.specs.List.{Contains, flat_map}
use Rattle.std.specs.Ordering.{nat_cmp}
use Rattle.std.specs.BTreeSet.{BTreeSet, contains}
use Rattle.protocol.specs.Setting.{Setting}
use Rattle.protocol.specs.Lines.{FitsLine}
use Rattle.protocol.specs.Report.{Ascend}
use Rattle.journals.specs.declared.desk.DeskJournal.{DeskJournal}
use Rattle.journals.specs.declared.desk.DeskAct.TheVariants.{Start, Crash, Call}
use Rattle.journals.specs.declared.node.NodeEntry.{NodeEntry}
use Rattle.journals.specs.declared.desk.DeskAct.{DeskAct}
use Rattle.journals.specs.declared.desk.DeskEntry.{DeskEntry}
use Rattle.journals.specs.Steps.{Step}
use Rattle.journals.specs.Steps.Step.{AtNode, AtDesk}
use Rattle.journals.specs.Merging.{line_of}
use Rattle.journals.specs.declared.whole.Journals.{Journals}
use Rattle.merge_trace.specs.RunSteps.{AllFitting}

-- the steps of a node
abbrev pub node_steps : ℕ → List NodeEntry → List (ℕ × Step)
node_steps i es = map (λ e. (e.number, AtNode i e.act)) es

-- the steps of nodes, of which the first has this number
abbrev pub all_node_steps : ℕ → List (List NodeEntry) → List (ℕ × Step)
all_node_steps i [] = []
all_node_steps i (es ∷ nodes) = node_steps i es ++ all_node_steps (i + 1) nodes

-- a client's act at a number, where it is a step of its own
abbrev pub own_step : ℕ → ℕ → DeskAct → List (ℕ × Step)
own_step c n (Start op) = (n, AtDesk c (Start op)) ∷ []
own_step c n Crash = (n, AtDesk c Crash) ∷ []
own_step c n (Call way ask reply) = []

-- a client's own steps
abbrev pub desk_steps : ℕ → List DeskEntry → List (ℕ × Step)
desk_steps c es = flat_map (λ e. own_step c e.number e.act) es

abbrev pub all_desk_steps : List DeskJournal → List (ℕ × Step)
all_desk_steps ds = flat_map (λ d. desk_steps d.client d.entries) ds

-- the steps of all nodes, and those of clients that are none of a node's
abbrev pub all_steps : Journals → List (ℕ × Step)
all_steps j = all_node_steps 0 j.nodes ++ all_desk_steps j.desks

abbrev pub numbers_of : List (ℕ × Step) → List ℕ
numbers_of steps = map (λ p. p.0) steps

-- no number stands twice
abbrev pub AreApart : List ℕ → Type 0
AreApart [] = Unit {0}
AreApart (n ∷ ns) = (Contains ns n → ⊥) × AreApart ns

-- the steps have different numbers, none of which the set has, and lines that fit
pub record AreNew (s : Setting) (old : BTreeSet ℕ) (steps : List (ℕ × Step)) : Type 0 where
  pub new : (n : ℕ) → Contains (numbers_of steps) n → contains nat_cmp old n ≡ false
  pub apart : AreApart (numbers_of steps)
  pub fit : (p : ℕ × Step) → Contains steps p → (k : ℕ) → FitsLine s (line_of s k p.1)

-- the numbers of the steps were added
pub record AreAdded (old new : BTreeSet ℕ) (steps : List (ℕ × Step)) : Type 0 where
  pub kept : (n : ℕ) → contains nat_cmp old n ≡ true → contains nat_cmp new n ≡ true
  pub added : (n : ℕ) → Contains (numbers_of steps) n → contains nat_cmp new n ≡ true
  pub known : (n : ℕ) → contains nat_cmp new n ≡ true → (contains nat_cmp old n ≡ true) ⊎ Contains (numbers_of steps) n

-- the journals can be merged: there are at most 256 nodes, clients ascend, no two steps have one number, and each step's line is one
-- that a run of the journals' cluster may have
pub record CanMerge (j : Journals) : Type 0 where
  pub nodes : length j.nodes ≤ 256
  pub desks : Ascend (map (λ d. d.client) j.desks)
  pub once : AreApart (numbers_of (all_steps j))
  pub fits : AllFitting j
