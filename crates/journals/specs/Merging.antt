-- The lines of a run that steps are.
use Rattle.std.specs.Prelude.{◌≡◌, ◌≢◌, ◌⊎◌, ℕ, ◌+◌, ◌≤◌, if◌then◌else◌, List, [], ◌∷◌, Option, slice_get}
use Rattle.std.specs.declared.option.Option.TheVariants.{None, Some}
use Rattle.protocol.specs.Messages.{Message}
use Rattle.protocol.specs.Setting.{Setting}
use Rattle.protocol.specs.World.{World}
use Rattle.protocol.specs.Lines.{Line, StepFault, plays, fault, start_line}
use Rattle.run_words.specs.declared.line.Line.TheVariants.{Call as Calls, Give, Lost, CrashNode, CrashClient, Tell, Poke, Prune}
use Rattle.journals.specs.Steps.{Step}
use Rattle.journals.specs.Steps.Step.{AtNode, AtDesk}
use Rattle.journals.specs.declared.node.NodeAct.TheVariants.{Answered, Lied, Silent, CrashedAt, Delivered, LateLost, Pruned}
use Rattle.journals.specs.declared.desk.DeskAct.TheVariants.{Start, Crash, Call}

-- the ask that a step delivers late
abbrev pub late_ask : Step → Option Message
late_ask (AtNode i (Delivered ask reply)) = Some ask
late_ask _ = None

-- the number of the first message of the pool that equals the ask, or 0 where none does
abbrev pub IsFirst : List Message → Message → ℕ → Type 0
IsFirst pool ask k =
    ((slice_get pool k ≡ Some ask) × ((j : ℕ) → slice_get pool j ≡ Some ask → k ≤ j)) ⊎ (((j : ℕ) → slice_get pool j ≢ Some ask) × (k ≡ 0))

-- the number that is named: 0 where nothing is delivered late, or the lines so far are no run
abbrev pub IsNumber : Option World → Option Message → ℕ → Type 0
IsNumber w None k = k ≡ 0
IsNumber None (Some ask) k = k ≡ 0
IsNumber (Some w) (Some ask) k = IsFirst w.pool ask k

module _ (s : Setting) where
  -- the line of a step; k is the number in the pool of the ask that is delivered late
  abbrev pub line_of : ℕ → Step → Line
  line_of k (AtDesk c (Start op)) = start_line c op
  line_of k (AtDesk c Crash) = CrashClient c
  line_of k (AtDesk c (Call way ask reply)) = Lost c ask.node
  line_of k (AtNode i (Answered ask reply)) = if s.lying_client ask.client then Poke ask else Calls ask.client i
  line_of k (AtNode i (Lied ask reply)) = if s.lying_client ask.client then Lost ask.client i else Tell reply
  line_of k (AtNode i (Silent ask why)) = Lost ask.client i
  line_of k (AtNode i (LateLost ask)) = Lost ask.client i
  line_of k (AtNode i (CrashedAt ask late)) = CrashNode i
  line_of k (AtNode i (Delivered ask reply)) = Give i k
  line_of k (AtNode i (Pruned block stamp)) = Prune i block

  -- the world after a line, if there was one and the line isn't refused
  abbrev pub unless_refused : World → ℕ → Line → Option StepFault → Option World
  unless_refused w place line None = Some (plays s w place line)
  unless_refused w place line (Some f) = None

  abbrev pub next_world : Option World → ℕ → Line → Option World
  next_world None place line = None
  next_world (Some w) place line = unless_refused w place line (fault s w line)

  -- the lines of the steps: the first has the place after this one, and each next one the place after that
  abbrev pub Merged : Option World → ℕ → List Step → List (ℕ × Line) → Type 0
  Merged w place [] lines = lines ≡ []
  Merged w place (e ∷ es) lines =
      (k : ℕ) × (rest : List (ℕ × Line)) × IsNumber w (late_ask e) k × (lines ≡ (place + 1, line_of k e) ∷ rest)
      × Merged (next_world w (place + 1) (line_of k e)) (place + 1) es rest
