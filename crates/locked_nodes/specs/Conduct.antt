-- What the kept journal of a node tells, entry by entry, of its nature, its crash count and the asks that were held back.
use Rattle.std.specs.Prelude.{◌≡◌, ◌⊎◌, ℕ, ◌<◌, Bool, true, false, List, [], ◌∷◌, ◌++◌, Option}
use Rattle.std.specs.declared.option.Option.TheVariants.{None, Some}
use Rattle.std.specs.List.{list_any, count_by, flat_map}
use Rattle.quorum_rules.specs.Limits.{Numbers}
use Rattle.protocol.specs.Messages.{Message}
use Rattle.liar_rules.specs.Answers.{answer_to}
use Rattle.journals.specs.declared.node.Nature.{Nature}
use Rattle.journals.specs.declared.node.Nature.TheVariants.{Honest, Lying as Lies}
use Rattle.journals.specs.declared.node.Silence.{Silence}
use Rattle.journals.specs.declared.node.Silence.TheVariants.{Crashed, Dropped, Held, Lying}
use Rattle.journals.specs.declared.node.NodeAct.{NodeAct}
use Rattle.journals.specs.declared.node.NodeAct.TheVariants.{Answered, Lied, Silent, CrashedAt, Delivered, LateLost, Pruned}
use Rattle.journals.specs.declared.node.NodeEntry.{NodeEntry}
use Rattle.journals.specs.Steps.{is_lying}
use Rattle.journals.specs.Acts.{new_state, after_all, NodeKept}

-- the node serves an ask, which counts
abbrev pub serves : NodeAct → Bool
serves (Answered ask reply) = true
serves (Delivered ask reply) = true
serves _ = false

abbrev pub served_in : List NodeEntry → ℕ
served_in es = count_by (λ e. serves e.act) es

abbrev pub crashes : NodeAct → Bool
crashes (CrashedAt ask late) = true
crashes _ = false

abbrev pub has_crashed : List NodeEntry → Bool
has_crashed es = list_any (λ e. crashes e.act) es

-- the ask that is held back
abbrev pub held_by : Silence → Message → List Message
held_by Held ask = ask ∷ []
held_by Crashed ask = []
held_by Dropped ask = []
held_by Lying ask = []

abbrev pub held : NodeAct → List Message
held (Silent ask why) = held_by why ask
held _ = []

-- the held ask that comes late
abbrev pub came_late : NodeAct → List Message
came_late (CrashedAt ask true) = ask ∷ []
came_late (CrashedAt ask false) = []
came_late (Delivered ask reply) = ask ∷ []
came_late (LateLost ask) = ask ∷ []
came_late (Answered ask reply) = []
came_late (Lied ask reply) = []
came_late (Silent ask why) = []
came_late (Pruned block stamp) = []

-- the node hasn't crashed, and hasn't served as many asks as it is to serve
pub record IsUp (crash_after : Option ℕ) (before : List NodeEntry) : Type 0 where
  pub up : has_crashed before ≡ false
  pub more : (n : ℕ) → crash_after ≡ Some n → served_in before < n

-- a liar's rule has it tell this
abbrev pub TellsByRule : Numbers → Nature → Message → Option Message → Type 0
TellsByRule config Honest ask told = ⊥
TellsByRule config (Lies rule) ask told = answer_to config rule ask ask.body ≡ told

-- the cause of a silence
abbrev pub IsSilence : Numbers → Nature → Option ℕ → List NodeEntry → Message → Silence → Type 0
IsSilence config nature crash_after before ask Crashed = has_crashed before ≡ true
IsSilence config nature crash_after before ask Lying = IsUp crash_after before × TellsByRule config nature ask None
IsSilence config nature crash_after before ask Dropped = Unit {0}
IsSilence config nature crash_after before ask Held = Unit {0}

-- the act goes by the node's nature and its count, after these entries: who doesn't lie answers and delivers, who lies tells what its
-- rule says, a crash comes once, when the count is used up, and what comes after it is lost
abbrev pub GoesByConduct : Numbers → Nature → Option ℕ → List NodeEntry → NodeAct → Type 0
GoesByConduct config nature crash_after before (Answered ask reply) = IsUp crash_after before × (nature ≡ Honest)
GoesByConduct config nature crash_after before (Delivered ask reply) = IsUp crash_after before × (nature ≡ Honest)
GoesByConduct config nature crash_after before (Lied ask reply) = IsUp crash_after before × TellsByRule config nature ask (Some reply)
GoesByConduct config nature crash_after before (Silent ask why) = IsSilence config nature crash_after before ask why
GoesByConduct config nature crash_after before (CrashedAt ask late) = (has_crashed before ≡ false) × (crash_after ≡ Some (served_in before))
GoesByConduct config nature crash_after before (LateLost ask) = (has_crashed before ≡ true) ⊎ (IsUp crash_after before × (is_lying nature ≡ true))
GoesByConduct config nature crash_after before (Pruned block stamp) = (has_crashed before ≡ false) × (nature ≡ Honest)

-- each entry of a kept journal goes by the node's nature and its count
abbrev pub EntriesGo : Type 0
EntriesGo =
    (config : Numbers) (number : ℕ) (nature : Nature) (crash_after : Option ℕ) (journal before rest : List NodeEntry) (e : NodeEntry)
    → NodeKept nature (new_state config number crash_after) journal → journal ≡ before ++ e ∷ rest → GoesByConduct config nature crash_after before e.act

-- the asks that were held back are those that came late and those that are held back still, in order: so each comes once more, if none is held back at last
abbrev pub HeldComeAgain : Type 0
HeldComeAgain =
    (config : Numbers) (number : ℕ) (nature : Nature) (crash_after : Option ℕ) (journal : List NodeEntry)
    → NodeKept nature (new_state config number crash_after) journal
    → flat_map (λ e. held e.act) journal ≡ flat_map (λ e. came_late e.act) journal ++ (after_all (new_state config number crash_after) journal).late
