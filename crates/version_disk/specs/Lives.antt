-- The life of a disk, from call to call and from crash to crash.
use Rattle.std.specs.Prelude.{◌≡◌, ◌≤◌, ◌⊎◌, ℕ, ⊤, List, [], ◌∷◌, ◌++◌, None, length, take, map}
use Rattle.quorum_rules.specs.Limits.{Numbers}
use Rattle.node_core.specs.Seen.{SeenNode, new_node}
use Rattle.slot_disk.specs.Slots.{Slot}
use Rattle.version_disk.specs.Held.{held, slots_of, first_bad}
use Rattle.version_disk.specs.Deeds.{Deed, after_deed, IsDone, IsDoneOrNot, after_deeds, AreDone, AreDoneInPart}

-- What came next: a call acknowledged its deed, or all its deeds; or a call of one deed, or of many, failed or was stopped by a crash
-- at some moment of it; or the disk was opened, wholly or up to a crash.
pub data Turn : Type 0 where
  Acknowledged : Deed → Turn
  Stopped : Deed → Turn
  AcknowledgedAll : List Deed → Turn
  StoppedIn : List Deed → Turn
  Opened : Turn

-- a turn, and the bytes that the disk has then
pub record Moment : Type 0 where
  pub turn : Turn
  pub bytes : List ℕ

-- how a turn may change the bytes: that is what the calls promise
abbrev pub Turns : Numbers → ℕ → List ℕ → Turn → List ℕ → Type 0
Turns c number old (Acknowledged deed) new = IsDone c number (held c number old) deed old new
Turns c number old (Stopped deed) new = IsDoneOrNot c number (held c number old) deed old new
Turns c number old (AcknowledgedAll deeds) new = AreDone c number (held c number old) deeds old new
Turns c number old (StoppedIn deeds) new = AreDoneInPart c number (held c number old) deeds old new
Turns c number old Opened new = slots_of c new ≡ slots_of c old

-- one turn after the other
abbrev pub IsLife : Numbers → ℕ → List ℕ → List Moment → Type 0
IsLife c number old [] = ⊤
IsLife c number old (m ∷ more) = Turns c number old m.turn m.bytes × IsLife c number m.bytes more

-- the bytes in the end
abbrev pub end_of : List ℕ → List Moment → List ℕ
end_of old [] = old
end_of old (m ∷ more) = end_of m.bytes more

-- A node that lives through these turns and never crashes may end so: it has done each deed that was acknowledged, and each of the
-- others or not, and of a call of many that was stopped the first few, all in their order.
abbrev pub MayEnd : SeenNode → List Turn → SeenNode → Type 0
MayEnd node [] end = end ≡ node
MayEnd node (Acknowledged deed ∷ more) end = MayEnd (after_deed node deed) more end
MayEnd node (Stopped deed ∷ more) end = MayEnd node more end ⊎ MayEnd (after_deed node deed) more end
MayEnd node (AcknowledgedAll deeds ∷ more) end = MayEnd (after_deeds node deeds) more end
MayEnd node (StoppedIn deeds ∷ more) end = (k : ℕ) × (k ≤ length deeds) × MayEnd (after_deeds node (take k deeds)) more end
MayEnd node (Opened ∷ more) end = MayEnd node more end

-- What was acknowledged is there: after any calls and crashes a disk that was empty holds such a node.
abbrev pub IsThere : Numbers → ℕ → List Moment → Type 0
IsThere c number life = IsLife c number [] life → MayEnd (new_node c number) (map (λ m. m.turn) life) (held c number (end_of [] life))

-- no slot is ever bad
abbrev pub IsNeverDamaged : Numbers → ℕ → List Moment → Type 0
IsNeverDamaged c number life = IsLife c number [] life → first_bad c number (end_of [] life) ≡ None

-- the slots that there are stay the first ones
abbrev pub OnlyGrows : Numbers → ℕ → List ℕ → List Moment → Type 0
OnlyGrows c number bytes life = IsLife c number bytes life → (more : List Slot) × (slots_of c (end_of bytes life) ≡ slots_of c bytes ++ more)
