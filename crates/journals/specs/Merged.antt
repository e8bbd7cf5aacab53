-- What holds of journals of a run in threads and of their lines.
use Rattle.std.specs.Prelude.{◌≡◌, ◌⊎◌, ℕ, ◌<◌, ◌+◌, true, false, List, take}
use Rattle.std.specs.declared.option.Option.TheVariants.{None, Some}
use Rattle.std.specs.List.{Contains}
use Rattle.protocol.specs.Messages.{Stamp, Message}
use Rattle.wire_forms.specs.Liars.{has_number}
use Rattle.protocol.specs.Instance.{setting, IsCluster}
use Rattle.protocol.specs.World.{World, IsAskTo, start_world}
use Rattle.protocol.specs.Lines.{Line, FitsLine, IsRun}
use Rattle.protocol.specs.History.{Entry, IsHistory, Legal, InTime, NoClash}
use Rattle.protocol.specs.Setting.{Sound}
use Rattle.protocol.specs.History.Kind.{Read}
use Rattle.journals.specs.Acts.{NodeAct, Nature, NodeState, act, late_act, can_prune, answer_of, reply_in, IsAct, IsOldest}
use Rattle.journals.specs.declared.node.NodeAct.TheVariants.{Pruned}
use Rattle.journals.specs.declared.desk.DeskAct.TheVariants.{Call}
use Rattle.journals.specs.Desks.{Way, DeskAct, DeskEntry, Ended, desk_after_all, new_desk}
use Rattle.journals.specs.Steps.{Step, Conduct, side}
use Rattle.journals.specs.Steps.Step.{AtNode, AtDesk}
use Rattle.journals.specs.Merging.{line_of}
use Rattle.journals.specs.Agreement.{Reaches, ended_record}
use Rattle.journals.specs.Journals.{Journals, setting_for, at_desk, cluster_at, IsEntry, InOrder, IsMerge, AreKept, PairsAgree, AreOfRun}

-- the law holds of journals of a run and of their lines
abbrev pub OfMerged : (Conduct → Journals → List (ℕ × Line) → Type 0) → Type 0
OfMerged law = (conduct : Conduct) (j : Journals) (lines : List (ℕ × Line)) → AreOfRun conduct j → IsMerge j lines → law conduct j lines

-- no line is refused when its turn comes, and after the first n lines each node that isn't declared lying, and each correct client,
-- is what its journal's entries with numbers below n make of it
abbrev pub AllReach : Conduct → Journals → List (ℕ × Line) → Type 0
AllReach conduct j lines = (n : ℕ) → Reaches (setting_for j) (start_world (setting_for j)) (take n lines) (cluster_at conduct j n)

-- the lines are a run
abbrev pub AreRun : Conduct → Journals → List (ℕ × Line) → Type 0
AreRun conduct j lines = (w : World) × IsRun (setting_for j) lines w

-- there is a line for each number: that of number n has the place n + 1
abbrev pub AreNumbered : Conduct → Journals → List (ℕ × Line) → Type 0
AreNumbered conduct j lines = (n : ℕ) (e : Step) → IsEntry j n e → (k : ℕ) × Contains lines (n + 1, line_of (setting_for j) k e)

-- the step is the client's own act, or the node's side of its call
abbrev pub IsStepOf : ℕ → DeskAct → Step → Type 0
IsStepOf c act e = (e ≡ AtDesk c act) ⊎ ((i : ℕ) × (a : NodeAct) × (e ≡ AtNode i a) × (side a ≡ Some (c, act)))

-- each entry of each client is shown by the line of its number
abbrev pub AreShown : Conduct → Journals → List (ℕ × Line) → Type 0
AreShown conduct j lines =
    (c : ℕ) (x : DeskEntry) → Contains (at_desk j c) x
    → (e : Step) × IsStepOf c x.act e × (k : ℕ) × Contains lines (x.number + 1, line_of (setting_for j) k e)

-- each operation that a correct client ended stands in the records, with the places of its start and of its end
abbrev pub AllRecorded : Conduct → Journals → List (ℕ × Line) → Type 0
AllRecorded conduct j lines =
    (w : World) (c : ℕ) (x : Ended) → IsRun (setting_for j) lines w → (setting_for j).lying_client c ≡ false
    → Contains (desk_after_all (new_desk j.config c) (at_desk j c)).ended x → Contains w.records (ended_record c x)

-- the history of the run is that of plain registers and in time, where no two strings that were seen clash
abbrev pub AreLegal : Conduct → Journals → List (ℕ × Line) → Type 0
AreLegal conduct j lines =
    (w : World) (h : List Entry) → IsRun (setting_for j) lines w → NoClash (setting_for j) w → IsHistory (setting_for j) w h
    → Legal (setting_for j) h × InTime h

-- and each of its reads is sound without that
abbrev pub AreSound : Conduct → Journals → List (ℕ × Line) → Type 0
AreSound conduct j lines =
    (w : World) (h : List Entry) (e : Entry) → IsRun (setting_for j) lines w → IsHistory (setting_for j) w h
    → Contains h e → e.kind ≡ Read → Sound (setting_for j) e.stamp e.value

-- the line of each entry of kept journals is one of their configuration
abbrev pub AllFit : Type 0
AllFit =
    (conduct : Conduct) (j : Journals) → IsCluster j.config (has_number j.liars.nodes) → AreKept conduct j → PairsAgree j
    → (n : ℕ) (e : Step) → IsEntry j n e → (k : ℕ) → FitsLine (setting_for j) (line_of (setting_for j) k e)

-- what a node does with an ask to it goes by its rules, and is the node's side of a call whose caller hears its answer
abbrev pub CallsGo : Type 0
CallsGo =
    (nature : Nature) (s : NodeState) (way : Way) (ask : Message) → IsAskTo (setting s.node.config) s.node.number ask
    → IsAct nature s (act s nature way ask) × (side (act s nature way ask) ≡ Some (ask.client, Call way ask (reply_in (answer_of (act s nature way ask)))))

-- and so does what it does with the oldest of its late mail, and a prune; neither has a caller
abbrev pub LateActsGo : Type 0
LateActsGo =
    (nature : Nature) (s : NodeState) (ask : Message) → IsAskTo (setting s.node.config) s.node.number ask → IsOldest s.late ask
    → IsAct nature s (late_act s nature ask) × (side (late_act s nature ask) ≡ None)

abbrev pub PrunesGo : Type 0
PrunesGo =
    (nature : Nature) (s : NodeState) (block : ℕ) (stamp : Stamp) → can_prune s nature ≡ true → block < s.node.config.blocks
    → IsAct nature s (Pruned block stamp)

-- two lists of lines of one set of journals are equal
abbrev pub AreOnce : Type 0
AreOnce = (j : Journals) (one other : List (ℕ × Line)) → IsMerge j one → IsMerge j other → one ≡ other

-- the entries of the journals stand in one order by number
abbrev pub AreOrdered : Type 0
AreOrdered = (conduct : Conduct) (j : Journals) → AreOfRun conduct j → (es : List (ℕ × Step)) × InOrder j es
