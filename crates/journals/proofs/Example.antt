-- Journals of a cluster of one node that are kept, agree and are numbered; and each fact of them broken once.
use Rattle.std.proofs.Common.{◌≡◌, ℕ, true, false, List, [], ◌∷◌, map, Option, refl, ap, arith}
use Rattle.std.specs.declared.option.Option.TheVariants.{None, Some}
use Rattle.quorum_rules.specs.Limits.{Numbers}
use Rattle.quorum_rules.specs.declared.Edition.TheVariants.{One}
use Rattle.wire_forms.specs.declared.message.Message.{Message}
use Rattle.wire_forms.specs.declared.Body.{Body}
use Rattle.wire_forms.specs.declared.op.Op.TheVariants.{Read as ReadOp, Write as WriteOp}
use Rattle.wire_forms.specs.declared.Body.TheVariants.{Ask as Asks, Answer as Answers}
use Rattle.wire_forms.specs.declared.Request.TheVariants.{Time}
use Rattle.wire_forms.specs.declared.Reply.TheVariants.{TimeIs}
use Rattle.wire_forms.specs.declared.rule.Rule.TheVariants.{Silent as SilentRule, Old}
use Rattle.wire_forms.specs.Liars.{has_number}
use Rattle.protocol.specs.Setting.{Setting, first_stamp}
use Rattle.protocol.specs.Instance.{setting_of}
use Rattle.protocol.specs.Lines.{Line}
use Rattle.run_words.specs.declared.line.Line.TheVariants.{Write, Read, Call as Calls, Give, Lost, CrashNode, CrashClient, Tell, Poke, Prune}
use Rattle.protocol.specs.Report.{Ascend}
use Rattle.journals.specs.declared.node.NodeAct.TheVariants.{Answered, Lied, Silent, CrashedAt, Delivered, LateLost, Pruned}
use Rattle.journals.specs.declared.node.Nature.TheVariants.{Honest, Lying as Lies}
use Rattle.journals.specs.declared.node.Silence.TheVariants.{Crashed, Dropped, Held, Lying}
use Rattle.journals.specs.declared.desk.DeskAct.TheVariants.{Start, Crash, Call}
use Rattle.journals.specs.declared.desk.Way.TheVariants.{Call as ByCall, Lose as ByLose, Hold as ByHold}
use Rattle.journals.specs.Acts.{NodeAct, NodeEntry, NodeState, new_state, act, late_act, after, after_all, can_prune, IsAct, NodeKept}
use Rattle.journals.specs.Desks.{DeskEntry, new_desk, desk_after_all, DeskKept}
use Rattle.journals.specs.Steps.{side}
use Rattle.journals.specs.Steps.Step.{AtNode, AtDesk}
use Rattle.journals.specs.Merging.{line_of}
use Rattle.journals.proofs.lemmas.Acting.{answered_truly}

abbrev one : Numbers
one = record { edition = One; n = 1; t = 0; b = 0; qc = 1; m = 1; size = 1; blocks = 1 }

abbrev ask : Message
ask = record { client = 1; node = 0; tag = record { op = 1; phase = 1 }; body = Asks (record { block = 0; request = Time }) }

abbrev answer : Message
answer = record { client = 1; node = 0; tag = record { op = 1; phase = 1 }; body = Answers (TimeIs 0) }

abbrev other_answer : Message
other_answer = record { client = 1; node = 0; tag = record { op = 1; phase = 1 }; body = Answers (TimeIs 7) }

-- a node of no crash, and one that serves one ask
abbrev lasting : NodeState
lasting = new_state one 0 None

abbrev of_one : NodeState
of_one = new_state one 0 (Some 1)

-- ---- a write whose first ask is held back, asked again and answered, and delivered after the client's crash
abbrev of_node : List NodeEntry
of_node = record { number = 1; act = Silent ask Held } ∷ record { number = 2; act = Answered ask answer } ∷ record { number = 4; act = Delivered ask answer } ∷ []

abbrev of_desk : List DeskEntry
of_desk = record { number = 0; act = Start (WriteOp 0 (7 ∷ [])) } ∷ record { number = 1; act = Call ByHold ask None } ∷ record { number = 2; act = Call ByCall ask (Some answer) } ∷ record { number = 3; act = Crash } ∷ []

node_kept : NodeKept Honest lasting of_node
node_kept = (
  record { comes = (refl, record { block = 0; request = Time }, refl); done = refl },
  (
    record { comes = (refl, record { block = 0; request = Time }, refl); done = refl },
    (record { comes = ((refl, record { block = 0; request = Time }, refl), ([], refl)); done = refl }, tt),
  ),
)

desk_kept : DeskKept false (new_desk one 1) of_desk
desk_kept = (
  (refl, record { idle = refl; fresh = omega arith; fits = record { block = omega arith; fits = (refl, (omega arith, tt)) } }),
  ((refl, record { outstanding = refl; unanswered = refl }), ((refl, record { outstanding = refl; unanswered = refl }), (refl, tt))),
)

-- after them nothing is late, one operation is under way, and none has ended
nothing_late : (after_all lasting of_node).late ≡ []
nothing_late = refl

none_ended : (desk_after_all (new_desk one 1) of_desk).ended ≡ []
none_ended = refl

-- ---- broken once each

-- another reply than the node's versions give
time_in : Body → ℕ
time_in (Answers (TimeIs time)) = time
time_in _ = 0

not_the_reply : IsAct Honest lasting (Answered ask other_answer) → ⊥
unfolding time_in
not_the_reply h = absurd (let p : ◌≡◌ {A = ℕ} 7 0 = ap (λ (m : Message). time_in m.body) (answered_truly lasting Honest ask other_answer h.done).1 in omega (arith, p))

-- silence for a crash of a node that is up
not_crashed : IsAct Honest lasting (Silent ask Crashed) → ⊥
not_crashed h = absurd (let q : ◌≡◌ {A = NodeAct} (Silent ask Crashed) (Answered ask answer) = h.done in cc)

-- a late delivery of what wasn't held
not_held : IsAct Honest lasting (Delivered ask answer) → ⊥
not_held h = absurd (let q : ◌≡◌ {A = List Message} [] (ask ∷ h.comes.1.0) = h.comes.1.1 in cc)

-- an answer where the count of asks is used up: the node crashes
crashes : act (after of_one (Answered ask answer)) Honest ByCall ask ≡ CrashedAt ask false
crashes = refl

-- and what is held then is lost
loses : late_act (after (after of_one (Answered ask answer)) (CrashedAt ask false)) Honest ask ≡ LateLost ask
loses = refl

-- an honest answer of a liar, and a prune of one
lies : act lasting (Lies Old) ByCall ask ≡ Lied ask answer
lies = refl

is_silent : act lasting (Lies SilentRule) ByCall ask ≡ Silent ask Lying
is_silent = refl

never_prunes : can_prune lasting (Lies Old) ≡ false
never_prunes = refl

-- a drop and a hold reach no node, whatever it is
drops : act of_one (Lies Old) ByLose ask ≡ Silent ask Dropped
drops = refl

holds : (after of_one (act of_one Honest ByHold ask)).late ≡ ask ∷ []
holds = refl

-- a call before a start
not_started : DeskKept false (new_desk one 1) (record { number = 1; act = Call ByCall ask None } ∷ []) → ⊥
not_started h = absurd (let q : ◌≡◌ {A = Option Message} None (Some ask) = h.0.1.outstanding in cc)

-- a crash after a crash
no_second_crash : DeskKept false (desk_after_all (new_desk one 1) of_desk) (record { number = 5; act = Crash } ∷ []) → ⊥
no_second_crash h = absurd (let q : true ≡ false = h.0 in cc)

-- a start by a lying client
not_liars : DeskKept true (new_desk one 1) (record { number = 0; act = Start (WriteOp 0 (7 ∷ [])) } ∷ []) → ⊥
not_liars h = h.0

-- numbers that don't ascend
not_ascending : Ascend (2 ∷ 2 ∷ []) → ⊥
not_ascending h = let l = h.0.0 in absurd (omega (arith, l))

-- the desk's side of a held ask is a hold with no reply, and a late crash has none
side_held : side (Silent ask Held) ≡ Some (1, Call ByHold ask None)
side_held = refl

side_late : side (CrashedAt ask true) ≡ None
side_late = refl

-- ---- the line of each kind of entry, where client 9 lies

abbrev liars : Setting
liars = setting_of one (has_number []) (has_number (9 ∷ []))

abbrev of_liar : Message
of_liar = record { client = 9; node = 0; tag = record { op = 0; phase = 0 }; body = Asks (record { block = 0; request = Time }) }

abbrev at_zero : NodeAct → Line
at_zero a = line_of liars 5 (AtNode 0 a)

lines : map at_zero (Answered ask answer ∷ Answered of_liar answer ∷ Lied ask answer ∷ Lied of_liar answer ∷ Silent ask Dropped ∷ LateLost ask ∷ CrashedAt ask true ∷ Delivered ask answer ∷ Pruned 0 (first_stamp liars) ∷ [])
    ≡ Calls 1 0 ∷ Poke of_liar ∷ Tell answer ∷ Lost 9 0 ∷ Lost 1 0 ∷ Lost 1 0 ∷ CrashNode 0 ∷ Give 0 5 ∷ Prune 0 0 ∷ []
lines = refl

own_lines : map (λ a. line_of liars 5 (AtDesk 1 a)) (Start (WriteOp 0 (7 ∷ [])) ∷ Start (ReadOp 0) ∷ Crash ∷ []) ≡ Write 1 0 (7 ∷ []) ∷ Read 1 0 ∷ CrashClient 1 ∷ []
own_lines = refl
