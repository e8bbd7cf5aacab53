-- What a node does goes by its rules.
use Rattle.std.proofs.Common.{◌≡◌, Bool, true, false, cond, Option, refl, sym, ap, subst}
use Rattle.std.specs.declared.option.Option.TheVariants.{None, Some}
use Rattle.protocol.specs.Messages.{Message}
use Rattle.liar_rules.specs.Answers.{answer_to}
use Rattle.journals.specs.declared.desk.DeskAct.TheVariants.{Call as CallAct}
use Rattle.journals.specs.declared.desk.Way.{Way}
use Rattle.journals.specs.declared.desk.Way.TheVariants.{Call, Lose, Hold}
use Rattle.journals.specs.declared.node.Nature.TheVariants.{Honest, Lying as Lies}
use Rattle.journals.specs.declared.node.Silence.TheVariants.{Crashed}
use Rattle.journals.specs.declared.node.NodeAct.TheVariants.{Silent, CrashedAt, LateLost}
use Rattle.journals.specs.Acts.{NodeAct, Nature, NodeState, cause_of, act, late_act, answers, handles, lied, is_spent, answer_of, reply_in, act_by, MayCome}
use Rattle.journals.specs.Acts.Cause.{Comes, ComesLate}
use Rattle.journals.specs.Steps.{side}
use Rattle.journals.specs.Merged.{CallsGo, LateActsGo, PrunesGo}

-- the act came of this cause, and is what its caller heard
record IsCalled (way : Way) (ask : Message) (a : NodeAct) : Type 0 where
  cause : cause_of a ≡ Comes way ask
  told : side a ≡ Some (ask.client, CallAct way ask (reply_in (answer_of a)))

lied_called : (ask : Message) (o : Option Message) → IsCalled Call ask (lied ask o)
lied_called ask None = record { cause = refl; told = refl }
lied_called ask (Some reply) = record { cause = refl; told = refl }

module _ (nature : Nature) (s : NodeState) where
  called : (way : Way) (ask : Message) → IsCalled way ask (act s nature way ask)
  called Lose ask = record { cause = refl; told = refl }
  called Hold ask = record { cause = refl; told = refl }
  called Call ask = at s.crashed (is_spent s.crash_after) nature
    where
      at : (crashed spent : Bool) (n : Nature) → IsCalled Call ask (cond crashed (Silent ask Crashed) (cond spent (CrashedAt ask false) (answers s n ask)))
      at true spent n = record { cause = refl; told = refl }
      at false true n = record { cause = refl; told = refl }
      at false false Honest = record { cause = refl; told = refl }
      at false false (Lies rule) = lied_called ask (answer_to s.node.config rule ask ask.body)

  came_late : (ask : Message) → (cause_of (late_act s nature ask) ≡ ComesLate ask) × (side (late_act s nature ask) ≡ None)
  came_late ask = at s.crashed (is_spent s.crash_after) nature
    where
      at : (crashed spent : Bool) (n : Nature) → (cause_of (cond crashed (LateLost ask) (cond spent (CrashedAt ask true) (handles s n ask))) ≡ ComesLate ask) × (side (cond crashed (LateLost ask) (cond spent (CrashedAt ask true) (handles s n ask))) ≡ None)
      at true spent n = (refl, refl)
      at false true n = (refl, refl)
      at false false Honest = (refl, refl)
      at false false (Lies rule) = (refl, refl)

pub calls_go : CallsGo
calls_go nature s way ask to =
    let q = called nature s way ask in
    (record { comes = subst (MayCome nature s) (sym q.cause) to; done = ap (act_by nature s) (sym q.cause) }, q.told)

pub late_acts_go : LateActsGo
late_acts_go nature s ask to oldest =
    let q = came_late nature s ask in
    (record { comes = subst (MayCome nature s) (sym q.0) (to, oldest); done = ap (act_by nature s) (sym q.0) }, q.1)

pub prunes_go : PrunesGo
prunes_go nature s block stamp may there = record { comes = (may, there); done = refl }
