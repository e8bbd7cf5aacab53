-- Why a node does what it does: what it does with an ask came by the ask's way, and with a held ask, late. Neither is a prune.
use Rattle.std.proofs.Common.{◌≡◌, ℕ, Bool, true, false, cond, refl, sym, subst}
use Rattle.std.specs.Prelude.{Option}
use Rattle.std.specs.declared.option.Option.TheVariants.{None, Some}
use Rattle.protocol.specs.Messages.{Message}
use Rattle.liar_rules.specs.Answers.{answer_to}
use Rattle.journals.specs.declared.desk.Way.{Way}
use Rattle.journals.specs.declared.desk.Way.TheVariants.{Call, Lose, Hold}
use Rattle.journals.specs.declared.node.Nature.{Nature}
use Rattle.journals.specs.declared.node.Nature.TheVariants.{Honest, Lying as Lies}
use Rattle.journals.specs.declared.node.Silence.TheVariants.{Crashed}
use Rattle.journals.specs.declared.node.NodeAct.{NodeAct}
use Rattle.journals.specs.declared.node.NodeAct.TheVariants.{Answered, Lied, Silent, CrashedAt, Delivered, LateLost, Pruned}
use Rattle.journals.specs.Acts.{NodeState, cause_of, act, late_act, answers, handles, lied, is_spent}
use Rattle.journals.specs.Acts.Cause.{Comes, ComesLate}
use Rattle.locked_nodes.specs.Cells.{IsShare, IsWhole, IsOfShard, ComesTo, IsPrune}

lied_cause : (ask : Message) (o : Option Message) → cause_of (lied ask o) ≡ Comes Call ask
lied_cause ask None = refl
lied_cause ask (Some reply) = refl

module _ (nature : Nature) (s : NodeState) (ask : Message) where
  act_cause : (way : Way) → cause_of (act s nature way ask) ≡ Comes way ask
  act_cause Lose = refl
  act_cause Hold = refl
  act_cause Call = at s.crashed (is_spent s.crash_after) nature
    where
      at : (crashed spent : Bool) (n : Nature) → cause_of (cond crashed (Silent ask Crashed) (cond spent (CrashedAt ask false) (answers s n ask))) ≡ Comes Call ask
      at true spent n = refl
      at false true n = refl
      at false false Honest = refl
      at false false (Lies rule) = lied_cause ask (answer_to s.node.config rule ask ask.body)

  late_cause : cause_of (late_act s nature ask) ≡ ComesLate ask
  late_cause = at s.crashed (is_spent s.crash_after) nature
    where
      at : (crashed spent : Bool) (n : Nature) → cause_of (cond crashed (LateLost ask) (cond spent (CrashedAt ask true) (handles s n ask))) ≡ ComesLate ask
      at true spent n = refl
      at false true n = refl
      at false false Honest = refl
      at false false (Lies rule) = refl

comes_no_prune : (a : NodeAct) (way : Way) (ask : Message) → cause_of a ≡ Comes way ask → IsPrune a → ⊥
comes_no_prune (Answered m reply) way ask e is = is
comes_no_prune (Lied m reply) way ask e is = is
comes_no_prune (Silent m why) way ask e is = is
comes_no_prune (CrashedAt m late) way ask e is = is
comes_no_prune (Delivered m reply) way ask e is = is
comes_no_prune (LateLost m) way ask e is = is
comes_no_prune (Pruned block stamp) way ask e is = absurd (cc)

late_no_prune : (a : NodeAct) (ask : Message) → cause_of a ≡ ComesLate ask → IsPrune a → ⊥
late_no_prune (Answered m reply) ask e is = is
late_no_prune (Lied m reply) ask e is = is
late_no_prune (Silent m why) ask e is = is
late_no_prune (CrashedAt m late) ask e is = is
late_no_prune (Delivered m reply) ask e is = is
late_no_prune (LateLost m) ask e is = is
late_no_prune (Pruned block stamp) ask e is = absurd (cc)

module _ (nature : Nature) (s : NodeState) (ask : Message) where
  pub act_prunes_not : (way : Way) → IsPrune (act s nature way ask) → ⊥
  act_prunes_not way is = comes_no_prune (act s nature way ask) way ask (act_cause nature s ask way) is

  pub late_act_prunes_not : IsPrune (late_act s nature ask) → ⊥
  late_act_prunes_not is = late_no_prune (late_act s nature ask) ask (late_cause nature s ask) is

  pub act_share : (shard shards : ℕ) (way : Way) → IsShare shard shards ask.body → IsWhole shards way → IsOfShard shard shards (act s nature way ask)
  act_share shard shards way share whole = subst (ComesTo shard shards) (sym (act_cause nature s ask way)) (share, whole)

  pub late_act_share : (shard shards : ℕ) → IsShare shard shards ask.body → IsOfShard shard shards (late_act s nature ask)
  late_act_share shard shards share = subst (ComesTo shard shards) (sym (late_cause nature s ask)) share
