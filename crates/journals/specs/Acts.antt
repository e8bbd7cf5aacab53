-- What a node does when an ask comes, when a held ask comes late, and when it prunes; what it is then, and what the caller hears.
use Rattle.std.specs.Prelude.{◌≡◌, ℕ, ◌-◌, ◌<◌, ◌==◌, Bool, true, false, if◌then◌else◌, not, List, [], ◌∷◌, ◌++◌, drop, Option}
use Rattle.std.specs.declared.option.Option.TheVariants.{None, Some}
use Rattle.quorum_rules.specs.Limits.{Numbers}
use Rattle.protocol.specs.Messages.{Stamp, Message, Body, with_reply}
use Rattle.wire_forms.specs.declared.message.Body.TheVariants.{Ask as Asks, Answer as Answers}
use Rattle.protocol.specs.World.{IsAskTo}
use Rattle.protocol.specs.Nodes.{pruned}
use Rattle.protocol.specs.Instance.{setting}
use Rattle.node_core.specs.Seen.{SeenNode, new_node, with_versions, versions_in, reply_of, after_of}
use Rattle.liar_rules.specs.Answers.{answer_to}
use Rattle.journals.specs.declared.desk.Way.{Way}
use Rattle.journals.specs.declared.desk.Way.TheVariants.{Call, Lose, Hold}
pub use Rattle.journals.specs.declared.node.Nature.{Nature}
use Rattle.journals.specs.declared.node.Nature.TheVariants.{Honest, Lying as Lies}
pub use Rattle.journals.specs.declared.node.Silence.{Silence}
use Rattle.journals.specs.declared.node.Silence.TheVariants.{Crashed, Dropped, Held, Lying}
pub use Rattle.journals.specs.declared.node.Answer.{Answer}
use Rattle.journals.specs.declared.node.Answer.TheVariants.{Reply as Replies, Nothing}
pub use Rattle.journals.specs.declared.node.NodeAct.{NodeAct}
use Rattle.journals.specs.declared.node.NodeAct.TheVariants.{Answered, Lied, Silent, CrashedAt, Delivered, LateLost, Pruned}
pub use Rattle.journals.specs.declared.node.NodeEntry.{NodeEntry}

-- a node at one moment: its versions; the held asks that haven't come again, oldest first; how many asks it still serves before
-- it crashes, if it is to crash; whether it has crashed
pub record NodeState : Type 0 where
  pub node : SeenNode
  pub late : List Message
  pub crash_after : Option ℕ
  pub crashed : Bool

-- a node that has done nothing
abbrev pub new_state : Numbers → ℕ → Option ℕ → NodeState
new_state config number crash_after = record { node = new_node config number; late = []; crash_after = crash_after; crashed = false }

-- what a node that doesn't lie answers
abbrev pub true_answer : SeenNode → Message → Body → Message
true_answer node m (Asks ask) = with_reply m (reply_of node ask)
true_answer node m (Answers reply) = m

-- the node after it handled the ask
abbrev pub served : SeenNode → Body → SeenNode
served node (Asks ask) = with_versions node ask.block (after_of node ask)
served node (Answers reply) = node

-- the node after it pruned the block by the stamp
abbrev pub pruned_node : SeenNode → ℕ → Stamp → SeenNode
pruned_node node block stamp = with_versions node block (pruned (setting node.config) stamp (versions_in node block))

-- the count is used up
abbrev pub is_spent : Option ℕ → Bool
is_spent None = false
is_spent (Some n) = n == 0

-- the count after one more ask
abbrev pub one_less : Option ℕ → Option ℕ
one_less None = None
one_less (Some n) = Some (n - 1)

-- a liar that tells nothing is silent
abbrev pub lied : Message → Option Message → NodeAct
lied ask None = Silent ask Lying
lied ask (Some reply) = Lied ask reply

module _ (s : NodeState) where
  -- what a node does with an ask: before a crash it answers, by its nature
  abbrev pub answers : Nature → Message → NodeAct
  answers Honest ask = Answered ask (true_answer s.node ask ask.body)
  answers (Lies rule) ask = lied ask (answer_to s.node.config rule ask ask.body)

  -- and with one that comes late: before a crash it handles it, unless it lies
  abbrev pub handles : Nature → Message → NodeAct
  handles Honest ask = Delivered ask (true_answer s.node ask ask.body)
  handles (Lies rule) ask = LateLost ask

  -- what a node does with an ask that comes this way; the call that comes when its count is used up crashes it
  abbrev pub act : Nature → Way → Message → NodeAct
  act nature Call ask = if s.crashed then Silent ask Crashed else (if is_spent s.crash_after then CrashedAt ask false else answers nature ask)
  act nature Lose ask = Silent ask Dropped
  act nature Hold ask = Silent ask Held

  -- what a node does with a held ask that comes late
  abbrev pub late_act : Nature → Message → NodeAct
  late_act nature ask = if s.crashed then LateLost ask else (if is_spent s.crash_after then CrashedAt ask true else handles nature ask)

  -- a node that neither lies nor has crashed prunes
  abbrev pub can_prune : Nature → Bool
  can_prune Honest = not s.crashed
  can_prune (Lies rule) = false

-- an ask that is held joins the late mail
abbrev pub held_back : NodeState → Message → Silence → NodeState
held_back s ask Held = record s { late = s.late ++ ask ∷ [] }
held_back s ask Crashed = s
held_back s ask Dropped = s
held_back s ask Lying = s

-- the node after an act: an answer and a late delivery handle the ask and count, a prune prunes, a crash lasts, and what came late is late no more
abbrev pub after : NodeState → NodeAct → NodeState
after s (Answered ask reply) = record s { node = served s.node ask.body; crash_after = one_less s.crash_after }
after s (Lied ask reply) = s
after s (Silent ask why) = held_back s ask why
after s (CrashedAt ask late) = record s { late = if late then drop 1 s.late else s.late; crashed = true }
after s (Delivered ask reply) = record s { node = served s.node ask.body; late = drop 1 s.late; crash_after = one_less s.crash_after }
after s (LateLost ask) = record s { late = drop 1 s.late }
after s (Pruned block stamp) = record s { node = pruned_node s.node block stamp }

-- what the caller of a node hears of an act; late acts and prunes have no caller
abbrev pub answer_of : NodeAct → Answer
answer_of (Answered ask reply) = Replies reply
answer_of (Lied ask reply) = Replies reply
answer_of (Silent ask why) = Nothing why
answer_of (CrashedAt ask late) = Nothing Crashed
answer_of (Delivered ask reply) = Nothing Held
answer_of (LateLost ask) = Nothing Crashed
answer_of (Pruned block stamp) = Nothing Crashed

-- the reply that the caller hears, if it hears one
abbrev pub reply_in : Answer → Option Message
reply_in (Replies reply) = Some reply
reply_in (Nothing why) = None

-- why a node acts: an ask comes by some way, a held ask comes late, or it is to prune
pub data Cause : Type 0 where
  Comes : Way → Message → Cause
  ComesLate : Message → Cause
  Prunes : ℕ → Stamp → Cause

-- the way of an ask that a node is silent to
abbrev pub way_of : Silence → Way
way_of Dropped = Lose
way_of Held = Hold
way_of Crashed = Call
way_of Lying = Call

-- why a node did this
abbrev pub cause_of : NodeAct → Cause
cause_of (Answered ask reply) = Comes Call ask
cause_of (Lied ask reply) = Comes Call ask
cause_of (Silent ask why) = Comes (way_of why) ask
cause_of (CrashedAt ask true) = ComesLate ask
cause_of (CrashedAt ask false) = Comes Call ask
cause_of (Delivered ask reply) = ComesLate ask
cause_of (LateLost ask) = ComesLate ask
cause_of (Pruned block stamp) = Prunes block stamp

-- the ask is the oldest of the late mail
abbrev pub IsOldest : List Message → Message → Type 0
IsOldest late ask = (rest : List Message) × (late ≡ ask ∷ rest)

module _ (nature : Nature) where
  -- what a node does, by its cause
  abbrev pub act_by : NodeState → Cause → NodeAct
  act_by s (Comes way ask) = act s nature way ask
  act_by s (ComesLate ask) = late_act s nature ask
  act_by s (Prunes block stamp) = Pruned block stamp

  -- what may come: an ask to this node, the oldest of its late mail, a prune of a block that there is
  abbrev pub MayCome : NodeState → Cause → Type 0
  MayCome s (Comes way ask) = IsAskTo (setting s.node.config) s.node.number ask
  MayCome s (ComesLate ask) = IsAskTo (setting s.node.config) s.node.number ask × IsOldest s.late ask
  MayCome s (Prunes block stamp) = (can_prune s nature ≡ true) × (block < s.node.config.blocks)

  -- the act is what the node does by a cause that may come
  pub record IsAct (s : NodeState) (a : NodeAct) : Type 0 where
    pub comes : MayCome s (cause_of a)
    pub done : a ≡ act_by s (cause_of a)

  -- each entry is an act of the node that the earlier ones leave
  abbrev pub NodeKept : NodeState → List NodeEntry → Type 0
  NodeKept s [] = Unit {0}
  NodeKept s (e ∷ es) = IsAct s e.act × NodeKept (after s e.act) es

-- the node after these entries
abbrev pub after_all : NodeState → List NodeEntry → NodeState
after_all s [] = s
after_all s (e ∷ es) = after_all (after s e.act) es
