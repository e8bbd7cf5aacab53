-- What an act tells of the node that did it, and what it leaves as it was.
use Rattle.std.proofs.Common.{◌≡◌, ℕ, Bool, true, false, cond, List, length, Option, refl, sym, ◌∙◌, ap}
use Rattle.std.specs.Prelude.{not}
use Rattle.std.specs.declared.option.Option.TheVariants.{None, Some}
use Rattle.std.proofs.lemmas.List.{length-set}
use Rattle.quorum_rules.specs.Limits.{Numbers}
use Rattle.protocol.specs.Messages.{Message, Body, Reply, Version, IsFormedReply}
use Rattle.wire_forms.specs.declared.message.Body.TheVariants.{Ask as Asks, Answer as Answers}
use Rattle.protocol.specs.Lines.{Rule}
use Rattle.protocol.specs.Nodes.{pruned}
use Rattle.protocol.specs.Instance.{setting}
use Rattle.node_core.specs.Seen.{SeenNode, with_versions, versions_in, after_of}
use Rattle.liar_rules.specs.Answers.{answer_to, replied}
use Rattle.journals.specs.Acts.{NodeAct, Nature, Silence, NodeState, act, late_act, answers, handles, lied, true_answer, is_spent, one_less, can_prune, after, served, held_back}
use Rattle.journals.specs.Steps.{is_lying}
use Rattle.journals.specs.declared.desk.Way.TheVariants.{Call}
use Rattle.journals.specs.declared.node.Nature.TheVariants.{Honest, Lying as Lies}
use Rattle.journals.specs.declared.node.Silence.TheVariants.{Crashed, Dropped, Held, Lying}
use Rattle.journals.specs.declared.node.NodeAct.TheVariants.{Answered, Lied, Silent, CrashedAt, Delivered, LateLost, Pruned}

-- a node that hasn't crashed and doesn't lie
pub record IsUpright (s : NodeState) (nature : Nature) : Type 0 where
  pub honest : is_lying nature ≡ false
  pub up : s.crashed ≡ false

module _ (s : NodeState) where
  not_lied : (ask reply m : Message) (o : Option Message) → Answered ask reply ≡ lied m o → ⊥
  not_lied ask reply m None e = absurd (cc)
  not_lied ask reply m (Some r) e = absurd (cc)

  pub answered_truly : (nature : Nature) (ask reply : Message) → Answered ask reply ≡ act s nature Call ask → IsUpright s nature × (reply ≡ true_answer s.node ask ask.body)
  answered_truly nature ask reply e = at s.crashed (is_spent s.crash_after) refl nature e
    where
      at : (c spent : Bool) → s.crashed ≡ c → (n : Nature) → Answered ask reply ≡ cond c (Silent ask Crashed) (cond spent (CrashedAt ask false) (answers s n ask)) → IsUpright s n × (reply ≡ true_answer s.node ask ask.body)
      at true spent up n h = absurd (cc)
      at false true up n h = absurd (cc)
      at false false up Honest h = (record { honest = refl; up = up }, cc)
      at false false up (Lies rule) h = absurd (not_lied ask reply ask (answer_to s.node.config rule ask ask.body) h)

  lied_is : (ask reply m : Message) (o : Option Message) → Lied ask reply ≡ lied m o → o ≡ Some reply
  lied_is ask reply m None e = absurd (cc)
  lied_is ask reply m (Some r) e = let q : reply ≡ r = cc in ap (λ x. Some x) (sym q)

  pub told_lie : (nature : Nature) (ask reply : Message) → Lied ask reply ≡ act s nature Call ask → (is_lying nature ≡ true) × (rule : Rule) × (answer_to s.node.config rule ask ask.body ≡ Some reply)
  told_lie nature ask reply e = at s.crashed (is_spent s.crash_after) nature e
    where
      at : (c spent : Bool) (n : Nature) → Lied ask reply ≡ cond c (Silent ask Crashed) (cond spent (CrashedAt ask false) (answers s n ask)) → (is_lying n ≡ true) × (rule : Rule) × (answer_to s.node.config rule ask ask.body ≡ Some reply)
      at true spent n h = absurd (cc)
      at false true n h = absurd (cc)
      at false false Honest h = absurd (cc)
      at false false (Lies rule) h = (refl, rule, lied_is ask reply ask (answer_to s.node.config rule ask ask.body) h)

  not_crashed : (ask m : Message) (late : Bool) (o : Option Message) → CrashedAt ask late ≡ lied m o → ⊥
  not_crashed ask m late None e = absurd (cc)
  not_crashed ask m late (Some r) e = absurd (cc)

  pub crashed_called : (nature : Nature) (ask : Message) → CrashedAt ask false ≡ act s nature Call ask → (s.crashed ≡ false) × (is_spent s.crash_after ≡ true)
  crashed_called nature ask e = at s.crashed (is_spent s.crash_after) refl refl nature e
    where
      at : (c spent : Bool) → s.crashed ≡ c → is_spent s.crash_after ≡ spent → (n : Nature) → CrashedAt ask false ≡ cond c (Silent ask Crashed) (cond spent (CrashedAt ask false) (answers s n ask)) → (s.crashed ≡ false) × (is_spent s.crash_after ≡ true)
      at true spent up used n h = absurd (cc)
      at false true up used n h = (up, used)
      at false false up used Honest h = absurd (cc)
      at false false up used (Lies rule) h = absurd (not_crashed ask ask false (answer_to s.node.config rule ask ask.body) h)

  pub crashed_late : (nature : Nature) (ask : Message) → CrashedAt ask true ≡ late_act s nature ask → (s.crashed ≡ false) × (is_spent s.crash_after ≡ true)
  crashed_late nature ask e = at s.crashed (is_spent s.crash_after) refl refl nature e
    where
      at : (c spent : Bool) → s.crashed ≡ c → is_spent s.crash_after ≡ spent → (n : Nature) → CrashedAt ask true ≡ cond c (LateLost ask) (cond spent (CrashedAt ask true) (handles s n ask)) → (s.crashed ≡ false) × (is_spent s.crash_after ≡ true)
      at true spent up used n h = absurd (cc)
      at false true up used n h = (up, used)
      at false false up used Honest h = absurd (cc)
      at false false up used (Lies rule) h = absurd (cc)

  pub delivered_truly : (nature : Nature) (ask reply : Message) → Delivered ask reply ≡ late_act s nature ask → IsUpright s nature × (reply ≡ true_answer s.node ask ask.body)
  delivered_truly nature ask reply e = at s.crashed (is_spent s.crash_after) refl nature e
    where
      at : (c spent : Bool) → s.crashed ≡ c → (n : Nature) → Delivered ask reply ≡ cond c (LateLost ask) (cond spent (CrashedAt ask true) (handles s n ask)) → IsUpright s n × (reply ≡ true_answer s.node ask ask.body)
      at true spent up n h = absurd (cc)
      at false true up n h = absurd (cc)
      at false false up Honest h = (record { honest = refl; up = up }, cc)
      at false false up (Lies rule) h = absurd (cc)

  pub can_prune_upright : (nature : Nature) → can_prune s nature ≡ true → IsUpright s nature
  can_prune_upright Honest e = record { honest = refl; up = up s.crashed e }
    where
      up : (c : Bool) → not c ≡ true → c ≡ false
      up true h = absurd (cc)
      up false h = refl
  can_prune_upright (Lies rule) e = absurd (cc)

-- a lie goes to the ask's client in the node's name, and is formed
pub record IsLie (ask reply : Message) : Type 0 where
  pub client : reply.client ≡ ask.client
  pub node : reply.node ≡ ask.node
  pub told : Reply
  pub answers : reply.body ≡ Answers told
  pub formed : IsFormedReply told

pub lie_is : (ask reply : Message) (o : Option Reply) → ((told : Reply) → o ≡ Some told → IsFormedReply told) → replied ask o ≡ Some reply → IsLie ask reply
lie_is ask reply None f e = absurd (cc)
lie_is ask reply (Some told) f e =
    let q : record { client = ask.client; node = ask.node; tag = ask.tag; body = Answers told } ≡ reply = cc in
    record { client = ap (λ (m : Message). m.client) (sym q); node = ap (λ (m : Message). m.node) (sym q); told = told; answers = ap (λ (m : Message). m.body) (sym q); formed = f told refl }

-- ---- what an act leaves as it was

-- the node is that of this number in this cluster, and it has versions of each block
pub record IsOf (c : Numbers) (i : ℕ) (node : SeenNode) : Type 0 where
  pub config : node.config ≡ c
  pub number : node.number ≡ i
  pub count : length node.blocks ≡ c.blocks

with_versions_of : (c : Numbers) (i : ℕ) (node : SeenNode) (block : ℕ) (vs : List Version) → IsOf c i node → IsOf c i (with_versions node block vs)
with_versions_of c i node block vs h = record { config = h.config; number = h.number; count = length-set node.blocks block vs ∙ h.count }

served_of : (c : Numbers) (i : ℕ) (node : SeenNode) (body : Body) → IsOf c i node → IsOf c i (served node body)
served_of c i node (Asks ask) h = with_versions_of c i node ask.block (after_of node ask) h
served_of c i node (Answers reply) h = h

held_of : (c : Numbers) (i : ℕ) (s : NodeState) (ask : Message) (why : Silence) → IsOf c i s.node → IsOf c i (held_back s ask why).node
held_of c i s ask Held h = h
held_of c i s ask Crashed h = h
held_of c i s ask Dropped h = h
held_of c i s ask Lying h = h

pub after_is_of : (c : Numbers) (i : ℕ) (s : NodeState) (a : NodeAct) → IsOf c i s.node → IsOf c i (after s a).node
after_is_of c i s (Answered ask reply) h = served_of c i s.node ask.body h
after_is_of c i s (Lied ask reply) h = h
after_is_of c i s (Silent ask why) h = held_of c i s ask why h
after_is_of c i s (CrashedAt ask late) h = h
after_is_of c i s (Delivered ask reply) h = served_of c i s.node ask.body h
after_is_of c i s (LateLost ask) h = h
after_is_of c i s (Pruned block stamp) h = with_versions_of c i s.node block (pruned (setting s.node.config) stamp (versions_in s.node block)) h

held_lasts : (s : NodeState) (ask : Message) (why : Silence) → s.crash_after ≡ None → (held_back s ask why).crash_after ≡ None
held_lasts s ask Held h = h
held_lasts s ask Crashed h = h
held_lasts s ask Dropped h = h
held_lasts s ask Lying h = h

pub after_lasts : (s : NodeState) (a : NodeAct) → s.crash_after ≡ None → (after s a).crash_after ≡ None
after_lasts s (Answered ask reply) h = ap one_less h
after_lasts s (Lied ask reply) h = h
after_lasts s (Silent ask why) h = held_lasts s ask why h
after_lasts s (CrashedAt ask late) h = h
after_lasts s (Delivered ask reply) h = ap one_less h
after_lasts s (LateLost ask) h = h
after_lasts s (Pruned block stamp) h = h
