-- What no entry of a node's journal changes, and what the asks that are held back are.
use Rattle.std.proofs.Common.{◌≡◌, ℕ, true, false, List, [], ◌∷◌, refl, ◌∙◌, ap, sym}
use Rattle.std.specs.Prelude.{All}
use Rattle.std.proofs.lemmas.List.Elements.{All-head, All-tail, All-push, All-drop, All-weaker}
use Rattle.protocol.specs.Messages.{Message, Body, Ask, IsAsk}
use Rattle.wire_forms.specs.declared.message.Body.TheVariants.{Ask as Asks, Answer as Answers}
use Rattle.protocol.specs.World.{IsAskTo}
use Rattle.protocol.specs.Instance.{setting}
use Rattle.node_core.specs.Seen.{SeenNode}
use Rattle.journals.specs.declared.node.Silence.{Silence}
use Rattle.journals.specs.declared.node.Silence.TheVariants.{Crashed, Dropped, Held, Lying}
use Rattle.journals.specs.declared.node.NodeAct.{NodeAct}
use Rattle.journals.specs.declared.node.NodeAct.TheVariants.{Answered, Lied, Silent, CrashedAt, Delivered, LateLost, Pruned}
use Rattle.journals.specs.declared.node.NodeEntry.{NodeEntry}
use Rattle.journals.specs.Acts.{NodeState, after, after_all, held_back, served, IsAct, NodeKept}
use Rattle.locked_nodes.specs.declared.charter.Charter.{Charter}
use Rattle.locked_nodes.specs.Cells.{IsShare, IsOfShard, Serves}

-- no act changes whose node it is
served_keeps : (node : SeenNode) (body : Body) → ((served node body).config ≡ node.config) × ((served node body).number ≡ node.number)
served_keeps node (Asks ask) = (refl, refl)
served_keeps node (Answers reply) = (refl, refl)

held_keeps : (s : NodeState) (ask : Message) (why : Silence) → (held_back s ask why).node ≡ s.node
held_keeps s ask Crashed = refl
held_keeps s ask Dropped = refl
held_keeps s ask Held = refl
held_keeps s ask Lying = refl

after_keeps : (s : NodeState) (a : NodeAct) → ((after s a).node.config ≡ s.node.config) × ((after s a).node.number ≡ s.node.number)
after_keeps s (Answered ask reply) = served_keeps s.node ask.body
after_keeps s (Lied ask reply) = (refl, refl)
after_keeps s (Silent ask why) = (ap (λ n. n.config) (held_keeps s ask why), ap (λ n. n.number) (held_keeps s ask why))
after_keeps s (CrashedAt ask late) = (refl, refl)
after_keeps s (Delivered ask reply) = served_keeps s.node ask.body
after_keeps s (LateLost ask) = (refl, refl)
after_keeps s (Pruned block stamp) = (refl, refl)

pub after_all_keeps : (s : NodeState) (es : List NodeEntry) → ((after_all s es).node.config ≡ s.node.config) × ((after_all s es).node.number ≡ s.node.number)
after_all_keeps s [] = (refl, refl)
after_all_keeps s (e ∷ es) =
    let more = after_all_keeps (after s e.act) es in
    let one = after_keeps s e.act in
    (more.0 ∙ one.0, more.1 ∙ one.1)

-- what a cell serves is an ask to its node
asks : (shard shards : ℕ) (body : Body) → IsShare shard shards body → (ask : Ask) × (body ≡ Asks ask)
asks shard shards (Asks ask) is = (ask, refl)
asks shard shards (Answers reply) is = absurd is

pub is_ask : (shard shards : ℕ) (body : Body) → IsShare shard shards body → IsAsk body
is_ask shard shards (Asks ask) is = tt
is_ask shard shards (Answers reply) is = is

pub served_asks : (c : Charter) (s : NodeState) (m : Message) → s.node.number ≡ c.number → Serves c m → IsAskTo (setting s.node.config) s.node.number m
served_asks c s m own serves = let is = asks c.shard c.shards m.body serves.1 in (serves.0 ∙ sym own, is.0, is.1)

-- the asks that are held back are asks that the cell serves
held_serves : (c : Charter) (s : NodeState) (ask : Message) (why : Silence) → Serves c ask → All (Serves c) s.late → All (Serves c) (held_back s ask why).late
held_serves c s ask Crashed serves h = h
held_serves c s ask Dropped serves h = h
held_serves c s ask Held serves h = All-push (Serves c) s.late ask h serves
held_serves c s ask Lying serves h = h

after_serves : (c : Charter) (s : NodeState) (a : NodeAct) → s.node.number ≡ c.number → IsAct c.nature s a → IsOfShard c.shard c.shards a → All (Serves c) s.late → All (Serves c) (after s a).late
after_serves c s (Answered ask reply) own is share h = h
after_serves c s (Lied ask reply) own is share h = h
after_serves c s (Silent ask why) own is share h = held_serves c s ask why (is.comes.0 ∙ own, share.0) h
after_serves c s (CrashedAt ask true) own is share h = All-drop (Serves c) 1 s.late h
after_serves c s (CrashedAt ask false) own is share h = h
after_serves c s (Delivered ask reply) own is share h = All-drop (Serves c) 1 s.late h
after_serves c s (LateLost ask) own is share h = All-drop (Serves c) 1 s.late h
after_serves c s (Pruned block stamp) own is share h = h

pub late_serves : (c : Charter) (s : NodeState) (es : List NodeEntry) → s.node.number ≡ c.number → NodeKept c.nature s es → All (λ e. IsOfShard c.shard c.shards e.act) es → All (Serves c) s.late → All (Serves c) (after_all s es).late
late_serves c s [] own kept share h = h
late_serves c s (e ∷ es) own kept share h =
    let P : NodeEntry → Type 0 = λ x. IsOfShard c.shard c.shards x.act in
    late_serves c (after s e.act) es ((after_keeps s e.act).1 ∙ own) kept.1 (All-tail P e es share) (after_serves c s e.act own kept.0 (All-head P e es share) h)

pub late_asks : (c : Charter) (late : List Message) → All (Serves c) late → All (λ m. IsAsk m.body) late
late_asks c late h = All-weaker (Serves c) (λ m. IsAsk m.body) (λ m is. is_ask c.shard c.shards m.body is.1) late h
