-- The client's side of what a cell's node does, and the cell's list with one entry more.
use Rattle.std.proofs.Common.{◌≡◌, ℕ, Bool, true, false, [], ◌∷◌, ◌++◌, Option, refl, sym, ap, ◌∙◌, append-nil}
use Rattle.std.specs.declared.option.Option.TheVariants.{None, Some}
use Rattle.std.specs.Prelude.{if◌then◌else◌}
use Rattle.std.proofs.lemmas.List.{map-append}
use Rattle.protocol.specs.Messages.{Message}
use Rattle.receipt_lock.specs.Tickets.{Begins}
use Rattle.liar_rules.specs.Answers.{answer_to}
use Rattle.journals.specs.declared.desk.Way.{Way}
use Rattle.journals.specs.declared.desk.Way.TheVariants.{Call as ByCall, Lose, Hold}
use Rattle.journals.specs.declared.desk.DeskAct.TheVariants.{Call}
use Rattle.journals.specs.declared.node.Nature.{Nature}
use Rattle.journals.specs.declared.node.Nature.TheVariants.{Honest, Lying as Lies}
use Rattle.journals.specs.declared.node.Silence.TheVariants.{Crashed}
use Rattle.journals.specs.declared.node.Answer.{Answer}
use Rattle.journals.specs.declared.node.Answer.TheVariants.{Reply as Replies, Nothing}
use Rattle.journals.specs.declared.node.NodeAct.{NodeAct}
use Rattle.journals.specs.declared.node.NodeAct.TheVariants.{Silent, CrashedAt}
use Rattle.journals.specs.declared.node.NodeEntry.{NodeEntry}
use Rattle.journals.specs.Acts.{NodeState, is_spent, lied, answers, act, answer_of, reply_in}
use Rattle.journals.specs.Steps.{side}
use Rattle.locked_nodes.specs.declared.charter.Item.TheVariants.{Head, Entry}
use Rattle.locked_nodes.specs.Cells.{CellView, told_as, reply_told, with_entry, entry, items}

-- what is told of an act is its answer's reply
pub told_reply : (n : ℕ) (a : Answer) → reply_told (told_as n a) ≡ reply_in a
told_reply n (Replies reply) = refl
told_reply n (Nothing why) = refl

-- the client's side of what a node does with its ask
lied_side : (ask : Message) (reply : Option Message) → side (lied ask reply) ≡ Some (ask.client, Call ByCall ask (reply_in (answer_of (lied ask reply))))
lied_side ask None = refl
lied_side ask (Some reply) = refl

answers_side : (s : NodeState) (nature : Nature) (ask : Message) → side (answers s nature ask) ≡ Some (ask.client, Call ByCall ask (reply_in (answer_of (answers s nature ask))))
answers_side s Honest ask = refl
answers_side s (Lies rule) ask = lied_side ask (answer_to s.node.config rule ask ask.body)

called_side : (s : NodeState) (nature : Nature) (ask : Message) (crashed spent : Bool)
    → (λ (a : NodeAct). side a ≡ Some (ask.client, Call ByCall ask (reply_in (answer_of a)))) (if crashed then Silent ask Crashed else (if spent then CrashedAt ask false else answers s nature ask))
called_side s nature ask true spent = refl
called_side s nature ask false true = refl
called_side s nature ask false false = answers_side s nature ask

pub act_side : (s : NodeState) (nature : Nature) (way : Way) (ask : Message) → side (act s nature way ask) ≡ Some (ask.client, Call way ask (reply_in (answer_of (act s nature way ask))))
act_side s nature ByCall ask = called_side s nature ask s.crashed (is_spent s.crash_after)
act_side s nature Lose ask = refl
act_side s nature Hold ask = refl

-- a cell's list with one more entry begins as it was
pub items_snoc : (cell : CellView) (n : ℕ) (a : NodeAct) → items (with_entry cell n a) ≡ items cell ++ Entry (entry n a) ∷ []
items_snoc cell n a = ap (λ l. Head cell.charter ∷ l) (map-append (λ (e : NodeEntry). Entry e) cell.journal (entry n a ∷ []))

pub items_grew : (cell now : CellView) (n : ℕ) (a : NodeAct) → now ≡ with_entry cell n a → Begins (items cell) (items now)
items_grew cell now n a is = (Entry (entry n a) ∷ [], ap items is ∙ items_snoc cell n a)

pub items_same : (cell now : CellView) → now ≡ cell → Begins (items cell) (items now)
items_same cell now is = ([], ap items is ∙ sym (append-nil (items cell)))
