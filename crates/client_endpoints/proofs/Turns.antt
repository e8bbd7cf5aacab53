-- What a turn at a cell leaves in a chit.
use Rattle.std.proofs.Common.{◌≡◌, ℕ, ◌%◌, List, [], ◌∷◌, ◌++◌, length, Result, Ok, Err, refl, sym, ap, subst, ◌∙◌}
use Rattle.std.specs.declared.option.Option.TheVariants.{Some}
use Rattle.std.specs.Prelude.{IfOk, OnErr, drop}
use Rattle.quorum_rules.specs.Limits.{Numbers}
use Rattle.protocol.specs.Messages.{Message, Body}
use Rattle.wire_forms.specs.declared.message.Body.TheVariants.{Ask as Asks, Answer as Answers}
use Rattle.event_clock.specs.Passes.{ClockId, Sight}
use Rattle.receipt_lock.specs.Tickets.{Begins, new_entries, placed_from}
use Rattle.receipt_lock.specs.Chits.{Holder as Chit, took, gave, found_list}
use Rattle.journals.specs.declared.desk.Way.{Way}
use Rattle.journals.specs.declared.desk.Way.TheVariants.{Call as ByCall, Lose, Hold}
use Rattle.journals.specs.declared.desk.DeskAct.TheVariants.{Call}
use Rattle.journals.specs.declared.node.NodeAct.{NodeAct}
use Rattle.journals.specs.Acts.{act, answer_of, reply_in}
use Rattle.locked_nodes.specs.declared.answers.CellRefusal.{CellRefusal}
use Rattle.locked_nodes.specs.declared.answers.Told.{Told}
use Rattle.locked_nodes.specs.declared.charter.Item.{Item}
use Rattle.locked_nodes.specs.declared.charter.Item.TheVariants.{Entry}
use Rattle.locked_nodes.specs.Cells.{CellView, IsShare, IsWhole, Serves, HoldsWhole, entry, items, with_entry, state_of, number_of, told_as, reply_told}
use Rattle.locked_nodes.specs.declared.cell_shard.CellShard.{CellShard}
use Rattle.locked_nodes.specs.CellShards.{IsFor}
use Rattle.locked_nodes.proofs.lemmas.Sides.{items_snoc, items_grew, items_same, told_reply, act_side}
use Rattle.client_endpoints.specs.Transports.{call_of, HasLeft, LeavesSide}
use Rattle.client_endpoints.specs.Endpoint.{IsHead, IsAskOn}
use Rattle.client_endpoints.proofs.lemmas.Heads.{shard_is}

-- what a cell's node does with an ask that comes this way
abbrev done_by : CellView → Way → Message → NodeAct
done_by cell way ask = act (state_of cell) cell.charter.nature way ask

-- an ask on the block is of the shard of the shard for it
pub on_shard : (cell_shard : CellShard) (node block : ℕ) → IsFor cell_shard node block → (body : Body) → IsAskOn block body → IsShare cell_shard.shard cell_shard.shards body
on_shard cell_shard node block is (Asks ask) on = ap (λ (b : ℕ). b % cell_shard.shards) on ∙ is.share
on_shard cell_shard node block is (Answers reply) on = absurd on

pub is_whole : (cell_shard : CellShard) (way : Way) → (way ≡ Hold → cell_shard.shards ≡ 1) → IsWhole cell_shard.shards way
is_whole cell_shard ByCall may = tt
is_whole cell_shard Lose may = tt
is_whole cell_shard Hold may = may refl

-- whoever takes a cell knows which asks it serves
module _ (config : Numbers) (clock : ClockId) (cell_shard : CellShard) (begun : List Item) (cell : CellView) (head : IsHead config clock cell_shard begun) (begins : Begins begun (items cell)) where
  module _ (node block : ℕ) (is : IsFor cell_shard node block) where
    pub number_is : cell.charter.number ≡ node
    number_is = ap (λ (s : CellShard). s.node) (shard_is config clock cell_shard begun cell head begins) ∙ is.of

    -- so the cell serves an ask to the node, on the block
    pub serves : (m : Message) → m.node ≡ node → IsAskOn block m.body → Serves cell.charter m
    serves m to on = (to ∙ sym number_is, subst (λ (s : CellShard). IsShare s.shard s.shards m.body) (sym (shard_is config clock cell_shard begun cell head begins)) (on_shard cell_shard node block is m.body on))

  pub whole_way : (way : Way) → (way ≡ Hold → cell_shard.shards ≡ 1) → HoldsWhole cell.charter way
  whole_way way may = subst (λ (s : CellShard). IsWhole s.shards way) (sym (shard_is config clock cell_shard begun cell head begins)) (is_whole cell_shard way may)

drop_front : {X : Type 0} (xs ys : List X) → drop (length xs) (xs ++ ys) ≡ ys
drop_front [] ys = refl
drop_front (x ∷ xs) ys = drop_front xs ys

pub one_left : (cell now : CellView) (n : ℕ) (a : NodeAct) (was held after : Chit Item) → held ≡ took was (items cell) → after ≡ gave held (items now) → now ≡ with_entry cell n a → HasLeft was n a after
one_left cell now n a was held after take give grew =
    let list : items now ≡ items cell ++ Entry (entry n a) ∷ [] = ap items grew ∙ items_snoc cell n a in
    let more : new_entries (items cell) (items now) ≡ (length (items cell), Entry (entry n a)) ∷ [] =
    ap (new_entries (items cell)) list ∙ ap (placed_from (length (items cell))) (drop_front (items cell) (Entry (entry n a) ∷ [])) in
    record {
      place = length (items cell);
      mine = ap (λ (h : Chit Item). h.mine) give ∙ ap (λ (h : Chit Item). h.mine ++ new_entries (found_list h.holds) (items now)) take ∙ ap (λ l. was.mine ++ l) more;
    }

-- what was found begins what is given back
pub gives_back : (cell now : CellView) (was held : Chit Item) → held ≡ took was (items cell) → Begins (items cell) (items now) → Begins (found_list held.holds) (items now)
gives_back cell now was held take begins = subst (λ (h : Chit Item). Begins (found_list h.holds) (items now)) (sym take) begins

-- what is told of what the cell's node did is the client's side of the entry
module _ (answer : Result Told CellRefusal) (cell now : CellView) (way : Way) (ask : Message) (before after : Sight)
    (grew : IfOk answer (λ t. now ≡ with_entry cell (number_of t) (done_by cell way ask))) (err : OnErr answer ((now ≡ cell) × (after ≡ before))) where
  pub answer_back : (was held : Chit Item) → held ≡ took was (items cell) → Begins (found_list held.holds) (items now)
  answer_back was held take = gives_back cell now was held take (at answer grew err)
    where
      at : (r : Result Told CellRefusal) → IfOk r (λ t. now ≡ with_entry cell (number_of t) (done_by cell way ask)) → OnErr r ((now ≡ cell) × (after ≡ before)) → Begins (items cell) (items now)
      at (Ok t) more same = items_grew cell now (number_of t) (done_by cell way ask) more
      at (Err e) more same = items_same cell now same.0

pub leaves_side : (cell now : CellView) (way : Way) (ask : Message) (told : Told) (was held last : Chit Item) → held ≡ took was (items cell) → last ≡ gave held (items now) → now ≡ with_entry cell (number_of told) (done_by cell way ask)
    → told ≡ told_as (number_of told) (answer_of (done_by cell way ask)) → LeavesSide was ask.client (call_of way ask told) last
leaves_side cell now way ask told was held last take give grew tells =
    let replied : reply_told told ≡ reply_in (answer_of (done_by cell way ask)) = ap reply_told tells ∙ told_reply (number_of told) (answer_of (done_by cell way ask)) in
    record {
      act = done_by cell way ask;
      left = one_left cell now (number_of told) (done_by cell way ask) was held last take give grew;
      agree = act_side (state_of cell) cell.charter.nature way ask ∙ ap (λ r. Some (ask.client, Call way ask r)) (sym replied);
    }
