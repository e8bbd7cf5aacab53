use Rattle.std.proofs.Common.{length, sym, ap, subst, ◌∙◌, arith}
use Rattle.std.specs.Vec.Iter.{into_iter_items}
use Rattle.std.proofs.lemmas.List.{length-map}
use Rattle.std.proofs.lemmas.Grind.{common_steps}
use Rattle.lists.proofs.lemmas.Members.{nil_of_length}
use Rattle.protocol.specs.Instance.{setting}
use Rattle.batch_clients.specs.Parts.{lists_of, items_of}
use Rattle.batch_clients.proofs.Dealing.{IsDealing, dealing_begins, next_there, next_asks, dealing_goes_on, dealing_ends}
use Rattle.batch_clients.proofs.asking.deal.Goals as goal

pub loop-message-init : goal.loop-message-init
loop-message-init c = record {
  dealing = λ client t is full.
      let old = c.args.asks.now.items in
      let long = length-map old items_of in
      dealing_begins (setting client.config) client.id t (lists_of old) (omega (arith, long, full)) (into_iter_items c.into_iter-message-iterator.result) (c.into_iter-message-iterator.ensures.into_iter_gives.0 ∙ c.into_vec-message-items.ensures ∙ is);
  left = grind (arith, common_steps);
}

pub deal_one-requires : goal.deal_one-requires
deal_one-requires c =
    let client = c.requires.count.0 in
    let t = c.requires.count.1 in
    let rest = into_iter_items c.next.new.self in
    let dealing = subst (IsDealing (setting client.config) client.id t (lists_of c.args.asks.now.items) (lists_of c.loop-message.asks.items)) c.in-Some.ensures.steps.0 (c.loop-message.invariant.dealing client t c.requires.count.2 c.requires.count.3) in
    let long = length-map c.loop-message.asks.items items_of in
    let there = next_there (setting client.config) client.id t (lists_of c.args.asks.now.items) (lists_of c.loop-message.asks.items) c.in-Some.message rest dealing in
    record {
      asks = next_asks (setting client.config) client.id t (lists_of c.args.asks.now.items) (lists_of c.loop-message.asks.items) c.in-Some.message rest dealing;
      there = omega (arith, long, there);
    }

pub loop-message-preserved : goal.loop-message-preserved
loop-message-preserved c = record {
  dealing = λ client t is full.
      let rest = into_iter_items c.next.new.self in
      let dealing = subst (IsDealing (setting client.config) client.id t (lists_of c.args.asks.now.items) (lists_of c.loop-message.asks.items)) c.in-Some.ensures.steps.0 (c.loop-message.invariant.dealing client t is full) in
      dealing_goes_on (setting client.config) client.id t (lists_of c.args.asks.now.items) (lists_of c.loop-message.asks.items) c.in-Some.message rest dealing (lists_of c.deal_one.new.asks.items) c.in_ok-deal_one.ensures;
  left = (let e = ap length c.in-Some.ensures.steps.0 in let f = c.in-Some.ensures.steps.1 in let g = c.loop-message.invariant.left in omega (arith, e, f, g));
}

pub returns : goal.returns
returns c = λ client t is full.
    let none = nil_of_length (into_iter_items c.loop-message.message-iterator) (sym c.in-None.ensures.steps.0 ∙ c.loop-message.invariant.left) in
    dealing_ends (setting client.config) client.id t (lists_of c.args.asks.now.items) (lists_of c.loop-message.asks.items)
    (subst (IsDealing (setting client.config) client.id t (lists_of c.args.asks.now.items) (lists_of c.loop-message.asks.items)) none (c.loop-message.invariant.dealing client t is full))
