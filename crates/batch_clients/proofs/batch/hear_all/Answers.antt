use Rattle.std.proofs.Common.{List, length, refl, sym, ap, subst, ◌∙◌, arith, replicate, []}
use Rattle.std.specs.Vec.Iter.{into_iter_items}
use Rattle.std.proofs.lemmas.Grind.{common_steps}
use Rattle.std.proofs.lemmas.List.{length-map}
use Rattle.lists.proofs.lemmas.Members.{nil_of_length}
use Rattle.batch_clients.specs.declared.run.Run.{Run}
use Rattle.batch_clients.specs.declared.turn.Turn.{Turn}
use Rattle.batch_clients.specs.Parts.{lists_of, items_of}
use Rattle.batch_clients.proofs.Adding.{IsGoing, going_begins, going_ends}
use Rattle.batch_clients.proofs.Turning.{ArePut, all_may, all_come, putting_begins, next_put, putting_goes_on, putting_ends}
use Rattle.batch_clients.proofs.batch.hear_all.Goals as goal

pub take_all-requires-after_bounds : goal.take_all-requires-after_bounds
take_all-requires-after_bounds g c κs within =
    let config = c.args.config.now in
    let nodes = c.n-nodes.ensures.valid.nodes.1 in
    let full = c.requires.count in
    all_may config c.args.answers.items c.args.runs.items c.in_ok-given.given.items (c.in_ok-given.ensures config c.requires.early (omega (arith, nodes, full)))

pub loop-turn-init : goal.loop-turn-init
loop-turn-init g c =
    let config = c.args.config.now in
    let answers = c.args.answers.items in
    let runs = c.args.runs.items in
    let turns = c.in_ok-turns.turns.items in
    let heard = c.in_ok-heard.heard.items in
    let asks = lists_of c.in_ok-asks.asks.items in
    let nodes = c.n-nodes.ensures.valid.nodes.1 in
    let full = c.requires.count in
    let taken = c.in_ok-given.ensures config c.requires.early (omega (arith, nodes, full)) in
    let come = all_come config answers runs c.in_ok-given.given.items turns taken c.in_ok-turns.ensures in
    let begun = going_begins config answers runs answers refl c.requires.count c.requires.early asks (c.in_ok-asks.ensures ∙ ap (λ n. replicate n []) c.n-nodes.ensures.is) runs refl in
    record {
      put =
          subst (λ (l : List Turn). ArePut config answers runs l heard asks) (sym c.into_iter-turn-iterator.ensures.into_iter_gives.0)
          (putting_begins config answers runs heard asks turns come (subst (λ (l : List Run). IsGoing config answers runs answers runs l asks) (sym c.in_ok-heard.ensures.items) begun));
      left = grind (arith, common_steps);
    }

pub put_one-requires : goal.put_one-requires
put_one-requires g c =
    let config = c.args.config.now in
    let next = into_iter_items c.next.new.self in
    let turn = c.in-Some.turn in
    let answers = c.args.answers.items in
    let runs = c.args.runs.items in
    let heard = c.loop-turn.heard.items in
    let asks = lists_of c.loop-turn.asks.items in
    let h = subst (λ (l : List Turn). ArePut config answers runs l heard asks) c.in-Some.ensures.steps.0 c.loop-turn.invariant.put in
    let put = next_put config answers runs heard asks turn next h in
    let count = h.going.asked.count in
    let long = length-map c.loop-turn.asks.items items_of in
    record { turn = (config, put.0, put.1, put.2, omega (arith, count, long)) }

pub loop-turn-preserved : goal.loop-turn-preserved
loop-turn-preserved g c =
    let config = c.args.config.now in
    let next = into_iter_items c.next.new.self in
    let turn = c.in-Some.turn in
    let answers = c.args.answers.items in
    let runs = c.args.runs.items in
    let heard = c.loop-turn.heard.items in
    let asks = lists_of c.loop-turn.asks.items in
    let h = subst (λ (l : List Turn). ArePut config answers runs l heard asks) c.in-Some.ensures.steps.0 c.loop-turn.invariant.put in
    let count = h.going.asked.count in
    let long = length-map c.loop-turn.asks.items items_of in
    record {
      put =
          putting_goes_on config answers runs heard asks turn next h c.put_one.new.heard.items (lists_of c.put_one.new.asks.items)
          (λ r phase k. c.in_ok-put_one.ensures config r phase k (omega (arith, count, long)));
      left = (let e = ap length c.in-Some.ensures.steps.0 in let f = c.in-Some.ensures.steps.1 in let i = c.loop-turn.invariant.left in omega (arith, e, f, i));
    }

pub returns-clause-runs : goal.returns-clause-runs
returns-clause-runs g c =
    let rest = into_iter_items c.loop-turn.turn-iterator in
    let none = nil_of_length rest (sym c.in-None.ensures.steps.0 ∙ c.loop-turn.invariant.left) in
    let put = c.loop-turn.invariant.put in
    going_ends c.args.config.now c.args.answers.items c.args.runs.items put.left c.loop-turn.heard.items (lists_of c.loop-turn.asks.items) (putting_ends c.args.config.now c.args.answers.items c.args.runs.items c.loop-turn.heard.items (lists_of c.loop-turn.asks.items) rest none put)

pub returns-clause-asks : goal.returns-clause-asks
returns-clause-asks g c = c.loop-turn.invariant.put.going.asked

pub returns-clause-are_runs : goal.returns-clause-are_runs
returns-clause-are_runs g c = λ phases all. (c.loop-turn.invariant.put.going.runs_are phases all).1
