use Rattle.std.proofs.Common.{◌∙◌, ap}
use Rattle.std.proofs.lemmas.Iterator.{items_from_drains, YieldsList-from_slice, YieldsList-from_zip}
use Rattle.std.proofs.lemmas.Iterator.Adapters.{YieldsList-from_vec}
use Rattle.std.proofs.lemmas.Iterator.Consumers.{YieldsList-at}
use Rattle.store_front.specs.Values.{found_in, written_in}
use Rattle.store_front.proofs.Hearing.{one_found, one_written}
use Rattle.store_front.proofs.operations.Done.hear_all.Goals as goal

pub loop-op-preserved : goal.loop-op-preserved
loop-op-preserved c =
    let inv = c.loop-op.invariant in
    let e = c.in_ok-hear.ensures in
    record {
      blocks = e.valid;
      found = one_found c.args.config.now c.args.self.now.found.entries c.loop-op.self.found.entries c.hear.new.self.found.entries c.loop-op.yielded (c.in-Some.op, c.in-Some.outcome) inv.found e.found;
      written = one_written c.args.self.now.written.keys c.loop-op.self.written.keys c.hear.new.self.written.keys c.loop-op.yielded (c.in-Some.op, c.in-Some.outcome) inv.written e.written;
    }

pub returns-clause-found : goal.returns-clause-found
returns-clause-found c =
    let second = c.zip-op-items.ensures.second in
    let road = YieldsList-at c.into_iter-op-iterator.ensures.into_iter_gives (YieldsList-from_zip (YieldsList-at c.zip-op-items.ensures.first (YieldsList-from_slice c.args.ops.now c.iter.ensures.rest)) (YieldsList-from_vec {s = c.zip-op-items.result.b} c.args.outcomes.items second.0 (second.1 ∙ c.args.outcomes.ok.0))) in
    let all = items_from_drains c.loop-op.yielded (c.loop-op.op-iterator, c.loop-op.yielded_by, λ _. (c.next.new.self, c.in-None.ensures.steps)) road in
    c.loop-op.invariant.found ∙ ap (found_in c.args.config.now c.args.self.now.found.entries) all

pub returns-clause-written : goal.returns-clause-written
returns-clause-written c =
    let second = c.zip-op-items.ensures.second in
    let road = YieldsList-at c.into_iter-op-iterator.ensures.into_iter_gives (YieldsList-from_zip (YieldsList-at c.zip-op-items.ensures.first (YieldsList-from_slice c.args.ops.now c.iter.ensures.rest)) (YieldsList-from_vec {s = c.zip-op-items.result.b} c.args.outcomes.items second.0 (second.1 ∙ c.args.outcomes.ok.0))) in
    let all = items_from_drains c.loop-op.yielded (c.loop-op.op-iterator, c.loop-op.yielded_by, λ _. (c.next.new.self, c.in-None.ensures.steps)) road in
    c.loop-op.invariant.written ∙ ap (written_in c.args.self.now.written.keys) all
