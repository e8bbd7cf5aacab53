use Rattle.std.proofs.Common.{◌<◌, arith, ◌∙◌, length}
use Rattle.std.specs.Fork.{ChangesAt}
use Rattle.std.proofs.lemmas.List.{length-set}
use Rattle.thread_spread.proofs.Places.{one_more, stays_ahead}
use Rattle.thread_spread.proofs.spread.in_turn.Goals as goal

pub loop-k-preserved : goal.loop-k-preserved
loop-k-preserved g c =
    let before = c.args.s.now in
    let k = c.loop-k.k in
    let now = c.loop-k.s in
    let put = c.at_one.new.it in
    let held = c.loop-k.invariant in
    let inside : k < length now = (let e = held.len in let l = c.loop-k-test.true in omega (arith, e, l)) in
    record {
      len = length-set now k put ∙ held.len;
      ahead = stays_ahead k before now put held.ahead;
      done = one_more (ChangesAt g.F.Fn c.args.f.now) c.args.base k before now put _ inside held.ahead held.done c.at_one.ensures;
    }
