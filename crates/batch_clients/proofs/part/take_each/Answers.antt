use Rattle.std.proofs.Common.{◌<◌, arith, ◌∙◌, length, subst, sym}
use Rattle.std.proofs.lemmas.List.{length-set}
use Rattle.batch_clients.specs.Turns.{MayHear, Comes}
use Rattle.batch_clients.proofs.Sharing.{zipped, one_more, stays_ahead}
use Rattle.batch_clients.proofs.part.take_each.Goals as goal

pub take-requires : goal.take-requires
take-requires c =
    let held = c.loop-k.invariant in
    let k = c.loop-k.k in
    subst MayHear (sym (held.ahead k c.index-turns-k.result (omega arith))) (c.requires k c.index-turns-k.result (let e = held.len in let l = c.loop-k-test.true in omega (arith, e, l)))

pub loop-k-preserved : goal.loop-k-preserved
loop-k-preserved c =
    let before = c.args.turns.now in
    let k = c.loop-k.k in
    let now = c.loop-k.turns in
    let put = c.take.new.turn in
    let held = c.loop-k.invariant in
    let inside : k < length now = (let e = held.len in let l = c.loop-k-test.true in omega (arith, e, l)) in
    record {
      len = length-set now k put ∙ held.len;
      ahead = stays_ahead k before now put held.ahead;
      done = one_more Comes k before now put _ inside held.ahead held.done c.take.ensures;
    }

pub returns : goal.returns
returns c =
    let held = c.loop-k.invariant in
    zipped Comes c.args.turns.now c.loop-k.turns held.len (λ i d lt. held.done i d (let l = c.loop-k-test.false in omega (arith, l, lt)))
