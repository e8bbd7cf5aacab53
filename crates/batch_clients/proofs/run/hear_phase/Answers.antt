use Rattle.std.proofs.Common.{length, sym, ap, subst, ◌∙◌, arith}
use Rattle.std.specs.Vec.Iter.{into_iter_items}
use Rattle.std.proofs.lemmas.Grind.{common_steps}
use Rattle.lists.proofs.lemmas.Members.{nil_of_length}
use Rattle.batch_clients.proofs.Hearing.{IsHearing, LeadsTo, hearing_begins, in_phase, hearing_step, still_hearing, hearing_lost}
use Rattle.batch_clients.proofs.run.hear_phase.Goals as goal

pub loop-given-init : goal.loop-given-init
loop-given-init c = record {
  hearing = λ t is. subst (IsHearing c.args.client.now t c.args.replies.items c.args.client.now 0) (sym c.into_iter-given-iterator.ensures.into_iter_gives.0) (hearing_begins c.args.client.now t c.args.replies.items is);
  left = grind (arith, common_steps);
  count = (let e = ap length c.into_iter-given-iterator.ensures.into_iter_gives.0 in omega (arith, e));
}

pub hear_given-requires : goal.hear_given-requires
hear_given-requires c =
    let t = c.requires.task.0 in
    let e = in_phase c.args.client.now t c.args.replies.items c.loop-given.client c.loop-given.node (into_iter_items c.loop-given.given-iterator) (c.loop-given.invariant.hearing t c.requires.task.1) in
    let f = c.requires.task.3 in
    omega (arith, e, f)

pub returns-in-Send : goal.returns-in-Send
returns-in-Send c = λ t is.
    let old = c.args.client.now in
    let new = c.hear_given.new.client in
    let next = into_iter_items c.next.new.self in
    let task = c.requires.task in
    subst (LeadsTo old t c.args.replies.items c.loop-given.client c.loop-given.node next new) c.in-Send.is
    (hearing_step old c.args.replies.items c.loop-given.client c.loop-given.node (into_iter_items c.loop-given.given-iterator) next c.in-Some.given c.in-Some.ensures.steps.0 task.0 t (c.loop-given.invariant.hearing t is) c.args.id c.requires.own task.1 task.2 is
    c.ops.result c.phase.result c.ops.ensures c.phase.ensures new c.in_ok-hear_given.field-0 c.in_ok-hear_given.ensures)

pub returns-in-Ended : goal.returns-in-Ended
returns-in-Ended c = λ t is.
    let old = c.args.client.now in
    let new = c.hear_given.new.client in
    let next = into_iter_items c.next.new.self in
    let task = c.requires.task in
    subst (LeadsTo old t c.args.replies.items c.loop-given.client c.loop-given.node next new) c.in-Ended.is
    (hearing_step old c.args.replies.items c.loop-given.client c.loop-given.node (into_iter_items c.loop-given.given-iterator) next c.in-Some.given c.in-Some.ensures.steps.0 task.0 t (c.loop-given.invariant.hearing t is) c.args.id c.requires.own task.1 task.2 is
    c.ops.result c.phase.result c.ops.ensures c.phase.ensures new c.in_ok-hear_given.field-0 c.in_ok-hear_given.ensures)

pub loop-given-preserved : goal.loop-given-preserved
loop-given-preserved c =
    let old = c.args.client.now in
    let new = c.hear_given.new.client in
    let next = into_iter_items c.next.new.self in
    let task = c.requires.task in
    record {
      hearing = λ t is.
          still_hearing old c.args.replies.items c.loop-given.client c.loop-given.node (into_iter_items c.loop-given.given-iterator) next c.in-Some.given c.in-Some.ensures.steps.0 t new c.in_ok-hear_given.field-0 c.in-Unchanged.is
          (hearing_step old c.args.replies.items c.loop-given.client c.loop-given.node (into_iter_items c.loop-given.given-iterator) next c.in-Some.given c.in-Some.ensures.steps.0 task.0 t (c.loop-given.invariant.hearing t is) c.args.id c.requires.own task.1 task.2 is
          c.ops.result c.phase.result c.ops.ensures c.phase.ensures new c.in_ok-hear_given.field-0 c.in_ok-hear_given.ensures);
      left = (let e = ap length c.in-Some.ensures.steps.0 in let f = c.in-Some.ensures.steps.1 in let g = c.loop-given.invariant.left in omega (arith, e, f, g));
      count = (let e = ap length c.in-Some.ensures.steps.0 in let g = c.loop-given.invariant.count in omega (arith, e, g));
    }

pub returns : goal.returns
returns c = λ t is.
    let none = nil_of_length (into_iter_items c.loop-given.given-iterator) (sym c.in-None.ensures.steps.0 ∙ c.loop-given.invariant.left) in
    hearing_lost c.args.client.now t c.args.replies.items c.loop-given.client c.loop-given.node (subst (IsHearing c.args.client.now t c.args.replies.items c.loop-given.client c.loop-given.node) none (c.loop-given.invariant.hearing t is))
