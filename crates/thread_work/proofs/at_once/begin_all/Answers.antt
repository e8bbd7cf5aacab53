-- Lemmas of `Places`.
use Rattle.std.proofs.Common.{◌≡◌, ℕ, ◌++◌, ◌∷◌, [], vec_len, vec_capacity}
use Rattle.std.specs.Vec.Iter.{into_iter_items, into_iter_len}
use Rattle.thread_work.specs.declared.at_once.Begun.{Begun}
use Rattle.thread_work.specs.Starts.{IsBegun, lock_of}
use Rattle.thread_work.proofs.lemmas.Places.{none_filled, one_filled, all_filled, all_of_nil, all_of_push, room_first, room_one, room_some, walk_begin, walk_on}
use Rattle.thread_work.proofs.at_once.begin_all.Goals as goal

pub loop-state-init : goal.loop-state-init
loop-state-init g c =
    let gives = c.into_iter-state-iterator.ensures.into_iter_gives in
    let call = c.args.call.now in
    let states = c.args.states in
    let begun = c.args.begun in
    let left = c.into_iter-state-iterator.result in
    let R : ℕ → g.row.P.Denot → Begun g.row.P.Denot g.row.C.Denot → Type 0 = λ i p b. IsBegun g.C.ThreadWork.works call.work.now p b in
    let L : Begun g.row.P.Denot g.row.C.Denot → Type 0 = λ b. lock_of b ≡ call.word.now.id in (
      [],
      walk_begin states.items (into_iter_items left) (into_iter_len left) (vec_len states) gives.0 gives.1 states.ok.0,
      none_filled R begun.items c.requires.none,
      all_of_nil L begun.items c.requires.none,
      room_first begun.items (vec_len begun) (into_iter_len left) (vec_len states) (vec_capacity begun) c.requires.none begun.ok.0 gives.1 c.requires.room,
    )

pub push_reserved-requires : goal.push_reserved-requires
push_reserved-requires g c =
    let loop = c.loop-state in
    room_some (vec_len loop.begun) (into_iter_len loop.state-iterator) (into_iter_len c.next.new.self) (vec_capacity loop.begun) loop.invariant.4 c.in-Some.ensures.steps.1

pub loop-state-preserved : goal.loop-state-preserved
loop-state-preserved g c =
    let loop = c.loop-state in
    let inv = loop.invariant in
    let steps = c.in-Some.ensures.steps in
    let state = c.in-Some.state in
    let call = c.args.call.now in
    let before = loop.begun in
    let after = c.push_reserved.new.self in
    let R : ℕ → g.row.P.Denot → Begun g.row.P.Denot g.row.C.Denot → Type 0 = λ i p b. IsBegun g.C.ThreadWork.works call.work.now p b in
    let L : Begun g.row.P.Denot g.row.C.Denot → Type 0 = λ b. lock_of b ≡ call.word.now.id in
    let pushed = c.push_reserved.ensures in (
      inv.0 ++ state ∷ [],
      walk_on c.args.states.items inv.0 (into_iter_items loop.state-iterator) (into_iter_items c.next.new.self) state (into_iter_len loop.state-iterator) (into_iter_len c.next.new.self) inv.1 steps.0 steps.1,
      one_filled R inv.0 state before.items after.items c.begin.result pushed.items inv.2 c.begin.ensures.state,
      all_of_push L before.items after.items c.begin.result pushed.items inv.3 c.begin.ensures.lock,
      room_one (vec_len before) (into_iter_len loop.state-iterator) (into_iter_len c.next.new.self) (vec_len after) (vec_capacity before) (vec_capacity after) inv.4 steps.1 pushed.len pushed.capacity,
    )

pub returns-clause-lock : goal.returns-clause-lock
returns-clause-lock g c = c.loop-state.invariant.3

pub returns-clause-states : goal.returns-clause-states
returns-clause-states g c =
    let loop = c.loop-state in
    let call = c.args.call.now in
    let R : ℕ → g.row.P.Denot → Begun g.row.P.Denot g.row.C.Denot → Type 0 = λ i p b. IsBegun g.C.ThreadWork.works call.work.now p b in
    all_filled R c.args.states.items loop.invariant.0 (into_iter_items loop.state-iterator) (into_iter_len loop.state-iterator) loop.begun.items loop.invariant.1 c.in-None.ensures.steps.0 loop.invariant.2
