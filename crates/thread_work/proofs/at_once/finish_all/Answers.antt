-- Lemmas of `Places`.
use Rattle.std.proofs.Common.{◌≡◌, ℕ, ◌++◌, ◌∷◌, [], length, sym, ◌∙◌, vec_len, vec_capacity}
use Rattle.std.specs.Vec.Iter.{into_iter_items, into_iter_len}
use Rattle.thread_work.specs.declared.at_once.Begun.{Begun}
use Rattle.thread_work.specs.Starts.{IsBegun, GoesBy, lock_of}
use Rattle.thread_work.proofs.Goings.{by_same_word}
use Rattle.thread_work.proofs.lemmas.Places.{none_filled, one_filled, all_filled, room_first, room_one, walk_begin, walk_on, walked_at}
use Rattle.thread_work.proofs.at_once.finish_all.Goals as goal

pub loop-one-init : goal.loop-one-init
loop-one-init g c =
    let gives = c.into_iter-one-iterator.ensures.into_iter_gives in
    let call = c.args.call.now in
    let begun = c.args.begun in
    let ended = c.args.ended in
    let left = c.into_iter-one-iterator.result in
    let R : ℕ → Begun g.row.P.Denot g.row.C.Denot → g.row.P.Denot → Type 0 = λ i b q. (p : g.row.P.Denot) → IsBegun g.C.ThreadWork.works call.work.now p b → GoesBy (g.C.ThreadWork.works call.work.now) c.args.word.now.value p q in (
      [],
      walk_begin begun.items (into_iter_items left) (into_iter_len left) (vec_len begun) gives.0 gives.1 begun.ok.0,
      none_filled R ended.items c.requires.none,
      room_first ended.items (vec_len ended) (into_iter_len left) (vec_len begun) (vec_capacity ended) c.requires.none ended.ok.0 gives.1 c.requires.room,
    )

pub agrees-requires : goal.agrees-requires
agrees-requires g c =
    let loop = c.loop-one in
    let inv = loop.invariant in
    let one = c.in-Some.one in
    let L : Begun g.row.P.Denot g.row.C.Denot → Type 0 = λ b. lock_of b ≡ c.args.word.now.of in
    let lock : lock_of one ≡ c.args.word.now.of = walked_at L c.args.begun.items inv.0 (into_iter_items loop.one-iterator) (into_iter_items c.next.new.self) one (into_iter_len loop.one-iterator) inv.1 c.in-Some.ensures.steps.0 c.requires.lock in
    sym {A = ℕ} (c.finish-state.ensures.lock ∙ lock)

pub loop-one-preserved : goal.loop-one-preserved
loop-one-preserved g c =
    let loop = c.loop-one in
    let inv = loop.invariant in
    let steps = c.in-Some.ensures.steps in
    let one = c.in-Some.one in
    let call = c.args.call.now in
    let before = loop.ended in
    let after = c.push_reserved.new.self in
    let works = g.C.ThreadWork.works call.work.now in
    let word = c.args.word.now.value in
    let R : ℕ → Begun g.row.P.Denot g.row.C.Denot → g.row.P.Denot → Type 0 = λ i b q. (p : g.row.P.Denot) → IsBegun g.C.ThreadWork.works call.work.now p b → GoesBy works word p q in
    let pushed = c.push_reserved.ensures in
    let left = c.finish-state.result in
    let is : R (length inv.0) one left.state = λ p begun. by_same_word works word left.word.value p left.state c.agrees.ensures (c.finish-state.ensures.state call.work.now p begun) in (
      inv.0 ++ one ∷ [],
      walk_on c.args.begun.items inv.0 (into_iter_items loop.one-iterator) (into_iter_items c.next.new.self) one (into_iter_len loop.one-iterator) (into_iter_len c.next.new.self) inv.1 steps.0 steps.1,
      one_filled R inv.0 one before.items after.items left.state pushed.items inv.2 is,
      room_one (vec_len before) (into_iter_len loop.one-iterator) (into_iter_len c.next.new.self) (vec_len after) (vec_capacity before) (vec_capacity after) inv.3 steps.1 pushed.len pushed.capacity,
    )

pub returns : goal.returns
returns g c =
    let loop = c.loop-one in
    let call = c.args.call.now in
    let R : ℕ → Begun g.row.P.Denot g.row.C.Denot → g.row.P.Denot → Type 0 = λ i b q. (p : g.row.P.Denot) → IsBegun g.C.ThreadWork.works call.work.now p b → GoesBy (g.C.ThreadWork.works call.work.now) c.args.word.now.value p q in
    all_filled R c.args.begun.items loop.invariant.0 (into_iter_items loop.one-iterator) (into_iter_len loop.one-iterator) loop.ended.items loop.invariant.1 c.in-None.ensures.steps.0 loop.invariant.2
