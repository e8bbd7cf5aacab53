use Rattle.std.proofs.Common.{◌≡◌, ℕ, ◌+◌, List, ◌++◌, map, length, sym, ◌∙◌, ap, subst}
use Rattle.std.proofs.lemmas.Result.{on_ok_weaker}
use Rattle.disk_model.specs.Crash.{LeavesOnly}
use Rattle.slot_disk.specs.Bodies.{bodies, bodies_in, AreWithFirst, IsClosedAt}
use Rattle.slot_disk.specs.Slots.{body_len, body_of}
use Rattle.version_disk.specs.Held.{held, slots_of}
use Rattle.version_disk.specs.Kept.{HoldsFirstOf}
use Rattle.version_disk.proofs.Keeping.{bodies_in_pieces, held_more, slots_more, good_more_slots, opens, on_ok_three}
use Rattle.slot_disk.proofs.lemmas.Moments.{leaves_only_weaker}
use Rattle.version_disk.proofs.keep.keep_slots.Goals as goal

pub returns-clause-any_moment : goal.returns-clause-any_moment
returns-clause-any_moment g c slots good count is =
    let D = g.D.Disk in
    let config = c.args.config.now in
    let number = c.args.number in
    let old = D.seen c.args.disk.now in
    let now = held config number old in
    let are : bodies_in (body_len config) c.args.more c.args.piece.now ≡ map body_of slots =
    ap (λ (n : ℕ). bodies_in (body_len config) n c.args.piece.now) (sym count) ∙ ap (bodies_in (body_len config) (length slots)) is ∙ bodies_in_pieces config number slots good in
    let added : LeavesOnly D.moment D.left_since c.args.disk.now c.add_slots.new.disk (AreWithFirst (body_len config) (bodies (body_len config) old) (map body_of slots)) =
    subst (λ (b : List (List ℕ)). LeavesOnly D.moment D.left_since c.args.disk.now c.add_slots.new.disk (AreWithFirst (body_len config) (bodies (body_len config) old) b)) are
    (subst (λ (w : ℕ). LeavesOnly D.moment D.left_since c.args.disk.now c.add_slots.new.disk (AreWithFirst w (bodies w old) (bodies_in w c.args.more c.args.piece.now))) c.body_size.ensures.size c.add_slots.ensures.any_moment) in
    leaves_only_weaker D.moment D.left_since c.args.disk.now c.add_slots.new.disk _ (HoldsFirstOf config number (slots_of config old) now slots)
    (λ left few. opens config number old left slots good c.requires.kept.good few) added

pub returns-clause-kept : goal.returns-clause-kept
returns-clause-kept g c slots good count is =
    let D = g.D.Disk in
    let config = c.args.config.now in
    let number = c.args.number in
    let old = D.seen c.args.disk.now in
    let new = D.seen c.add_slots.new.disk in
    let are : bodies_in (body_len config) c.args.more c.args.piece.now ≡ map body_of slots =
    ap (λ (n : ℕ). bodies_in (body_len config) n c.args.piece.now) (sym count) ∙ ap (bodies_in (body_len config) (length slots)) is ∙ bodies_in_pieces config number slots good in
    on_ok_three c.add_slots.result (λ durable more closed.
    let here : bodies (body_len config) new ≡ bodies (body_len config) old ++ map body_of slots =
    subst (λ (w : ℕ). bodies w new ≡ bodies w old ++ bodies_in w c.args.more c.args.piece.now) c.body_size.ensures.size more ∙ ap (λ (b : List (List ℕ)). bodies (body_len config) old ++ b) are in
    record {
      durable = durable;
      closed = subst (λ (w : ℕ). IsClosedAt w new (c.args.count + c.args.more)) c.body_size.ensures.size closed;
      state = sym (held_more config number old new slots good here);
      good = good_more_slots config number old new slots good here c.requires.kept.good;
    }) c.add_slots.ensures.settled c.add_slots.ensures.added c.add_slots.ensures.closed

pub returns-clause-slots : goal.returns-clause-slots
returns-clause-slots g c slots good count is =
    let D = g.D.Disk in
    let config = c.args.config.now in
    let number = c.args.number in
    let old = D.seen c.args.disk.now in
    let new = D.seen c.add_slots.new.disk in
    let are : bodies_in (body_len config) c.args.more c.args.piece.now ≡ map body_of slots =
    ap (λ (n : ℕ). bodies_in (body_len config) n c.args.piece.now) (sym count) ∙ ap (bodies_in (body_len config) (length slots)) is ∙ bodies_in_pieces config number slots good in
    on_ok_weaker c.add_slots.result (λ more.
    slots_more config number old new slots good
    (subst (λ (w : ℕ). bodies w new ≡ bodies w old ++ bodies_in w c.args.more c.args.piece.now) c.body_size.ensures.size more ∙ ap (λ (b : List (List ℕ)). bodies (body_len config) old ++ b) are)) c.add_slots.ensures.added
