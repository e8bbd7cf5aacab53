use Rattle.std.proofs.Common.{◌≡◌, ◌<◌, ℕ, ◌+◌, ◌*◌, List, ◌∷◌, ◌++◌, length, take, refl, sym, ◌∙◌, ap, subst, arith, append_assoc, length-append}
use Rattle.std.proofs.lemmas.List.{append-nil, take_all, length-take-le}
use Rattle.node_core.specs.Lent.{lent}
use Rattle.node_core.specs.Seen.{versions_in}
use Rattle.slot_disk.specs.Slots.{Slot, version_slot, body_of, body_len, Fits}
use Rattle.version_disk.specs.Compacted.{slots_in, open_slots, IsWhole, AreFitting}
use Rattle.version_disk.proofs.Journals.{by_number, slot_numbered, length-slots_in, open_more, fitting_more, length-open_slots, kth_there, have_place}
use Rattle.version_disk.proofs.compact.write_block.Goals as goal

pub loop-k-init : goal.loop-k-init
loop-k-init g c =
    let E = g.E.Disk in
    record {
      journal = sym (append-nil (E.seen c.args.disk.now ++ c.args.ahead.now.items));
      fitting = tt;
      room = refl;
      calm = refl;
    }

pub returns-in-None-clause-journal : goal.returns-in-None-clause-journal
returns-in-None-clause-journal g c = absurd (kth_there (versions_in c.args.node.now c.args.block) c.loop-k.k c.later_count-k-end.result c.later_count-k-end.ensures c.loop-k-test.true c.in-None.ensures)

pub returns-in-None-clause-fitting : goal.returns-in-None-clause-fitting
returns-in-None-clause-fitting g c = absurd (kth_there (versions_in c.args.node.now c.args.block) c.loop-k.k c.later_count-k-end.result c.later_count-k-end.ensures c.loop-k-test.true c.in-None.ensures)

pub write_slot-requires-clause-count : goal.write_slot-requires-clause-count
write_slot-requires-clause-count g c =
    let node = c.args.node.now in
    let vs = versions_in node c.args.block in
    let v = lent c.in-Some.version in
    (by_number (IsWhole node.config) (slots_in c.args.block vs) c.loop-k.k (version_slot c.args.block v) c.requires.whole (slot_numbered c.args.block vs c.loop-k.k v (sym c.in-Some.ensures))).count

pub write_slot-requires-clause-share : goal.write_slot-requires-clause-share
write_slot-requires-clause-share g c =
    let node = c.args.node.now in
    let vs = versions_in node c.args.block in
    let v = lent c.in-Some.version in
    (by_number (IsWhole node.config) (slots_in c.args.block vs) c.loop-k.k (version_slot c.args.block v) c.requires.whole (slot_numbered c.args.block vs c.loop-k.k v (sym c.in-Some.ensures))).share

pub write_slot-requires-clause-fits : goal.write_slot-requires-clause-fits
write_slot-requires-clause-fits g c =
    let E = g.E.Disk in
    let node = c.args.node.now in
    let slots = slots_in c.args.block (versions_in node c.args.block) in
    let k = c.loop-k.k in
    let start = E.seen c.args.disk.now ++ c.args.ahead.now.items in
    let n = length-slots_in c.args.block (versions_in node c.args.block) c.later_count-k-end.result c.later_count-k-end.ensures in
    let lt = c.loop-k-test.true in
    let below : k < length slots = omega arith in
    let count : length (take k slots) ≡ k = omega (arith, length-take-le k slots) in
    let long = length-open_slots node.config (take k slots) c.loop-k.invariant.fitting in
    let same = ap (λ (m : ℕ). m * (body_len node.config + 1)) count in
    let place = have_place (body_len node.config) (length start) k (length slots) (E.most c.args.disk.now) below c.requires.fits in
    let room = c.loop-k.invariant.room in
    omega (arith, ap length c.loop-k.invariant.journal, length-append start (open_slots (take k slots)))

pub loop-k-preserved : goal.loop-k-preserved
loop-k-preserved g c =
    let E = g.E.Disk in
    let node = c.args.node.now in
    let vs = versions_in node c.args.block in
    let slots = slots_in c.args.block vs in
    let v = lent c.in-Some.version in
    let s = version_slot c.args.block v in
    let here = slot_numbered c.args.block vs c.loop-k.k v (sym c.in-Some.ensures) in
    let start = E.seen c.args.disk.now ++ c.args.ahead.now.items in
    record {
      journal = c.in_ok-write_slot-in-Some.ensures.journal ∙ ap (λ (l : List ℕ). l ++ (1 ∷ body_of s)) c.loop-k.invariant.journal
          ∙ append_assoc start (open_slots (take c.loop-k.k slots)) (1 ∷ body_of s) ∙ ap (λ (l : List ℕ). start ++ l) (sym (open_more slots c.loop-k.k s here));
      fitting = fitting_more (Fits node.config) slots c.loop-k.k s here c.loop-k.invariant.fitting c.in_ok-write_slot-in-Some.ensures.fitting;
      room = c.write_slot.ensures.room ∙ c.loop-k.invariant.room;
      calm = c.in_ok-write_slot-in-Some.ensures.calm ∙ c.loop-k.invariant.calm;
    }

pub returns-clause-journal : goal.returns-clause-journal
returns-clause-journal g c =
    let E = g.E.Disk in
    let slots = slots_in c.args.block (versions_in c.args.node.now c.args.block) in
    let start = E.seen c.args.disk.now ++ c.args.ahead.now.items in
    let n = length-slots_in c.args.block (versions_in c.args.node.now c.args.block) c.later_count-k-end.result c.later_count-k-end.ensures in
    let done = c.loop-k-test.false in
    c.loop-k.invariant.journal ∙ ap (λ (l : List Slot). start ++ open_slots l) (take_all c.loop-k.k slots (omega arith))

pub returns-clause-fitting : goal.returns-clause-fitting
returns-clause-fitting g c =
    let node = c.args.node.now in
    let slots = slots_in c.args.block (versions_in node c.args.block) in
    let n = length-slots_in c.args.block (versions_in node c.args.block) c.later_count-k-end.result c.later_count-k-end.ensures in
    let done = c.loop-k-test.false in
    subst (AreFitting node.config) (take_all c.loop-k.k slots (omega arith)) c.loop-k.invariant.fitting
