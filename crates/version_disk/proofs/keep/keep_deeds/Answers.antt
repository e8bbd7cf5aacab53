use Rattle.std.proofs.Common.{◌≤◌, ℕ, ◌+◌, ◌-◌, ◌*◌, List, length, get_or, sym, ◌∙◌, ap, arith}
use Rattle.std.proofs.lemmas.Result.{on_ok_weaker}
use Rattle.slot_disk.specs.Slots.{body_len}
use Rattle.version_disk.specs.Deeds.{slots_by_deeds}
use Rattle.version_disk.proofs.Many.{good_there, deeds_any_moment, deeds_kept, deeds_done, none_any_moment, none_kept, none_are_done, on_ok_both}
use Rattle.version_disk.proofs.Keeping.{length-pieces_of, last_of_pieces}
use Rattle.version_disk.proofs.keep.keep_deeds.Goals as goal

pub returns-then-more-eq0-clause-kept : goal.returns-then-more-eq0-clause-kept
returns-then-more-eq0-clause-kept g c start deeds from written =
    let D = g.D.Disk in
    none_kept D.moment D.left_since D.pending D.seen c.args.config.now c.args.number c.args.count c.args.disk.now c.requires.kept start from deeds c.args.pieces.now c.args.more written (let t = c.if-more-eq0.true in omega arith)

pub returns-then-more-eq0-clause-done : goal.returns-then-more-eq0-clause-done
returns-then-more-eq0-clause-done g c start deeds from written =
    let D = g.D.Disk in
    none_are_done D.moment D.left_since D.pending D.seen c.args.config.now c.args.number c.args.count c.args.disk.now c.requires.kept start from deeds c.args.pieces.now c.args.more written (let t = c.if-more-eq0.true in omega arith)

pub returns-then-more-eq0-clause-any_moment : goal.returns-then-more-eq0-clause-any_moment
returns-then-more-eq0-clause-any_moment g c start deeds from written =
    let D = g.D.Disk in
    none_any_moment D.moment D.left_since D.pending D.seen c.args.config.now c.args.number c.args.count c.args.disk.now c.requires.kept start from deeds c.args.pieces.now c.args.more written (g.met.D.Disk.only_now c.args.disk.now)

pub keep_slots-requires-clause-whole : goal.keep_slots-requires-clause-whole
keep_slots-requires-clause-whole g c =
    let D = g.D.Disk in
    let w = c.requires.written in
    let config = c.args.config.now in
    let old = c.args.disk.now in
    let slots = slots_by_deeds w.0 w.1 in
    let good = good_there D.moment D.left_since D.pending D.seen config c.args.number old old w.0 w.2 w.1 c.args.pieces.now c.args.more w.3 in
    ap length w.3.pieces ∙ length-pieces_of config c.args.number slots good ∙ ap (λ (n : ℕ). n * (body_len config + 1)) (sym w.3.count)

pub keep_slots-requires-clause-zero : goal.keep_slots-requires-clause-zero
keep_slots-requires-clause-zero g c =
    let w = c.requires.written in
    let slots = slots_by_deeds w.0 w.1 in
    let some : 1 ≤ length slots = (let t = c.if-more-eq0.false in let count = w.3.count in omega arith) in
    ap (λ (l : List ℕ). get_or l (length l - 1) 0) w.3.pieces ∙ last_of_pieces w.0.config w.0.number slots w.3.good some

pub returns-clause-any_moment : goal.returns-clause-any_moment
returns-clause-any_moment g c start deeds from written =
    let D = g.D.Disk in
    let config = c.args.config.now in
    let old = c.args.disk.now in
    let new = c.keep_slots.new.disk in
    let good = good_there D.moment D.left_since D.pending D.seen config c.args.number old new start from deeds c.args.pieces.now c.args.more written in
    deeds_any_moment D.moment D.left_since D.pending D.seen config c.args.number old new start from deeds c.args.pieces.now c.args.more written
    (c.keep_slots.ensures.any_moment (slots_by_deeds start deeds) good (sym written.count) written.pieces)

pub returns-clause-kept : goal.returns-clause-kept
returns-clause-kept g c start deeds from written =
    let D = g.D.Disk in
    let config = c.args.config.now in
    let old = c.args.disk.now in
    let new = c.keep_slots.new.disk in
    let good = good_there D.moment D.left_since D.pending D.seen config c.args.number old new start from deeds c.args.pieces.now c.args.more written in
    on_ok_weaker c.keep_slots.result
    (deeds_kept D.moment D.left_since D.pending D.seen config c.args.number old new start from deeds c.args.pieces.now c.args.more written (c.args.count + c.args.more))
    (c.keep_slots.ensures.kept (slots_by_deeds start deeds) good (sym written.count) written.pieces)

pub returns-clause-done : goal.returns-clause-done
returns-clause-done g c start deeds from written =
    let D = g.D.Disk in
    let config = c.args.config.now in
    let old = c.args.disk.now in
    let new = c.keep_slots.new.disk in
    let slots = slots_by_deeds start deeds in
    let good = good_there D.moment D.left_since D.pending D.seen config c.args.number old new start from deeds c.args.pieces.now c.args.more written in
    on_ok_both c.keep_slots.result
    (deeds_done D.moment D.left_since D.pending D.seen config c.args.number old new start from deeds c.args.pieces.now c.args.more written (c.args.count + c.args.more))
    (c.keep_slots.ensures.kept slots good (sym written.count) written.pieces)
    (c.keep_slots.ensures.slots slots good (sym written.count) written.pieces)
