use Rattle.std.proofs.Common.{◌≤◌, ℕ, List, [], ◌∷◌, ◌++◌, length, ap, arith, length-append}
use Rattle.std.proofs.lemmas.Bool.Decides.{nat_tests}
use Rattle.version_disk.specs.Compacted.{kept_slots, compacted_len}
use Rattle.version_disk.proofs.Journals.{length-open_slots}
use Rattle.version_disk.proofs.compact.write_journal.Goals as goal

pub flush-requires : goal.flush-requires
flush-requires g c =
    let E = g.E.Disk in
    let node = c.args.node.now in
    let seen = E.seen c.write_blocks.new.disk in
    let ahead = c.write_blocks.new.ahead.items in
    let long = length-open_slots node.config (kept_slots node) c.in_ok-write_blocks.ensures.fitting in
    let told = c.has_place.ensures in
    let has = c.if-not-has_place.false in
    let place : compacted_len node ≤ E.most c.len.new.self = grind (arith, nat_tests, told, has) in
    let room = c.write_blocks.ensures.room in
    record {
      fits = omega (
        arith,
        ap (λ (l : List ℕ). length (seen ++ l)) c.in_ok-push.ensures.items,
        length-append seen (ahead ++ 0 ∷ []),
        length-append ahead (0 ∷ []),
        length-append seen ahead,
        ap length c.in_ok-write_blocks.ensures.journal,
        long,
        place,
        room,
      );
    }
