use Rattle.std.proofs.Common.{◌∙◌, refl}
use Rattle.pasis_store.proofs.Journals.{not_tended, and_reseated}
use Rattle.pasis_store.proofs.compacting.compact_due.Goals as goal

pub loop-seat-init : goal.loop-seat-init
loop-seat-init c = record { same = refl; tended = not_tended c.args.store.now }

pub loop-seat-preserved : goal.loop-seat-preserved
loop-seat-preserved c =
    let inv = c.loop-seat.invariant in
    record {
      same = c.compact_one.ensures.config ∙ inv.same;
      tended = and_reseated c.args.store.now c.loop-seat.store c.compact_one.new.store inv.tended c.compact_one.ensures;
    }
