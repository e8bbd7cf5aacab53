use Rattle.slab_reading.proofs.lemmas.ReadCalls.{reads_once}
use Rattle.slab_reading.proofs.piece.fill.Goals as goal

pub returns-in-Ok-clause-reads : goal.returns-in-Ok-clause-reads
returns-in-Ok-clause-reads g c =
    let F = g.F.SlabFile in
    let e = c.read_at.ensures in
    reads_once F.seen F.may_leave F.moment F.left_since F.is_usable F.is_clean c.args.file.now c.read_at.new.self (g.met.F.SlabFile.only_now c.args.file.now)
    e.bytes e.usable e.clean e.crash e.time

pub returns-in-Err-clause-reads : goal.returns-in-Err-clause-reads
returns-in-Err-clause-reads g c =
    let F = g.F.SlabFile in
    let e = c.read_at.ensures in
    reads_once F.seen F.may_leave F.moment F.left_since F.is_usable F.is_clean c.args.file.now c.read_at.new.self (g.met.F.SlabFile.only_now c.args.file.now)
    e.bytes e.usable e.clean e.crash e.time
