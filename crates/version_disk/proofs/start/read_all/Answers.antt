use Rattle.version_disk.proofs.Opening.{synced, measured, was_read}
use Rattle.version_disk.proofs.start.read_all.Goals as goal

pub returns-in_err-sync-clause-any_moment : goal.returns-in_err-sync-clause-any_moment
returns-in_err-sync-clause-any_moment g c =
    let D = g.D.Disk in
    synced D.moment D.left_since D.pending D.seen c.args.disk.now (g.met.D.Disk.only_now c.args.disk.now) c.sync.new.self c.sync.ensures.crash c.sync.ensures.time

pub returns-in_err-len-clause-any_moment : goal.returns-in_err-len-clause-any_moment
returns-in_err-len-clause-any_moment g c =
    let D = g.D.Disk in
    measured D.moment D.left_since D.pending D.seen c.args.disk.now (g.met.D.Disk.only_now c.args.disk.now) c.sync.new.self c.len.new.self c.sync.ensures.crash c.sync.ensures.time c.len.ensures.crash c.len.ensures.time

pub returns-in_err-bytes-clause-any_moment : goal.returns-in_err-bytes-clause-any_moment
returns-in_err-bytes-clause-any_moment g c =
    let D = g.D.Disk in
    measured D.moment D.left_since D.pending D.seen c.args.disk.now (g.met.D.Disk.only_now c.args.disk.now) c.sync.new.self c.len.new.self c.sync.ensures.crash c.sync.ensures.time c.len.ensures.crash c.len.ensures.time

pub returns-in_err-read_at-clause-any_moment : goal.returns-in_err-read_at-clause-any_moment
returns-in_err-read_at-clause-any_moment g c =
    let D = g.D.Disk in
    was_read D.moment D.left_since D.pending D.seen c.args.disk.now (g.met.D.Disk.only_now c.args.disk.now) c.sync.new.self c.len.new.self c.read_at.new.self c.sync.ensures.crash c.sync.ensures.time c.len.ensures.crash c.len.ensures.time c.read_at.ensures.crash c.read_at.ensures.time

pub returns-clause-any_moment : goal.returns-clause-any_moment
returns-clause-any_moment g c =
    let D = g.D.Disk in
    was_read D.moment D.left_since D.pending D.seen c.args.disk.now (g.met.D.Disk.only_now c.args.disk.now) c.sync.new.self c.len.new.self c.read_at.new.self c.sync.ensures.crash c.sync.ensures.time c.len.ensures.crash c.len.ensures.time c.read_at.ensures.crash c.read_at.ensures.time
