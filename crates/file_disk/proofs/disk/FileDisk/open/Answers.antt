-- Each refusal comes from its step, when the file went through those before it.
use Rattle.file_disk.specs.Refused.{IsRefused}
use Rattle.file_disk.specs.Refused.IsRefused.{unheld, uncounted, unread}
use Rattle.file_disk.proofs.Refusing.{err_is}
use Rattle.file_disk.proofs.disk.FileDisk.open.Goals as goal

pub returns-in_err-lock-clause-err : goal.returns-in_err-lock-clause-err
returns-in_err-lock-clause-err g c =
    let a = c.args in
    err_is (IsRefused (g.R.FileSystem.told a.rt.now) g.F.DiskFile.told a.path.now a.how a.most) c.from_residual-in_err-lock.result _
    c.from_residual-in_err-lock.ensures.1
    (unheld c.in_ok-file.file c.in_ok-file.ensures.ok c.in_err-lock.ensures.err)

pub returns-in_err-count-clause-err : goal.returns-in_err-count-clause-err
returns-in_err-count-clause-err g c =
    let a = c.args in
    err_is (IsRefused (g.R.FileSystem.told a.rt.now) g.F.DiskFile.told a.path.now a.how a.most) c.from_residual-in_err-count.result _
    c.from_residual-in_err-count.ensures.1
    (uncounted c.in_ok-file.file c.in_ok-file.ensures.ok c.in_ok-lock.ensures.ok c.in_err-count.ensures.err)

pub returns-in_err-mirror-clause-err : goal.returns-in_err-mirror-clause-err
returns-in_err-mirror-clause-err g c =
    let a = c.args in
    err_is (IsRefused (g.R.FileSystem.told a.rt.now) g.F.DiskFile.told a.path.now a.how a.most) c.from_residual-in_err-mirror.result _
    c.from_residual-in_err-mirror.ensures.1
    (unread c.in_ok-file.file c.in_ok-count.count c.in_ok-file.ensures.ok c.in_ok-lock.ensures.ok c.in_ok-count.ensures.ok
    c.in_err-mirror.ensures.err)
