use Rattle.std.proofs.Common.{◌<◌, arith}
use Rattle.system_file.proofs.Recording.{lengthens_then, long_then}
use Rattle.system_file.proofs.steps.make_longer.Goals as goal

pub returns-in_err-resize-clause-some : goal.returns-in_err-resize-clause-some
returns-in_err-resize-clause-some g c =
    let short : c.in_ok-len.field-0 < c.args.len = omega (arith, c.if-branch-len.true) in
    rw c.resize.ensures (rw c.in_ok-len.ensures (λ start. lengthens_then start (g.C.Calls.history c.args.calls.now) c.args.len c.in_ok-len.field-0 _ _ short))

pub returns-in_ok-resize-clause-some : goal.returns-in_ok-resize-clause-some
returns-in_ok-resize-clause-some g c =
    let short : c.in_ok-len.field-0 < c.args.len = omega (arith, c.if-branch-len.true) in
    rw c.resize.ensures (rw c.in_ok-len.ensures (λ start. lengthens_then start (g.C.Calls.history c.args.calls.now) c.args.len c.in_ok-len.field-0 _ _ short))

pub returns-in_ok-resize-clause-long : goal.returns-in_ok-resize-clause-long
returns-in_ok-resize-clause-long g c =
    rw c.in_ok-resize.ensures (rw c.in_ok-len.ensures (λ start. long_then start (g.C.Calls.history c.args.calls.now) c.args.len c.in_ok-len.field-0 0))
