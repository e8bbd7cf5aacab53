use Rattle.std.proofs.Common.{◌≡◌, refl, subst}
use Rattle.operation_core.specs.Counting.{hears_in}
use Rattle.write_core.specs.Writers.{IsWriter, said_of}
use Rattle.write_core.proofs.Saying.{more_where, spent_when}
use Rattle.write_core.proofs.writer.Writer.hear.Goals as goal

pub returns-then-ends_phase-clause-more : goal.returns-then-ends_phase-clause-more
returns-then-ends_phase-clause-more c =
    let o = c.args.self.now in
    let a = c.args in
    let w = subst IsWriter c.self.view_is c.self.invariant.writer in
    let said : c.enter.result ≡ said_of o (hears_in o a.node a.tag a.reply.now) = c.enter.ensures.said _ c.in_ok-end.ensures in
    more_where o a.node a.tag a.reply.now c.enter.result w said

pub returns-then-ends_phase-clause-spent : goal.returns-then-ends_phase-clause-spent
returns-then-ends_phase-clause-spent c =
    let o = c.args.self.now in
    let a = c.args in
    let w = subst IsWriter c.self.view_is c.self.invariant.writer in
    let said : c.enter.result ≡ said_of o (hears_in o a.node a.tag a.reply.now) = c.enter.ensures.said _ c.in_ok-end.ensures in
    spent_when o a.node a.tag a.reply.now c.enter.result w said

pub enter-requires : goal.enter-requires
enter-requires c =
    let o = c.args.self.now in
    let a = c.args in
    (hears_in o a.node a.tag a.reply.now, record { node = a.node; tag = a.tag; reply = a.reply.now; hears = refl }, c.in_ok-end.ensures)
