use Rattle.std.proofs.Common.{subst}
use Rattle.std.proofs.lemmas.Result.{IfOk-weaker}
use Rattle.operation_core.specs.Counting.{rounds_of}
use Rattle.read_core.specs.Readers.{IsReader}
use Rattle.read_core.proofs.Outvoting.{outvoted_where}
use Rattle.read_core.proofs.reader.Reader.hear.Goals as goal

pub returns-then-ends_phase-clause-outvoted : goal.returns-then-ends_phase-clause-outvoted
returns-then-ends_phase-clause-outvoted c =
    let o = c.args.self.now.operation in
    let a = c.args in
    let w = subst (λ r. IsReader c.self.inside.first r.operation r.rounds) c.self.view_is c.self.invariant in
    IfOk-weaker _ _ _ (λ reading is. outvoted_where o.config w.valid o.client a.node a.tag a.reply.now o.task (rounds_of o.task) reading is) c.end_by.ensures.reading
