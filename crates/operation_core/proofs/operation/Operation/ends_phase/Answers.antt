use Rattle.std.proofs.Common.{sym, ◌∙◌, arith}
use Rattle.operation_core.proofs.Keeping.{few_heard, ends_where}
use Rattle.operation_core.proofs.operation.Operation.ends_phase.Goals as goal

pub overflow_add-result : goal.overflow_add-result
overflow_add-result c =
    let i = c.self.inside in
    let few = few_heard i.config i.phase i.rounds i.stage i.answers.items i.heard c.self.invariant in
    let most = c.self.invariant.valid.nodes.1 in
    omega (arith, few, most)

pub returns-then-counts : goal.returns-then-counts
returns-then-counts c =
    let i = c.self.inside in
    let counts = rw (← c.self.view_is) at (sym c.counts.ensures ∙ c.if-counts.true) in
    rw (← c.self.view_is, c.wait.ensures.is) (ends_where i.config i.number i.op i.phase i.rounds i.answers.items i.heard c.args.node c.args.tag c.args.reply.now i.stage c.self.invariant counts)
