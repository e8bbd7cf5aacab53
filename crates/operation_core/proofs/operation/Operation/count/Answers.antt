use Rattle.std.proofs.Common.{arith}
use Rattle.operation_core.proofs.Keeping.{few_heard, counts_inside, counted_is}
use Rattle.operation_core.proofs.operation.Operation.count.Goals as goal

pub overflow_add-self : goal.overflow_add-self
overflow_add-self c =
    let i = c.self.inside in
    let few = few_heard i.config i.phase i.rounds i.stage i.answers.items i.heard c.self.invariant in
    let most = c.self.invariant.valid.nodes.1 in
    omega (arith, few, most)

pub invariant_of-self : goal.invariant_of-self
invariant_of-self c =
    let i = c.self.inside in
    let new = counts_inside i.config i.number i.op i.phase i.rounds i.answers.items i.heard c.args.node c.args.tag c.args.reply i.stage (rw (← c.self.view_is) at c.requires.counts) in
    rw c.from.ensures (counted_is i.config i.phase i.rounds i.stage i.answers.items i.heard c.self.invariant c.args.node new.0 new.1 c.args.reply)
