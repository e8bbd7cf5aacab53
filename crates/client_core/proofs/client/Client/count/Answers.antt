use Rattle.protocol.specs.Instance.{setting}
use Rattle.client_core.proofs.OnlyCounted.{goes_on}
use Rattle.client_core.proofs.client.Client.count.Goals as goal

pub count-requires-clause-goes_on : goal.count-requires-clause-goes_on
count-requires-clause-goes_on c =
    let w = c.in-Writing.writer in
    let own = rw c.in-Writing.is at c.self.invariant.own in
    goes_on (setting w.config) w.client c.args.node c.args.tag c.args.reply w.task (rw (← c.self.view_is, c.in-Writing.is, ← own.cluster, ← own.client) at c.requires)

pub count-requires-in-Reading-clause-goes_on : goal.count-requires-in-Reading-clause-goes_on
count-requires-in-Reading-clause-goes_on c =
    let r = c.in-Reading.reader in
    let own = rw c.in-Reading.is at c.self.invariant.own in
    goes_on (setting r.operation.config) r.operation.client c.args.node c.args.tag c.args.reply r.operation.task (rw (← c.self.view_is, c.in-Reading.is, ← own.cluster, ← own.client) at c.requires)
