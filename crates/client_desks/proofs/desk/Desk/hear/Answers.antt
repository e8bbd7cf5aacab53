use Rattle.locked_nodes.specs.Cells.{reply_told}
use Rattle.client_desks.proofs.lemmas.Desking.{calls_as}
use Rattle.client_desks.proofs.desk.Desk.hear.Goals as goal

pub add-requires-clause-may : goal.add-requires-clause-may
add-requires-clause-may c = calls_as c.args.self.now c.args.way c.args.ask (reply_told c.args.told) c.requires.can c.requires.asked
