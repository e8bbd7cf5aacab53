use Rattle.std.proofs.Common.{subst}
use Rattle.journals.specs.Desks.{DeskKept, new_desk}
use Rattle.client_desks.specs.Desks.{DeskView}
use Rattle.locked_nodes.specs.Cells.{reply_told}
use Rattle.client_desks.proofs.lemmas.Desking.{liar_calls, liar_phase}
use Rattle.client_desks.proofs.desk.Desk.note_sent.Goals as goal

pub add-requires-clause-may : goal.add-requires-clause-may
add-requires-clause-may c = liar_calls c.args.self.now c.args.ask (reply_told c.args.told) c.requires.lying c.requires.own c.requires.formed

pub add-requires-clause-phase : goal.add-requires-clause-phase
add-requires-clause-phase c = liar_phase c.args.self.now c.requires.lying (subst (λ (d : DeskView). DeskKept d.lying (new_desk d.config d.id) d.entries) c.self.view_is c.self.invariant.kept)
