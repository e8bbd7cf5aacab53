-- Lemmas of `EndpointSteps`, `Telling` and `Mailing`.
use Rattle.std.proofs.Common.{sym, ap, subst, ◌∙◌}
use Rattle.client_endpoints.specs.Asking.{CanAsk}
use Rattle.client_endpoints.specs.Transports.{route}
use Rattle.client_endpoints.proofs.EndpointSteps.{its_vaults, its_inboxes, chit_at, own_at, rests_at, ask_within, locks_told, mail_told_by}
use Rattle.client_endpoints.proofs.Telling.{chits_route}
use Rattle.client_endpoints.proofs.lemmas.Mailing.{can_ask_at}
use Rattle.client_endpoints.proofs.transport.Transport.ask.Goals as goal

pub ask_cell-requires-clause-own : goal.ask_cell-requires-clause-own
ask_cell-requires-clause-own g c =
    let old = c.in-Locks.chits in
    let shared_cells = c.args.shared_cells.now in
    let by = its_vaults c.args.desk.now.id c.args.self.now old shared_cells c.in-Locks.is c.requires.reach in
    let chit = c.index_mut.result.now in
    let place = c.place-place.result in
    own_at old.items shared_cells by place chit c.vault.result.now (chit_at old.items shared_cells by place chit c.vault.result.now c.vault.ensures c.index_mut.ensures.value) c.vault.ensures

pub ask_cell-requires-clause-rests : goal.ask_cell-requires-clause-rests
ask_cell-requires-clause-rests g c =
    let old = c.in-Locks.chits in
    let shared_cells = c.args.shared_cells.now in
    let by = its_vaults c.args.desk.now.id c.args.self.now old shared_cells c.in-Locks.is c.requires.reach in
    let chit = c.index_mut.result.now in
    let place = c.place-place.result in
    rests_at c.args.self.now old place chit c.in-Locks.is c.requires.rest (chit_at old.items shared_cells by place chit c.vault.result.now c.vault.ensures c.index_mut.ensures.value)

pub ask-requires-clause-place : goal.ask-requires-clause-place
ask-requires-clause-place g c =
    let by = its_inboxes c.args.desk.now.id c.args.self.now c.in-Mail.mail c.args.shared_cells.now c.in-Mail.is c.requires.reach in
    ask_within c.args.desk.now.id c.in-Mail.mail c.args.shared_cells.now by c.place-place.result c.args.ask.now.node c.args.block c.place-place.ensures

pub ask-requires-clause-asks : goal.ask-requires-clause-asks
ask-requires-clause-asks g c p at =
    let mail = c.in-Mail.mail in
    let shared_cells = c.args.shared_cells.now in
    let by = its_inboxes c.args.desk.now.id c.args.self.now mail shared_cells c.in-Mail.is c.requires.reach in
    subst (λ x. CanAsk x mail.seat c.args.way c.args.ask.now p.inbox.place) (sym c.clock-in-Mail.ensures)
    (can_ask_at c.args.desk.now.id mail shared_cells c.place-place.result c.args.block c.args.way c.args.ask.now by c.place-place.ensures c.requires.own c.requires.on c.requires.whole p at)

pub returns-in-Locks-clause-told : goal.returns-in-Locks-clause-told
returns-in-Locks-clause-told g c =
    let old = c.in-Locks.chits in
    let shared_cells = c.args.shared_cells.now in
    let by = its_vaults c.args.desk.now.id c.args.self.now old shared_cells c.in-Locks.is c.requires.reach in
    let chit = c.index_mut.result.now in
    let place = c.place-place.result in
    let at = chit_at old.items shared_cells by place chit c.vault.result.now c.vault.ensures c.index_mut.ensures.value in
    locks_told c.ask_cell.result c.args.self.now old place chit c.ask_cell.new.chit c.args.way c.args.ask.now c.in-Locks.is at c.ask_cell.ensures.side

pub returns-in-Locks-clause-route : goal.returns-in-Locks-clause-route
returns-in-Locks-clause-route g c =
    let old = c.in-Locks.chits in
    let shared_cells = c.args.shared_cells.now in
    let by = its_vaults c.args.desk.now.id c.args.self.now old shared_cells c.in-Locks.is c.requires.reach in
    let chit = c.index_mut.result.now in
    let place = c.place-place.result in
    let at = chit_at old.items shared_cells by place chit c.vault.result.now c.vault.ensures c.index_mut.ensures.value in
    chits_route old place chit c.ask_cell.new.chit at c.ask_cell.ensures.own ∙ ap route (sym c.in-Locks.is)

pub returns-in-Mail-clause-told : goal.returns-in-Mail-clause-told
returns-in-Mail-clause-told g c =
    mail_told_by c.ask.result c.args.self.now c.in-Mail.mail c.ask.new.self c.args.way c.args.ask.now c.in-Mail.is c.ask.ensures.taken
