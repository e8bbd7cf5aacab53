-- Lemmas of `Carrying` and `Heads`.
use Rattle.client_endpoints.proofs.lemmas.Heads.{clock_is}
use Rattle.phase_threads.proofs.Carrying.{gives_back, still_aside}
use Rattle.phase_threads.proofs.courier.bring.Goals as goal

pub bring_late-brought-requires : goal.bring_late-brought-requires
bring_late-brought-requires g c =
    let head = c.requires.head in
    record { clock = clock_is head.0 c.args.clock.now head.1 c.args.vault.now.id.begun c.take-cell.result head.2 c.take-cell.ensures.begun }

pub give-requires-clause-grew : goal.give-requires-clause-grew
give-requires-clause-grew g c = gives_back c.take-cell.result c.bring_late-brought.new.self c.args.chit.now c.take-cell.new.chit c.take-cell.ensures.chit c.bring_late-brought.ensures.aside

pub returns-clause-aside : goal.returns-clause-aside
returns-clause-aside g c =
    still_aside c.take-cell.result c.bring_late-brought.new.self c.args.chit.now c.take-cell.new.chit c.give.new.chit c.take-cell.ensures.chit c.give.ensures c.bring_late-brought.ensures.aside c.requires.aside
