use Rattle.std.proofs.Common.{sym, subst}
use Rattle.locked_nodes.specs.Cells.{HasNoLateMail}
use Rattle.locked_nodes.proofs.lemmas.Aside.{aside_then}
use Rattle.client_threads.proofs.mail.bring.Goals as goal

pub returns-in-NoMail-clause-cell : goal.returns-in-NoMail-clause-cell
returns-in-NoMail-clause-cell g c =
    aside_then c.args.cell.now c.loop.cell c.bring_late-brought.new.self c.loop.invariant c.bring_late-brought.ensures.aside

pub returns-in-NoMail-clause-none : goal.returns-in-NoMail-clause-none
returns-in-NoMail-clause-none g c =
    let is = c.in-NoMail.is in
    subst HasNoLateMail (sym (c.in_ok-brought.ensures.same (cc))) (c.in_ok-brought.ensures.none.0 (cc))

pub loop-preserved : goal.loop-preserved
loop-preserved g c = aside_then c.args.cell.now c.loop.cell c.bring_late-brought.new.self c.loop.invariant c.bring_late-brought.ensures.aside
