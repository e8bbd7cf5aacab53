use Rattle.history_book.proofs.ReadLines.{line_after}
use Rattle.history_book.proofs.reading.nothing_after.Goals as goal

pub returns-clause-err : goal.returns-clause-err
returns-clause-err c = λ text lines reads closed is. line_after text lines c.args.rest.now c.in_ok-needed_line.field-0.0.now c.in_ok-needed_line.field-0.1.now c.args.number reads closed is c.in_ok-needed_line.ensures.parts
