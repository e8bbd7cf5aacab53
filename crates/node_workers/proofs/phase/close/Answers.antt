use Rattle.std.proofs.Common.{List, sym, subst, All}
use Rattle.thread_work.specs.Pairwise.{Beside}
use Rattle.node_workers.specs.Workers.{AnswerPutter}
use Rattle.node_workers.specs.Closed.{IsOfMail, HasAllOf}
use Rattle.node_workers.proofs.phase.close.Goals as goal

pub settle_all-requires-clause-own : goal.settle_all-requires-clause-own
settle_all-requires-clause-own g c =
    let mails = c.in_ok-cells.field-0.mails.items in
    subst (All (λ (r : List AnswerPutter). Beside IsOfMail mails r)) (sym c.in_ok-cells.ensures.rows) (c.requires.own mails c.in_ok-cells.ensures.mails)

pub returns : goal.returns
returns g c =
    let mails = c.in_ok-cells.field-0.mails.items in
    record {
      cells = c.in_ok-cells.ensures.cells;
      seats = c.in_ok-cells.ensures.seats;
      settled = λ none. record {
        mails = mails;
        ways = c.in_ok-cells.ensures.mails;
        settled = subst (All (λ (r : List AnswerPutter). Beside HasAllOf mails r)) c.in_ok-cells.ensures.rows c.in_ok-settle_all.ensures.settled;
        sound = c.in_ok-cells.ensures.refused none;
        agree = c.in_ok-cells.ensures.agree;
      };
    }
