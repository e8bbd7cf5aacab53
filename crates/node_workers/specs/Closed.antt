-- What thread states leave, and inboxes that are settled.
use Rattle.std.specs.Prelude.{◌≡◌, ℕ}
use Rattle.inboxes.specs.Sides.{took, items_from}
use Rattle.client_endpoints.specs.declared.mail.ByMail.{ByMail}
use Rattle.node_workers.specs.Workers.{AnswerPutter}

-- the putter goes to the inbox out of which the client took
abbrev pub IsOfMail : ℕ → ByMail → AnswerPutter → Type 0
IsOfMail i m answer_putter = answer_putter.inbox ≡ m.answers.inbox

-- what was taken of the putter is what was put into it
abbrev pub HasAllOf : ℕ → ByMail → AnswerPutter → Type 0
HasAllOf i m answer_putter = items_from answer_putter.number (took m.answers) ≡ answer_putter.put
