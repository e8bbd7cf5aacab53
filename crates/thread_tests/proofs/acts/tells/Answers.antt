use Rattle.std.proofs.Common.{sym, ◌∙◌}
use Rattle.thread_tests.proofs.acts.tells.Goals as goal

pub answer-answer-requires-clause-ask : goal.answer-answer-requires-clause-ask
answer-answer-requires-clause-ask c =
    (c.time_ask-ask.ensures.node ∙ sym c.requires.node, rw (c.requires.whole.0, c.requires.whole.1) c.time_ask-ask.ensures.share)
