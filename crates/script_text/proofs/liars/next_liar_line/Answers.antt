use Rattle.std.proofs.Common.{List, ℕ, drop, ap, sym, ◌∙◌}
use Rattle.text_lines.proofs.lemmas.Joined.{some_part}
use Rattle.script_text.proofs.liars.next_liar_line.Goals as goal

pub returns-in_err-line-clause-none : goal.returns-in_err-line-clause-none
returns-in_err-line-clause-none c =
    rw c.from_residual.ensures (λ line after e. absurd (some_part 10 after (ap (λ (ps : List (List ℕ)). drop 1 ps) (sym e ∙ c.in_err-line.ensures.parts))))
