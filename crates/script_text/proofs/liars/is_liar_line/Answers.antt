use Rattle.std.proofs.Common.{refl, ◌∙◌}
use Rattle.script_text.specs.Replays.{is_liar_line}
use Rattle.script_text.proofs.liars.is_liar_line.Goals as goal

pub returns : goal.returns
unfolding is_liar_line
returns c = c.eq.ensures ∙ rw (c.first_word.ensures, c.as_slice.ensures) refl
