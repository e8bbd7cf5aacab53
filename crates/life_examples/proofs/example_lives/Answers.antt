-- The lives are lemmas.
use Rattle.life_examples.proofs.Example.{is_life, is_settled_life, is_settled, is_late_life, keep_no_more, is_read}
use Rattle.life_examples.proofs.ExampleStrings.{is_valid, strings_apart, settled_apart, none_too_early}
use Rattle.life_examples.proofs.ExampleHeld.{is_held, is_rebuilt_life, rebuilt_apart}
use Rattle.life_examples.proofs.ExampleLiars.{five_are_valid, liars_life, liars_apart, no_two_lie}
use Rattle.life_examples.proofs.example_lives.Goals as goal

pub returns : goal.returns
returns c = record { valid = is_valid; is = is_life; apart = strings_apart; then = is_settled_life; then_apart = settled_apart; settled = is_settled; late = is_late_life; keep_no_more = keep_no_more; too_early = is_read; refused = none_too_early c.reads.ensures.fresh; held = is_held; rebuilt = is_rebuilt_life; rebuilt_apart = rebuilt_apart; five = five_are_valid; liars = liars_life; liars_apart = liars_apart; one_liar = no_two_lie }
