use Rattle.std.proofs.Common.{◌≡◌, [], arith}
use Rattle.std.proofs.lemmas.Grind.{common_steps}
use Rattle.run_pictures.proofs.top.draw.Goals as goal

pub returns-in-Ok-write_all-clause-bad_words : goal.returns-in-Ok-write_all-clause-bad_words
returns-in-Ok-write_all-clause-bad_words g c =
    let none : c.args.words.now ≡ [] = grind (arith, common_steps, c.if-not-is_empty.ensures, c.if-not-is_empty.false, c.is_empty.ensures) in
    (λ e. absurd cc, λ some. absurd (some none))

pub returns-in-Ok-write_all-clause-calm_source : goal.returns-in-Ok-write_all-clause-calm_source
returns-in-Ok-write_all-clause-calm_source g c other = c.in-Ok.ensures.calm (λ e. cc)

pub returns-clause-bad_words : goal.returns-clause-bad_words
returns-clause-bad_words g c =
    let none : c.args.words.now ≡ [] = grind (arith, common_steps, c.if-not-is_empty.ensures, c.if-not-is_empty.false, c.is_empty.ensures) in
    (λ e. absurd cc, λ some. absurd (some none))

pub returns-clause-calm_source : goal.returns-clause-calm_source
returns-clause-calm_source g c other = c.in-Ok.ensures.calm (λ e. cc)
