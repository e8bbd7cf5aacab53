use Rattle.std.proofs.Common.{ap, sym, ◌∙◌}
use Rattle.line_forms.proofs.lemmas.Tables.{gives_cause}
use Rattle.plan_text.specs.Reading.{seen_cause}
use Rattle.plan_text.proofs.Bodies.{next_is}
use Rattle.plan_text.proofs.plan.next_line.Goals as goal

pub returns-in_err-refuse : goal.returns-in_err-refuse
returns-in_err-refuse c =
    let read = c.in_ok-read.ensures in
    let config = c.args.config.now in
    let seen = c.args.seen.now in
    gives_cause _ _ _ c.from_residual-in_err-refuse.result
    (next_is config seen c.args.line.now c.in_ok-read.read c.requires read.0 read.1.0 read.1.1 ∙ ap (seen_cause config seen) (sym c.of.ensures) ∙ c.in_err-refuse.ensures.err) c.from_residual-in_err-refuse.ensures.1

pub returns : goal.returns
returns c =
    let read = c.in_ok-read.ensures in
    let config = c.args.config.now in
    let seen = c.args.seen.now in
    let free = ap (seen_cause config seen) (sym c.of.ensures) ∙ c.in_ok-refuse.ensures.ok in
    (next_is config seen c.args.line.now c.in_ok-read.read c.requires read.0 read.1.0 read.1.1 ∙ free, (read.1.0, read.1.1, free))
