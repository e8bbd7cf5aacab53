use Rattle.std.proofs.Common.{◌≡◌, ◌<◌, ◌≤◌, ℕ, List, length, subst, arith}
use Rattle.run_pictures.specs.Shown.{HasTooMany, Shows}
use Rattle.run_pictures.proofs.Depicting.{depicts, too_many}
use Rattle.run_pictures.proofs.top.picture_of.Goals as goal

pub returns-then-lines-gt-MOST_LINES-clause-too_many : goal.returns-then-lines-gt-MOST_LINES-clause-too_many
returns-then-lines-gt-MOST_LINES-clause-too_many c lines e =
    let r = c.in_ok-replay.replay in
    let counted = c.len-lines.ensures in
    let over = c.if-lines-gt-MOST_LINES.true in
    let many : 400 < length r.lines = omega arith in
    let same : length r.lines ≡ lines = cc in
    subst (λ (k : ℕ). HasTooMany c.args.input.now k) same
    (too_many c.replays_are_spelled.ensures.one c.args.input.now c.in_ok-report.report c.in_ok-report.ensures.replays r.config r.liars r.lines c.in_ok-replay.ensures.script many)

pub returns-clause-depicts : goal.returns-clause-depicts
returns-clause-depicts c =
    let r = c.in_ok-replay.replay in
    let counted = c.len-lines.ensures in
    let within = c.if-lines-gt-MOST_LINES.false in
    let few : length r.lines ≤ 400 = omega arith in
    let picture = c.in_ok-told.field-0 in
    let shows = subst (λ (z : List ℕ). Shows r.config r.liars r.lines z picture) c.as_slice.ensures.value c.in_ok-told.ensures in
    depicts c.replays_are_spelled.ensures.one c.args.input.now c.in_ok-report.report c.in_ok-report.ensures.replays r.config r.liars r.lines c.in_ok-replay.ensures.script few picture shows
