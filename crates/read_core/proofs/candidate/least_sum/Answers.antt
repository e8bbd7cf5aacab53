use Rattle.std.proofs.Common.{◌≡◌, length, sym, subst}
use Rattle.std.specs.declared.option.Option.TheVariants.{Some}
use Rattle.std.specs.Prelude.{IfOk}
use Rattle.read_core.specs.Candidates.{carrier}
use Rattle.read_core.proofs.Gathering.{carrier_at, first_sum_is}
use Rattle.read_core.proofs.candidate.least_sum.Goals as goal

pub returns-in-Some : goal.returns-in-Some
returns-in-Some c =
    let answers = c.args.answers.now in
    let stamps = c.args.stamps.now in
    let stamp = c.args.stamp.now in
    let here = carrier_at answers stamps stamp c.loop-i.i c.index-answers-i.result (Some c.in-Some.version.now) c.loop-i-test.true c.index-answers-i.is c.in-Some.ensures in
    let first = first_sum_is (length answers) c.loop-i.i (carrier answers stamps stamp) c.in-Some.version.now c.loop-i-test.true c.loop-i.invariant here in
    subst (λ y. IfOk c.copy.result (λ sum. sum ≡ y)) (sym first) c.copy.ensures
