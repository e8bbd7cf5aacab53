use Rattle.std.proofs.Common.{◌≡◌, ◌||◌, false, sym, ◌∙◌, ap, arith, ltb}
use Rattle.std.proofs.lemmas.Bool.Decides.{nat_tests}
use Rattle.std.specs.Ordering.{is_eq}
use Rattle.stamp_order.specs.Stamps.{same_stamp}
use Rattle.candidate_class.proofs.lemmas.Compared.{same_by_fields}
use Rattle.candidate_class.proofs.validity.has_time.Goals as goal

pub returns-else-version-gt0 : goal.returns-else-version-gt0
returns-else-version-gt0 c =
    let early : ltb 0 c.args.version.now.stamp.time ≡ false = grind (arith, nat_tests, c.if-version-gt0.false) in
    c.is_eq.ensures ∙ ap is_eq c.cmp.ensures ∙ same_by_fields c.args.version.now.stamp c.args.first.now ∙ sym (ap (λ b. b || same_stamp c.args.version.now.stamp c.args.first.now) early)
