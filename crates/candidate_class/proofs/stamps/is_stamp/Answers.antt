use Rattle.std.proofs.Common.{◌∙◌, ap}
use Rattle.std.specs.Ordering.{is_eq}
use Rattle.candidate_class.proofs.lemmas.Compared.{same_by_fields}
use Rattle.candidate_class.proofs.stamps.is_stamp.Goals as goal

pub returns-in-Some : goal.returns-in-Some
returns-in-Some c = rw c.in-Some.is (c.is_eq.ensures ∙ ap is_eq c.cmp.ensures ∙ same_by_fields c.in-Some.other c.args.stamp.now)
