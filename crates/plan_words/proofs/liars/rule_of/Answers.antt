use Rattle.std.proofs.Common.{◌≡◌, codes, refl, rules}
use Rattle.std.proofs.lemmas.Slice.Eq.{text_from_reads}
use Rattle.plan_words.proofs.liars.rule_of.Goals as goal

pub returns-in-silent-clause-there : goal.returns-in-silent-clause-there
returns-in-silent-clause-there c =
    let e : c.args.field.now ≡ codes "silent" = text_from_reads c.args.field.now (codes "silent") (search rules) (search rules) in rw e refl
