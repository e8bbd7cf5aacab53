use Rattle.std.proofs.Common.{arith}
use Rattle.std.proofs.lemmas.List.{get_or_default}
use Rattle.command_texts.proofs.forms.form_bytes.Goals as goal

pub returns : goal.returns
returns c = λ k d hk. let e = get_or_default c.args._bytes.now k d 0 hk in let f = (c.type_inv._bytes k).fits in omega (arith, e, f)
