use Rattle.std.proofs.Common.{◌≡◌, ℕ, List, [], length, get_or, arith}
use Rattle.std.specs.Prelude.{codes}
use Rattle.std.specs.Borrow.{Bor}
use Rattle.plan_words.proofs.liars.mix_in.Goals as goal
use Rattle.line_forms.proofs.lemmas.Texts.{seven_texts}

pub returns : goal.returns
returns c =
    let d : Bor (List ℕ) = record { ref_ptr = (0, 0); now = [] } in
    let xs = c.args.fields.now in
    let len : length xs ≡ 7 = omega arith in
    let kind : (get_or xs 1 d).now ≡ codes "mix" = rw (seven_texts xs d len) at c.requires in
    rw (seven_texts xs d len, kind) c.mix.ensures
