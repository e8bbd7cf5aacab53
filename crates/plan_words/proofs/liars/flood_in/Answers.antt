use Rattle.std.proofs.Common.{◌≡◌, ℕ, List, [], length, get_or, ap, arith}
use Rattle.std.specs.Prelude.{codes}
use Rattle.std.specs.Borrow.{Bor}
use Rattle.text_lines.specs.Lines.{texts}
use Rattle.plan_words.proofs.liars.flood_in.Goals as goal
use Rattle.line_forms.proofs.lemmas.Texts.{seven_texts}

pub returns : goal.returns
returns c =
    let d : Bor (List ℕ) = record { ref_ptr = (0, 0); now = [] } in
    let xs = c.args.fields.now in
    let len : length xs ≡ 7 = omega arith in
    let kind : (get_or xs 1 d).now ≡ codes "flood" = rw (seven_texts xs d len) at c.requires in
    let time : get_or (texts xs) 3 [] ≡ (get_or xs 3 d).now = ap (λ (fs : List (List ℕ)). get_or fs 3 []) (seven_texts xs d len) in
    rw (seven_texts xs d len, time, kind) c.flood.ensures
