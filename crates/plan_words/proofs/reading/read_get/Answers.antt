use Rattle.std.proofs.Common.{◌≡◌, ℕ, List, [], length, arith}
use Rattle.std.specs.Borrow.{Bor}
use Rattle.plan_words.proofs.FormCauses.{three_texts}
use Rattle.plan_words.proofs.reading.read_get.Goals as goal

pub returns : goal.returns
returns c = λ numbers.
    let d : Bor (List ℕ) = record { ref_ptr = (0, 0); now = [] } in
    let xs = c.args.fields.now in
    let len : length xs ≡ 3 = omega arith in
    rw (three_texts xs d len) (c.get.ensures numbers)
