use Rattle.std.proofs.Common.{[], ◌∷◌, ◌++◌, sym, ap, ◌∙◌}
use Rattle.ida_code.proofs.rows.first_numbers.Goals as goal
use Rattle.lists.proofs.lemmas.Members.{range_more}

pub loop-k-preserved : goal.loop-k-preserved
loop-k-preserved c = c.in_ok-push.ensures.items ∙ ap (λ z. z ++ c.loop-k.k ∷ []) c.loop-k.invariant ∙ sym (range_more c.loop-k.k)
