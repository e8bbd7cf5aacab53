use Rattle.std.proofs.Common.{[], List, ℕ, Option, unwrap_or, ap, ◌∙◌}
use Rattle.std.proofs.lemmas.Option.{unwrap_or-slice_get}
use Rattle.store_care.proofs.filling.share_of.Goals as goal

pub returns-in-None : goal.returns-in-None
returns-in-None c =
    c.empty.ensures ∙ ap (λ (o : Option (List ℕ)). unwrap_or o []) c.in-None.ensures
    ∙ unwrap_or-slice_get c.args.summed.now.shares c.args.number []
