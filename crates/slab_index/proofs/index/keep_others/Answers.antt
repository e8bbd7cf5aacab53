use Rattle.std.proofs.Common.{◌∙◌, ap}
use Rattle.std.proofs.lemmas.Fn.{filter_same}
use Rattle.slab_index.specs.Kept.{is_elsewhere}
use Rattle.slab_index.proofs.index.keep_others.Goals as goal

pub returns : goal.returns
returns c =
    filter_same _ (is_elsewhere c.args.slot) _
    (λ x b g t. (t.called.met.1 ∙ ap (is_elsewhere c.args.slot) t.shows, λ i. record { 0 = t.called.met.0 i }))
    _ _ c.retain.ensures.filtered
