use Rattle.std.proofs.Common.{◌∙◌, ap}
use Rattle.std.proofs.lemmas.Fn.{filter_same}
use Rattle.node_core.specs.Index.{is_other}
use Rattle.node_core.proofs.kept.drop_stamp.Goals as goal

pub returns : goal.returns
returns c =
    filter_same _ (is_other c.args.dropped) _
    (λ x b g t. (t.called.met.1 ∙ ap (is_other c.args.dropped) t.shows, λ i. record { 0 = t.called.met.0 i }))
    _ _ c.retain.ensures.filtered
