use Rattle.std.proofs.Common.{◌≡◌, refl, sym, ◌∙◌, ap}
use Rattle.std.proofs.lemmas.Map.Entries.{filter_from_retain_pairs}
use Rattle.node_core.specs.Index.{is_other}
use Rattle.node_core.proofs.kept.drop_version.Goals as goal

pub returns : goal.returns
returns c =
    filter_from_retain_pairs _ (λ f. f.0.now ≡ c.args.dropped) (λ e. is_other c.args.dropped e.0)
    (λ g k v b w g' same t.
    let said = t.called.met.1 in (
      rw (same, t.shows.0) at said.0,
      sym t.leaves ∙ said.1 ∙ t.shows.1,
      ap (λ f. f.now) t.called.met.0 ∙ same,
    ))
    _ _ _ refl c.retain.ensures.filtered
