use Rattle.std.proofs.Common.{◌≡◌, sym, ◌∙◌, ap, arith, length}
use Rattle.std.proofs.lemmas.List.{length-map}
use Rattle.wire_forms.specs.declared.message.Version.{Version}
use Rattle.node_core.specs.Index.{versions_of}
use Rattle.node_core.proofs.Finding.{listed_stamps}
use Rattle.node_core.proofs.kept.Kept.len.Goals as goal

pub returns : goal.returns
returns c =
    let vs = versions_of c.self.inside.order.items c.self.inside.by_stamp in
    let same : length c.self.inside.order.items ≡ length c.args.self.now =
    sym (ap length (listed_stamps c.self.inside.order.items c.self.inside.by_stamp c.self.invariant)) ∙ length-map vs (λ (v : Version). v.stamp) ∙ ap length c.self.view_is in
    omega (arith, same)
