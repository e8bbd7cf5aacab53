use Rattle.std.proofs.Common.{◌≡◌, Option, Bor, option_copied, sym, subst, ap, ◌∙◌}
use Rattle.std.specs.Ordering.{is_eq}
use Rattle.stamp_order.specs.Stamps.{stamp_cmp, same_stamp}
use Rattle.protocol.specs.Messages.{Version}
use Rattle.protocol.specs.Nodes.{carries}
use Rattle.store_care.proofs.counting.has_stamp.Goals as goal

pub returns-in-Some : goal.returns-in-Some
unfolding stamp_cmp same_stamp
returns-in-Some c =
    subst (λ (m : Option (Bor Version)). c.is_eq.result ≡ carries c.args.stamp.now (option_copied m)) (sym c.in-Some.is)
    (c.is_eq.ensures ∙ ap is_eq c.cmp.ensures)
