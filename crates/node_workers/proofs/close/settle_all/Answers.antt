use Rattle.std.proofs.Common.{◌++◌, ◌∷◌, [], List, subst, ◌∙◌}
use Rattle.std.specs.Vec.Iter.{into_iter_items, into_iter_len}
use Rattle.std.proofs.lemmas.List.Elements.{All-push}
use Rattle.thread_work.specs.Pairwise.{Beside}
use Rattle.thread_work.proofs.lemmas.Places.{walk_on}
use Rattle.client_endpoints.specs.declared.mail.ByMail.{ByMail}
use Rattle.node_workers.specs.Closed.{HasAllOf}
use Rattle.node_workers.proofs.close.settle_all.Goals as goal

pub loop-row-preserved : goal.loop-row-preserved
loop-row-preserved c =
    let inv = c.loop-row.invariant in
    let steps = c.in-Some.ensures.steps in
    let row = c.in-Some.row in
    let mails = c.args.mails.now.items in
    let settled : Beside HasAllOf mails row = subst (λ (l : List ByMail). Beside HasAllOf l row) inv.2 c.in_ok-settle_row.ensures.settled in (
      inv.0 ++ row ∷ [],
      walk_on c.args.rows.items inv.0 (into_iter_items c.loop-row.row-iterator) (into_iter_items c.next.new.self) row (into_iter_len c.loop-row.row-iterator) (into_iter_len c.next.new.self) inv.1 steps.0 steps.1,
      c.in_ok-settle_row.ensures.same ∙ inv.2,
      All-push (Beside HasAllOf mails) inv.0 row inv.3 settled,
    )
