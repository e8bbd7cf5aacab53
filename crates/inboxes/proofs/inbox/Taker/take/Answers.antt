use Rattle.std.proofs.Common.{[], ◌∷◌, ◌++◌, sym, ap, ◌∙◌}
use Rattle.std.proofs.lemmas.Option.{IfSome_then}
use Rattle.crossbeam_channel.specs.Claims.{view}
use Rattle.inboxes.specs.declared.rule.View.{View}
use Rattle.inboxes.specs.Sides.{took}
use Rattle.inboxes.proofs.AllEnded.{all_ended}
use Rattle.inboxes.proofs.TakenInOrder.{if_none, took_next, took_none, took_from}
use Rattle.inboxes.proofs.inbox.Taker.take.Goals as goal

pub returns-clause-done : goal.returns-clause-done
returns-clause-done g c =
    let is = c.take_next.ensures.takes in
    if_none (λ all. λ p below. all_ended c.self.inside.senders (view c.take_next.new.pass).heard is.known is.orderly (sym is.count ∙ all) p below) c.take_next.result c.take_next.ensures.done

pub returns-clause-senders : goal.returns-clause-senders
returns-clause-senders g c =
    if_none (λ lasts. took_from c.self.inside.senders (view c.take_next.new.pass).heard c.take_next.ensures.takes.known) c.take_next.result c.take_next.ensures.none

pub returns-clause-took : goal.returns-clause-took
returns-clause-took g c =
    let v = view c.self.inside.pass in
    let w = view c.take_next.new.pass in
    IfSome_then c.take_next.result c.take_next.ensures.some (λ r next. took_next v.heard w.heard next.0 r.0 r.1 (ap (λ (v : View g.row.T.Denot g.row.T-Place.Denot). v.heard) next.1) ∙ ap (λ t. took t ++ r ∷ []) c.self.view_is)

pub returns-clause-kept : goal.returns-clause-kept
returns-clause-kept g c =
    let v = view c.self.inside.pass in
    let w = view c.take_next.new.pass in
    if_none (λ lasts. took_none v.heard w.heard lasts.0 (ap (λ (v : View g.row.T.Denot g.row.T-Place.Denot). v.heard) lasts.1) ∙ ap took c.self.view_is) c.take_next.result c.take_next.ensures.none
