use Rattle.std.proofs.Common.{◌+◌, ◌≤◌, [], ◌∷◌, ◌++◌, Some, None, arith, subst, ◌∙◌}
use Rattle.crossbeam_channel.specs.Claims.{view}
use Rattle.inboxes.specs.Parcels.{HearsWord}
use Rattle.inboxes.proofs.RuleIsKept.{hears}
use Rattle.inboxes.proofs.TakenInOrder.{takes_more, goes_on, from_sender, lasts_more}
use Rattle.inboxes.proofs.inbox.take_next.Given as given
use Rattle.inboxes.proofs.inbox.take_next.Goals.{After-drop-iterator-in-Said-default-Some}
use Rattle.inboxes.proofs.inbox.take_next.Goals as goal

pub receive_post-requires-clause-rule : goal.receive_post-requires-clause-rule
receive_post-requires-clause-rule g c =
    let i = c.loop.invariant.2 in
    hears g.T.InboxItem.fits c.loop.pass.id (view c.loop.pass) i.made i.role

-- what was heard, where it is a last word
heard_last : (g : given.Over) (c : goal.In-Said-default-None g) → HearsWord g.T.InboxItem.fits (view c.loop.pass) (c.in-Said-default-None.field-0, None) (view c.receive_post.new.pass)
heard_last g c =
    subst (λ word. HearsWord g.T.InboxItem.fits (view c.loop.pass) (c.in-Said-default-None.field-0, word) (view c.receive_post.new.pass)) c.in-Said-default-None.field-1-is c.in-Said-default-None.ensures.received

-- what was heard, where it is an item
heard_item : (g : given.Over) (c : After-drop-iterator-in-Said-default-Some g) → HearsWord g.T.InboxItem.fits (view c.loop.pass) (c.in-Said-default-Some.from, Some c.in-Said-default-Some.item) (view c.receive_post.new.pass)
heard_item g c =
    subst (λ word. HearsWord g.T.InboxItem.fits (view c.loop.pass) (c.in-Said-default-Some.from, word) (view c.receive_post.new.pass)) c.in-Said-default-Some.field-1-is c.in-Said-default-Some.ensures.received

pub returns-in-Said-default-Some-clause-takes : goal.returns-in-Said-default-Some-clause-takes
returns-in-Said-default-Some-clause-takes g c =
    let i = c.loop.invariant.2 in
    let item = c.in-Said-default-Some in
    takes_more g.T.InboxItem.fits (view c.loop.pass) (view c.receive_post.new.pass) c.args.place.now.value c.args.senders c.loop.lasts c.loop.lasts (item.from, Some item.item) i (heard_item g c) (omega arith) i.most

pub returns-in-Said-default-Some-clause-sender : goal.returns-in-Said-default-Some-clause-sender
returns-in-Said-default-Some-clause-sender g c =
    let item = c.in-Said-default-Some in
    from_sender g.T.InboxItem.fits (view c.loop.pass) (view c.receive_post.new.pass) c.args.place.now.value c.args.senders c.loop.lasts (item.from, Some item.item) c.loop.invariant.2 (heard_item g c)

pub returns-in-Said-default-Some-clause-going : goal.returns-in-Said-default-Some-clause-going
returns-in-Said-default-Some-clause-going g c =
    let item = c.in-Said-default-Some in
    goes_on g.T.InboxItem.fits (view c.loop.pass) (view c.receive_post.new.pass) item.from item.item (heard_item g c)

pub loop-preserved : goal.loop-preserved
loop-preserved g c =
    let i = c.loop.invariant.2 in
    let before = c.loop.invariant.3 in
    let from = c.in-Said-default-None.field-0 in
    let heard = heard_last g c in
    let less : c.loop.lasts + 1 ≤ c.args.senders = (let most = i.most in let not = c.if-lasts-senders.false in omega arith) in (
      c.receive_post.ensures.own,
      (c.receive_post.ensures.same.0 ∙ c.loop.invariant.1.0, c.receive_post.ensures.same.1 ∙ c.loop.invariant.1.1),
      takes_more g.T.InboxItem.fits (view c.loop.pass) (view c.receive_post.new.pass) c.args.place.now.value c.args.senders c.loop.lasts (c.loop.lasts + 1) (from, None) i heard (omega arith) less,
      (before.0 ++ from ∷ [], lasts_more (view c.args.pass.now) (view c.loop.pass) (view c.receive_post.new.pass) before.0 from before.1 heard.0),
    )
