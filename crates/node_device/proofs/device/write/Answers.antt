use Rattle.std.proofs.Common.{◌≡◌, sym, ◌∙◌, ap, subst}
use Rattle.run_words.specs.declared.outcome.Outcome.TheVariants.{Wrote}
use Rattle.client_core.specs.declared.heard.Heard.TheVariants.{Send, Ended as EndedWith}
use Rattle.operation_core.specs.Clients.{ClientView}
use Rattle.protocol.specs.Instance.{setting}
use Rattle.protocol.specs.Operations.{mail}
use Rattle.protocol.specs.Seen.{task_at}
use Rattle.node_device.specs.Phases.{HasAsked}
use Rattle.node_device.proofs.Operations.{stamp, writing, storing, write_asks, write_sends, write_goes, store_asks, write_ends, write_there, write_done}
use Rattle.node_device.proofs.device.write.Goals as goal

pub start-requires-clause-fits : goal.start-requires-clause-fits
start-requires-clause-fits c = c.requires.value

pub ask-requires : goal.ask-requires
ask-requires c =
    let nodes = c.args.nodes.now.items in
    let client = c.args.client.now in
    let ready = c.requires.ready in
    let block = c.args.block in
    let there = c.requires.block in
    let value = c.args.value in
    let is = c.requires.value in
    let last = c.requires.time in
    rw (c.in_ok-mail.ensures.mail, c.in_ok-mail.ensures.ok) (writing nodes client ready block there value is last, write_asks nodes client ready block there value is last)

pub unreachable-requires : goal.unreachable-requires
unreachable-requires c =
    let nodes = c.args.nodes.now.items in
    let client = c.args.client.now in
    let ready = c.requires.ready in
    let block = c.args.block in
    let there = c.requires.block in
    let value = c.args.value in
    let is = c.requires.value in
    let last = c.requires.time in
    let t = writing nodes client ready block there value is last in
    let has = subst (λ x. HasAsked nodes c.ask.new.nodes.items x c.ask.new.client t c.in_ok-mail-2.field-0) c.in_ok-mail.ensures.ok (c.in_ok-mail-2.ensures t (ap (λ (x : ClientView). x.seen.task) c.in_ok-mail.ensures.ok)) in
    c.in_default.not-Send _ (write_sends nodes client ready block there value is last _ _ _ has)

pub ask-requires-2 : goal.ask-requires-2
ask-requires-2 c =
    let nodes = c.args.nodes.now.items in
    let client = c.args.client.now in
    let ready = c.requires.ready in
    let block = c.args.block in
    let there = c.requires.block in
    let value = c.args.value in
    let is = c.requires.value in
    let last = c.requires.time in
    let t = writing nodes client ready block there value is last in
    let has = subst (λ x. HasAsked nodes c.ask.new.nodes.items x c.ask.new.client t c.in_ok-mail-2.field-0) c.in_ok-mail.ensures.ok (c.in_ok-mail-2.ensures t (ap (λ (x : ClientView). x.seen.task) c.in_ok-mail.ensures.ok)) in
    let u = storing nodes client ready block there value is last in
    let sent : c.in_ok-mail-2.field-0 ≡ Send c.in-Send.mail = c.in-Send.is in
    let sends = sym sent ∙ write_sends nodes client ready block there value is last _ _ _ has in
    let same : c.in-Send.mail ≡ mail (setting client.config) client.id (task_at 0 u) = cc in
    rw same (u, store_asks nodes client ready block there value is last _ _ _ has)

pub unreachable-requires-in_default-2 : goal.unreachable-requires-in_default-2
unreachable-requires-in_default-2 c =
    let nodes = c.args.nodes.now.items in
    let client = c.args.client.now in
    let ready = c.requires.ready in
    let block = c.args.block in
    let there = c.requires.block in
    let value = c.args.value in
    let is = c.requires.value in
    let last = c.requires.time in
    let t = writing nodes client ready block there value is last in
    let has = subst (λ x. HasAsked nodes c.ask.new.nodes.items x c.ask.new.client t c.in_ok-mail-2.field-0) c.in_ok-mail.ensures.ok (c.in_ok-mail-2.ensures t (ap (λ (x : ClientView). x.seen.task) c.in_ok-mail.ensures.ok)) in
    let u = storing nodes client ready block there value is last in
    let stored = c.in_ok-outcome.ensures u (ap (λ (x : ClientView). x.seen.task) (write_goes nodes client ready block there value is last _ _ _ has)) in
    let ends = write_ends nodes client ready block there value is last _ _ _ has _ _ _ stored in
    c.in_default-2.not-Ended _ ends

pub unreachable-requires-in_default-outcome : goal.unreachable-requires-in_default-outcome
unreachable-requires-in_default-outcome c =
    let nodes = c.args.nodes.now.items in
    let client = c.args.client.now in
    let ready = c.requires.ready in
    let block = c.args.block in
    let there = c.requires.block in
    let value = c.args.value in
    let is = c.requires.value in
    let last = c.requires.time in
    let t = writing nodes client ready block there value is last in
    let has = subst (λ x. HasAsked nodes c.ask.new.nodes.items x c.ask.new.client t c.in_ok-mail-2.field-0) c.in_ok-mail.ensures.ok (c.in_ok-mail-2.ensures t (ap (λ (x : ClientView). x.seen.task) c.in_ok-mail.ensures.ok)) in
    let u = storing nodes client ready block there value is last in
    let stored = c.in_ok-outcome.ensures u (ap (λ (x : ClientView). x.seen.task) (write_goes nodes client ready block there value is last _ _ _ has)) in
    let ends = write_ends nodes client ready block there value is last _ _ _ has _ _ _ stored in
    let ended : c.in_ok-outcome.field-0 ≡ EndedWith c.in-Ended.outcome = c.in-Ended.is in
    let same = sym ended ∙ ends in
    let wrote : c.in-Ended.outcome ≡ Wrote (stamp nodes client ready block there value is last) = cc in
    c.in_default-outcome.not-Wrote _ wrote

pub prune-requires : goal.prune-requires
prune-requires c =
    let nodes = c.args.nodes.now.items in
    let client = c.args.client.now in
    let ready = c.requires.ready in
    let block = c.args.block in
    let there = c.requires.block in
    let value = c.args.value in
    let is = c.requires.value in
    let last = c.requires.time in
    let t = writing nodes client ready block there value is last in
    let has = subst (λ x. HasAsked nodes c.ask.new.nodes.items x c.ask.new.client t c.in_ok-mail-2.field-0) c.in_ok-mail.ensures.ok (c.in_ok-mail-2.ensures t (ap (λ (x : ClientView). x.seen.task) c.in_ok-mail.ensures.ok)) in
    let u = storing nodes client ready block there value is last in
    let stored = c.in_ok-outcome.ensures u (ap (λ (x : ClientView). x.seen.task) (write_goes nodes client ready block there value is last _ _ _ has)) in
    let ends = write_ends nodes client ready block there value is last _ _ _ has _ _ _ stored in
    write_there nodes client ready block there value is last _ _ _ has _ _ _ stored

pub returns : goal.returns
returns c =
    let nodes = c.args.nodes.now.items in
    let client = c.args.client.now in
    let ready = c.requires.ready in
    let block = c.args.block in
    let there = c.requires.block in
    let value = c.args.value in
    let is = c.requires.value in
    let last = c.requires.time in
    let t = writing nodes client ready block there value is last in
    let has = subst (λ x. HasAsked nodes c.ask.new.nodes.items x c.ask.new.client t c.in_ok-mail-2.field-0) c.in_ok-mail.ensures.ok (c.in_ok-mail-2.ensures t (ap (λ (x : ClientView). x.seen.task) c.in_ok-mail.ensures.ok)) in
    let u = storing nodes client ready block there value is last in
    let stored = c.in_ok-outcome.ensures u (ap (λ (x : ClientView). x.seen.task) (write_goes nodes client ready block there value is last _ _ _ has)) in
    let ends = write_ends nodes client ready block there value is last _ _ _ has _ _ _ stored in
    let wrote : c.in-Ended.outcome ≡ Wrote c.in-Wrote.stamp = c.in-Wrote.is in
    let ended : c.in_ok-outcome.field-0 ≡ EndedWith c.in-Ended.outcome = c.in-Ended.is in
    let same = sym (ended ∙ ap EndedWith wrote) ∙ ends in
    let stamped : c.in-Wrote.stamp ≡ stamp nodes client ready block there value is last = cc in
    record { ok = rw (c.prune.ensures, stamped) (write_done nodes client ready block there value is last _ _ _ has _ _ _ stored) }
