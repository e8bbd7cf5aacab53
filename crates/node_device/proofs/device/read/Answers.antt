use Rattle.std.proofs.Common.{◌≡◌, sym, ◌∙◌, ap, subst}
use Rattle.run_words.specs.declared.outcome.Outcome.TheVariants.{Gave}
use Rattle.run_words.specs.declared.outcome.How.TheVariants.{Plain}
use Rattle.client_core.specs.declared.heard.Heard.TheVariants.{Ended as EndedWith}
use Rattle.operation_core.specs.Clients.{ClientView}
use Rattle.node_device.specs.Phases.{HasAsked}
use Rattle.node_device.specs.Held.{stamp_of}
use Rattle.node_device.proofs.Operations.{h, reading, read_asks, read_gives, read_done, read_there}
use Rattle.node_device.proofs.device.read.Goals as goal

pub ask-requires : goal.ask-requires
ask-requires c =
    let nodes = c.args.nodes.now.items in
    let client = c.args.client.now in
    let ready = c.requires.ready in
    let block = c.args.block in
    let there = c.requires.block in
    rw (c.in_ok-mail.ensures.mail, c.in_ok-mail.ensures.ok) (reading nodes client ready block there, read_asks nodes client ready block there)

pub unreachable-requires : goal.unreachable-requires
unreachable-requires c =
    let nodes = c.args.nodes.now.items in
    let client = c.args.client.now in
    let ready = c.requires.ready in
    let block = c.args.block in
    let there = c.requires.block in
    let t = reading nodes client ready block there in
    let has = subst (λ x. HasAsked nodes c.ask.new.nodes.items x c.ask.new.client t c.in_ok-outcome.field-0) c.in_ok-mail.ensures.ok (c.in_ok-outcome.ensures t (ap (λ (x : ClientView). x.seen.task) c.in_ok-mail.ensures.ok)) in
    let gives = read_gives nodes client ready block there _ _ _ has in
    c.in_default.not-Ended _ gives

pub unreachable-requires-in_default-outcome : goal.unreachable-requires-in_default-outcome
unreachable-requires-in_default-outcome c =
    let nodes = c.args.nodes.now.items in
    let client = c.args.client.now in
    let ready = c.requires.ready in
    let block = c.args.block in
    let there = c.requires.block in
    let t = reading nodes client ready block there in
    let has = subst (λ x. HasAsked nodes c.ask.new.nodes.items x c.ask.new.client t c.in_ok-outcome.field-0) c.in_ok-mail.ensures.ok (c.in_ok-outcome.ensures t (ap (λ (x : ClientView). x.seen.task) c.in_ok-mail.ensures.ok)) in
    let gives = read_gives nodes client ready block there _ _ _ has in
    let ended : c.in_ok-outcome.field-0 ≡ EndedWith c.in-Ended.outcome = c.in-Ended.is in
    let same = sym ended ∙ gives in
    let gave : c.in-Ended.outcome ≡ Gave (stamp_of client.config (h nodes client ready block there)) (h nodes client ready block there).value Plain 1 = cc in
    c.in_default-outcome.not-Gave _ _ _ _ gave

pub prune-requires : goal.prune-requires
prune-requires c =
    let nodes = c.args.nodes.now.items in
    let client = c.args.client.now in
    let ready = c.requires.ready in
    let block = c.args.block in
    let there = c.requires.block in
    let t = reading nodes client ready block there in
    let has = subst (λ x. HasAsked nodes c.ask.new.nodes.items x c.ask.new.client t c.in_ok-outcome.field-0) c.in_ok-mail.ensures.ok (c.in_ok-outcome.ensures t (ap (λ (x : ClientView). x.seen.task) c.in_ok-mail.ensures.ok)) in
    let gives = read_gives nodes client ready block there _ _ _ has in
    read_there nodes client ready block there _ _ _ has

pub returns-clause-value : goal.returns-clause-value
returns-clause-value c =
    let nodes = c.args.nodes.now.items in
    let client = c.args.client.now in
    let ready = c.requires.ready in
    let block = c.args.block in
    let there = c.requires.block in
    let t = reading nodes client ready block there in
    let has = subst (λ x. HasAsked nodes c.ask.new.nodes.items x c.ask.new.client t c.in_ok-outcome.field-0) c.in_ok-mail.ensures.ok (c.in_ok-outcome.ensures t (ap (λ (x : ClientView). x.seen.task) c.in_ok-mail.ensures.ok)) in
    let gives = read_gives nodes client ready block there _ _ _ has in
    let gave : c.in-Ended.outcome ≡ Gave c.in-Gave.stamp c.in-Gave.value c.in-Gave.how c.in-Gave.rounds = c.in-Gave.is in
    let ended : c.in_ok-outcome.field-0 ≡ EndedWith c.in-Ended.outcome = c.in-Ended.is in
    let same = sym (ended ∙ ap EndedWith gave) ∙ gives in
    cc

pub returns-clause-ok : goal.returns-clause-ok
returns-clause-ok c =
    let nodes = c.args.nodes.now.items in
    let client = c.args.client.now in
    let ready = c.requires.ready in
    let block = c.args.block in
    let there = c.requires.block in
    let t = reading nodes client ready block there in
    let has = subst (λ x. HasAsked nodes c.ask.new.nodes.items x c.ask.new.client t c.in_ok-outcome.field-0) c.in_ok-mail.ensures.ok (c.in_ok-outcome.ensures t (ap (λ (x : ClientView). x.seen.task) c.in_ok-mail.ensures.ok)) in
    let gives = read_gives nodes client ready block there _ _ _ has in
    let gave : c.in-Ended.outcome ≡ Gave c.in-Gave.stamp c.in-Gave.value c.in-Gave.how c.in-Gave.rounds = c.in-Gave.is in
    let ended : c.in_ok-outcome.field-0 ≡ EndedWith c.in-Ended.outcome = c.in-Ended.is in
    let same = sym (ended ∙ ap EndedWith gave) ∙ gives in
    let stamp : c.in-Gave.stamp ≡ stamp_of client.config (h nodes client ready block there) = cc in
    rw (c.prune.ensures, stamp) (read_done nodes client ready block there _ _ _ has)
