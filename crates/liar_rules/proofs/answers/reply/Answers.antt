use Rattle.std.proofs.Common.{◌∙◌, Some, ap}
use Rattle.protocol.specs.Messages.{Version}
use Rattle.protocol.specs.Lines.{flipped}
use Rattle.wire_forms.specs.declared.message.Reply.TheVariants.{Found}
use Rattle.protocol.specs.Seen.{as_version}
use Rattle.protocol.proofs.lemmas.Firsts.{first_is}
use Rattle.liar_rules.proofs.answers.reply.Goals as goal

-- the version with a damaged fragment
abbrev broken : Version → Version
broken v = record { stamp = v.stamp; sum = v.sum; fragment = flipped v.fragment }

pub returns-in_ok-kept-in-Old-Read : goal.returns-in_ok-kept-in-Old-Read
returns-in_ok-kept-in-Old-Read c =
    let first = ap as_version c.requires.first ∙ first_is c.args.config.now c.n.ensures.valid c.args.node c.requires.node in
    rw (c.in-Old-Read.is-0, c.in-Old-Read.is-1) (ap (λ (v : Version). Some (Found v)) (c.in_ok-kept-in-Old-Read.ensures ∙ first))

pub returns-in_ok-kept_damaged-in-Bad-Read : goal.returns-in_ok-kept_damaged-in-Bad-Read
returns-in_ok-kept_damaged-in-Bad-Read c =
    let first = ap as_version c.requires.first ∙ first_is c.args.config.now c.n.ensures.valid c.args.node c.requires.node in
    rw (c.in-Bad-Read.is-0, c.in-Bad-Read.is-1) (ap (λ (v : Version). Some (Found v)) (c.in_ok-kept_damaged-in-Bad-Read.ensures ∙ ap broken first))
