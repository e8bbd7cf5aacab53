use Rattle.std.proofs.Common.{◌≡◌, ◌∙◌, sym, ap, subst}
use Rattle.protocol.specs.Seen.Hearing.{Ended}
use Rattle.run_words.specs.declared.outcome.Outcome.TheVariants.{Gave}
use Rattle.read_core.specs.Readers.{SeenRead, IsReader}
use Rattle.read_core.proofs.Hearing.{under_way, rounds_told, gives, begun}
use Rattle.read_core.proofs.reader.Reader.phase_end.Goals as goal

pub returns-in-Gives : goal.returns-in-Gives
returns-in-Gives c =
    let o = c.args.self.now.operation in
    let a = c.args in
    let g = c.in-Gives in
    let reader = subst (λ r. IsReader c.self.inside.first r.operation r.rounds) c.self.view_is c.self.invariant in
    let is = c.in_ok-nodes.ensures in
    let on = under_way o c.self.inside.first c.args.self.now.rounds reader a.node a.tag a.reply.now c.requires.ends c.in_ok-nodes.field-0 is in
    let rounds = rounds_told o.task on.0 c.args.self.now.rounds on.1 reader.counted in
    gives o c.self.inside.first c.args.self.now.rounds reader a.node a.tag a.reply.now c.requires.ends c.in_ok-nodes.field-0 is g.stamp g.value g.how g.is ∙ ap (λ k. Ended (Gave g.stamp g.value g.how k)) (sym (ap (λ (r : SeenRead). r.rounds) c.self.view_is ∙ rounds))

pub returns-in_ok-mail-in-GoesOn : goal.returns-in_ok-mail-in-GoesOn
returns-in_ok-mail-in-GoesOn c =
    let o = c.args.self.now.operation in
    let a = c.args in
    let reader = subst (λ r. IsReader c.self.inside.first r.operation r.rounds) c.self.view_is c.self.invariant in
    let v : c.self.inside.operation ≡ o = ap (λ (r : SeenRead). r.operation) c.self.view_is in
    let mail = rw v at c.in_ok-mail-in-GoesOn.ensures in
    begun o c.self.inside.first c.args.self.now.rounds reader a.node a.tag a.reply.now c.requires.ends c.in_ok-nodes.field-0 c.in_ok-nodes.ensures c.in-GoesOn.stage c.in-GoesOn.is c.requires.phase c.in_ok-mail-in-GoesOn.mail mail
