use Rattle.std.proofs.Common.{◌≡◌, ◌∙◌, sym, ap, subst}
use Rattle.protocol.specs.Seen.Hearing.{Ended}
use Rattle.run_words.specs.declared.outcome.Outcome.TheVariants.{Gave}
use Rattle.operation_core.specs.Counting.{hears_in}
use Rattle.read_core.specs.Readers.{SeenRead, IsReader}
use Rattle.read_core.proofs.Hearing.{rounds_are, gives, given, outvoted, begun, begun_is, begun_goes}
use Rattle.read_core.proofs.reader.Reader.end_by.Goals as goal

pub returns-in-Gives-clause-reading : goal.returns-in-Gives-clause-reading
returns-in-Gives-clause-reading c =
    let o = c.args.self.now.operation in
    let a = c.args in
    let g = c.in-Gives in
    let reader = subst (λ r. IsReader c.self.inside.first r.operation r.rounds) c.self.view_is c.self.invariant in
    let is = c.in_ok-nodes.ensures in
    let rounds = rounds_are o c.self.inside.first c.args.self.now.rounds reader a.node a.tag a.reply.now c.requires.ends c.in_ok-nodes.field-0 is in
    gives o c.self.inside.first c.args.self.now.rounds reader a.node a.tag a.reply.now c.requires.ends c.in_ok-nodes.field-0 is g.stamp g.value g.how g.is ∙ ap (λ k. Ended (Gave g.stamp g.value g.how k)) (sym rounds)

pub returns-in_ok-mail-in-GoesOn-clause-reading : goal.returns-in_ok-mail-in-GoesOn-clause-reading
returns-in_ok-mail-in-GoesOn-clause-reading c =
    let o = c.args.self.now.operation in
    let a = c.args in
    let reader = subst (λ r. IsReader c.self.inside.first r.operation r.rounds) c.self.view_is c.self.invariant in
    let v : c.self.inside.operation ≡ o = ap (λ (r : SeenRead). r.operation) c.self.view_is in
    let mail = rw v at c.in_ok-mail-in-GoesOn.ensures in
    let b = begun o c.self.inside.first c.args.self.now.rounds reader a.node a.tag a.reply.now c.requires.ends c.in_ok-nodes.field-0 c.in_ok-nodes.ensures c.in-GoesOn.stage c.in-GoesOn.is c.requires.phase c.in_ok-mail-in-GoesOn.mail mail in
    (b.task, b.begins, b.mail)

pub returns-in_ok-mail-in-GoesOn-clause-after : goal.returns-in_ok-mail-in-GoesOn-clause-after
returns-in_ok-mail-in-GoesOn-clause-after c =
    let o = c.args.self.now.operation in
    let a = c.args in
    let reader = subst (λ r. IsReader c.self.inside.first r.operation r.rounds) c.self.view_is c.self.invariant in
    let v : c.self.inside.operation ≡ o = ap (λ (r : SeenRead). r.operation) c.self.view_is in
    let mail = rw v at c.in_ok-mail-in-GoesOn.ensures in
    let b = begun o c.self.inside.first c.args.self.now.rounds reader a.node a.tag a.reply.now c.requires.ends c.in_ok-nodes.field-0 c.in_ok-nodes.ensures c.in-GoesOn.stage c.in-GoesOn.is c.requires.phase c.in_ok-mail-in-GoesOn.mail mail in
    begun_is c.args.self.now c.go_on.new.self (hears_in o a.node a.tag a.reply.now) c.in-GoesOn.stage c.in_ok-mail-in-GoesOn.mail b c.go_on.ensures

pub end-requires : goal.end-requires
end-requires c =
    let o = c.args.self.now.operation in
    let a = c.args in
    let reader = subst (λ r. IsReader c.self.inside.first r.operation r.rounds) c.self.view_is c.self.invariant in
    outvoted o c.self.inside.first c.args.self.now.rounds reader a.node a.tag a.reply.now c.requires.ends c.in_ok-nodes.field-0 c.in_ok-nodes.ensures c.in-Outvoted.nodes c.in-Outvoted.is

pub end-requires-in-Gives : goal.end-requires-in-Gives
end-requires-in-Gives c =
    let o = c.args.self.now.operation in
    let a = c.args in
    let g = c.in-Gives in
    let reader = subst (λ r. IsReader c.self.inside.first r.operation r.rounds) c.self.view_is c.self.invariant in
    given o c.self.inside.first c.args.self.now.rounds reader a.node a.tag a.reply.now c.requires.ends c.in_ok-nodes.field-0 c.in_ok-nodes.ensures g.stamp g.value g.how g.is

pub go_on-requires : goal.go_on-requires
go_on-requires c =
    let o = c.args.self.now.operation in
    let a = c.args in
    let reader = subst (λ r. IsReader c.self.inside.first r.operation r.rounds) c.self.view_is c.self.invariant in
    let v : c.self.inside.operation ≡ o = ap (λ (r : SeenRead). r.operation) c.self.view_is in
    let mail = rw v at c.in_ok-mail-in-GoesOn.ensures in
    let b = begun o c.self.inside.first c.args.self.now.rounds reader a.node a.tag a.reply.now c.requires.ends c.in_ok-nodes.field-0 c.in_ok-nodes.ensures c.in-GoesOn.stage c.in-GoesOn.is c.requires.phase c.in_ok-mail-in-GoesOn.mail mail in
    begun_goes o a.node a.tag a.reply.now c.in-GoesOn.stage c.in_ok-mail-in-GoesOn.mail b
