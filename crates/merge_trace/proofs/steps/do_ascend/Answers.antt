use Rattle.std.proofs.Common.{◌≡◌, ◌+◌, ℕ, List, [], ◌∷◌, ◌++◌, take, drop, sym, subst, arith}
use Rattle.protocol.specs.Report.{Ascend}
use Rattle.journals.specs.declared.desk.DeskJournal.{DeskJournal}
use Rattle.merge_trace.proofs.Adding.{refused, taken_more, cut_at}
use Rattle.merge_trace.proofs.Clients.{clients_of, IsLeast, more_least, not_ascending}
use Rattle.merge_trace.proofs.steps.do_ascend.Goals as goal

pub loop-desk-preserved : goal.loop-desk-preserved
loop-desk-preserved c =
    let d = c.desk-item.result in
    let same : d.client ≡ c.from-client.result = omega (arith, c.from-client.ensures) in
    subst (λ (ds : List DeskJournal). IsLeast (clients_of ds) (c.from-client.result + 1)) (sym (taken_more c.args.desks.now c.loop-desk.desk-index d c.loop-desk-test.true c.desk-item.is))
    (subst (λ (n : ℕ). IsLeast (clients_of (take c.loop-desk.desk-index c.args.desks.now ++ d ∷ [])) (n + 1)) same
    (more_least (take c.loop-desk.desk-index c.args.desks.now) d c.loop-desk.least c.loop-desk.invariant (omega (arith, same, c.if-client-least.false))))

pub returns-then-client-least : goal.returns-then-client-least
returns-then-client-least c =
    let d = c.desk-item.result in
    let same : d.client ≡ c.from-client.result = omega (arith, c.from-client.ensures) in
    refused _ (λ up. not_ascending (take c.loop-desk.desk-index c.args.desks.now) d (drop (c.loop-desk.desk-index + 1) c.args.desks.now) c.loop-desk.least c.loop-desk.invariant (omega (arith, same, c.if-client-least.true))
    (subst (λ (ds : List DeskJournal). Ascend (clients_of ds)) (cut_at c.args.desks.now c.loop-desk.desk-index d c.loop-desk-test.true c.desk-item.is) up))
