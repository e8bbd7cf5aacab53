use Rattle.std.proofs.Common.{◌≡◌, ap, sym, ◌∙◌, arith, true, false}
use Rattle.script_run.proofs.Counting.{counted_below, counted_next, counted_none, counted_all}
use Rattle.script_run.proofs.run.clients_of.Goals as goal
use Rattle.script_run.proofs.run.clients_of.Goals.{then-client, else-client}

pub loop-client-init : goal.loop-client-init
loop-client-init c = record { counted = sym (counted_none c.args.liars.now.clients c.requires.clients); few = omega arith }

pub loop-client-preserved : goal.loop-client-preserved
loop-client-preserved c =
    let ks = c.args.liars.now.clients in
    let k = c.loop-client.client in
    let few = c.loop-client.invariant.few in
    let counted = c.loop-client.invariant.counted in
    elim c.if-client.branch [
      | then-client w ↦
          let next = counted_next k ks true c.requires.ascending (sym w.if-client.true ∙ c.client.ensures) in
          let is = w.count-is in
          record { counted = omega arith; few = omega arith }
      | else-client w ↦
          let next = counted_next k ks false c.requires.ascending (sym w.if-client.false ∙ c.client.ensures) in
          let is = w.count-is in
          record { counted = omega arith; few = omega arith }
    ]

pub returns-clause-is : goal.returns-clause-is
returns-clause-is c =
    let ks = c.args.liars.now.clients in
    let high = c.loop-client-test.false in
    let low = c.loop-client.auto.client-end in
    let end : c.loop-client.client ≡ 1001 = omega arith in
    c.loop-client.invariant.counted ∙ ap (λ n. counted_below n ks) end ∙ counted_all ks c.requires.clients
