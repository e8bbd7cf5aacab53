use Rattle.std.proofs.Common.{rules, arith, ◌≡◌, ◌∙◌, sym, ap}
use Rattle.quorum_rules.specs.Limits.{Numbers}
use Rattle.std.specs.Option.{IsSome}
use Rattle.std.specs.declared.option.Option.TheVariants.{None, Some}
use Rattle.client_duties.proofs.Going.{held_whole}
use Rattle.client_duties.proofs.Asking.{asks_block}
use Rattle.client_duties.proofs.Running.{whole_on, ok_gives, may_call, asking_on, asked_out, crashed_out}
use Rattle.client_duties.proofs.correct_client.CorrectClient.ask_on.Goals as goal

pub call-requires-clause-on : goal.call-requires-clause-on
call-requires-clause-on g c = asks_block c.loop.endpoint.desk c.in-Some-next_node.node c.args.block c.loop.invariant.2.on

pub call-requires-clause-whole : goal.call-requires-clause-whole
call-requires-clause-whole g c =
    let w = c.loop.self in
    let w' = c.count_ask-way.new.self in
    let a = c.loop.invariant.2 in
    let m = may_call w w' c.loop.endpoint.desk c.desk.result.now c.in-Some-next_node.node c.count_ask-way.result a.goes a.up c.desk.ensures c.in-Some-next_node.ensures.node c.count_ask-way.ensures.counted c.in-Some-next_node.ensures.next in
    let n = ap (λ (x : Numbers). x.n) a.goes.its.config in
    let below = m.below in
    held_whole w c.loop.endpoint.desk.entries c.in-Some-next_node.node c.count_ask-way.result w' c.args.shared_cells.now.cell_shards (omega (arith, n, below)) a.goes.counts c.count_ask-way.ensures.counted
    (whole_on c.args.self.now w c.args.shared_cells.now.cell_shards a.same c.requires.whole)

pub returns-then-eq-clause-asked : goal.returns-then-eq-clause-asked
returns-then-eq-clause-asked g c ok =
    let none : c.loop.self.crash_after ≡ Some 0 = search rules in
    crashed_out c.args.self.now c.loop.self c.args.endpoint.now c.loop.endpoint c.args.shared_cells.now c.args.block c.crash-crashed.new.self.desk c.loop.invariant.2 none
    (ok_gives c.crash-crashed.result (sym c.crash-crashed.ensures.refused ∙ ok) c.crash-crashed.ensures.ok)

pub returns-in_default-call-clause-later : goal.returns-in_default-call-clause-later
returns-in_default-call-clause-later g c = c.desks_go_on.ensures.on c.args.endpoint.now.desk c.loop.endpoint.desk c.call.new.self.desk c.loop.invariant.2.later c.call.ensures.later

pub returns-then-is_some-clause-later : goal.returns-then-is_some-clause-later
returns-then-is_some-clause-later g c = c.desks_go_on.ensures.on c.args.endpoint.now.desk c.loop.endpoint.desk c.call.new.self.desk c.loop.invariant.2.later c.call.ensures.later

pub returns-then-is_some-clause-asked : goal.returns-then-is_some-clause-asked
returns-then-is_some-clause-asked g c ok =
    let w' = c.count_ask-way.new.self in
    let a = c.loop.invariant.2 in
    let m = may_call c.loop.self w' c.loop.endpoint.desk c.desk.result.now c.in-Some-next_node.node c.count_ask-way.result a.goes a.up c.desk.ensures c.in-Some-next_node.ensures.node c.count_ask-way.ensures.counted c.in-Some-next_node.ensures.next in
    let some : IsSome c.in-Ok.answer = search rules in
    asked_out c.args.self.now c.loop.self w' c.args.endpoint.now c.loop.endpoint c.call.new.self c.args.shared_cells.now c.args.block c.in-Some-next_node.node c.count_ask-way.result a m c.in-Ok.answer some c.in-Ok.ensures.called

pub loop-preserved : goal.loop-preserved
loop-preserved g c =
    let w' = c.count_ask-way.new.self in
    let a = c.loop.invariant.2 in
    let none : c.in-Ok.answer ≡ None = search rules in
    let m = may_call c.loop.self w' c.loop.endpoint.desk c.desk.result.now c.in-Some-next_node.node c.count_ask-way.result a.goes a.up c.desk.ensures c.in-Some-next_node.ensures.node c.count_ask-way.ensures.counted c.in-Some-next_node.ensures.next in (
      tt,
      tt,
      asking_on c.args.self.now c.loop.self w' c.args.endpoint.now c.loop.endpoint c.call.new.self c.args.shared_cells.now c.args.block c.in-Some-next_node.node c.count_ask-way.result a m
          c.in-Ok.answer none c.in-Ok.ensures.called c.in-Ok.ensures.stays c.in-Ok.ensures.fit c.in-Ok.ensures.refused (c.desks_go_on.ensures.on c.args.endpoint.now.desk c.loop.endpoint.desk c.call.new.self.desk a.later c.in-Ok.ensures.later),
    )
