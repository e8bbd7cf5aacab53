use Rattle.std.proofs.Common.{rules, ◌≡◌, ◌∙◌, sym, map}
use Rattle.std.specs.declared.option.Option.TheVariants.{None}
use Rattle.protocol.specs.Seen.{record_of}
use Rattle.client_duties.proofs.Running.{ok_gives, begun, reads_whole}
use Rattle.client_duties.proofs.Ending.{stepped}
use Rattle.client_duties.proofs.correct_client.CorrectClient.do_step.Goals as goal

pub into_op-requires-clause-whole : goal.into_op-requires-clause-whole
into_op-requires-clause-whole g c =
    reads_whole c.args.self.now c.args.endpoint.now.desk c.desk.result.now (map record_of c.records-records.result.now) c.requires.goes c.desk.ensures c.records-records.ensures

pub ask_on-requires-clause-goes : goal.ask_on-requires-clause-goes
ask_on-requires-clause-goes g c =
    let sound : c.start.new.self.refused ≡ None = search rules in
    (begun c.args.self.now c.args.endpoint.now.desk c.desk.result.now c.start.new.self.desk (map record_of c.records-records.result.now) c.args.step c.in-Ok.op c.block_of.result c.requires.goes c.requires.can c.requires.next c.desk.ensures c.records-records.ensures c.in-Ok.ensures.op c.block_of.ensures
    (ok_gives c.start.result (sym c.start.ensures.refused ∙ sound) c.start.ensures.ok)).goes

pub ask_on-requires-clause-up : goal.ask_on-requires-clause-up
ask_on-requires-clause-up g c =
    let sound : c.start.new.self.refused ≡ None = search rules in
    (begun c.args.self.now c.args.endpoint.now.desk c.desk.result.now c.start.new.self.desk (map record_of c.records-records.result.now) c.args.step c.in-Ok.op c.block_of.result c.requires.goes c.requires.can c.requires.next c.desk.ensures c.records-records.ensures c.in-Ok.ensures.op c.block_of.ensures
    (ok_gives c.start.result (sym c.start.ensures.refused ∙ sound) c.start.ensures.ok)).up

pub ask_on-requires-clause-on : goal.ask_on-requires-clause-on
ask_on-requires-clause-on g c =
    let sound : c.start.new.self.refused ≡ None = search rules in
    (begun c.args.self.now c.args.endpoint.now.desk c.desk.result.now c.start.new.self.desk (map record_of c.records-records.result.now) c.args.step c.in-Ok.op c.block_of.result c.requires.goes c.requires.can c.requires.next c.desk.ensures c.records-records.ensures c.in-Ok.ensures.op c.block_of.ensures
    (ok_gives c.start.result (sym c.start.ensures.refused ∙ sound) c.start.ensures.ok)).on

pub returns-then-ask_on-clause-stepped : goal.returns-then-ask_on-clause-stepped
returns-then-ask_on-clause-stepped g c ok =
    let sound : c.start.new.self.refused ≡ None = search rules in
    let b = begun c.args.self.now c.args.endpoint.now.desk c.desk.result.now c.start.new.self.desk (map record_of c.records-records.result.now) c.args.step c.in-Ok.op c.block_of.result c.requires.goes c.requires.can c.requires.next c.desk.ensures c.records-records.ensures c.in-Ok.ensures.op c.block_of.ensures
    (ok_gives c.start.result (sym c.start.ensures.refused ∙ sound) c.start.ensures.ok) in
    stepped c.args.self.now c.ask_on.new.self c.args.endpoint.now.desk c.start.new.self.desk c.ask_on.new.endpoint.desk b.starts (c.ask_on.ensures.asked ok)

pub returns-clause-stepped : goal.returns-clause-stepped
returns-clause-stepped g c ok =
    let sound : c.start.new.self.refused ≡ None = search rules in
    let b = begun c.args.self.now c.args.endpoint.now.desk c.desk.result.now c.start.new.self.desk (map record_of c.records-records.result.now) c.args.step c.in-Ok.op c.block_of.result c.requires.goes c.requires.can c.requires.next c.desk.ensures c.records-records.ensures c.in-Ok.ensures.op c.block_of.ensures
    (ok_gives c.start.result (sym c.start.ensures.refused ∙ sound) c.start.ensures.ok) in
    stepped c.args.self.now c.ask_on.new.self c.args.endpoint.now.desk c.start.new.self.desk c.ask_on.new.endpoint.desk b.starts (c.ask_on.ensures.asked ok)
