use Rattle.std.proofs.Common.{◌<◌, inl, inr}
use Rattle.std.proofs.lemmas.Bool.{cases_lt}
use Rattle.quorum_rules.specs.Limits.{complete_of}
use Rattle.protocol.specs.Instance.{setting}
use Rattle.protocol.specs.Operations.{support}
use Rattle.operation_core.specs.Counting.{answer_at}
use Rattle.read_core.proofs.Ending.{are_parts, sum_has_all, carry_whole, is_poison, is_complete, is_repairable}
use Rattle.read_core.proofs.round.Round.judged.Goals as goal

pub checked-requires-clause-parts : goal.checked-requires-clause-parts
checked-requires-clause-parts c =
    let r = c.args.self.now in
    let p = c.requires.pivot in
    let enough = c.requires.enough in
    let shown = rw c.m.ensures.is at c.in_ok-parts.ensures in
    let least = c.in_ok-sum.ensures in
    rw c.as_slice.ensures.value (are_parts r.config.now r.first.now r.bound r.answers.now r.stamps.now c.requires.fits c.args.pivot p.is p.later enough c.in_ok-parts.parts.items shown c.in_ok-sum.sum least)

pub checked-requires-clause-digests : goal.checked-requires-clause-digests
checked-requires-clause-digests c =
    let r = c.args.self.now in
    let p = c.requires.pivot in
    let enough = c.requires.enough in
    let shown = rw c.m.ensures.is at c.in_ok-parts.ensures in
    let least = c.in_ok-sum.ensures in
    sum_has_all r.config.now r.first.now r.bound r.answers.now r.stamps.now c.requires.fits c.args.pivot p.is p.later enough c.in_ok-parts.parts.items shown c.in_ok-sum.sum least

pub known_parts-requires-clause-whole : goal.known_parts-requires-clause-whole
known_parts-requires-clause-whole c =
    let r = c.args.self.now in
    carry_whole r.config.now r.first.now r.bound r.answers.now r.stamps.now c.requires.fits c.args.pivot

pub returns-in-None : goal.returns-in-None
returns-in-None c =
    let r = c.args.self.now in
    let p = c.requires.pivot in
    let enough = c.requires.enough in
    let shown = rw c.m.ensures.is at c.in_ok-parts.ensures in
    let least = c.in_ok-sum.ensures in
    let apart = rw (c.in-None.is, c.as_slice.ensures.value) at c.in_ok-checked.ensures.poisonous in
    is_poison r.config.now r.first.now r.bound r.answers.now r.stamps.now c.requires.fits c.args.pivot p.is p.later enough c.in_ok-parts.parts.items shown c.in_ok-sum.sum least apart

pub returns-then-is_complete : goal.returns-then-is_complete
returns-then-is_complete c =
    let r = c.args.self.now in
    let p = c.requires.pivot in
    let enough = c.requires.enough in
    let complete = c.requires.complete in
    let shown = rw c.m.ensures.is at c.in_ok-parts.ensures in
    let least = c.in_ok-sum.ensures in
    let decodes = rw (c.in-Some.is, c.as_slice.ensures.value) at c.in_ok-checked.ensures.block in
    let sound = rw c.in-Some.is at c.in_ok-checked.ensures.sound in
    is_complete r.config.now r.first.now r.bound r.answers.now r.stamps.now c.requires.fits c.args.pivot p.is p.later enough c.in_ok-parts.parts.items shown c.in_ok-sum.sum least c.in-Some.field-0.block decodes sound (complete.0 c.if-is_complete.true)

pub returns : goal.returns
returns c =
    let r = c.args.self.now in
    let p = c.requires.pivot in
    let enough = c.requires.enough in
    let complete = c.requires.complete in
    let shown = rw c.m.ensures.is at c.in_ok-parts.ensures in
    let least = c.in_ok-sum.ensures in
    let decodes = rw (c.in-Some.is, c.as_slice.ensures.value) at c.in_ok-checked.ensures.block in
    let sound = rw c.in-Some.is at c.in_ok-checked.ensures.sound in
    let few : support (setting r.config.now) (answer_at r.answers.now) r.bound c.args.pivot < complete_of r.config.now =
    elim (cases_lt (support (setting r.config.now) (answer_at r.answers.now) r.bound c.args.pivot) (complete_of r.config.now)) [ inl l ↦ l | inr m ↦ absurd (let t = complete.1 m in let f = c.if-is_complete.false in cc) ] in
    let fragments = rw c.in-Some.is at c.in_ok-checked.ensures.shares in
    is_repairable r.config.now r.first.now r.bound r.answers.now r.stamps.now c.requires.fits c.args.pivot p.is p.later enough c.in_ok-parts.parts.items shown c.in_ok-sum.sum least c.in-Some.field-0.block decodes sound c.in-Some.field-0.shares fragments few
