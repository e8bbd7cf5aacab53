use Rattle.std.proofs.Common.{◌∷◌, [], List, length, Option, None, Some, refl, ap, subst, ◌∙◌, arith}
use Rattle.quorum_rules.specs.Limits.{Numbers}
use Rattle.wire_forms.specs.declared.op.Op.{Op}
use Rattle.protocol.specs.Messages.{Ask}
use Rattle.protocol.specs.Operations.{Outcome}
use Rattle.store_device.specs.Calls.{HasPerformed}
use Rattle.store_care.specs.Given.{reads_from}
use Rattle.store_care.specs.Tallies.{failed_reads}
use Rattle.store_care.specs.Filling.{asks_for, HasKept}
use Rattle.store_care.specs.declared.filling.Filled.{Filled}
use Rattle.store_care.proofs.Reading.{length-reads_from}
use Rattle.store_care.proofs.Looks.{on_err, performed}
use Rattle.store_care.proofs.filling.Filled.fill.Goals as goal

pub perform-requires-clause-few : goal.perform-requires-clause-few
perform-requires-clause-few g c κs within =
    omega (arith, c.requires.few, ap (λ (ops : List Op). length ops) (c.deref.ensures.value ∙ c.in_ok-reads.ensures.reads), length-reads_from c.args.first c.args.count)

pub returns-in_err-outcomes-clause-calls : goal.returns-in_err-outcomes-clause-calls
returns-in_err-outcomes-clause-calls g c =
    let D = g.D.Disk in
    let reads = reads_from c.args.first c.args.count in
    let new = c.perform.new.store in
    let h : HasPerformed D.pending D.seen D.most D.moment D.left_since reads None c.args.store.now new =
    subst (λ (ops : List Op). HasPerformed D.pending D.seen D.most D.moment D.left_since ops None c.args.store.now new) (c.deref.ensures.value ∙ c.in_ok-reads.ensures.reads) c.in_err-outcomes.ensures.err in (
      performed reads None new ∷ [],
      (h, refl),
      record { told = None; is = refl },
      on_err _ c.from_residual-in_err-outcomes.result c.from_residual-in_err-outcomes.ensures.0,
    )

pub returns-in_err-asks-clause-calls : goal.returns-in_err-asks-clause-calls
returns-in_err-asks-clause-calls g c =
    let D = g.D.Disk in
    let reads = reads_from c.args.first c.args.count in
    let new = c.perform.new.store in
    let outcomes = c.in_ok-outcomes.outcomes.items in
    let h : HasPerformed D.pending D.seen D.most D.moment D.left_since reads (Some outcomes) c.args.store.now new =
    subst (λ (ops : List Op). HasPerformed D.pending D.seen D.most D.moment D.left_since ops (Some outcomes) c.args.store.now new) (c.deref.ensures.value ∙ c.in_ok-reads.ensures.reads) c.in_ok-outcomes.ensures.ok in (
      performed reads (Some outcomes) new ∷ [],
      (h, refl),
      record { told = Some outcomes; is = refl },
      on_err _ c.from_residual-in_err-asks.result c.from_residual-in_err-asks.ensures.0,
    )

pub returns-clause-calls : goal.returns-clause-calls
returns-clause-calls g c =
    let D = g.D.Disk in
    let E = g.E.Disk in
    let reads = reads_from c.args.first c.args.count in
    let number = c.args.number in
    let new = c.perform.new.store in
    let outcomes = c.in_ok-outcomes.outcomes.items in
    let start = c.args.self.now in
    let then = c.keep.new.self in
    let was = c.args.node.now in
    let is = c.keep.new.node in
    let are = c.deref.ensures.value ∙ c.in_ok-reads.ensures.reads in
    let h : HasPerformed D.pending D.seen D.most D.moment D.left_since reads (Some outcomes) c.args.store.now new =
    subst (λ (ops : List Op). HasPerformed D.pending D.seen D.most D.moment D.left_since ops (Some outcomes) c.args.store.now new) are c.in_ok-outcomes.ensures.ok in
    let kept = λ (config : Numbers) (rs : List Op) (os : List (Option Outcome)).
    HasKept E.pending E.seen (asks_for config number rs os (length rs)) (record start { missed = failed_reads config.size os (length rs) start.missed }) then was is in
    let base : kept c.config.result.now c.deref-2.result.now c.deref-3.result.now =
    subst (λ (f : Filled). HasKept E.pending E.seen (asks_for c.config.result.now number c.deref-2.result.now c.deref-3.result.now (length c.deref-2.result.now)) f then was is) c.in_ok-asks.ensures.missed
    (subst (λ (asks : List Ask). HasKept E.pending E.seen asks c.asks_for.new.self then was is) (c.deref-4.ensures.value ∙ c.in_ok-asks.ensures.asks) c.keep.ensures) in
    let all : kept c.args.store.now.config reads outcomes =
    subst (λ (n : Numbers). kept n reads outcomes) (c.config.ensures ∙ c.perform.ensures.config)
    (subst (λ (rs : List Op). kept c.config.result.now rs outcomes) (c.deref-2.ensures.value ∙ c.in_ok-reads.ensures.reads)
    (subst (λ (os : List (Option Outcome)). kept c.config.result.now c.deref-2.result.now os) c.deref-3.ensures.value base)) in (
      performed reads (Some outcomes) new ∷ [],
      (h, refl),
      record { told = Some outcomes; is = refl },
      (refl, (then, is, record { reads = reads; outcomes = outcomes; read = refl; kept = all }, (refl, refl))),
    )
