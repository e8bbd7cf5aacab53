use Rattle.std.proofs.Common.{ℕ, List, length, Option, None, Some, refl, sym, ap, subst}
use Rattle.quorum_rules.specs.Limits.{Numbers}
use Rattle.wire_forms.specs.declared.op.Op.{Op}
use Rattle.protocol.specs.Operations.{Outcome}
use Rattle.store_device.specs.Stores.{SeenStore}
use Rattle.store_device.specs.Calls.{HasPerformed}
use Rattle.store_care.specs.Steps.{IsRestored}
use Rattle.store_care.proofs.Looks.{on_err, on_ok}
use Rattle.store_care.proofs.care.Care.restore.Goals as goal

pub returns-in_err-outcomes-clause-calls : goal.returns-in_err-outcomes-clause-calls
returns-in_err-outcomes-clause-calls g c =
    let D = g.D.Disk in
    let again = c.args.lacking.now.again.items in
    let new = c.perform.new.store in
    let h : HasPerformed D.pending D.seen D.most D.moment D.left_since again None c.args.store.now new =
    subst (λ (ops : List Op). HasPerformed D.pending D.seen D.most D.moment D.left_since ops None c.args.store.now new) c.deref.ensures.value c.in_err-outcomes.ensures.err in
    (None, h, on_err _ c.from_residual.result c.from_residual.ensures.0)

pub returns-clause-calls : goal.returns-clause-calls
returns-clause-calls g c =
    let D = g.D.Disk in
    let lacking = c.args.lacking.now in
    let again = lacking.again.items in
    let old = c.args.store.now in
    let mid = c.perform.new.store in
    let new = c.count_written.new.store in
    let outcomes = c.in_ok-outcomes.outcomes.items in
    let count = length again in
    let h : HasPerformed D.pending D.seen D.most D.moment D.left_since again (Some outcomes) old new =
    subst (λ (s : SeenStore _). HasPerformed D.pending D.seen D.most D.moment D.left_since again (Some outcomes) old s) (sym c.count_written.ensures.same)
    (subst (λ (ops : List Op). HasPerformed D.pending D.seen D.most D.moment D.left_since ops (Some outcomes) old mid) c.deref.ensures.value c.in_ok-outcomes.ensures.ok) in (
      Some outcomes,
      h,
      on_ok c.count_written.result
          (λ restored. (
            outcomes,
            refl,
            subst (λ (s : SeenStore _). IsRestored old.config.n s lacking outcomes count c.args.self.now c.count_written.new.self) (sym c.count_written.ensures.same)
                (subst (λ (n : ℕ). IsRestored n mid lacking outcomes count c.args.self.now c.count_written.new.self) (ap (λ (m : Numbers). m.n) c.perform.ensures.config)
                (subst (λ (os : List (Option Outcome)). IsRestored mid.config.n mid lacking os count c.args.self.now c.count_written.new.self) c.deref-2.ensures.value restored)),
          ))
          c.count_written.ensures.restored,
    )
