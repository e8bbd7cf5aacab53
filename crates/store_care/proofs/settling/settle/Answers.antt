use Rattle.std.proofs.Common.{◌≡◌, ◌∷◌, [], List, None, Some, refl, ap, subst, ◌∙◌}
use Rattle.wire_forms.specs.declared.op.Op.{Op}
use Rattle.store_device.specs.Stores.{SeenStore}
use Rattle.store_device.specs.Calls.{HasPerformed}
use Rattle.store_care.specs.Settling.{unsettled, writes_by}
use Rattle.store_care.proofs.Looks.{on_err, performed}
use Rattle.store_care.proofs.settling.settle.Goals as goal

pub returns-in_err-outcomes-clause-calls : goal.returns-in_err-outcomes-clause-calls
returns-in_err-outcomes-clause-calls g c =
    let D = g.D.Disk in
    let old = c.args.store.now in
    let new = c.perform.new.store in
    let reads = unsettled old c.args.first c.args.count in
    let h : HasPerformed D.pending D.seen D.most D.moment D.left_since reads None old new =
    subst (λ (s : SeenStore _). HasPerformed D.pending D.seen D.most D.moment D.left_since reads None s new) c.unsettled_reads.ensures.same
    (subst (λ (ops : List Op). HasPerformed D.pending D.seen D.most D.moment D.left_since ops None c.unsettled_reads.new.store new)
    (c.deref.ensures.value ∙ c.in_ok-reads.ensures.reads) c.in_err-outcomes.ensures.err) in
    (performed reads None new ∷ [], (h, refl), record { told = None; is = refl }, on_err _ c.from_residual-in_err-outcomes.result c.from_residual-in_err-outcomes.ensures.0)

pub returns-in_err-again-clause-calls : goal.returns-in_err-again-clause-calls
returns-in_err-again-clause-calls g c =
    let D = g.D.Disk in
    let old = c.args.store.now in
    let mid = c.perform.new.store in
    let reads = unsettled old c.args.first c.args.count in
    let outcomes = c.in_ok-outcomes.outcomes.items in
    let h : HasPerformed D.pending D.seen D.most D.moment D.left_since reads (Some outcomes) old mid =
    subst (λ (s : SeenStore _). HasPerformed D.pending D.seen D.most D.moment D.left_since reads (Some outcomes) s mid) c.unsettled_reads.ensures.same
    (subst (λ (ops : List Op). HasPerformed D.pending D.seen D.most D.moment D.left_since ops (Some outcomes) c.unsettled_reads.new.store mid)
    (c.deref.ensures.value ∙ c.in_ok-reads.ensures.reads) c.in_ok-outcomes.ensures.ok) in (
      performed reads (Some outcomes) mid ∷ [],
      (h, c.writes_again.ensures.same),
      record { told = Some outcomes; is = refl },
      on_err _ c.from_residual-in_err-again.result c.from_residual-in_err-again.ensures.0,
    )

pub returns-in_err-perform-clause-calls : goal.returns-in_err-perform-clause-calls
returns-in_err-perform-clause-calls g c =
    let D = g.D.Disk in
    let old = c.args.store.now in
    let mid = c.perform.new.store in
    let new = c.perform-2.new.store in
    let reads = unsettled old c.args.first c.args.count in
    let outcomes = c.in_ok-outcomes.outcomes.items in
    let again = writes_by mid reads outcomes in
    let read : HasPerformed D.pending D.seen D.most D.moment D.left_since reads (Some outcomes) old mid =
    subst (λ (s : SeenStore _). HasPerformed D.pending D.seen D.most D.moment D.left_since reads (Some outcomes) s mid) c.unsettled_reads.ensures.same
    (subst (λ (ops : List Op). HasPerformed D.pending D.seen D.most D.moment D.left_since ops (Some outcomes) c.unsettled_reads.new.store mid)
    (c.deref.ensures.value ∙ c.in_ok-reads.ensures.reads) c.in_ok-outcomes.ensures.ok) in
    let are : c.deref-4.result.now ≡ again = c.deref-4.ensures.value ∙ c.in_ok-again.ensures.writes
    ∙ ap (λ (ops : List Op). writes_by mid ops c.deref-3.result.now) (c.deref-2.ensures.value ∙ c.in_ok-reads.ensures.reads)
    ∙ ap (writes_by mid reads) c.deref-3.ensures.value in
    let written : HasPerformed D.pending D.seen D.most D.moment D.left_since again (None) mid new =
    subst (λ (s : SeenStore _). HasPerformed D.pending D.seen D.most D.moment D.left_since again (None) s new) c.writes_again.ensures.same
    (subst (λ (ops : List Op). HasPerformed D.pending D.seen D.most D.moment D.left_since ops (None) c.writes_again.new.store new) are c.in_err-perform.ensures.err) in (
      performed reads (Some outcomes) mid ∷ performed again (None) new ∷ [],
      (read, (written, refl)),
      record { outcomes = outcomes; reads = refl; told = None; writes = refl },
      on_err _ c.from_residual-in_err-perform.result c.from_residual-in_err-perform.ensures.0,
    )

pub returns-clause-calls : goal.returns-clause-calls
returns-clause-calls g c =
    let D = g.D.Disk in
    let old = c.args.store.now in
    let mid = c.perform.new.store in
    let new = c.perform-2.new.store in
    let reads = unsettled old c.args.first c.args.count in
    let outcomes = c.in_ok-outcomes.outcomes.items in
    let again = writes_by mid reads outcomes in
    let read : HasPerformed D.pending D.seen D.most D.moment D.left_since reads (Some outcomes) old mid =
    subst (λ (s : SeenStore _). HasPerformed D.pending D.seen D.most D.moment D.left_since reads (Some outcomes) s mid) c.unsettled_reads.ensures.same
    (subst (λ (ops : List Op). HasPerformed D.pending D.seen D.most D.moment D.left_since ops (Some outcomes) c.unsettled_reads.new.store mid)
    (c.deref.ensures.value ∙ c.in_ok-reads.ensures.reads) c.in_ok-outcomes.ensures.ok) in
    let are : c.deref-4.result.now ≡ again = c.deref-4.ensures.value ∙ c.in_ok-again.ensures.writes
    ∙ ap (λ (ops : List Op). writes_by mid ops c.deref-3.result.now) (c.deref-2.ensures.value ∙ c.in_ok-reads.ensures.reads)
    ∙ ap (writes_by mid reads) c.deref-3.ensures.value in
    let written : HasPerformed D.pending D.seen D.most D.moment D.left_since again (Some c.in_ok-perform.field-0.items) mid new =
    subst (λ (s : SeenStore _). HasPerformed D.pending D.seen D.most D.moment D.left_since again (Some c.in_ok-perform.field-0.items) s new) c.writes_again.ensures.same
    (subst (λ (ops : List Op). HasPerformed D.pending D.seen D.most D.moment D.left_since ops (Some c.in_ok-perform.field-0.items) c.writes_again.new.store new) are c.in_ok-perform.ensures.ok) in (
      performed reads (Some outcomes) mid ∷ performed again (Some c.in_ok-perform.field-0.items) new ∷ [],
      (read, (written, refl)),
      record { outcomes = outcomes; reads = refl; told = Some c.in_ok-perform.field-0.items; writes = refl },
      refl,
    )
