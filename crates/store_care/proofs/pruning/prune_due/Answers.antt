use Rattle.std.proofs.Common.{◌≡◌, ◌<◌, ◌≤◌, ◌+◌, ◌∷◌, [], ℕ, List, None, Some, refl, sym, ap, subst, ◌∙◌, arith}
use Rattle.std.specs.List.{All}
use Rattle.std.proofs.lemmas.List.Elements.{All-weaker}
use Rattle.quorum_rules.specs.Limits.{Numbers}
use Rattle.wire_forms.specs.declared.op.Op.{Op}
use Rattle.protocol.specs.Seen.{block_of}
use Rattle.version_disk.specs.declared.prune.Prune.{Prune}
use Rattle.store_device.specs.Stores.{SeenStore}
use Rattle.store_device.specs.Seating.{ArePrunesApart}
use Rattle.store_device.specs.Calls.{HasPerformed, HasPruned}
use Rattle.store_device.specs.Calls.Deed.{Prunes}
use Rattle.store_device.proofs.lemmas.Steps.{none_tended}
use Rattle.store_care.specs.Prunes.{prunes_by}
use Rattle.store_care.specs.Pruning.{overfull}
use Rattle.store_care.proofs.Apart.{of_blocks, prunes_apart}
use Rattle.store_care.proofs.Looks.{on_err, performed}
use Rattle.store_care.proofs.Tending.{pruning_tends}
use Rattle.store_care.proofs.pruning.prune_due.Goals as goal

pub returns-in_err-outcomes-clause-calls : goal.returns-in_err-outcomes-clause-calls
returns-in_err-outcomes-clause-calls g c =
    let D = g.D.Disk in
    let old = c.args.store.now in
    let new = c.perform.new.store in
    let reads = overfull old c.args.first c.args.count c.args.most in
    let h : HasPerformed D.pending D.seen D.most D.moment D.left_since reads None old new =
    subst (λ (s : SeenStore _). HasPerformed D.pending D.seen D.most D.moment D.left_since reads None s new) c.overfull_reads.ensures.same
    (subst (λ (ops : List Op). HasPerformed D.pending D.seen D.most D.moment D.left_since ops None c.overfull_reads.new.store new)
    (c.deref.ensures.value ∙ c.in_ok-reads.ensures.reads) c.in_err-outcomes.ensures.err) in
    (performed reads None new ∷ [], (h, refl), record { told = None; is = refl }, on_err _ c.from_residual-in_err-outcomes.result c.from_residual-in_err-outcomes.ensures.0)

pub returns-in_err-prunes-clause-calls : goal.returns-in_err-prunes-clause-calls
returns-in_err-prunes-clause-calls g c =
    let D = g.D.Disk in
    let old = c.args.store.now in
    let new = c.perform.new.store in
    let reads = overfull old c.args.first c.args.count c.args.most in
    let outcomes = c.in_ok-outcomes.outcomes.items in
    let h : HasPerformed D.pending D.seen D.most D.moment D.left_since reads (Some outcomes) old new =
    subst (λ (s : SeenStore _). HasPerformed D.pending D.seen D.most D.moment D.left_since reads (Some outcomes) s new) c.overfull_reads.ensures.same
    (subst (λ (ops : List Op). HasPerformed D.pending D.seen D.most D.moment D.left_since ops (Some outcomes) c.overfull_reads.new.store new)
    (c.deref.ensures.value ∙ c.in_ok-reads.ensures.reads) c.in_ok-outcomes.ensures.ok) in (
      performed reads (Some outcomes) new ∷ [],
      (h, refl),
      record { told = Some outcomes; is = refl },
      on_err _ c.from_residual-in_err-prunes.result c.from_residual-in_err-prunes.ensures.0,
    )

pub prune_all-starved-requires-clause-there : goal.prune_all-starved-requires-clause-there
prune_all-starved-requires-clause-there g c κs within =
    let reads = c.in_ok-reads.reads.items in
    let outcomes = c.in_ok-outcomes.outcomes.items in
    let blocks = c.perform.new.store.config.blocks in
    let are : c.deref-4.result.now ≡ prunes_by reads outcomes = c.deref-4.ensures.value ∙ c.in_ok-prunes.ensures
    ∙ ap (λ (ops : List Op). prunes_by ops c.deref-3.result.now) c.deref-2.ensures.value ∙ ap (prunes_by reads) c.deref-3.ensures.value in
    let within_blocks : c.args.first + c.args.count ≤ blocks =
    omega (arith, c.requires.there, ap (λ (n : Numbers). n.blocks) c.perform.ensures.config, ap (λ (s : SeenStore _). s.config.blocks) c.overfull_reads.ensures.same) in
    subst (All (λ (p : Prune). p.block < blocks)) (sym are)
    (of_blocks (λ (b : ℕ). b < blocks) reads outcomes
    (All-weaker (λ (o : Op). block_of o < c.args.first + c.args.count) (λ (o : Op). block_of o < blocks) (λ o lt. omega (arith, lt, within_blocks)) reads c.in_ok-reads.ensures.batch.below))

pub prune_all-starved-requires-clause-apart : goal.prune_all-starved-requires-clause-apart
prune_all-starved-requires-clause-apart g c κs within =
    let reads = c.in_ok-reads.reads.items in
    let outcomes = c.in_ok-outcomes.outcomes.items in
    let are : c.deref-4.result.now ≡ prunes_by reads outcomes = c.deref-4.ensures.value ∙ c.in_ok-prunes.ensures
    ∙ ap (λ (ops : List Op). prunes_by ops c.deref-3.result.now) c.deref-2.ensures.value ∙ ap (prunes_by reads) c.deref-3.ensures.value in
    subst ArePrunesApart (sym are) (prunes_apart reads outcomes c.in_ok-reads.ensures.batch.apart)

pub returns-clause-calls : goal.returns-clause-calls
returns-clause-calls g c =
    let D = g.D.Disk in
    let old = c.args.store.now in
    let mid = c.perform.new.store in
    let new = c.prune_all-starved.new.self in
    let reads = overfull old c.args.first c.args.count c.args.most in
    let outcomes = c.in_ok-outcomes.outcomes.items in
    let h : HasPerformed D.pending D.seen D.most D.moment D.left_since reads (Some outcomes) old mid =
    subst (λ (s : SeenStore _). HasPerformed D.pending D.seen D.most D.moment D.left_since reads (Some outcomes) s mid) c.overfull_reads.ensures.same
    (subst (λ (ops : List Op). HasPerformed D.pending D.seen D.most D.moment D.left_since ops (Some outcomes) c.overfull_reads.new.store mid)
    (c.deref.ensures.value ∙ c.in_ok-reads.ensures.reads) c.in_ok-outcomes.ensures.ok) in
    let are : c.deref-4.result.now ≡ prunes_by reads outcomes = c.deref-4.ensures.value ∙ c.in_ok-prunes.ensures
    ∙ ap (λ (ops : List Op). prunes_by ops c.deref-3.result.now) (c.deref-2.ensures.value ∙ c.in_ok-reads.ensures.reads)
    ∙ ap (prunes_by reads) c.deref-3.ensures.value in
    let pruned : HasPruned D.pending D.seen D.most D.moment D.left_since (prunes_by reads outcomes) mid new =
    subst (λ (ps : List Prune). HasPruned D.pending D.seen D.most D.moment D.left_since ps mid new) are c.prune_all-starved.ensures.pruned in (
      performed reads (Some outcomes) mid ∷ record { deed = Prunes (prunes_by reads outcomes); store = new } ∷ [],
      (h, (pruned, refl)),
      record { outcomes = outcomes; is = refl; by_reads = refl },
      refl,
    )

pub returns-in_err-reads-clause-tended : goal.returns-in_err-reads-clause-tended
returns-in_err-reads-clause-tended g c =
    let D = g.D.Disk in none_tended D.pending D.seen D.most D.moment D.left_since c.args.store.now c.overfull_reads.new.store c.overfull_reads.ensures.same

pub returns-in_err-outcomes-clause-tended : goal.returns-in_err-outcomes-clause-tended
returns-in_err-outcomes-clause-tended g c =
    let D = g.D.Disk in
    let did = returns-in_err-outcomes-clause-calls g c in
    pruning_tends D.pending D.seen D.most D.moment D.left_since c.args.first c.args.count c.args.most c.args.store.now c.perform.new.store did.0 did.1 did.2

pub returns-in_err-prunes-clause-tended : goal.returns-in_err-prunes-clause-tended
returns-in_err-prunes-clause-tended g c =
    let D = g.D.Disk in
    let did = returns-in_err-prunes-clause-calls g c in
    pruning_tends D.pending D.seen D.most D.moment D.left_since c.args.first c.args.count c.args.most c.args.store.now c.perform.new.store did.0 did.1 did.2

pub returns-clause-tended : goal.returns-clause-tended
returns-clause-tended g c =
    let D = g.D.Disk in
    let did = returns-clause-calls g c in
    pruning_tends D.pending D.seen D.most D.moment D.left_since c.args.first c.args.count c.args.most c.args.store.now c.prune_all-starved.new.self did.0 did.1 did.2
