use Rattle.std.proofs.Common.{◌≡◌, ◌<◌, ℕ, List, ◌++◌, length, take, Option, None, Some, unwrap_or, option_copied, refl, sym, ap, subst, ◌∙◌, arith}
use Rattle.std.specs.List.{slice_get}
use Rattle.std.proofs.lemmas.List.{take_all}
use Rattle.std.proofs.lemmas.Option.{slice_get-get_or, unwrap_or-slice_get}
use Rattle.wire_forms.specs.declared.op.Op.{Op}
use Rattle.protocol.specs.Operations.{Outcome}
use Rattle.protocol.specs.Seen.{block_of}
use Rattle.store_device.specs.Stores.{SeenStore}
use Rattle.store_care.specs.Batches.{AreBelow}
use Rattle.store_care.specs.Given.{given}
use Rattle.store_care.specs.Settling.{write_of, writes_by}
use Rattle.store_care.proofs.Settled.{one_more_read, write_at, writes_below, no_more}
use Rattle.store_care.proofs.settling.writes_again.Goals as goal

at_place : {D : Type 0} (store : SeenStore D) (op : Op) (o : Option (Option Outcome)) → write_at store op o ≡ write_of store (block_of op) (given store.config.size (unwrap_or o None))
at_place store op None = refl
at_place store op (Some o) = refl

pub add_write-requires : goal.add_write-requires
add_write-requires g c =
    let k = c.loop-k.k in
    let reads = c.args.reads.now in
    let op = c.index-reads-k.result in
    let below = c.requires.below k op c.loop-k-test.true in
    omega (arith, below, ap block_of c.index-reads-k.is, c.block_of.ensures, ap (λ (s : SeenStore _). s.config.blocks) c.loop-k.invariant.same)

pub loop-k-preserved : goal.loop-k-preserved
loop-k-preserved g c =
    let k = c.loop-k.k in
    let reads = c.args.reads.now in
    let outcomes = c.args.outcomes.now in
    let store = c.args.store.now in
    let inv = c.loop-k.invariant in
    let e = c.in_ok-add_write.ensures in
    let op = c.index-reads-k.result in
    let told = option_copied c.outcome_at.result in
    let lt : k < length reads = c.loop-k-test.true in
    let is : slice_get reads k ≡ Some op = slice_get-get_or reads k op lt ∙ ap (λ (o : Op). Some o) (sym c.index-reads-k.is) in
    record {
      same = e.same ∙ inv.same;
      writes = e.items
          ∙ ap (λ (s : SeenStore _). c.loop-k.again.items ++ write_of s c.block_of.result (given s.config.size told)) inv.same
          ∙ ap (λ (ops : List Op). ops ++ write_of store c.block_of.result (given store.config.size told)) inv.writes
          ∙ ap (λ (b : ℕ). writes_by store (take k reads) outcomes ++ write_of store b (given store.config.size told)) c.block_of.ensures
          ∙ ap (λ (o : Option Outcome). writes_by store (take k reads) outcomes ++ write_of store (block_of op) (given store.config.size o))
          (c.outcome_at.ensures ∙ sym (unwrap_or-slice_get outcomes k None))
          ∙ ap (λ (ops : List Op). writes_by store (take k reads) outcomes ++ ops) (sym (at_place store op (slice_get outcomes k)))
          ∙ sym (one_more_read store reads outcomes k op is);
    }

pub returns-clause-batch : goal.returns-clause-batch
returns-clause-batch g c =
    let reads = c.args.reads.now in
    let outcomes = c.args.outcomes.now in
    let store = c.args.store.now in
    let all : c.loop-k.again.items ≡ writes_by store reads outcomes =
    c.loop-k.invariant.writes ∙ ap (λ (ops : List Op). writes_by store ops outcomes) (take_all c.loop-k.k reads c.loop-k-test.false) in
    subst (AreBelow store.config store.config.blocks) (sym all) (writes_below store reads outcomes c.requires)

pub returns-clause-few : goal.returns-clause-few
returns-clause-few g c =
    let reads = c.args.reads.now in
    let outcomes = c.args.outcomes.now in
    let store = c.args.store.now in
    let all : c.loop-k.again.items ≡ writes_by store reads outcomes =
    c.loop-k.invariant.writes ∙ ap (λ (ops : List Op). writes_by store ops outcomes) (take_all c.loop-k.k reads c.loop-k-test.false) in
    omega (arith, ap length all, no_more store reads outcomes)
