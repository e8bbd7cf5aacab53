use Rattle.std.proofs.Common.{◌≡◌, ◌+◌, ◌-◌, List, [], ◌∷◌, ◌++◌, refl, sym, ◌∙◌, ap, arith}
use Rattle.wire_forms.specs.declared.op.Op.{Op}
use Rattle.wire_forms.specs.declared.op.Op.TheVariants.{Read}
use Rattle.store_care.specs.Given.{reads_from}
use Rattle.store_care.proofs.Reading.{one_read_more}
use Rattle.store_care.proofs.Rising.{below_later}
use Rattle.store_care.proofs.blocks.reads_of.Goals as goal

pub loop-block-preserved : goal.loop-block-preserved
loop-block-preserved c =
    let first = c.args.first in
    let block = c.loop-block.block in
    let inv = c.loop-block.invariant in
    let more : block - first + 1 ≡ block + 1 - first = omega (arith, inv.begun) in
    record {
      begun = omega (arith, inv.begun);
      batch = λ n le. c.in_ok-add.ensures.batch n (inv.batch n le) (omega arith);
      reads = c.in_ok-add.ensures.items ∙ ap (λ (ops : List Op). ops ++ Read block ∷ []) inv.reads
          ∙ sym (one_read_more first (block - first) block (omega (arith, inv.begun))) ∙ ap (reads_from first) more;
      ends = refl;
    }

pub returns-clause-batch : goal.returns-clause-batch
returns-clause-batch c = λ n le.
    below_later n c.loop-block.ops.items c.loop-block.block _ (omega arith) (c.loop-block.invariant.batch n le)
