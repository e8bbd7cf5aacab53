use Rattle.std.proofs.Common.{◌≡◌, ◌<◌, Some, length, sym, ap, ◌∙◌, arith}
use Rattle.std.specs.List.{slice_get}
use Rattle.std.proofs.lemmas.Option.{slice_get-get_or}
use Rattle.wire_forms.specs.declared.op.Op.{Op}
use Rattle.store_device.proofs.Stamps.{remembered_more}
use Rattle.store_device.proofs.remembering.remember_all.Goals as goal

pub loop-k-preserved : goal.loop-k-preserved
loop-k-preserved c =
    let k = c.loop-k.k in
    let ops = c.args.ops.now in
    let op = c.index-ops-k.result in
    let inv = c.loop-k.invariant in
    let lt : k < length ops = c.loop-k-test.true in
    let is : slice_get ops k ≡ Some op = slice_get-get_or ops k op lt ∙ ap (λ (o : Op). Some o) (sym c.index-ops-k.is) in
    record {
      items = remembered_more c.args.acknowledged.now.items c.loop-k.acknowledged.items c.remember.new.acknowledged.items ops c.args.outcomes.now k op _
          is c.outcome_at.ensures inv.items c.remember.ensures.items;
      capacity = c.remember.ensures.capacity ∙ inv.capacity;
      len = omega (arith, c.remember.ensures.len, inv.len);
    }
