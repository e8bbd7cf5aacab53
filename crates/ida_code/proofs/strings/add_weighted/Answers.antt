use Rattle.std.proofs.Common.{◌≡◌, [], length, get_or, map, ap, sym, ◌∙◌, arith}
use Rattle.std.proofs.lemmas.List.{get_or-map}
use Rattle.gf_field.specs.Field.{product, total}
use Rattle.gf_field.specs.Interpolation.{weight}
use Rattle.ida_code.proofs.Summed.{summed_begins, summed_more, summed_ends}
use Rattle.ida_code.proofs.strings.add_weighted.Goals as goal

pub loop-k-init : goal.loop-k-init
loop-k-init g c = summed_begins c.args.x c.args.points.now.numbers.items (map g.S.ByteString.string c.args.strings.now) c.args.out.now c.requires.zeros

pub loop-k-preserved : goal.loop-k-preserved
loop-k-preserved g c =
    let k = c.loop-k.k in
    let old = c.loop-k.out in
    let xs = c.args.points.now.numbers.items in
    let ss = map g.S.ByteString.string c.args.strings.now in
    let string : c.bytes.result.now ≡ get_or ss k [] =
    c.bytes.ensures ∙ ap g.S.ByteString.string c.index-strings-k.is
    ∙ sym (get_or-map g.S.ByteString.string c.args.strings.now k c.index-strings-k.result [] (omega arith)) in
    summed_more (length c.add_multiple.new.out) k c.args.x xs ss old c.add_multiple.new.out
    (λ j hj. c.loop-k.invariant j (omega arith))
    (λ j hj.
    c.add_multiple.ensures j hj
    ∙ ap (λ w. total (get_or old j 0) (product w (get_or c.bytes.result.now j 0))) c.weight.ensures
    ∙ ap (λ s. total (get_or old j 0) (product (weight xs k c.args.x) (get_or s j 0))) string)

pub returns : goal.returns
returns g c =
    let count = c.requires.count in
    summed_ends (length c.args.out.now) c.loop-k.k c.args.x c.args.points.now.numbers.items (map g.S.ByteString.string c.args.strings.now) c.loop-k.out
    (omega arith) c.loop-k.auto.out (λ j hj. c.loop-k.invariant j (omega arith))
