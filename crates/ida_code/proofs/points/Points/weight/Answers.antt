use Rattle.std.proofs.Common.{◌<◌, ◌∙◌, ap, sym, subst, arith}
use Rattle.std.proofs.lemmas.List.{get_or_read}
use Rattle.gf_field.specs.Field.{total}
use Rattle.ida_code.proofs.Weights.{sum-positive, weight-by_whole}
use Rattle.ida_code.proofs.points.Points.weight.Goals as goal

pub inv-requires : goal.inv-requires
inv-requires g c =
    let xs = c.args.self.now.numbers.items in
    let number = get_or_read xs c.args.k c.index.result.now c.requires.within c.index.ensures 0 in
    subst (λ z. 0 < z) (sym (c.add.ensures ∙ ap (total c.args.x) number)) (sum-positive xs c.args.k c.args.x c.requires.apart)

pub returns : goal.returns
returns g c =
    let points = c.args.self.now in
    let xs = points.numbers.items in
    let are = points.are_points in
    let within = c.requires.within in
    let len = are.scaled.len in
    let number = get_or_read xs c.args.k c.index.result.now within c.index.ensures 0 in
    let scale = get_or_read points.scales.items c.args.k c.index-2.result.now (omega arith) c.index-2.ensures 0 in
    rw (c.mul.ensures, c.mul-others.ensures, c.inv.ensures, c.add.ensures, number, scale, c.requires.whole)
    (weight-by_whole xs points.scales.items c.args.k c.args.x are.elements c.ranges.x.fits within c.requires.apart are.scaled)
