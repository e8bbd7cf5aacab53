use Rattle.std.proofs.Common.{◌++◌}
use Rattle.std.specs.Prelude.{codes}
use Rattle.picture_svg.specs.Shapes.{opening, measure}
use Rattle.picture_svg.proofs.Joining.{more_ok}
use Rattle.picture_svg.proofs.elements.add_circle.Goals as goal

pub returns : goal.returns
returns c =
    let r = c.add.result in
    let old = c.args.text.now in
    let s1 = c.add_opening.new.text in
    let s2 = c.add_measure.new.text in
    let s3 = c.add_measure-2.new.text in
    let s4 = c.add_measure-3.new.text in
    let new = c.add.new.self in
    let p1 = opening (codes "circle") c.args.class in
    let p2 = measure (codes "cx") c.args.center.x.0 in
    let p3 = measure (codes "cy") c.args.center.y.0 in
    let p4 = measure (codes "r") c.args.radius.0 in
    let p5 = codes "/>\n" in
    more_ok r old s1 new p1 (p2 ++ (p3 ++ (p4 ++ p5))) c.in_ok-add_opening.ensures
    (more_ok r s1 s2 new p2 (p3 ++ (p4 ++ p5)) c.in_ok-add_measure.ensures
    (more_ok r s2 s3 new p3 (p4 ++ p5) c.in_ok-add_measure-2.ensures
    (more_ok r s3 s4 new p4 p5 c.in_ok-add_measure-3.ensures c.add.ensures.ok)))
