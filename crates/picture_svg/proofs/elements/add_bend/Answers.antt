use Rattle.std.proofs.Common.{◌++◌}
use Rattle.std.specs.Prelude.{codes}
use Rattle.picture_svg.specs.Shapes.{opening, step}
use Rattle.picture_svg.proofs.Joining.{more_ok}
use Rattle.picture_svg.proofs.elements.add_bend.Goals as goal

pub returns : goal.returns
returns c =
    let r = c.add-2.result in
    let old = c.args.text.now in
    let s1 = c.add_opening.new.text in
    let s2 = c.add.new.self in
    let s3 = c.add_step.new.text in
    let s4 = c.add_step-2.new.text in
    let s5 = c.add_step-3.new.text in
    let new = c.add-2.new.self in
    let p1 = opening (codes "path") c.args.class in
    let p2 = codes " d=\"" in
    let p3 = step (codes "M") c.args.from in
    let p4 = step (codes "L") c.args.by in
    let p5 = step (codes "L") c.args.to in
    let p6 = codes "\"/>\n" in
    more_ok r old s1 new p1 (p2 ++ (p3 ++ (p4 ++ (p5 ++ p6)))) c.in_ok-add_opening.ensures
    (more_ok r s1 s2 new p2 (p3 ++ (p4 ++ (p5 ++ p6))) c.in_ok-add.ensures.ok
    (more_ok r s2 s3 new p3 (p4 ++ (p5 ++ p6)) c.in_ok-add_step.ensures
    (more_ok r s3 s4 new p4 (p5 ++ p6) c.in_ok-add_step-2.ensures
    (more_ok r s4 s5 new p5 p6 c.in_ok-add_step-3.ensures c.add-2.ensures.ok))))
