use Rattle.std.proofs.Common.{◌≡◌, ℕ, List, ◌++◌, subst}
use Rattle.std.specs.Prelude.{codes}
use Rattle.picture_svg.specs.Shapes.{opening, corner, escaped}
use Rattle.picture_svg.proofs.Joining.{more_ok}
use Rattle.picture_svg.proofs.elements.add_words.Goals as goal

pub returns : goal.returns
returns c =
    let r = c.add-2.result in
    let w = c.args.words.now in
    let old = c.args.text.now in
    let s1 = c.add_opening.new.text in
    let s2 = c.add_corner.new.text in
    let s3 = c.add.new.self in
    let s4 = c.add_escaped.new.text in
    let new = c.add-2.new.self in
    let p1 = opening (codes "text") w.class in
    let p2 = corner w.point in
    let p3 = codes ">" in
    let p4 = escaped w.text in
    let p5 = codes "</text>\n" in
    let same : c.as_slice.result.now ≡ w.text = cc in
    let said : s4 ≡ s3 ++ p4 = subst (λ (t : List ℕ). s4 ≡ s3 ++ escaped t) same c.in_ok-add_escaped.ensures in
    more_ok r old s1 new p1 (p2 ++ (p3 ++ (p4 ++ p5))) c.in_ok-add_opening.ensures
    (more_ok r s1 s2 new p2 (p3 ++ (p4 ++ p5)) c.in_ok-add_corner.ensures
    (more_ok r s2 s3 new p3 (p4 ++ p5) c.in_ok-add.ensures.ok
    (more_ok r s3 s4 new p4 p5 said c.add-2.ensures.ok)))
