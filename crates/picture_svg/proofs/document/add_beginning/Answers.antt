use Rattle.std.proofs.Common.{◌++◌}
use Rattle.std.specs.Prelude.{codes}
use Rattle.picture_svg.specs.Documents.{size_text, view_text}
use Rattle.picture_svg.proofs.Joining.{more_ok}
use Rattle.picture_svg.proofs.document.add_beginning.Goals as goal

pub returns : goal.returns
returns c =
    let r = c.add-2.result in
    let old = c.args.text.now in
    let s1 = c.add.new.self in
    let s2 = c.add_size.new.text in
    let s3 = c.add_view.new.text in
    let new = c.add-2.new.self in
    let p1 = codes "<svg xmlns=\"http://www.w3.org/2000/svg\"" in
    let p2 = size_text c.args.size in
    let p3 = view_text c.args.size in
    let p4 = codes " role=\"img\" aria-labelledby=\"picture-title picture-desc\">\n" in
    more_ok r old s1 new p1 (p2 ++ (p3 ++ p4)) c.in_ok-add.ensures.ok
    (more_ok r s1 s2 new p2 (p3 ++ p4) c.in_ok-add_size.ensures
    (more_ok r s2 s3 new p3 p4 c.in_ok-add_view.ensures c.add-2.ensures.ok))
