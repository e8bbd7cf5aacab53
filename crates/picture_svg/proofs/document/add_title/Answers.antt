use Rattle.std.proofs.Common.{◌++◌}
use Rattle.std.specs.Prelude.{codes}
use Rattle.picture_svg.specs.Shapes.{escaped}
use Rattle.picture_svg.proofs.Joining.{more_ok}
use Rattle.picture_svg.proofs.document.add_title.Goals as goal

pub returns : goal.returns
returns c =
    let r = c.add-2.result in
    let old = c.args.text.now in
    let one = c.add.new.self in
    let two = c.add_escaped.new.text in
    let new = c.add-2.new.self in
    let said = escaped c.args.title.now in
    let last = codes "</title>\n" in
    more_ok r old one new (codes "<title id=\"picture-title\">") (said ++ last) c.in_ok-add.ensures.ok
    (more_ok r one two new said last c.in_ok-add_escaped.ensures c.add-2.ensures.ok)
