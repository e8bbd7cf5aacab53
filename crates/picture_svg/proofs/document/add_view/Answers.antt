use Rattle.std.proofs.Common.{◌++◌}
use Rattle.std.specs.Prelude.{codes, decimal}
use Rattle.picture_svg.proofs.Joining.{more_ok}
use Rattle.picture_svg.proofs.document.add_view.Goals as goal

pub returns : goal.returns
returns c =
    let r = c.add-3.result in
    let old = c.args.text.now in
    let one = c.add.new.self in
    let two = c.add_px.new.text in
    let three = c.add-2.new.self in
    let four = c.add_px-2.new.text in
    let new = c.add-3.new.self in
    let w = decimal c.args.size.x.0 in
    let h = decimal c.args.size.y.0 in
    let last = codes "\"" in
    more_ok r old one new (codes " viewBox=\"0 0 ") (w ++ (codes " " ++ (h ++ last))) c.in_ok-add.ensures.ok
    (more_ok r one two new w (codes " " ++ (h ++ last)) c.in_ok-add_px.ensures
    (more_ok r two three new (codes " ") (h ++ last) c.in_ok-add-2.ensures.ok
    (more_ok r three four new h last c.in_ok-add_px-2.ensures c.add-3.ensures.ok)))
