use Rattle.std.proofs.Common.{◌++◌}
use Rattle.std.specs.Prelude.{codes}
use Rattle.picture_svg.specs.Titles.{counted}
use Rattle.picture_svg.proofs.Joining.{more_ok}
use Rattle.picture_svg.proofs.titles.add_outcomes.Goals as goal

pub returns : goal.returns
returns c =
    let r = c.add_counted-3.result in
    let old = c.args.text.now in
    let s1 = c.add.new.self in
    let s2 = c.add_counted.new.text in
    let s3 = c.add_counted-2.new.text in
    let new = c.add_counted-3.new.text in
    let p1 = codes "Operations: " in
    let p2 = counted c.args.outcomes.done (codes " done, ") in
    let p3 = counted c.args.outcomes.spent (codes " spent, ") in
    let p4 = counted c.args.outcomes.pending (codes " pending.") in
    more_ok r old s1 new p1 (p2 ++ (p3 ++ p4)) c.in_ok-add.ensures.ok
    (more_ok r s1 s2 new p2 (p3 ++ p4) c.in_ok-add_counted.ensures
    (more_ok r s2 s3 new p3 p4 c.in_ok-add_counted-2.ensures c.add_counted-3.ensures))
