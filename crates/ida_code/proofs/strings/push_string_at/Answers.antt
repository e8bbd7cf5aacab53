use Rattle.std.proofs.Common.{◌<◌, [], ◌++◌, length, map, ap, sym, ◌∙◌, arith}
use Rattle.std.proofs.lemmas.List.{get_or-map}
use Rattle.ida_code.proofs.Summed.{string_at-copied}
use Rattle.ida_code.proofs.strings.push_string_at.Goals as goal

pub returns-in_ok-extend_from_slice-in-Some : goal.returns-in_ok-extend_from_slice-in-Some
returns-in_ok-extend_from_slice-in-Some g c =
    let k = c.in-Some.k in
    let found = c.in-Some.ensures.found in
    let points = c.args.points.now in
    let item = c.index-strings-k.result in
    let string = c.bytes.result.now in
    let within : k < length c.args.strings.now = let count = c.requires.count in omega (arith, found.0) in
    let held = c.bytes.ensures ∙ ap g.S.ByteString.string c.index-strings-k.is in
    let copied =
    string_at-copied c.args.len k c.args.x points.numbers.items (map g.S.ByteString.string c.args.strings.now) string
    points.are_points.elements points.are_points.distinct found.0 found.1
    (held ∙ sym (get_or-map g.S.ByteString.string c.args.strings.now k item [] within))
    (ap length held ∙ c.requires.lengths k item within)
    c.requires.elements in
    c.in_ok-extend_from_slice-in-Some.ensures.items ∙ ap (λ s. c.args.out.now.items ++ s) copied
