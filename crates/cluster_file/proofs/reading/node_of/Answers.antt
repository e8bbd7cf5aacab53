use Rattle.std.proofs.Common.{◌≡◌, Some, sym, ◌∙◌, arith, lit≤}
use Rattle.text_lines.specs.Fields.{number_of}
use Rattle.text_lines.proofs.lemmas.Numbers.{number_of-some}
use Rattle.cluster_file.proofs.Printed.{one_number, no_number}
use Rattle.cluster_file.proofs.reading.node_of.Goals as goal

pub returns-in-Some : goal.returns-in-Some
returns-in-Some c =
    let lt = c.if-from-n.true in
    let a = c.from.ensures in
    let b = c.n-n.ensures.is in
    let e : number_of 256 c.args.field.now ≡ Some c.in-Some.node = sym c.number_u8.ensures ∙ c.in-Some.is in
    (omega arith, (number_of-some 256 c.args.field.now c.in-Some.node e).0)

pub returns-in_default : goal.returns-in_default
returns-in_default c = λ node lt f.
    let v = c.n-n.ensures.valid in
    let a = c.from.ensures in
    let b = c.n-n.ensures.is in
    let ge = c.if-from-n.false in
    let e : number_of 256 c.args.field.now ≡ Some c.in-Some.node = sym c.number_u8.ensures ∙ c.in-Some.is in
    let same = one_number 256 c.in-Some.node node c.args.field.now (lit≤ tt) e f (omega arith) in
    omega arith

pub returns-in_default-2 : goal.returns-in_default-2
returns-in_default-2 c = λ node lt f.
    let v = c.n-n.ensures.valid in
    no_number 256 node c.args.field.now (lit≤ tt) (sym c.number_u8.ensures ∙ c.in_default.is) f (omega arith)
