use Rattle.std.proofs.Common.{rules, ◌≡◌, ◌∙◌, sym, arith}
use Rattle.nbd_front.specs.declared.request.RequestKind.TheVariants.{Read}
use Rattle.nbd_front.specs.Arrays.{array_of}
use Rattle.nbd_front.proofs.Devices.{length_array}
use Rattle.nbd_front.proofs.Replying.{within}
use Rattle.nbd_front.proofs.answer.push_range.Goals as goal

pub read_range-requires-clause-within : goal.read_range-requires-clause-within
read_range-requires-clause-within c =
    let d = c.args.device in
    let r = c.args.request.now in
    let asks : c.asks.result ≡ Read = first_of (search rules, cc) in
    let kind : r.kind ≡ 0 = c.asks.ensures.read.0 asks in
    let fits = within (array_of d.held) r _ (omega (arith, kind)) (sym c.requires.error ∙ c.if-error-eq0.true) in
    omega (arith, fits, length_array d c.requires.order, c.from.ensures)
