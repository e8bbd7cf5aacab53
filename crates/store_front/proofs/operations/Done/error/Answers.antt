use Rattle.std.proofs.Common.{◌≡◌, ◌∙◌, ◌*◌, ap, sym, arith}
use Rattle.store_front.specs.Requests.{error_of}
use Rattle.store_front.specs.Values.{read_of, written_of}
use Rattle.store_front.proofs.Replying.{error_none, error_some}
use Rattle.store_front.proofs.operations.Done.error.Goals as goal

pub returns-then-not-has : goal.returns-then-not-has
returns-then-not-has c =
    let config = c.args.config.now in
    let r = c.args.request.now in
    let b = c.blocks_of-blocks.ensures in
    let zero : c.error-error.result ≡ 0 = omega (arith, c.if-error-ne0.false) in
    let well : error_of (config.size * config.blocks) r ≡ 0 = sym (ap (λ n. error_of n r) c.device_len.ensures.is) ∙ sym c.error-error.ensures ∙ zero in
    error_some config (read_of c.args.self.now.found) (written_of c.args.self.now.written) r well c.loop-block.block (omega (arith, b.first, c.loop-block.auto.block)) (omega (arith, b.end, c.loop-block-test.true)) (sym c.has.ensures ∙ c.if-not-has.true)

pub returns : goal.returns
returns c =
    let config = c.args.config.now in
    let r = c.args.request.now in
    let b = c.blocks_of-blocks.ensures in
    let zero : c.error-error.result ≡ 0 = omega (arith, c.if-error-ne0.false) in
    let well : error_of (config.size * config.blocks) r ≡ 0 = sym (ap (λ n. error_of n r) c.device_len.ensures.is) ∙ sym c.error-error.ensures ∙ zero in
    error_none config (read_of c.args.self.now.found) (written_of c.args.self.now.written) r well (omega (arith, b.first, b.end, b.order)) (λ k low high. c.loop-block.invariant k (omega (arith, b.first, low)) (omega (arith, b.end, high, c.loop-block-test.false)))
