use Rattle.std.proofs.Common.{rules, ◌≡◌, ◌∙◌, ℕ, refl, sym, ap, length, arith}
use Rattle.block_device.specs.Ranges.{is_touched}
use Rattle.nbd_front.specs.declared.request.RequestKind.TheVariants.{Write}
use Rattle.nbd_front.specs.Replies.{error_of}
use Rattle.nbd_front.specs.Arrays.{array_of}
use Rattle.nbd_front.specs.Sessions.{writes_to}
use Rattle.nbd_front.proofs.Devices.{length_array, as_told, same_written}
use Rattle.nbd_front.proofs.Lives.{if_ok, not_both}
use Rattle.nbd_front.proofs.Replying.{within, writes, writes_not, writes_blocks, writes_none}
use Rattle.nbd_front.proofs.answer.put_data.Goals as goal
use Rattle.nbd_front.proofs.answer.put_data.Goals.{else-error-eq0-via-then-error-eq0+else-eq, else-error-eq0-via-else-error-eq0}

pub write_range-requires-clause-within : goal.write_range-requires-clause-within
write_range-requires-clause-within c =
    let d = c.args.device in
    let r = c.args.request.now in
    let asks : c.asks.result ≡ Write = first_of (search rules, cc) in
    let kind : r.kind ≡ 1 = c.asks.ensures.write.0 asks in
    let none : c.args.error ≡ 0 = omega (arith, c.if-error-eq0.true) in
    let fits = within (array_of d.held) r _ (omega (arith, kind)) (sym c.requires.error ∙ none) in
    let long = c.requires.bytes kind none in
    omega (arith, fits, long, length_array d c.requires.order)

pub returns-then-eq : goal.returns-then-eq
returns-then-eq c =
    let d = c.args.device in
    let r = c.args.request.now in
    let array = array_of d.held in
    let asks : c.asks.result ≡ Write = first_of (search rules, cc) in
    let kind : r.kind ≡ 1 = c.asks.ensures.write.0 asks in
    let none : c.args.error ≡ 0 = omega (arith, c.if-error-eq0.true) in
    let error = sym c.requires.error ∙ none in
    let size : length c.args.bytes.now ≡ r.len = c.requires.bytes kind none in
    let blocks : (k : ℕ) → is_touched d.config.size r.offset (length c.args.bytes.now) k ≡ writes_to d.config r k =
    λ k. ap (λ n. is_touched d.config.size r.offset n k) size ∙ writes_blocks array r d.config (length_array d c.requires.order) kind error k in
    if_ok _ _ (λ e w. as_told (sym (writes array r c.args.bytes.now kind error)) blocks w) c.write_range.result c.write_range.ensures

pub returns : goal.returns
returns c =
    let d = c.args.device in
    let r = c.args.request.now in
    let array = array_of d.held in
    let apart : r.kind ≡ 1 → error_of (length array) r ≡ 0 → ⊥ = λ kind error. elim c.else-error-eq0.branch [
      | else-error-eq0-via-then-error-eq0+else-eq w ↦ (let asks : w.asks.result ≡ Write = w.asks.ensures.write.1 kind in let eq = rw asks at w.eq.ensures in not_both w.eq.result eq w.if-eq.false)
      | else-error-eq0-via-else-error-eq0 w ↦ (let other = w.if-error-eq0.false in omega (arith, other, c.requires.error ∙ error))
    ] in
    as_told (sym (writes_not array r c.args.bytes.now apart)) (λ k. refl) (same_written (writes_to d.config r) d c.requires.order (writes_none array r d.config (length_array d c.requires.order) apart))
