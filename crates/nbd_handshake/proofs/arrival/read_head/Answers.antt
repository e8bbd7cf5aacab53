use Rattle.std.proofs.lemmas.Grind.{common_steps}
use Rattle.std.proofs.Common.{rules, ◌≡◌, ◌<◌, ◌++◌, length, take, drop, sym, ◌∙◌, ap, arith, length-append, length-take-le}
use Rattle.std.proofs.Math.Seq.{take_all}
use Rattle.std.specs.Int.{w32, from_be_bytes}
use Rattle.outside_io.proofs.lemmas.Known.{Consumes-then}
use Rattle.nbd_handshake.specs.Numbers.{option_magic}
use Rattle.nbd_handshake.specs.Steps.{HasBegun}
use Rattle.nbd_handshake.proofs.Answering.{any_err}
use Rattle.nbd_handshake.proofs.Parts.{joined_magic, joined_number, joined_len, is_short}
use Rattle.nbd_handshake.proofs.arrival.read_head.Goals as goal

pub returns-in_err-fill-clause-begun : goal.returns-in_err-fill-clause-begun
returns-in_err-fill-clause-begun g c =
    let room = c.fill.new.room in
    let magic = take c.in_ok-count.count room in
    let first = c.in_ok-count.ensures.bytes in
    let eight : length magic ≡ 8 = omega (arith, first.1, c.in_ok-count.ensures.len, c.in_ok-count.ensures.count, length-take-le c.in_ok-count.count room c.in_ok-count.ensures.count, c.if-count-lt8.false) in
    let same : room ≡ option_magic = first_of (search rules, grind (arith, common_steps), cc) in
    let is : magic ≡ option_magic = take_all c.in_ok-count.count room (omega (arith, eight, length-take-le c.in_ok-count.count room c.in_ok-count.ensures.count, c.in_ok-count.ensures.len)) ∙ same in
    let fewer = c.in_err-fill.ensures.fewer in
    any_err (HasBegun (g.S.Source.left c.args.source.now) (g.S.Source.left c.fill-2.new.source)) c.from_residual-in_err-fill.result
    (magic ++ fewer.0, Consumes-then _ _ _ magic fewer.0 first.0 fewer.1, is_short (magic ++ fewer.0) (omega (arith, length-append magic fewer.0, eight, fewer.2)) (λ _. joined_magic magic fewer.0 eight ∙ is))

pub returns-then-branch-lt8-clause-arrival : goal.returns-then-branch-lt8-clause-arrival
returns-then-branch-lt8-clause-arrival g c =
    let room = c.fill.new.room in
    let magic = take c.in_ok-count.count room in
    let fields = take c.in_ok-fill.field-0 c.fill-2.new.room in
    let first = c.in_ok-count.ensures.bytes in
    let second = c.in_ok-fill.ensures.bytes in
    let eight : length magic ≡ 8 = omega (arith, first.1, c.in_ok-count.ensures.len, c.in_ok-count.ensures.count, length-take-le c.in_ok-count.count room c.in_ok-count.ensures.count, c.if-count-lt8.false) in
    let same : room ≡ option_magic = first_of (search rules, grind (arith, common_steps), cc) in
    let is : magic ≡ option_magic = take_all c.in_ok-count.count room (omega (arith, eight, length-take-le c.in_ok-count.count room c.in_ok-count.ensures.count, c.in_ok-count.ensures.len)) ∙ same in
    let few : length fields < 8 = omega (arith, length-take-le c.in_ok-fill.field-0 c.fill-2.new.room c.in_ok-fill.ensures.count, c.if-branch-lt8.true) in
    let long = length-append magic fields in
    (magic ++ fields, Consumes-then _ _ _ magic fields first.0 second.0, (omega (arith, long, eight), omega (arith, long, eight, few), λ _. joined_magic magic fields eight ∙ is, second.2 (omega (arith, few, c.in_ok-fill.ensures.len))))

pub returns-clause-arrival : goal.returns-clause-arrival
returns-clause-arrival g c =
    let room = c.fill.new.room in
    let magic = take c.in_ok-count.count room in
    let other = c.fill-2.new.room in
    let fields = take c.in_ok-fill.field-0 other in
    let first = c.in_ok-count.ensures.bytes in
    let second = c.in_ok-fill.ensures.bytes in
    let eight : length magic ≡ 8 = omega (arith, first.1, c.in_ok-count.ensures.len, c.in_ok-count.ensures.count, length-take-le c.in_ok-count.count room c.in_ok-count.ensures.count, c.if-count-lt8.false) in
    let same : room ≡ option_magic = first_of (search rules, grind (arith, common_steps), cc) in
    let is : magic ≡ option_magic = take_all c.in_ok-count.count room (omega (arith, eight, length-take-le c.in_ok-count.count room c.in_ok-count.ensures.count, c.in_ok-count.ensures.len)) ∙ same in
    let size = length-take-le c.in_ok-fill.field-0 other c.in_ok-fill.ensures.count in
    let all : fields ≡ other = take_all c.in_ok-fill.field-0 other (omega (arith, c.if-branch-lt8.false, c.in_ok-fill.ensures.len, c.in_ok-fill.ensures.count)) in
    let number : c.four.result ≡ from_be_bytes w32 (take 4 other) = first_of (search rules, grind (arith, common_steps), cc) in
    let len : c.four-2.result ≡ from_be_bytes w32 (take 4 (drop 4 other)) = first_of (search rules, grind (arith, common_steps), cc) in (
      magic ++ fields,
      Consumes-then _ _ _ magic fields first.0 second.0,
      record {
        magic = joined_magic magic fields eight ∙ is;
        size = omega (arith, length-append magic fields, eight, size, c.if-branch-lt8.false, c.in_ok-fill.ensures.len, c.in_ok-fill.ensures.count);
        number = number ∙ ap (λ xs. from_be_bytes w32 (take 4 xs)) (sym all) ∙ sym (joined_number magic fields eight);
        len = len ∙ ap (λ xs. from_be_bytes w32 (take 4 (drop 4 xs))) (sym all) ∙ sym (joined_len magic fields eight);
      },
    )
