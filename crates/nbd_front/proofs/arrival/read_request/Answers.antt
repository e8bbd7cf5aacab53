use Rattle.std.proofs.lemmas.Grind.{common_steps}
use Rattle.nbd_front.specs.declared.filling.TakeRefusal.TheVariants.{ReadFault, NoMemory}
use Rattle.std.proofs.Common.{rules, Err, ◌≡◌, ◌<◌, ◌++◌, length, sym, ◌∙◌, ap, arith, length-append}
use Rattle.std.specs.Int.{w32, from_be_bytes}
use Rattle.outside_io.proofs.lemmas.Known.{Consumes-then}
use Rattle.nbd_front.specs.Requests.{request_magic, fields_of}
use Rattle.nbd_front.proofs.Joined.{magic_joined, request_joined}
use Rattle.nbd_front.proofs.arrival.read_request.Goals as goal

pub returns-then-len-lt24-clause-arrival : goal.returns-then-len-lt24-clause-arrival
returns-then-len-lt24-clause-arrival g c =
    let magic = c.in_ok-magic.magic.items in
    let rest = c.in_ok-rest.rest.items in
    let first = c.in_ok-magic.ensures.bytes in
    let second = c.in_ok-rest.ensures.bytes in
    let four : length magic ≡ 4 = omega (arith, first.1, c.if-len-lt4.false, c.len.ensures, c.in_ok-magic.magic.ok) in
    let few : length rest < 24 = omega (arith, c.if-len-lt24.true, c.len-2.ensures, c.in_ok-rest.rest.ok) in
    let number : c.four.result ≡ request_magic = omega (arith, c.if-four-ne-MAGIC.false) in
    let is = sym number ∙ c.four.ensures ∙ ap (λ xs. from_be_bytes w32 xs) c.deref.ensures.value in
    let long = length-append magic rest in
    (magic ++ rest, Consumes-then _ _ _ magic rest first.0 second.0, (omega (arith, long, four), omega (arith, long, four, few), λ _. magic_joined magic rest four request_magic is, second.2 few))

pub returns-clause-arrival : goal.returns-clause-arrival
returns-clause-arrival g c =
    let magic = c.in_ok-magic.magic.items in
    let rest = c.in_ok-rest.rest.items in
    let first = c.in_ok-magic.ensures.bytes in
    let second = c.in_ok-rest.ensures.bytes in
    let four : length magic ≡ 4 = omega (arith, first.1, c.if-len-lt4.false, c.len.ensures, c.in_ok-magic.magic.ok) in
    let all : length rest ≡ 24 = omega (arith, second.1, c.if-len-lt24.false, c.len-2.ensures, c.in_ok-rest.rest.ok) in
    let number : c.four.result ≡ request_magic = omega (arith, c.if-four-ne-MAGIC.false) in
    let is = sym number ∙ c.four.ensures ∙ ap (λ xs. from_be_bytes w32 xs) c.deref.ensures.value in
    let long = length-append magic rest in
    (magic ++ rest, Consumes-then _ _ _ magic rest first.0 second.0, (omega (arith, long, four, all), magic_joined magic rest four request_magic is, c.of.ensures ∙ ap (λ xs. fields_of xs) c.deref-2.ensures.value ∙ sym (request_joined magic rest four all)))

pub returns-in_err-rest-clause-begun : goal.returns-in_err-rest-clause-begun
returns-in_err-rest-clause-begun g c = λ failed.
    let magic = c.in_ok-magic.magic.items in
    let first = c.in_ok-magic.ensures.bytes in
    let error : c.in_err-rest.field-0.0 ≡ ReadFault = first_of (search rules, grind (arith, common_steps), cc) in
    let fewer = c.in_err-rest.ensures.fewer (ap Err error) in
    let four : length magic ≡ 4 = omega (arith, first.1, c.if-len-lt4.false, c.len.ensures, c.in_ok-magic.magic.ok) in
    let number : c.four.result ≡ request_magic = omega (arith, c.if-four-ne-MAGIC.false) in
    let is = sym number ∙ c.four.ensures ∙ ap (λ xs. from_be_bytes w32 xs) c.deref.ensures.value in
    (magic ++ fewer.0, Consumes-then _ _ _ magic fewer.0 first.0 fewer.1, omega (arith, length-append magic fewer.0, four, fewer.2), λ _. magic_joined magic fewer.0 four request_magic is)

pub returns-in_err-rest-clause-most : goal.returns-in_err-rest-clause-most
returns-in_err-rest-clause-most g c = λ failed.
    let magic = c.in_ok-magic.magic.items in
    let first = c.in_ok-magic.ensures.bytes in
    let error : c.in_err-rest.field-0.0 ≡ NoMemory = first_of (search rules, grind (arith, common_steps), cc) in
    let most = c.in_err-rest.ensures.most (ap Err error) in
    (magic ++ most.0, Consumes-then _ _ _ magic most.0 first.0 most.1, omega (arith, length-append magic most.0, first.1, most.2))
