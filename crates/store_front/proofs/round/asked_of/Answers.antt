use Rattle.std.proofs.Common.{◌≡◌, ◌+◌, take, length, sym, ap, subst, arith}
use Rattle.std.proofs.lemmas.List.{length-take}
use Rattle.nbd_front.specs.Requests.{request_of}
use Rattle.nbd_front.specs.Sessions.{IsRequest}
use Rattle.store_front.proofs.Rounding.{whole_request}
use Rattle.store_front.proofs.round.asked_of.Goals as goal

pub returns-clause-asked : goal.returns-clause-asked
returns-clause-asked c =
    let input = c.args.input.now in
    let whole = whole_request c.args.request input c.requires in
    record {
      whole = subst (λ n. IsRequest (take (28 + n) input)) (sym c.data_len.ensures) whole.0;
      is = subst (λ n. c.args.request ≡ request_of (take (28 + n) input)) (sym c.data_len.ensures) whole.1;
    }

pub returns-clause-bytes : goal.returns-clause-bytes
returns-clause-bytes c =
    let input = c.args.input.now in
    let len : length (take (28 + c.data_len.result) input) ≡ 28 + c.data_len.result = omega (arith, length-take (28 + c.data_len.result) input, c.data_len.ensures, c.requires.0) in
    ap (λ n. take n input) (sym len)
