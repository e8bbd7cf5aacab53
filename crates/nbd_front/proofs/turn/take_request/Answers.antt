use Rattle.std.proofs.Common.{rules, ◌≡◌, ◌≢◌, ◌++◌, ◌∙◌, Err, sym, subst, length}
use Rattle.outside_io.proofs.lemmas.Known.{Consumes-then}
use Rattle.nbd_front.specs.declared.request.RequestKind.TheVariants.{Leave}
use Rattle.nbd_front.specs.Requests.{data_len}
use Rattle.nbd_front.specs.Sessions.{leave_kind}
use Rattle.nbd_front.specs.Servers.{HasCome}
use Rattle.nbd_front.proofs.Lives.{not_both}
use Rattle.nbd_front.proofs.Requests.{ended_within, is_request, same_request, same_data}
use Rattle.nbd_front.proofs.turn.take_request.Goals as goal

pub returns-in_err-bytes-clause-end : goal.returns-in_err-bytes-clause-end
returns-in_err-bytes-clause-end g c =
    let request = c.in-Some.request in
    let come : HasCome request c.args.served (g.S.Source.left c.args.source.now) (g.S.Source.left c.next_request.new.source) = rw c.in-Some.is at c.in_ok-request.ensures.some in
    let is : c.from_residual-in_err-bytes.result ≡ Err c.in_err-bytes.field-0.0 = first_of (search rules, cc) in
    rw is (ended_within come.bytes request c.in_err-bytes.field-0.0 c.args.served c.args.place _ _ _ come.size come.magic come.is come.few come.gave c.in_err-bytes.ensures.stopped)

pub returns-clause-some : goal.returns-clause-some
returns-clause-some g c =
    let request = c.in-Some.request in
    let come : HasCome request c.args.served (g.S.Source.left c.args.source.now) (g.S.Source.left c.next_request.new.source) = rw c.in-Some.is at c.in_ok-request.ensures.some in
    let t = c.in_ok-bytes.ensures.taken in
    let stays : request.kind ≢ leave_kind = λ kind. (let asks : c.asks.result ≡ Leave = c.asks.ensures.leave.1 kind in let eq = rw asks at c.eq.ensures in not_both c.eq.result eq c.if-eq.false) in (
      come.bytes ++ t.bytes,
      Consumes-then _ _ _ come.bytes t.bytes come.gave t.gave,
      come.few,
      record {
        whole = is_request come.bytes t.bytes come.size come.magic (subst (λ q. q.kind ≢ leave_kind) come.is stays) (subst (λ q. length t.bytes ≡ data_len q) come.is t.size);
        request = come.is ∙ sym (same_request come.bytes t.bytes come.size);
        error = c.error-error.ensures;
        written = λ kind none. t.same kind none ∙ sym (same_data come.bytes t.bytes come.size);
      },
    )
