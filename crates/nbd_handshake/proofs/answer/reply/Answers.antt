use Rattle.std.proofs.Common.{◌≡◌, ◌++◌, ◌∙◌, [], sym, ap, subst, arith}
use Rattle.outside_io.specs.Written.{Adds}
use Rattle.nbd_handshake.specs.Numbers.{ack}
use Rattle.nbd_handshake.specs.Replies.{option_reply, listed}
use Rattle.nbd_handshake.specs.Steps.{asked}
use Rattle.nbd_handshake.proofs.Answering.{on_ok, refused, told, lists, ends}
use Rattle.nbd_handshake.proofs.answer.reply.Goals as goal

pub returns-then-kind-ne-ACK-clause-whole : goal.returns-then-kind-ne-ACK-clause-whole
returns-then-kind-ne-ACK-clause-whole g c =
    let h = c.args.head.now in
    let s = c.send-then-kind-ne-ACK in
    on_ok s.result
    (λ adds bytes taken.
    let is = refused c.args.export.now c.args.short (asked h bytes) (λ e. omega (arith, e, c.if-head-eq-EXPORT_NAME.false)) (λ e. omega (arith, taken.1, e, c.if-kind-ne-ACK.true)) in
    subst (Adds (g.K.Sink.taken c.args.sink.now) (g.K.Sink.taken s.new.sink)) (c.last.ensures ∙ ap (λ n. option_reply h.number n []) taken.1 ∙ sym is) adds)
    s.ensures.whole

pub returns-then-asks_about-clause-whole : goal.returns-then-asks_about-clause-whole
returns-then-asks_about-clause-whole g c =
    let h = c.args.head.now in
    let s = c.send-then-asks_about in
    on_ok s.result
    (λ adds bytes taken.
    let is = told c.args.export.now c.args.short (asked h bytes) (λ e. omega (arith, e, c.if-head-eq-EXPORT_NAME.false)) (omega (arith, taken.1, c.if-kind-ne-ACK.false)) (sym c.asks_about.ensures ∙ c.if-asks_about.true) in
    subst (Adds (g.K.Sink.taken c.args.sink.now) (g.K.Sink.taken s.new.sink)) (c.details.ensures ∙ sym is) adds)
    s.ensures.whole

pub returns-then-head-eq-LIST-clause-whole : goal.returns-then-head-eq-LIST-clause-whole
returns-then-head-eq-LIST-clause-whole g c =
    let h = c.args.head.now in
    let s = c.send-then-head-eq-LIST in
    on_ok s.result
    (λ adds bytes taken.
    let number : h.number ≡ 3 = omega (arith, c.if-head-eq-LIST.true) in
    let is = lists c.args.export.now c.args.short (asked h bytes) (λ e. omega (arith, e, c.if-head-eq-EXPORT_NAME.false)) (omega (arith, taken.1, c.if-kind-ne-ACK.false)) (sym c.asks_about.ensures ∙ c.if-asks_about.false) number in
    subst (Adds (g.K.Sink.taken c.args.sink.now) (g.K.Sink.taken s.new.sink)) (c.listing.ensures ∙ ap (λ n. listed ++ option_reply n ack []) (sym number) ∙ sym is) adds)
    s.ensures.whole

pub returns-clause-whole : goal.returns-clause-whole
returns-clause-whole g c =
    let h = c.args.head.now in
    let s = c.send-2 in
    on_ok s.result
    (λ adds bytes taken.
    let is = ends c.args.export.now c.args.short (asked h bytes) (λ e. omega (arith, e, c.if-head-eq-EXPORT_NAME.false)) (omega (arith, taken.1, c.if-kind-ne-ACK.false)) (sym c.asks_about.ensures ∙ c.if-asks_about.false) (λ e. omega (arith, e, c.if-head-eq-LIST.false)) in
    subst (Adds (g.K.Sink.taken c.args.sink.now) (g.K.Sink.taken s.new.sink)) (c.last-2.ensures ∙ sym is) adds)
    s.ensures.whole
