use Rattle.std.proofs.Common.{◌≡◌, ◌+◌, ◌∙◌, Ok, Err, Some, ap, sym, subst, arith, length}
use Rattle.nbd_front.specs.Requests.{data_len, head_len}
use Rattle.nbd_front.specs.declared.ending.Served.TheVariants.{Next}
use Rattle.nbd_front.specs.declared.ending.SessionEnd.TheVariants.{WriteFault}
use Rattle.nbd_front.specs.Servers.{SeenServer, bytes_of, IsAsked, IsServer, HasCarriedOut, HasReplied}
use Rattle.nbd_front.proofs.Stepping.{answered_whole, answered_partly}
use Rattle.nbd_front.proofs.server.Server.answer.Goals as goal

pub overflow_add-server-2 : goal.overflow_add-server-2
overflow_add-server-2 g c = omega (arith, c.len.ensures.most, c.self.invariant.near, c.self.invariant.few)

pub invariant_of-server : goal.invariant_of-server
invariant_of-server g c =
    let inside = c.self.inside in
    let bytes = c.requires.asked.0 in
    let a = c.requires.asked.1 in
    let asked = subst (λ (x : SeenServer). IsAsked (length (bytes_of x)) bytes c.args.asked.now) (sym c.self.view_is) a in
    let replied : HasReplied inside.served bytes inside.device c.in_ok-device.device c.in_ok-device.reply.items = c.in_ok-device.ensures bytes asked in
    let long : c.len.result ≡ length bytes = c.len.ensures.is ∙ ap (λ q. head_len + data_len q) a.request ∙ sym a.whole.size in
    let most = c.len.ensures.most in
    subst (λ n. IsServer c.in_ok-device.device (inside.served + 1) (inside.place + n)) (sym long) (replied.server inside.place c.self.invariant.near (omega (arith, long, most)))

pub invariant_of-server-in-Err : goal.invariant_of-server-in-Err
invariant_of-server-in-Err g c =
    let inside = c.self.inside in
    let bytes = c.requires.asked.0 in
    let a = c.requires.asked.1 in
    let asked = subst (λ (x : SeenServer). IsAsked (length (bytes_of x)) bytes c.args.asked.now) (sym c.self.view_is) a in
    let replied : HasReplied inside.served bytes inside.device c.in_ok-device.device c.in_ok-device.reply.items = c.in_ok-device.ensures bytes asked in
    let long : c.len.result ≡ length bytes = c.len.ensures.is ∙ ap (λ q. head_len + data_len q) a.request ∙ sym a.whole.size in
    let most = c.len.ensures.most in
    subst (λ n. IsServer c.in_ok-device.device (inside.served + 1) (inside.place + n)) (sym long) (replied.server inside.place c.self.invariant.near (omega (arith, long, most)))

pub returns-in-Ok-clause-answered : goal.returns-in-Ok-clause-answered
returns-in-Ok-clause-answered g c bytes a =
    let inside = c.self.inside in
    let asked = subst (λ (x : SeenServer). IsAsked (length (bytes_of x)) bytes c.args.asked.now) (sym c.self.view_is) a in
    let replied : HasReplied inside.served bytes inside.device c.in_ok-device.device c.in_ok-device.reply.items = c.in_ok-device.ensures bytes asked in
    let long : c.len.result ≡ length bytes = c.len.ensures.is ∙ ap (λ q. head_len + data_len q) a.request ∙ sym a.whole.size in
    subst (λ (x : SeenServer). HasCarriedOut bytes x (Some (record { device = c.in_ok-device.device; served = inside.served + 1; place = inside.place + c.len.result })) (g.K.Sink.taken c.args.sink.now) (g.K.Sink.taken c.write_or_end.new.sink) (Ok Next)) c.self.view_is
    (answered_whole (record { device = inside.device; served = inside.served; place = inside.place }) c.in_ok-device.device bytes c.in_ok-device.reply.items c.deref.result.now c.len.result _ _ replied long c.deref.ensures.value c.in-Ok.ensures.whole)

pub returns-clause-answered : goal.returns-clause-answered
returns-clause-answered g c bytes a =
    let inside = c.self.inside in
    let asked = subst (λ (x : SeenServer). IsAsked (length (bytes_of x)) bytes c.args.asked.now) (sym c.self.view_is) a in
    let replied : HasReplied inside.served bytes inside.device c.in_ok-device.device c.in_ok-device.reply.items = c.in_ok-device.ensures bytes asked in
    let long : c.len.result ≡ length bytes = c.len.ensures.is ∙ ap (λ q. head_len + data_len q) a.request ∙ sym a.whole.size in
    rw c.in-Err.ensures.end
    (subst (λ (x : SeenServer). HasCarriedOut bytes x (Some (record { device = c.in_ok-device.device; served = inside.served + 1; place = inside.place + c.len.result })) (g.K.Sink.taken c.args.sink.now) (g.K.Sink.taken c.write_or_end.new.sink) (Err WriteFault)) c.self.view_is
    (answered_partly (record { device = inside.device; served = inside.served; place = inside.place }) c.in_ok-device.device bytes c.in_ok-device.reply.items c.deref.result.now c.len.result _ _ replied long c.deref.ensures.value c.in-Err.ensures.prefix))
