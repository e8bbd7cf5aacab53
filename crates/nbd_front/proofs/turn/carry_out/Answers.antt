use Rattle.std.proofs.Common.{◌≡◌, ◌∙◌, refl, ap, subst, arith, length, drop}
use Rattle.std.proofs.lemmas.List.{length-drop}
use Rattle.node_device.specs.Devices.{SeenDevice}
use Rattle.nbd_front.specs.Requests.{data_len, head_len, write_kind}
use Rattle.nbd_front.specs.declared.request.Request.{Request}
use Rattle.nbd_front.specs.Arrays.{array_of, HaveTimes}
use Rattle.nbd_front.specs.Sessions.{reply_of, array_after, writes_to}
use Rattle.nbd_front.proofs.Lives.{if_ok, served_more, refreshed_order, refreshed_times}
use Rattle.nbd_front.proofs.Replying.{same_after}
use Rattle.nbd_front.proofs.turn.carry_out.Goals as goal

data_is : (r : Request) → r.kind ≡ write_kind → data_len r ≡ r.len
data_is r kind = rw kind refl

pub answer-requires-clause-bytes : goal.answer-requires-clause-bytes
answer-requires-clause-bytes c kind none =
    let r = c.args.asked.now.request in
    let bytes = c.requires.asked.0 in
    let a = c.requires.asked.1 in
    let long : data_len r ≡ r.len = data_is r kind in
    ap length (c.deref.ensures.value ∙ a.written kind none) ∙ omega (arith, length-drop head_len bytes, a.whole.size, ap data_len a.request, long)

pub answer-requires-clause-order : goal.answer-requires-clause-order
answer-requires-clause-order c = refreshed_order c.args.served c.args.device c.refresh.new.device c.requires.order c.in_ok-refresh.ensures

pub returns : goal.returns
returns c =
    let d = c.args.device in
    let e = c.refresh.new.device in
    let r = c.args.asked.now.request in
    let fresh = c.in_ok-refresh.ensures in
    let held : array_of e.held ≡ array_of d.held = ap (λ (x : SeenDevice). array_of x.held) fresh.same in
    if_ok _ _ (λ done h bytes a. record {
      told = h.told ∙ ap (λ z. reply_of z r) held ∙ ap (λ q. reply_of (array_of d.held) q) a.request;
      config = h.written.config ∙ ap (λ (x : SeenDevice). x.config) fresh.same;
      array = h.written.bytes ∙ ap (λ z. array_after z r c.deref.result.now) held ∙ ap (array_after (array_of d.held) r) c.deref.ensures.value
          ∙ same_after (array_of d.held) r (drop head_len bytes) c.args.asked.now.bytes.items (λ kind none. a.written kind (a.error ∙ none))
          ∙ ap (λ q. array_after (array_of d.held) q (drop head_len bytes)) a.request;
      times = subst (λ q. HaveTimes (writes_to d.config q) d done.0) a.request (subst (λ (x : SeenDevice). HaveTimes (writes_to x.config r) x done.0) fresh.same h.written.times);
      server = λ place near short. served_more e done.0 c.args.served place (length bytes) _ _ (refreshed_times c.args.served c.args.served d e c.requires.times fresh) fresh.life fresh.more c.requires.few near short h.written;
    }) c.answer.result c.answer.ensures
