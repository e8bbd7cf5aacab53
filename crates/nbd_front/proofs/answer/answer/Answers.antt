use Rattle.std.proofs.Common.{◌++◌, ◌∙◌, ap, refl, length}
use Rattle.nbd_front.specs.Replies.{reply_head}
use Rattle.nbd_front.specs.Arrays.{array_of}
use Rattle.nbd_front.specs.Sessions.{sent_of, array_after, writes_to}
use Rattle.nbd_front.proofs.Lives.{then_written}
use Rattle.nbd_front.proofs.Replying.{told}
use Rattle.nbd_front.proofs.answer.answer.Goals as goal

pub returns : goal.returns
returns c =
    let d = c.args.device in
    let r = c.args.request.now in
    let head = c.in_ok-push_head.ensures ∙ ap (λ z. z ++ reply_head c.args.error r.handle) c.new-reply.ensures.items in
    record {
      told = told (array_of d.held) r c.push_head.new.text.items c.push_range.new.reply.items (sent_of (array_of d.held) r) c.args.error (length (array_of d.held)) refl c.requires.error head refl c.in_ok-device.ensures.sent;
      written = then_written d c.in_ok-device.device c.in_ok-device-2.device (λ z. array_after z r c.args.bytes.now) (λ k. writes_to k r) c.in_ok-device.ensures.read c.in_ok-device-2.ensures;
    }
