use Rattle.store_front.specs.Replies.{reply_of}
use Rattle.store_front.specs.Values.{read_of, written_of}
use Rattle.store_front.proofs.Replying.{replies_at}
use Rattle.store_front.proofs.operations.Done.replies.Goals as goal

pub loop-one-preserved : goal.loop-one-preserved
loop-one-preserved c =
    replies_at (reply_of c.args.config.now (read_of c.args.self.now.found) (written_of c.args.self.now.written)) c.loop-one.text.items c.push_reply.new.text.items c.args.asked.now c.loop-one.one-index _ c.loop-one-test.true c.requires.asked c.loop-one.invariant c.in_ok-push_reply.ensures
