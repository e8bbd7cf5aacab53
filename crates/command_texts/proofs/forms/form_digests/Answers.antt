use Rattle.command_texts.proofs.Formed.{digest_more}
use Rattle.command_texts.proofs.forms.form_digests.Goals as goal

pub loop-digest-preserved : goal.loop-digest-preserved
loop-digest-preserved c = digest_more c.args.digests.now c.loop-digest.digest-index c.loop-digest-test.true c.loop-digest.invariant c.form_digest.ensures
