-- What a node does that hasn't crashed and doesn't now.
use Rattle.std.proofs.Common.{◌≡◌, false, refl}
use Rattle.protocol.specs.Messages.{Message}
use Rattle.journals.specs.declared.desk.Way.TheVariants.{Call}
use Rattle.journals.specs.declared.node.Nature.{Nature}
use Rattle.journals.specs.Acts.{NodeState, act, late_act, answers, handles, is_spent}

module _ (s : NodeState) (nature : Nature) (ask : Message) (up : s.crashed ≡ false) (more : is_spent s.crash_after ≡ false) where
  pub call_answers : act s nature Call ask ≡ answers s nature ask
  call_answers = rw (up, more) refl

  pub late_handles : late_act s nature ask ≡ handles s nature ask
  late_handles = rw (up, more) refl
