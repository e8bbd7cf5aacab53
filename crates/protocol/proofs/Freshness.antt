-- What is fresh stays so.
use Rattle.std.proofs.Common.{ℕ}
use Rattle.stamp_order.specs.declared.Stamp.{Stamp}
use Rattle.stamp_order.specs.declared.Bound.{Bound}
use Rattle.protocol.specs.Messages.{Reply}
use Rattle.wire_forms.specs.declared.Reply.TheVariants.{TimeIs, Found}
use Rattle.protocol.specs.Setting.{Setting}
use Rattle.protocol.specs.Operations.{Stage}
use Rattle.protocol.specs.Operations.Stage.{Times, Versions}
use Rattle.protocol.specs.World.{World}
use Rattle.protocol.proofs.Invariant.{IsFresh, IsOpen}

pub IsFresh-more : (s : Setting) (w v : World) (block start : ℕ) (stamp : Stamp) → ((bound : Bound) → IsOpen s v block start bound → IsOpen s w block start bound) → (stage : Stage) (reply : Reply)
    → IsFresh s w block start stamp stage reply → IsFresh s v block start stamp stage reply
IsFresh-more s w v block start stamp back Times (TimeIs time) h = h
IsFresh-more s w v block start stamp back (Versions bound) (Found u) h = λ a o. h a (back bound o)
IsFresh-more s w v block start stamp back _ _ h = tt
