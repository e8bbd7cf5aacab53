-- Refusals of a source as ends of a session.
use Rattle.nbd_front.specs.declared.filling.TakeRefusal.{TakeRefusal}
use Rattle.nbd_front.specs.declared.filling.TakeRefusal.TheVariants as refusals
use Rattle.nbd_front.specs.declared.ending.SessionEnd.{SessionEnd}
use Rattle.nbd_front.specs.declared.ending.SessionEnd.TheVariants as ends

abbrev pub end_of : TakeRefusal → SessionEnd
end_of refusals.NoMemory = ends.NoMemory
end_of refusals.ReadFault = ends.ReadFault
