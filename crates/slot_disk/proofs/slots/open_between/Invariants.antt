use Rattle.std.proofs.Common.{◌≡◌, ◌-◌, length, get_or}
use Rattle.slot_disk.specs.Bodies.{bodies_in}
use Rattle.slot_disk.specs.Gates.{AreOpenBetween}
use Rattle.slot_disk.proofs.slots.open_between.Given as goal

abbrev pub invariant-loop-k : goal.invariant-loop-k
invariant-loop-k l = record {
  len : length l.piece ≡ length l.fn.piece;
  bodies : bodies_in l.body l.more l.piece ≡ bodies_in l.body l.more l.fn.piece;
  opened : AreOpenBetween l.body l.k l.piece;
  last : get_or l.piece (length l.fn.piece - 1) 0 ≡ get_or l.fn.piece (length l.fn.piece - 1) 0;
}
