use Rattle.std.proofs.Common.{List, ◌++◌, take}
use Rattle.plan_followed.specs.declared.prunes.BlockStamp.{BlockStamp}
use Rattle.plan_followed.specs.Tops.{AreTops}
use Rattle.plan_followed.proofs.prunes.raise.Given as goal

-- the reads so far are noted
abbrev pub invariant-loop-read : goal.invariant-loop-read
invariant-loop-read l = (late reads : List BlockStamp) → AreTops late reads l.fn.tops → AreTops late (reads ++ take l.read-index l.given) l.tops
