use Rattle.std.proofs.Common.{◌≡◌, length, take}
use Rattle.plan_followed.specs.Tops.{AreTops}
use Rattle.plan_followed.proofs.prunes.tops_of.Given as goal

-- the reads so far are noted
abbrev pub invariant-loop-read : goal.invariant-loop-read
invariant-loop-read l = record { count : length l.tops.items ≡ l.blocks; tops : AreTops (take l.read-index l.given) (take l.read-index l.given) l.tops.items }
