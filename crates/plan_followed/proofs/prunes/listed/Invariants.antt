use Rattle.plan_followed.specs.Tops.{AreListed}
use Rattle.plan_followed.proofs.prunes.listed.Given as goal

-- the blocks so far are listed
abbrev pub invariant-loop-block : goal.invariant-loop-block
invariant-loop-block l = AreListed l.block l.tops l.listed.items
