use Rattle.std.proofs.Common.{◌≡◌, map, take}
use Rattle.gf_field.specs.Fragments.{fragments_of}
use Rattle.frag_check.proofs.Pairs.{paired}
use Rattle.frag_check.proofs.summed.summed_blocks.Given as goal

abbrev pub invariant-loop-block : goal.invariant-loop-block
invariant-loop-block l = l.shares.items ≡ map (fragments_of l.code.n l.code.m) (take l.block-index l.blocks)

abbrev pub invariant-loop-shares : goal.invariant-loop-shares
invariant-loop-shares l = l.all.items ≡ map paired l.yielded
