use Rattle.std.proofs.Common.{◌+◌, ◌*◌, length}
use Rattle.thread_spread.proofs.spread.+parts.Given as goal

abbrev pub decreases-parts_from : goal.decreases-parts_from
decreases-parts_from g l = 4 * length l.s.now

abbrev pub decreases-part_and_rest : goal.decreases-part_and_rest
decreases-part_and_rest g l = 4 * length l.rest.now + 2

abbrev pub decreases-part_and_rest-there : goal.decreases-part_and_rest-there
decreases-part_and_rest-there g l = 4 * length l.rest.now + 1
