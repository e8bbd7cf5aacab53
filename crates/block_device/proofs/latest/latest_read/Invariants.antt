use Rattle.std.proofs.Common.{◌≡◌, ◌≤◌, length, drop}
use Rattle.std.specs.declared.option.Option.TheVariants.{None}
use Rattle.block_device.proofs.Searching.{latest}
use Rattle.block_device.proofs.latest.latest_read.Given as goal

abbrev pub invariant-loop-at : goal.invariant-loop-at
invariant-loop-at l = record { within : l.at ≤ length l.records; none : latest l.client l.block (drop l.at l.records) ≡ None }

abbrev pub decreases-loop-at : goal.decreases-loop-at
decreases-loop-at l = l.at
