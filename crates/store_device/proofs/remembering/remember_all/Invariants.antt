use Rattle.std.proofs.Common.{◌≡◌, ◌≤◌, ◌+◌, ◌++◌, take}
use Rattle.std.specs.Prelude.{vec_capacity, vec_len}
use Rattle.store_device.specs.Calls.{prunes_of}
use Rattle.store_device.proofs.remembering.remember_all.Given as goal

abbrev pub invariant-loop-k : goal.invariant-loop-k
invariant-loop-k l = record {
  items : l.acknowledged.items ≡ l.fn.acknowledged.items ++ prunes_of (take l.k l.ops) l.outcomes;
  capacity : vec_capacity l.acknowledged ≡ vec_capacity l.fn.acknowledged;
  len : vec_len l.acknowledged ≤ vec_len l.fn.acknowledged + l.k;
}
