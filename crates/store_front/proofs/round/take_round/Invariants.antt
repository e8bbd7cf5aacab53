use Rattle.std.proofs.Common.{◌≡◌, ◌≤◌, ◌-◌, length, take}
use Rattle.std.specs.List.{All, AllPairs, concat}
use Rattle.store_front.specs.Rounds.{requests_of, blocks_read, AreSeparate, IsAsked}
use Rattle.store_front.proofs.Touching.{AreKnown}
use Rattle.store_front.proofs.round.take_round.Given as goal

abbrev pub invariant-loop-request : goal.invariant-loop-request
invariant-loop-request l = record {
  asked : All IsAsked l.asked.items;
  apart : AllPairs (AreSeparate l.config) (requests_of l.asked.items);
  known : AreKnown l.config l.touched (requests_of l.asked.items);
  first : l.len ≡ 0 → l.touched.count ≡ 0;
  fits : l.len ≤ length l.input;
  front : take l.len l.input ≡ concat (requests_of l.asked.items);
  read : l.touched.read.keys ≡ blocks_read l.config (requests_of l.asked.items);
}

abbrev pub decreases-loop-request : goal.decreases-loop-request
decreases-loop-request l = length l.input - l.len
