use Rattle.history_book.specs.Judging.{HasNoFlaw}
use Rattle.history_book.specs.Sweeps.{IsSweep, IsOfBlockBefore}
use Rattle.history_book.proofs.judging.judge.Given as goal

abbrev pub invariant-loop-place : goal.invariant-loop-place
invariant-loop-place l = record {
  sweep : IsSweep l.entries l.place l.sweep;
  block : IsOfBlockBefore l.entries l.place l.sweep.block;
  none : HasNoFlaw l.entries l.place;
}
