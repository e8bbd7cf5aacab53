use Rattle.std.proofs.Common.{◌≡◌, ℕ, ◌+◌, ◌-◌, ◌<◌, ◌≤◌, true, false, length, slice_index, slice_range, arith, rules}
use Rattle.std.proofs.lemmas.List.{places}
use Rattle.sqlite_disk.specs.Events.{replay}
use Rattle.system_file.proofs.Pieces.{has_none, holds_all, has_more}
use Rattle.system_file.proofs.Recording.{writes_nowhere, writes_more}
use Rattle.system_file.proofs.steps.write_whole.Goals as goal

pub loop-done-init : goal.loop-done-init
loop-done-init g c = record {
  in_range = omega arith;
  some = λ start. writes_nowhere start (g.C.Calls.history c.args.calls.now) c.args.at (length c.args.piece.now);
  faults = λ start. search rules;
  first = λ start. has_none (replay start (g.C.Calls.history c.args.calls.now)).seen c.args.at c.args.piece.now;
}

pub loop-done-preserved : goal.loop-done-preserved
loop-done-preserved g c =
    let piece = c.args.piece.now in
    let at = c.args.at in
    let done = c.loop-done.done in
    let inv = c.loop-done.invariant in
    let old = g.C.Calls.history c.args.calls.now in
    let now = g.C.Calls.history c.loop-done.calls in
    let put = c.in_ok-done.field-0 in
    let count = c.in_ok-done.ensures.count in
    let from = c.saturating_add.result in
    let rest = slice_range piece done (length piece) in
    let is : from ≡ at + done = omega (arith, c.saturating_add.ensures, count.2) in
    let len : length rest ≡ length piece - done = search (rules, places) in
    let alike : (i : ℕ) → i < length rest → slice_index rest i ≡ slice_index piece (done + i) = λ i low. search (rules, places) in
    rw c.in_ok-done.ensures.noted record {
      in_range = omega (arith, count.1, len, inv.in_range);
      some = λ start. writes_more start old at (length piece) now from put rest true (omega (arith, is)) (omega (arith, is, len, inv.in_range)) (inv.some start);
      faults = inv.faults;
      first = λ start. has_more (replay start now).seen at piece done from put rest is count.1 alike (inv.first start);
    }

pub returns-clause-written : goal.returns-clause-written
returns-clause-written g c =
    λ start some. holds_all (replay start (g.C.Calls.history c.loop-done.calls)).seen c.args.at c.args.piece.now c.loop-done.done c.loop-done.invariant.in_range (omega (arith, c.loop-done-test.false)) (c.loop-done.invariant.first start) some

pub returns-in_err-done-clause-some : goal.returns-in_err-done-clause-some
returns-in_err-done-clause-some g c =
    let piece = c.args.piece.now in
    let at = c.args.at in
    let done = c.loop-done.done in
    let inv = c.loop-done.invariant in
    let from = c.saturating_add.result in
    let rest = slice_range piece done (length piece) in
    let len : length rest ≡ length piece - done = search (rules, places) in
    let low : at ≤ from = omega (arith, c.saturating_add.ensures, c.ranges.at.fits) in
    let high : from + length rest ≤ at + length piece = omega (arith, c.saturating_add.ensures, len, inv.in_range) in
    rw c.in_err-done.ensures.noted (λ start. writes_more start (g.C.Calls.history c.args.calls.now) at (length piece) (g.C.Calls.history c.loop-done.calls) from _ rest false low high (inv.some start))
