use Rattle.std.proofs.Common.{◌≡◌, ℕ, ◌+◌, ◌-◌, ◌<◌, ◌≤◌, List, true, false, [], length, take, slice_index, subst, arith, rules}
use Rattle.std.proofs.lemmas.List.{places}
use Rattle.std.proofs.lemmas.Bool.{and_parts}
use borrow.Rule.Slice.PartMut.{put_mid}
use Rattle.sqlite_disk.specs.Disk.{Holds}
use Rattle.sqlite_disk.specs.Events.{agrees, replay}
use Rattle.sqlite_disk.proofs.EventLemmas.{Holds-agrees}
use Rattle.system_file.proofs.Pieces.{has_none, holds_all, reads_more}
use Rattle.system_file.proofs.Recording.{looks_nowhere, looks_more}
use Rattle.system_file.proofs.steps.read_whole.Goals as goal

pub loop-done-init : goal.loop-done-init
loop-done-init g c = record {
  in_range = omega arith;
  some = λ start. looks_nowhere start (g.C.Calls.history c.args.calls.now);
  faults = λ start. search rules;
  first = λ start clean. has_none (replay start (g.C.Calls.history c.args.calls.now)).seen c.args.at c.args.room.now;
}

pub loop-done-preserved : goal.loop-done-preserved
loop-done-preserved g c =
    let at = c.args.at in
    let done = c.loop-done.done in
    let inv = c.loop-done.invariant in
    let old = g.C.Calls.history c.args.calls.now in
    let now = g.C.Calls.history c.loop-done.calls in
    let got = c.in_ok-done.field-0 in
    let e = c.in_ok-done.ensures in
    let room = c.loop-done.room in
    let got_room = c.read_some.new.buf in
    let then_room = put_mid done (length room - done) room got_room in
    let part = take got got_room in
    let from = c.saturating_add.result in
    let is : from ≡ at + done = omega (arith, c.saturating_add.ensures, e.count.2) in
    let few : got ≤ length got_room = search (rules, places) in
    let kept : (i : ℕ) → i < done → slice_index then_room i ≡ slice_index room i = λ i low. search (rules, places) in
    let put : (i : ℕ) → i < got → slice_index then_room (done + i) ≡ slice_index got_room i = λ i low. search (rules, places) in
    rw e.noted record {
      in_range = search (rules, places);
      some = λ start. looks_more start old now from _ true part (inv.some start);
      faults = inv.faults;
      first = λ start clean.
          let m = replay start now in
          let was = and_parts m.is_honest (agrees m.seen from part) clean in
          let holds : Holds (replay start old).seen from part = subst (λ (b : List ℕ). Holds b from part) ((inv.some start).seen) (Holds-agrees m.seen from part was.1) in
          reads_more (replay start old).seen at room then_room got_room done from got is few holds kept put (inv.first start was.0);
    }

pub returns-clause-read : goal.returns-clause-read
returns-clause-read g c =
    λ start clean some. holds_all (replay start (g.C.Calls.history c.args.calls.now)).seen c.args.at c.loop-done.room c.loop-done.done c.loop-done.invariant.in_range (omega (arith, c.loop-done-test.false)) (c.loop-done.invariant.first start clean) (search (rules, places))

pub returns-in_err-done-clause-some : goal.returns-in_err-done-clause-some
returns-in_err-done-clause-some g c =
    rw c.in_err-done.ensures.noted (λ start. looks_more start (g.C.Calls.history c.args.calls.now) (g.C.Calls.history c.loop-done.calls) c.saturating_add.result _ false [] (c.loop-done.invariant.some start))
