use Rattle.std.proofs.Common.{◌≡◌, ◌<◌, ◌≤◌, length, refl, arith, vec_len}
use Rattle.std.specs.declared.option.Option.TheVariants.{Some, None}
use Rattle.read_core.specs.Candidates.{carrier}
use Rattle.read_core.proofs.Gathering.{carrier_at, part_pushed, parts_full, parts_past}
use Rattle.read_core.proofs.candidate.parts_of.Goals as goal
use Rattle.read_core.proofs.candidate.parts_of.Goals.{in-Some+then-len-m+in_ok-copy+in_ok-push, in-Some+else-len-m, in_default}

pub loop-i-preserved : goal.loop-i-preserved
loop-i-preserved c =
    let carries = carrier c.args.answers.now c.args.stamps.now c.args.stamp.now in
    elim c.match-carried.branch [
      | in-Some+then-len-m+in_ok-copy+in_ok-push w ↦ (
          let here = carrier_at c.args.answers.now c.args.stamps.now c.args.stamp.now c.loop-i.i c.index-answers-i.result (Some w.in-Some.version.now) c.loop-i-test.true c.index-answers-i.is w.in-Some.ensures in
          let size : vec_len c.loop-i.parts ≡ length c.loop-i.parts.items = c.loop-i.parts.ok.0 in
          let room : length c.loop-i.parts.items < c.args.m = omega (arith, size, w.len.ensures, w.if-len-m.true) in
          rw (w.parts-is, w.in_ok-push.ensures.items) (part_pushed c.args.m c.loop-i.i carries c.loop-i.parts.items c.loop-i.invariant (record { number = c.loop-i.i; bytes = w.in_ok-copy.field-0 }) w.in-Some.version.now room here refl w.in_ok-copy.ensures))
      | in-Some+else-len-m w ↦ (
          let here = carrier_at c.args.answers.now c.args.stamps.now c.args.stamp.now c.loop-i.i c.index-answers-i.result (Some w.in-Some.version.now) c.loop-i-test.true c.index-answers-i.is w.in-Some.ensures in
          let size : vec_len c.loop-i.parts ≡ length c.loop-i.parts.items = c.loop-i.parts.ok.0 in
          let full : c.args.m ≤ length c.loop-i.parts.items = omega (arith, size, w.len.ensures, w.if-len-m.false) in
          rw w.parts-is (parts_full c.args.m c.loop-i.i carries c.loop-i.parts.items c.loop-i.invariant (c.loop-i.i, w.in-Some.version.now) full here))
      | in_default w ↦ (
          let here = carrier_at c.args.answers.now c.args.stamps.now c.args.stamp.now c.loop-i.i c.index-answers-i.result None c.loop-i-test.true c.index-answers-i.is w.in_default.ensures in
          rw w.parts-is (parts_past c.args.m c.loop-i.i carries c.loop-i.parts.items c.loop-i.invariant here))
    ]
