use Rattle.std.proofs.Common.{◌≡◌}
use Rattle.std.specs.Prelude.{slice_get}
use Rattle.std.specs.declared.option.Option.TheVariants.{Some}
use Rattle.cross_sum.specs.Digest.{digest}
use Rattle.read_core.proofs.Gathering.{carrier_at, known_pushed}
use Rattle.read_core.proofs.candidate.known_parts.Goals as goal
use Rattle.read_core.proofs.candidate.known_parts.Goals.{in-Some+then-same+in_ok-copy+in_ok-push, in-Some+else-same, in_default}

pub loop-i-preserved : goal.loop-i-preserved
loop-i-preserved c =
    elim c.match-carried.branch [
      | in-Some+then-same+in_ok-copy+in_ok-push w ↦ (
          let version = w.in-Some.version.now in
          let here = carrier_at c.args.answers.now c.args.stamps.now c.args.stamp.now c.loop-i.i c.index-answers-i.result (Some version) c.loop-i-test.true c.index-answers-i.is w.in-Some.ensures in
          let own : slice_get version.sum c.loop-i.i ≡ Some (digest version.fragment) = c.requires.whole c.loop-i.i version c.loop-i-test.true here in
          let same : version.sum ≡ c.args.sum.now = w.same.ensures.0 w.if-same.true in
          let copied : w.in_ok-copy.field-0 ≡ version.fragment = w.in_ok-copy.ensures in
          let has : slice_get c.args.sum.now c.loop-i.i ≡ Some (digest w.in_ok-copy.field-0) = cc in
          rw (w.parts-is, w.in_ok-push.ensures.items) (known_pushed c.args.sum.now c.loop-i.parts.items (record { number = c.loop-i.i; bytes = w.in_ok-copy.field-0 }) c.loop-i.invariant has))
      | in-Some+else-same w ↦ rw w.parts-is c.loop-i.invariant
      | in_default w ↦ rw w.parts-is c.loop-i.invariant
    ]
