use Rattle.std.proofs.Common.{◌∙◌, sym, subst}
use Rattle.std.proofs.lemmas.Slice.Zip.{all_zipped_more}
use Rattle.std.proofs.lemmas.List.{get_or_default}
use Rattle.batch_clients.specs.Encoding.{WritesValue, WritesAt}
use Rattle.batch_clients.proofs.encoding.waiting_values.Goals.{in-Some+in_ok-copy+in_ok-push+in_ok-push-2, in_default}
use Rattle.batch_clients.proofs.encoding.waiting_values.Goals as goal

pub loop-place-preserved : goal.loop-place-preserved
loop-place-preserved c =
    let turns = c.args.turns.now in
    let place = c.loop-place.place in
    let turn = c.index-turns-place in
    elim c.match-value_to_encode.branch [
      | in-Some+in_ok-copy+in_ok-push+in_ok-push-2 w ↦ (
          let writes : WritesValue turn.result w.in_ok-copy.field-0 = subst (WritesValue turn.result) (sym w.in_ok-copy.ensures) w.in-Some.ensures in
          rw (w.places-is, w.values-is, w.in_ok-push-2.ensures.items, w.in_ok-push.ensures.items)
          (all_zipped_more (WritesAt turns) c.loop-place.places.items c.loop-place.values.items place w.in_ok-copy.field-0 c.loop-place.invariant (
            c.loop-place-test.true,
            λ d. subst (λ t. WritesValue t w.in_ok-copy.field-0) (turn.is ∙ get_or_default turns place turn.result d c.loop-place-test.true) writes,
          )))
      | in_default w ↦ rw (w.places-is, w.values-is) c.loop-place.invariant
    ]
