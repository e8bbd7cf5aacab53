use Rattle.std.proofs.Common.{◌≡◌, ◌++◌, ◌∷◌, [], map, length, refl, ap, ◌∙◌, arith, slice_get, slice_set, Some}
use Rattle.std.specs.Prelude.{option_map}
use Rattle.std.proofs.lemmas.List.{length-map, map-set}
use Rattle.std.proofs.lemmas.Option.{slice_get-map, slice_get_read}
use Rattle.batch_clients.specs.Parts.{turned}
use Rattle.batch_clients.proofs.Taking.{length_taking, taking_goes_on}
use Rattle.batch_clients.proofs.answers.take_next.Goals as goal

pub loop-node-preserved : goal.loop-node-preserved
loop-node-preserved c =
    let old = c.args.answers.now.items in
    let now = c.loop-node.answers.items in
    let node = c.loop-node.node in
    let one = c.index_mut.result.now in
    let inv = c.loop-node.invariant in
    let long = length-map old turned in
    let same = length_taking (map turned old) (map turned now) c.loop-node.next.items node inv.taking in
    let short = length-map now turned in
    let ends = inv.ends in
    let test = c.loop-node-test.true in
    let there : slice_get now node ≡ Some one = slice_get_read now (length now) node one refl (omega (arith, long, same, short, ends, test)) c.index_mut.ensures.value in
    let at : slice_get (map turned now) node ≡ Some (turned one) = slice_get-map turned now node ∙ ap (option_map turned) there in
    record {
      taking =
          taking_goes_on (map turned old) (map turned now) c.loop-node.next.items node inv.taking (omega (arith, long, ends, test)) (turned one) (turned c.take_one.new.replies) at c.take_one.ensures.rest
          (map turned (slice_set now node c.take_one.new.replies)) (map-set turned now node c.take_one.new.replies)
          c.push.new.self.items (c.in_ok-push.ensures.items ∙ ap (λ r. c.loop-node.next.items ++ r ∷ []) c.take_one.ensures.next);
      ends = ends;
    }
