use Rattle.std.proofs.Common.{List, length, map, sym, ap, subst, ◌∙◌, arith}
use Rattle.std.specs.Vec.Iter.{into_iter_items}
use Rattle.std.proofs.lemmas.Grind.{common_steps}
use Rattle.std.proofs.lemmas.List.{length-map}
use Rattle.lists.proofs.lemmas.Members.{nil_of_length}
use Rattle.batch_clients.specs.declared.run.Run.{Run}
use Rattle.batch_clients.specs.declared.turn.Turn.{Turn}
use Rattle.batch_clients.specs.Parts.{turned}
use Rattle.batch_clients.proofs.Taking.{turned_back}
use Rattle.batch_clients.proofs.Turning.{AreTaken, taking_begins, taking_goes_on, taking_ends}
use Rattle.batch_clients.proofs.turn.take_turns.Goals as goal

pub loop-run-init : goal.loop-run-init
loop-run-init c = record {
  taken = λ cluster early few.
      let answers = c.args.answers.items in
      let runs = c.args.runs.items in
      let left = map turned c.in_ok-answers.answers.items in
      let rest = into_iter_items c.into_iter-run-iterator.result in
      subst (λ (l : List Turn). AreTaken cluster answers runs left rest l) (sym c.in_ok-turns.ensures.items)
      (taking_begins cluster answers runs early few left (ap (map turned) c.in_ok-answers.ensures ∙ turned_back answers) rest c.into_iter-run-iterator.ensures.into_iter_gives.0);
  left = grind (arith, common_steps);
}

pub loop-run-preserved : goal.loop-run-preserved
loop-run-preserved c = record {
  taken = λ cluster early few.
      let answers = c.args.answers.items in
      let runs = c.args.runs.items in
      let left = map turned c.loop-run.answers.items in
      let rest = into_iter_items c.next.new.self in
      let before = c.loop-run.turns.items in
      taking_goes_on cluster answers runs left c.in-Some.run' rest before
      (subst (λ (l : List Run). AreTaken cluster answers runs left l before) c.in-Some.ensures.steps.0 (c.loop-run.invariant.taken cluster early few))
      (map turned c.turn_of.new.answers.items) (c.in_ok-turn.ensures.left cluster) c.in_ok-turn.turn (λ run few. c.in_ok-turn.ensures.turn cluster run (let e = length-map c.loop-run.answers.items turned in omega (arith, e, few))) c.push.new.self.items c.in_ok-push.ensures.items;
  left = (let e = ap length c.in-Some.ensures.steps.0 in let f = c.in-Some.ensures.steps.1 in let g = c.loop-run.invariant.left in omega (arith, e, f, g));
}

pub returns : goal.returns
returns c = λ cluster early few.
    let rest = into_iter_items c.loop-run.run-iterator in
    let none = nil_of_length rest (sym c.in-None.ensures.steps.0 ∙ c.loop-run.invariant.left) in
    taking_ends cluster c.args.answers.items c.args.runs.items (map turned c.loop-run.answers.items) rest c.loop-run.turns.items (c.loop-run.invariant.taken cluster early few) none
