-- As many answers as asks are answers to them.
use Rattle.std.proofs.Common.{◌≡◌, ◌∙◌, ◌<◌, List, length, map, Option, sym, ap, arith}
use Rattle.std.specs.Prelude.{slice_get, option_map}
use Rattle.std.specs.declared.option.Option.TheVariants.{Some}
use Rattle.std.specs.declared.vec.Vec.{Vec}
use Rattle.std.proofs.lemmas.List.{length-map}
use Rattle.std.proofs.lemmas.Option.{slice_get-map, slice_get_within}
use Rattle.protocol.specs.Messages.{Ask, Reply}
use Rattle.protocol.specs.Setting.{Setting}
use Rattle.batch_clients.specs.Batches.{Running, AreAsksOf, AreAnswersTo, asks_to}
use Rattle.store_tests.specs.Counted.{counted, count_of}

module _ {Z : Type 0} where
  abbrev items_of : Vec Ask Z → List Ask
  items_of asks = asks.items

  -- a node with these asks gave as many answers
  same_count : (asks : Option (Vec Ask Z)) (replies : List Reply) (asked : List Ask)
      → option_map count_of asks ≡ Some (Some (length replies)) → option_map items_of asks ≡ Some asked → length replies ≡ length asked
  same_count asks replies asked count items = grind arith

  -- there are as many nodes
  same_length : (asks : List (Vec Ask Z)) (answers : List (Option (List Reply)))
      → map counted answers ≡ map count_of asks → length answers ≡ length (map items_of asks)
  same_length asks answers same =
      sym (length-map answers counted) ∙ ap length same ∙ length-map asks count_of ∙ sym (length-map asks items_of)

  pub are_answers : (s : Setting) (runs : List Running) (asks : List (Vec Ask Z)) (answers : List (Option (List Reply)))
      → AreAsksOf s runs (map items_of asks) → map counted answers ≡ map count_of asks → AreAnswersTo s runs answers
  are_answers s runs asks answers are same = record {
    count = same_length asks answers same ∙ are.count;
    each = λ i replies at.
        let long : length answers ≡ s.n = same_length asks answers same ∙ are.count in
        let within : i < length answers = slice_get_within answers i (Some replies) at in
        let asked = are.each i (omega (arith, within, long)) in
        let given = slice_get-map counted answers i ∙ ap (option_map counted) at in
        same_count (slice_get asks i) replies (asks_to s i runs)
        (sym (slice_get-map count_of asks i) ∙ ap (λ xs. slice_get xs i) (sym same) ∙ given)
        (sym (slice_get-map items_of asks i) ∙ asked);
  }
