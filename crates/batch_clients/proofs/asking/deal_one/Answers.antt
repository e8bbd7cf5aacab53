use Rattle.std.proofs.Common.{◌≡◌, ◌++◌, ◌∷◌, [], length, refl, sym, ap, ◌∙◌, arith, Some, slice_get, slice_set}
use Rattle.std.specs.Prelude.{option_map}
use Rattle.std.proofs.lemmas.List.{map-set}
use Rattle.std.proofs.lemmas.Option.{slice_get-map, slice_get_read}
use Rattle.wire_forms.specs.declared.Body.TheVariants.{Ask as Asks}
use Rattle.batch_clients.specs.Parts.{lists_of, items_of}
use Rattle.batch_clients.proofs.Dealing.{dealt_one}
use Rattle.batch_clients.proofs.asking.deal_one.Goals as goal

pub returns : goal.returns
returns c =
    let old = c.args.asks.now.items in
    let node = c.args.message.node in
    let one = c.index_mut.result.now in
    let new = c.push.new.self in
    let ask = c.in-Ask.ask in
    let from : c.from.result ≡ node = c.from.ensures in
    let body : c.args.message.body ≡ Asks ask = sym c.replace-body.ensures.value ∙ c.in-Ask.is in
    let there : slice_get old c.from.result ≡ Some one = slice_get_read old (length old) c.from.result one refl (let l = c.requires.there in omega (arith, l, from)) c.index_mut.ensures.value in
    let at : slice_get (lists_of old) node ≡ Some one.items = ap (slice_get (lists_of old)) (sym from) ∙ slice_get-map items_of old c.from.result ∙ ap (option_map items_of) there in
    let set : lists_of (slice_set old c.from.result new) ≡ slice_set (lists_of old) node (one.items ++ ask ∷ []) =
    map-set items_of old c.from.result new ∙ ap (λ k. slice_set (lists_of old) k new.items) from ∙ ap (slice_set (lists_of old) node) c.in_ok-push.ensures.items in
    dealt_one c.args.message (lists_of old) (lists_of (slice_set old c.from.result new)) ask one.items body at set
