use Rattle.std.proofs.Common.{◌≡◌, ℕ, ◌+◌, List, get_or, sym, ap, subst, arith}
use Rattle.std.proofs.lemmas.Option.{get_or_from_slice_get}
use Rattle.locked_nodes.specs.declared.cell_shard.CellShard.{CellShard}
use Rattle.client_threads.proofs.Places.{ArePlacesTo, one_place, all_places, no_shard}
use Rattle.client_threads.proofs.pruning.places_of.Goals as goal

pub loop-shard-preserved : goal.loop-shard-preserved
loop-shard-preserved c =
    let cell_shards = c.args.cell_shards.now in
    let n = c.loop-shard.shard in
    subst (λ (l : List ℕ). ArePlacesTo cell_shards c.args.node l (n + 1)) (sym {A = List ℕ} c.in_ok-push.ensures.items)
    (one_place cell_shards c.args.node c.loop-shard.places.items n c.place_of-in-loop-shard.result c.loop-shard.invariant c.place_of-in-loop-shard.ensures)

pub returns : goal.returns
returns c =
    let cell_shards = c.args.cell_shards.now in
    let first = c.place_of.result in
    let places = c.loop-shard.places.items in
    let shards = (get_or cell_shards first no_shard).shards in
    let all : c.loop-shard.shard ≡ shards = omega (arith, c.loop-shard-test.false, c.loop-shard.auto.shard-end) in
    all_places cell_shards c.args.node places first shards c.requires c.place_of.ensures
    (ap (λ (s : CellShard). s.shards) (get_or_from_slice_get cell_shards first c.place_of.ensures.cell_shard no_shard c.place_of.ensures.there))
    (subst (ArePlacesTo cell_shards c.args.node places) all c.loop-shard.invariant)
