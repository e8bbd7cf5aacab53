-- Lemmas of `Carrying`.
use Rattle.std.proofs.Common.{◌≡◌, ◌<◌, length, sym, subst, arith}
use Rattle.std.specs.declared.option.Option.TheVariants.{None, Some}
use Rattle.receipt_lock.specs.Chits.{Holder as Chit}
use Rattle.quorum_rules.specs.Limits.{Numbers}
use Rattle.event_clock.specs.Passes.{ClockId}
use Rattle.locked_nodes.specs.declared.charter.Item.{Item}
use Rattle.locked_nodes.specs.declared.cell_shard.CellShard.{CellShard}
use Rattle.client_endpoints.specs.Endpoint.{vaults_of, IsHead}
use Rattle.lists.proofs.lemmas.Members.{all_at_place}
use Rattle.phase_threads.specs.Carried.{IsAside}
use Rattle.phase_threads.proofs.Carrying.{none_carried, chit_at, own_at, head_at, carried_on}
use Rattle.phase_threads.proofs.courier.Courier.carry.Goals as goal

pub loop-round-init : goal.loop-round-init
loop-round-init g c = none_carried c.args.shared_cells.now c.args.self.now c.requires

pub bring-requires-clause-own : goal.bring-requires-clause-own
bring-requires-clause-own g c =
    let of = c.args.shared_cells.now in
    let lt : c.loop-place.place < length (vaults_of of) = omega (arith, c.loop-place-test.true, c.loop-place.invariant.1) in
    let at = chit_at of c.args.self.now c.loop-place.self c.requires c.loop-place.invariant.0 c.loop-place.place c.index_mut-chit.result.now lt c.index_mut-chit.ensures.value in
    own_at of c.args.self.now c.loop-place.self c.requires c.loop-place.invariant.0 c.loop-place.place c.index_mut-chit.result.now c.vault.result.now at c.vault.ensures

pub bring-requires-clause-rests : goal.bring-requires-clause-rests
bring-requires-clause-rests g c =
    let of = c.args.shared_cells.now in
    let lt : c.loop-place.place < length (vaults_of of) = omega (arith, c.loop-place-test.true, c.loop-place.invariant.1) in
    let at = chit_at of c.args.self.now c.loop-place.self c.requires c.loop-place.invariant.0 c.loop-place.place c.index_mut-chit.result.now lt c.index_mut-chit.ensures.value in
    all_at_place (λ (x : Chit Item). x.holds ≡ None) c.loop-place.self.chits.items c.loop-place.place c.index_mut-chit.result.now c.loop-place.invariant.0.rest at

pub bring-requires-clause-aside : goal.bring-requires-clause-aside
bring-requires-clause-aside g c =
    let of = c.args.shared_cells.now in
    let lt : c.loop-place.place < length (vaults_of of) = omega (arith, c.loop-place-test.true, c.loop-place.invariant.1) in
    let at = chit_at of c.args.self.now c.loop-place.self c.requires c.loop-place.invariant.0 c.loop-place.place c.index_mut-chit.result.now lt c.index_mut-chit.ensures.value in
    all_at_place IsAside c.loop-place.self.chits.items c.loop-place.place c.index_mut-chit.result.now c.loop-place.invariant.0.aside at

pub bring-requires-clause-head : goal.bring-requires-clause-head
bring-requires-clause-head g c =
    let h = head_at c.args.shared_cells.now c.args.self.now c.loop-place.self c.requires c.loop-place.invariant.0 c.loop-place.place c.vault.result.now c.vault.ensures in
    subst (λ (k : ClockId). (config : Numbers) × (cell_shard : CellShard) × IsHead config k cell_shard c.vault.result.now.id.begun) (sym c.clock.ensures) h

pub loop-place-preserved : goal.loop-place-preserved
loop-place-preserved g c =
    let of = c.args.shared_cells.now in
    let now = c.loop-place.self in
    let lt : c.loop-place.place < length (vaults_of of) = omega (arith, c.loop-place-test.true, c.loop-place.invariant.1) in
    let at = chit_at of c.args.self.now now c.requires c.loop-place.invariant.0 c.loop-place.place c.index_mut-chit.result.now lt c.index_mut-chit.ensures.value in
    (carried_on of c.args.self.now now c.requires c.loop-place.invariant.0 c.loop-place.place c.index_mut-chit.result.now c.bring.new.chit now.refused at c.bring.ensures.own c.bring.ensures.rests c.bring.ensures.aside, c.loop-place.invariant.1)

pub returns-in-Err : goal.returns-in-Err
returns-in-Err g c =
    let of = c.args.shared_cells.now in
    let now = c.loop-place.self in
    let lt : c.loop-place.place < length (vaults_of of) = omega (arith, c.loop-place-test.true, c.loop-place.invariant.1) in
    let at = chit_at of c.args.self.now now c.requires c.loop-place.invariant.0 c.loop-place.place c.index_mut-chit.result.now lt c.index_mut-chit.ensures.value in
    carried_on of c.args.self.now now c.requires c.loop-place.invariant.0 c.loop-place.place c.index_mut-chit.result.now c.bring.new.chit (Some c.in-Err.refusal) at c.bring.ensures.own c.bring.ensures.rests c.bring.ensures.aside
