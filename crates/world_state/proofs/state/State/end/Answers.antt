use Rattle.std.proofs.Common.{refl, sym, ◌∙◌, ap, subst, arith}
use Rattle.std.specs.Prelude.{IfSome}
use Rattle.std.specs.Vec.{with_item}
use Rattle.std.specs.declared.option.Option.TheVariants.{None, Some}
use Rattle.protocol.specs.World.{stamp_of_outcome}
use Rattle.world_state.specs.Worlds.{world_in}
use Rattle.world_state.specs.contracts.state.State.{the_view}
use Rattle.operation_core.specs.Counting.{IsAtEnd}
use Rattle.client_core.specs.Clients.{operation_of}
use Rattle.world_state.specs.Changes.{HasBecome, client_in}
use Rattle.world_state.specs.AnswerEffects.{settled}
use Rattle.world_state.proofs.KeptWorlds.{client-within}
use Rattle.world_state.proofs.ChangedClients.{slot-is, same-client, becomes}
use Rattle.world_state.proofs.ClientSlots.{slot-crashed}
use Rattle.world_state.proofs.SettledRecords.{settle-within, settle-kept, settle-world}
use Rattle.world_state.proofs.SettledUses.{ended, end-there, end-some, end-uses}
use Rattle.world_state.proofs.state.State.end.Goals as goal

pub end-requires : goal.end-requires
end-requires c =
    let is = slot-is c.self.inside c.self.invariant.0 c.args.client c.requires.client c.index_mut-slot.result.now c.index_mut-slot.ensures.value in
    subst (λ x. IsAtEnd (operation_of x)) (sym (is ∙ ap (λ v. client_in v c.args.client) c.self.view_is)) c.requires.over

pub index_mut-block_use-requires : goal.index_mut-block_use-requires
index_mut-block_use-requires c =
    let w = c.self.inside in
    let k = c.args.client in
    let inside = client-within w c.self.invariant.0 k c.requires.client in
    let slot = c.index_mut-slot.result.now in
    let there = c.index_mut-slot.ensures.value in
    let idle = ap (λ x. x.seen.task) c.end.ensures in
    let same = same-client w c.self.invariant.0 k c.requires.client slot there c.end.new.self None c.end.ensures in
    let may = becomes w c.self.invariant.0 k c.requires.client slot there c.end.new.self None c.end.ensures c.args.self.now c.self.view_is None refl c.requires.task in
    let awake = sym (slot-crashed w k inside slot there) ∙ ap (λ v. (world_in v).client_crashed k) c.self.view_is ∙ c.requires.awake in
    let l = end-there w k inside slot there c.self.invariant.0 c.self.invariant.2 c.end.new.self same may idle awake c.block_told-block.result c.block_told-block.ensures in
    omega (arith, l)

pub overflow_sub-block_use : goal.overflow_sub-block_use
overflow_sub-block_use c =
    let w = c.self.inside in
    let k = c.args.client in
    let inside = client-within w c.self.invariant.0 k c.requires.client in
    let slot = c.index_mut-slot.result.now in
    let there = c.index_mut-slot.ensures.value in
    let idle = ap (λ x. x.seen.task) c.end.ensures in
    let same = same-client w c.self.invariant.0 k c.requires.client slot there c.end.new.self None c.end.ensures in
    let may = becomes w c.self.invariant.0 k c.requires.client slot there c.end.new.self None c.end.ensures c.args.self.now c.self.view_is None refl c.requires.task in
    let awake = sym (slot-crashed w k inside slot there) ∙ ap (λ v. (world_in v).client_crashed k) c.self.view_is ∙ c.requires.awake in
    end-some w k inside slot there c.self.invariant.0 c.self.invariant.2 c.end.new.self same may idle awake c.block_told-block.result c.block_told-block.ensures c.index_mut-block_use.result.now c.index_mut-block_use.ensures.value

pub block_told-block-requires : goal.block_told-block-requires
block_told-block-requires c =
    let w = c.self.inside in
    let k = c.args.client in
    let inside = client-within w c.self.invariant.0 k c.requires.client in
    let slot = c.index_mut-slot.result.now in
    let there = c.index_mut-slot.ensures.value in
    let idle = ap (λ x. x.seen.task) c.end.ensures in
    let same = same-client w c.self.invariant.0 k c.requires.client slot there c.end.new.self None c.end.ensures in
    let may = becomes w c.self.invariant.0 k c.requires.client slot there c.end.new.self None c.end.ensures c.args.self.now c.self.view_is None refl c.requires.task in
    settle-within w k inside slot there c.self.invariant.0 c.end.new.self same None None None may

pub tell-requires : goal.tell-requires
tell-requires c =
    let w = c.self.inside in
    let k = c.args.client in
    let inside = client-within w c.self.invariant.0 k c.requires.client in
    let slot = c.index_mut-slot.result.now in
    let there = c.index_mut-slot.ensures.value in
    let idle = ap (λ x. x.seen.task) c.end.ensures in
    let same = same-client w c.self.invariant.0 k c.requires.client slot there c.end.new.self None c.end.ensures in
    let may = becomes w c.self.invariant.0 k c.requires.client slot there c.end.new.self None c.end.ensures c.args.self.now c.self.view_is None refl c.requires.task in
    settle-within w k inside slot there c.self.invariant.0 c.end.new.self same (Some w.place) c.stamp_of-stamp.result (Some c.args.outcome) may

pub invariant_of-self : goal.invariant_of-self
invariant_of-self c =
    let w = c.self.inside in
    let k = c.args.client in
    let inside = client-within w c.self.invariant.0 k c.requires.client in
    let slot = c.index_mut-slot.result.now in
    let there = c.index_mut-slot.ensures.value in
    let idle = ap (λ x. x.seen.task) c.end.ensures in
    let same = same-client w c.self.invariant.0 k c.requires.client slot there c.end.new.self None c.end.ensures in
    let may = becomes w c.self.invariant.0 k c.requires.client slot there c.end.new.self None c.end.ensures c.args.self.now c.self.view_is None refl c.requires.task in
    let awake = sym (slot-crashed w k inside slot there) ∙ ap (λ v. (world_in v).client_crashed k) c.self.view_is ∙ c.requires.awake in
    let standing = ended c.end.new.self.seen.task (Some w.place) c.stamp_of-stamp.result (Some c.args.outcome) idle in (
      settle-kept w k inside slot there c.self.invariant.0 c.end.new.self same (Some w.place) c.stamp_of-stamp.result (Some c.args.outcome) may standing c.tell.new.records c.tell.ensures,
      c.self.invariant.1,
      rw (c.greater-block_use.ensures, c.stamp_given.ensures) (end-uses w k inside slot there c.self.invariant.0 c.self.invariant.2 c.end.new.self same may idle awake c.block_told-block.result c.block_told-block.ensures
          c.index_mut-block_use.result.now c.index_mut-block_use.ensures.value c.stamp_of-stamp.result c.args.outcome c.tell.new.records c.tell.ensures),
    )

pub returns : goal.returns
returns c =
    let w = c.self.inside in
    let k = c.args.client in
    let inside = client-within w c.self.invariant.0 k c.requires.client in
    let slot = c.index_mut-slot.result.now in
    let there = c.index_mut-slot.ensures.value in
    let idle = ap (λ x. x.seen.task) c.end.ensures in
    let same = same-client w c.self.invariant.0 k c.requires.client slot there c.end.new.self None c.end.ensures in
    let may = becomes w c.self.invariant.0 k c.requires.client slot there c.end.new.self None c.end.ensures c.args.self.now c.self.view_is None refl c.requires.task in
    let standing = ended c.end.new.self.seen.task (Some w.place) c.stamp_of-stamp.result (Some c.args.outcome) idle in
    let new = the_view (record w { client_slots = with_item w.client_slots k (record slot { client = c.end.new.self }); records = c.tell.new.records }) in
    subst (λ v. IfSome ((world_in v).task k) (λ t. HasBecome v new (settled (world_in v) k t None (Some v.seen.place) (stamp_of_outcome c.args.outcome) (Some c.args.outcome)))) c.self.view_is
    (subst (λ o. IfSome ((world_in (the_view w)).task k) (λ t. HasBecome (the_view w) new (settled (world_in (the_view w)) k t None (Some w.place) o (Some c.args.outcome)))) c.stamp_of-stamp.ensures
    (subst (λ o. IfSome ((world_in (the_view w)).task k) (λ t. HasBecome (the_view w) new (settled (world_in (the_view w)) k t o (Some w.place) c.stamp_of-stamp.result (Some c.args.outcome)))) idle
    (settle-world w k inside slot there c.self.invariant.0 c.end.new.self same (Some w.place) c.stamp_of-stamp.result (Some c.args.outcome) may standing c.tell.new.records c.tell.ensures)))
