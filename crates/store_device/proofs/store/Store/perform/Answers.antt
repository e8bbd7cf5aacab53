use Rattle.std.proofs.Common.{ap, List, [], ◌++◌, length, map, take, drop, refl, sym, subst}
use Rattle.std.specs.Prelude.{All}
use Rattle.std.specs.Option.{option_map}
use Rattle.std.specs.Result.{result_ok}
use Rattle.store_device.specs.declared.seat.Seat.{Seat}
use Rattle.store_device.specs.Stores.{SeenStore, IsStore}
use Rattle.store_device.specs.Going.{MayBegin, store_of, store_with}
use Rattle.store_device.specs.Calls.{HasPerformed, told_each}
use Rattle.store_device.specs.Answered.{AreFew, IsEnough}
use Rattle.store_device.proofs.Carrying.{put_back, put_count, lent_is, back, if_ok, in_store}
use Rattle.store_device.proofs.Memory.{store_with as remembering}
use Rattle.store_device.proofs.Performing.{still_store, has_performed}
use Rattle.store_device.proofs.Stamps.{of_device}
use Rattle.store_device.proofs.store.Store.perform.Goals as goal

pub carry_out-requires-clause-store : goal.carry_out-requires-clause-store
carry_out-requires-clause-store g c lifetimes within =
    let D = g.D.Disk in
    let node = λ (seat : Seat g.row.D.Denot). seat.node in
    let own = c.self.inside in
    subst (λ (l : List (Seat g.row.D.Denot)). IsStore D.pending D.seen (store_of own.config (map node l))) (sym c.deref_mut.ensures.value)
    (remembering D.pending D.seen [] _ c.self.invariant.0)

pub invariant_of-self : goal.invariant_of-self
invariant_of-self g c =
    let D = g.D.Disk in
    let node = λ (seat : Seat g.row.D.Denot). seat.node in
    let own = c.self.inside in
    let ops = c.args.ops.now in
    let new = c.carry_out.new.seats in
    let h = c.carry_out.ensures.going in
    let old = store_of own.config (map node own.seats.items) in
    let then = store_of own.config (map node (take own.seats.len (new ++ drop (length new) own.seats.items))) in
    let memory = c.carry_out.new.acknowledged.items in
    let going = put_back D.pending D.seen D.moment D.left_since node own.config old own.seats.items c.deref_mut.result.now new own.seats.len
    c.deref_mut.ensures.value refl c.deref_mut.ensures.len c.carry_out.ensures.count ops h.0 h.1 in
    let count = put_count D.pending D.seen D.moment D.left_since node own.config old own.seats.items c.deref_mut.result.now new
    own.seats.len
    c.deref_mut.ensures.value refl c.deref_mut.ensures.len c.carry_out.ensures.count in
    let store : IsStore D.pending D.seen old = remembering D.pending D.seen [] _ c.self.invariant.0 in (
      remembering D.pending D.seen memory then (still_store D.pending D.seen D.moment D.left_since old then store count ops h.0 going),
      c.self.invariant.1,
      of_device own.config (length ops) own.acknowledged.items memory ops
          (told_each ops (option_map (λ outcomes. outcomes.items) (result_ok c.carry_out.result)))
          c.carry_out.ensures.batch c.self.invariant.2 c.carry_out.ensures.acknowledged,
    )

pub returns-clause-performed : goal.returns-clause-performed
returns-clause-performed g c =
    let D = g.D.Disk in
    let disk = g.met.D.Disk g.world.𝓛 g.world.𝓜 g.world.𝓡 ((λ s x. x), (λ x. x), (λ x. x), λ x. x) in
    let node = λ (seat : Seat g.row.D.Denot). seat.node in
    let own = c.self.inside in
    let ops = c.args.ops.now in
    let new = c.carry_out.new.seats in
    let h = c.carry_out.ensures.going in
    let old = store_of own.config (map node own.seats.items) in
    let then = store_of own.config (map node (take own.seats.len (new ++ drop (length new) own.seats.items))) in
    let memory = c.carry_out.new.acknowledged.items in
    let going = put_back D.pending D.seen D.moment D.left_since node own.config old own.seats.items c.deref_mut.result.now new own.seats.len
    c.deref_mut.ensures.value refl c.deref_mut.ensures.len c.carry_out.ensures.count ops h.0 h.1 in
    let count = put_count D.pending D.seen D.moment D.left_since node own.config old own.seats.items c.deref_mut.result.now new
    own.seats.len
    c.deref_mut.ensures.value refl c.deref_mut.ensures.len c.carry_out.ensures.count in
    let store : IsStore D.pending D.seen old = remembering D.pending D.seen [] _ c.self.invariant.0 in
    let first = lent_is D.pending D.seen D.moment D.left_since node own.config old own.seats.items c.deref_mut.result.now new own.seats.len
    c.deref_mut.ensures.value refl c.deref_mut.ensures.len c.carry_out.ensures.count in
    let last = back D.pending D.seen D.moment D.left_since node own.config old own.seats.items c.deref_mut.result.now new own.seats.len
    c.deref_mut.ensures.value refl c.deref_mut.ensures.len c.carry_out.ensures.count in
    subst (λ (s : SeenStore g.row.D.Denot). HasPerformed D.pending D.seen D.most D.moment D.left_since ops
    (option_map (λ outcomes. outcomes.items) (result_ok c.carry_out.result)) s
    (store_with own.config (map node (take own.seats.len (new ++ drop (length new) own.seats.items))) memory)) c.self.view_is
    (has_performed D.pending D.seen D.moment D.left_since old then store count ops h.0 going disk.counts_now c.requires.few
    c.carry_out.ensures.batch c.requires.apart D.most (λ outcomes. outcomes.items) c.carry_out.result h.2
    (if_ok _ _ c.carry_out.result (λ ends through. (
      through.0,
      in_store D.pending D.seen D.most D.moment D.left_since own.config old (map node c.deref_mut.result.now)
          (map node (take own.seats.len (new ++ drop (length new) own.seats.items))) (map node new) ops through.0 first (ap (map node) last)
          through.1,
      through.2,
    )) c.carry_out.ensures.phases)
    (if_ok _ _ c.carry_out.result (λ ends told few enough. told
    (subst (λ (s : SeenStore g.row.D.Denot). AreFew s ops) (sym first) few)
    (subst (λ (l : List (Seat g.row.D.Denot)). IsEnough D.seen D.most (length ops) (store_of own.config (map node l))) last enough))
    c.carry_out.ensures.answered) own.acknowledged.items memory c.carry_out.ensures.acknowledged)
