use Rattle.std.proofs.Common.{refl, sym, ◌∙◌, ap, subst}
use Rattle.std.specs.Prelude.{IfSome}
use Rattle.std.specs.Vec.{with_item}
use Rattle.std.specs.declared.option.Option.TheVariants.{None}
use Rattle.protocol.specs.Seen.{chosen_of}
use Rattle.client_core.specs.Clients.{goes_to, is_only_counted}
use Rattle.world_state.specs.Worlds.{world_in}
use Rattle.world_state.specs.contracts.state.State.{the_view}
use Rattle.world_state.specs.Changes.{HasBecome, client_in}
use Rattle.world_state.specs.AnswerEffects.{answer_does, Becomes, goes_on}
use Rattle.world_state.proofs.KeptWorlds.{client-within}
use Rattle.world_state.proofs.ChangedClients.{slot-is, same-client}
use Rattle.world_state.proofs.CountedAnswers.{counted, task-counted, still-chosen}
use Rattle.world_state.proofs.SettledRecords.{record-stays, task-there, settle-kept, settle-world}
use Rattle.world_state.proofs.SettledUses.{stands, go-on-uses}
use Rattle.world_state.proofs.state.State.count.Goals as goal

pub count-requires : goal.count-requires
count-requires c =
    ap (λ x. is_only_counted (answer_does x c.args.node c.args.tag c.args.reply)) (slot-is c.self.inside c.self.invariant.0 c.args.client c.requires.client c.index_mut-slot.result.now c.index_mut-slot.ensures.value ∙ ap (λ v. client_in v c.args.client) c.self.view_is)
    ∙ c.requires.counts

pub invariant_of-self : goal.invariant_of-self
invariant_of-self c =
    let counted_task = task-counted c.self.inside c.self.invariant.0 c.args.client c.requires.client c.index_mut-slot.result.now c.index_mut-slot.ensures.value c.args.node c.args.tag c.args.reply c.count.new.self c.count.ensures in
    let becomes = subst (Becomes c.self.inside.config c.self.inside.place ((world_in (the_view c.self.inside)).task c.args.client)) (sym counted_task)
    (subst (λ v. Becomes v.config v.seen.place ((world_in v).task c.args.client) (goes_to (answer_does (client_in v c.args.client) c.args.node c.args.tag c.args.reply))) (sym c.self.view_is) c.requires.task) in
    let only = ap (λ x. is_only_counted (answer_does x c.args.node c.args.tag c.args.reply)) (slot-is c.self.inside c.self.invariant.0 c.args.client c.requires.client c.index_mut-slot.result.now c.index_mut-slot.ensures.value ∙ ap (λ v. client_in v c.args.client) c.self.view_is) ∙ c.requires.counts in
    let busy_with = task-there c.self.inside c.args.client (client-within c.self.inside c.self.invariant.0 c.args.client c.requires.client) c.index_mut-slot.result.now c.index_mut-slot.ensures.value c.self.invariant.0 c.count.new.self (same-client c.self.inside c.self.invariant.0 c.args.client c.requires.client c.index_mut-slot.result.now c.index_mut-slot.ensures.value c.count.new.self (goes_to (answer_does c.index_mut-slot.result.now.client c.args.node c.args.tag c.args.reply)) c.count.ensures) None (chosen_of c.count.new.self.seen.task) None becomes in
    let stays = record-stays c.self.inside c.args.client (client-within c.self.inside c.self.invariant.0 c.args.client c.requires.client) c.index_mut-slot.result.now c.index_mut-slot.ensures.value c.self.invariant.0 busy_with.0 busy_with.1 (chosen_of c.count.new.self.seen.task)
    (still-chosen c.self.inside c.self.invariant.0 c.args.client c.requires.client c.index_mut-slot.result.now c.index_mut-slot.ensures.value c.args.node c.args.tag c.args.reply c.count.new.self c.count.ensures only busy_with.0 busy_with.1) in
    let goes = counted (answer_does (client_in c.args.self.now c.args.client) c.args.node c.args.tag c.args.reply) c.requires.counts in
    let busy = counted_task ∙ ap (λ v. goes_to (answer_does (client_in v c.args.client) c.args.node c.args.tag c.args.reply)) c.self.view_is ∙ ap goes_to goes.1 in (
      settle-kept c.self.inside c.args.client (client-within c.self.inside c.self.invariant.0 c.args.client c.requires.client) c.index_mut-slot.result.now c.index_mut-slot.ensures.value c.self.invariant.0 c.count.new.self (same-client c.self.inside c.self.invariant.0 c.args.client c.requires.client c.index_mut-slot.result.now c.index_mut-slot.ensures.value c.count.new.self (goes_to (answer_does c.index_mut-slot.result.now.client c.args.node c.args.tag c.args.reply)) c.count.ensures) None (chosen_of c.count.new.self.seen.task) None becomes
          (stands c.count.new.self.seen.task (chosen_of c.count.new.self.seen.task) refl) c.self.inside.records stays,
      c.self.invariant.1,
      go-on-uses c.self.inside c.args.client (client-within c.self.inside c.self.invariant.0 c.args.client c.requires.client) c.index_mut-slot.result.now c.index_mut-slot.ensures.value c.self.invariant.0 c.self.invariant.2 c.count.new.self (same-client c.self.inside c.self.invariant.0 c.args.client c.requires.client c.index_mut-slot.result.now c.index_mut-slot.ensures.value c.count.new.self (goes_to (answer_does c.index_mut-slot.result.now.client c.args.node c.args.tag c.args.reply)) c.count.ensures) becomes
          goes.0 busy (chosen_of c.count.new.self.seen.task) c.self.inside.records stays,
    )

pub returns : goal.returns
returns c =
    let counted_task = task-counted c.self.inside c.self.invariant.0 c.args.client c.requires.client c.index_mut-slot.result.now c.index_mut-slot.ensures.value c.args.node c.args.tag c.args.reply c.count.new.self c.count.ensures in
    let becomes = subst (Becomes c.self.inside.config c.self.inside.place ((world_in (the_view c.self.inside)).task c.args.client)) (sym counted_task)
    (subst (λ v. Becomes v.config v.seen.place ((world_in v).task c.args.client) (goes_to (answer_does (client_in v c.args.client) c.args.node c.args.tag c.args.reply))) (sym c.self.view_is) c.requires.task) in
    let only = ap (λ x. is_only_counted (answer_does x c.args.node c.args.tag c.args.reply)) (slot-is c.self.inside c.self.invariant.0 c.args.client c.requires.client c.index_mut-slot.result.now c.index_mut-slot.ensures.value ∙ ap (λ v. client_in v c.args.client) c.self.view_is) ∙ c.requires.counts in
    let busy_with = task-there c.self.inside c.args.client (client-within c.self.inside c.self.invariant.0 c.args.client c.requires.client) c.index_mut-slot.result.now c.index_mut-slot.ensures.value c.self.invariant.0 c.count.new.self (same-client c.self.inside c.self.invariant.0 c.args.client c.requires.client c.index_mut-slot.result.now c.index_mut-slot.ensures.value c.count.new.self (goes_to (answer_does c.index_mut-slot.result.now.client c.args.node c.args.tag c.args.reply)) c.count.ensures) None (chosen_of c.count.new.self.seen.task) None becomes in
    let stays = record-stays c.self.inside c.args.client (client-within c.self.inside c.self.invariant.0 c.args.client c.requires.client) c.index_mut-slot.result.now c.index_mut-slot.ensures.value c.self.invariant.0 busy_with.0 busy_with.1 (chosen_of c.count.new.self.seen.task)
    (still-chosen c.self.inside c.self.invariant.0 c.args.client c.requires.client c.index_mut-slot.result.now c.index_mut-slot.ensures.value c.args.node c.args.tag c.args.reply c.count.new.self c.count.ensures only busy_with.0 busy_with.1) in
    let new = the_view (record c.self.inside { client_slots = with_item c.self.inside.client_slots c.args.client (record c.index_mut-slot.result.now { client = c.count.new.self }); records = c.self.inside.records }) in
    subst (λ v. IfSome ((world_in v).task c.args.client) (λ t. HasBecome v new (goes_on (world_in v) c.args.client t (goes_to (answer_does (client_in v c.args.client) c.args.node c.args.tag c.args.reply))))) c.self.view_is
    (subst (λ o. IfSome ((world_in (the_view c.self.inside)).task c.args.client) (λ t. HasBecome (the_view c.self.inside) new (goes_on (world_in (the_view c.self.inside)) c.args.client t o))) counted_task
    (settle-world c.self.inside c.args.client (client-within c.self.inside c.self.invariant.0 c.args.client c.requires.client) c.index_mut-slot.result.now c.index_mut-slot.ensures.value c.self.invariant.0 c.count.new.self (same-client c.self.inside c.self.invariant.0 c.args.client c.requires.client c.index_mut-slot.result.now c.index_mut-slot.ensures.value c.count.new.self (goes_to (answer_does c.index_mut-slot.result.now.client c.args.node c.args.tag c.args.reply)) c.count.ensures) None (chosen_of c.count.new.self.seen.task) None becomes
    (stands c.count.new.self.seen.task (chosen_of c.count.new.self.seen.task) refl) c.self.inside.records stays))
