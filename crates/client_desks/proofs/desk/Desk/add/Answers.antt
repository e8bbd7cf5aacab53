use Rattle.std.proofs.Common.{◌≡◌, ◌≤◌, ◌+◌, ◌++◌, ◌∷◌, [], sym, ap, subst, ◌∙◌, append-nil, map}
use Rattle.protocol.specs.Seen.{Hearing, record_of}
use Rattle.journals.specs.declared.desk.DeskAct.{DeskAct}
use Rattle.journals.specs.declared.desk.DeskAct.TheVariants.{Call}
use Rattle.journals.specs.Desks.{DeskState, new_desk, desk_after_all, desk_heard, ActsAs}
use Rattle.journals.specs.Records.{client_records}
use Rattle.operation_core.specs.Clients.{ClientView}
use Rattle.locked_nodes.specs.Cells.{number_of, with_seen, reply_told}
use Rattle.client_desks.specs.Desks.{DeskView, state_at, heard, ending, desk_entry, with_call}
use Rattle.client_desks.specs.Recording.{hearing_of}
use Rattle.client_desks.proofs.lemmas.Desking.{desk_grows, heeds_call, told_client, told_crashed}
use Rattle.client_desks.proofs.Records.{told_heard, heard_as}
use Rattle.client_desks.proofs.desk.Desk.add.Goals as goal

pub take-requires : goal.take-requires
take-requires c =
    let was = c.self.inside in
    record {
      id = was.id;
      state = desk_after_all (new_desk was.config was.id) was.entries.items;
      same = c.self.invariant.left;
      told = c.self.invariant.told;
      hearing = hearing_of was.client (reply_told c.args.told);
      is = c.in_ok-step.ensures.step;
    }

pub invariant_of-self-2 : goal.invariant_of-self-2
invariant_of-self-2 c =
    let was = c.self.inside in
    let told = c.args.told in
    let n = number_of told in
    let reply = reply_told told in
    let a : DeskAct = Call c.args.way c.args.ask reply in
    let state : DeskState = desk_after_all (new_desk was.config was.id) was.entries.items in
    let h : Hearing = hearing_of was.client reply in
    let may : ActsAs was.lying state a = subst (λ (d : DeskView). ActsAs d.lying (state_at d) a) (sym c.self.view_is) c.requires.may in
    let later : was.pass.seen ≤ n = subst (λ (d : DeskView). d.pass.seen ≤ n) (sym c.self.view_is) c.requires.later in
    let seen : c.heed.new.pass ≡ with_seen was.pass (n + 1) = c.heed.ensures ∙ heeds_call was.pass c.args.note.seen n later c.requires.seen in
    let to : c.take.new.client ≡ heard state.client reply = c.take.ensures.client h c.in_ok-step.ensures.step ∙ sym (heard_as was.client reply) ∙ ap (λ (k : ClientView). heard k reply) c.self.invariant.left in
    let records : map record_of c.take.new.records.items ≡ client_records was.id (desk_heard state n h) =
    c.take.ensures.records was.id n state h c.in_ok-step.ensures.step c.self.invariant.left c.self.invariant.told (c.seen-place.ensures ∙ ap (λ p. p.seen) seen) in
    desk_grows was.config was.id was.lying was.client c.take.new.client was.crashed was.crashed was.entries.items c.push_reserved.new.self.items (map record_of was.records.items) (map record_of c.take.new.records.items) was.pass c.heed.new.pass n a c.self.invariant may later
    (ap (λ p. p.seen) seen) (ap (λ p. p.drawn) seen ∙ sym (append-nil was.pass.drawn)) (to ∙ sym (told_client state n reply)) (c.self.invariant.fell ∙ sym (told_crashed state n reply))
    (c.push_reserved.ensures.items ∙ ap (λ e. c.reserve.new.self.items ++ e ∷ []) c.entry_of.ensures ∙ ap (λ l. l ++ desk_entry n a ∷ []) c.reserve.ensures.items)
    (records ∙ ap (λ (k : ClientView). client_records was.id (desk_heard state n (hearing_of k reply))) c.self.invariant.left ∙ ap (client_records was.id) (sym (told_heard state n reply)))

pub returns-clause-ok : goal.returns-clause-ok
returns-clause-ok c =
    let was = c.self.inside in
    let told = c.args.told in
    let n = number_of told in
    let a : DeskAct = Call c.args.way c.args.ask (reply_told told) in
    let later : was.pass.seen ≤ n = subst (λ (d : DeskView). d.pass.seen ≤ n) (sym c.self.view_is) c.requires.later in
    let seen : c.heed.new.pass ≡ with_seen was.pass (n + 1) = c.heed.ensures ∙ heeds_call was.pass c.args.note.seen n later c.requires.seen in
    let list : c.push_reserved.new.self.items ≡ was.entries.items ++ desk_entry n a ∷ [] =
    c.push_reserved.ensures.items ∙ ap (λ e. c.reserve.new.self.items ++ e ∷ []) c.entry_of.ensures ∙ ap (λ l. l ++ desk_entry n a ∷ []) c.reserve.ensures.items in
    let inside : DeskView = record { config = was.config; id = was.id; lying = was.lying; entries = was.entries.items; pass = was.pass } in
    let new : DeskView = record { config = was.config; id = was.id; lying = was.lying; entries = c.push_reserved.new.self.items; pass = c.heed.new.pass } in
    let grown : new ≡ with_call inside n a = λ i. record { config = was.config; id = was.id; lying = was.lying; entries = list i; pass = seen i } in
    grown ∙ ap (λ (d : DeskView). with_call d n a) c.self.view_is

pub returns-clause-ended : goal.returns-clause-ended
returns-clause-ended c =
    let reply = reply_told c.args.told in
    c.in_ok-step.ensures.outcome ∙ ap (λ (k : ClientView). ending k reply) c.self.invariant.left ∙ ap (λ (d : DeskView). ending (state_at d).client reply) c.self.view_is
