use Rattle.std.proofs.Common.{◌≡◌, ◌<◌, ◌+◌, ◌++◌, ◌∷◌, [], List, sym, ap, subst, ◌∙◌, map}
use Rattle.std.proofs.lemmas.List.{map-append}
use Rattle.wire_forms.specs.declared.op.Op.{Op}
use Rattle.protocol.specs.World.{Record, Fits, open_record}
use Rattle.protocol.specs.Instance.{setting}
use Rattle.protocol.specs.Seen.{block_of, work_of, record_of, task_at}
use Rattle.operation_core.specs.Clients.{ClientView, with_started, started}
use Rattle.journals.specs.declared.desk.DeskAct.TheVariants.{Start}
use Rattle.journals.specs.Desks.{DeskState, new_desk, desk_after_all, ActsAs, FitsOp, MayStart}
use Rattle.journals.specs.Records.{client_records}
use Rattle.client_desks.specs.Desks.{DeskView, CanStart, desk_entry}
use Rattle.client_desks.proofs.lemmas.Desking.{desk_grows, config_at}
use Rattle.client_desks.proofs.Records.{start_records}
use Rattle.client_desks.proofs.desk.Desk.start.Goals as goal

pub start-requires-clause-block : goal.start-requires-clause-block
start-requires-clause-block c =
    let was = c.self.inside in
    let config : was.client.config ≡ c.args.self.now.config = ap (λ (k : ClientView). k.config) c.self.invariant.left ∙ config_at was.config was.id was.entries.items ∙ ap (λ (d : DeskView). d.config) c.self.view_is in
    subst (λ k. block_of c.args.op.now < k.blocks) (sym config) c.requires.fits.block

pub start-requires-clause-fits : goal.start-requires-clause-fits
start-requires-clause-fits c =
    let was = c.self.inside in
    let config : was.client.config ≡ c.args.self.now.config = ap (λ (k : ClientView). k.config) c.self.invariant.left ∙ config_at was.config was.id was.entries.items ∙ ap (λ (d : DeskView). d.config) c.self.view_is in
    subst (λ k. Fits (setting k) (work_of c.args.op.now)) (sym config) c.requires.fits.fits

pub invariant_of-self-2 : goal.invariant_of-self-2
invariant_of-self-2 c =
    let was = c.self.inside in
    let noted = c.in_ok-noted.noted in
    let view : DeskView = record { config = was.config; id = was.id; lying = was.lying; entries = was.entries.items; pass = was.pass } in
    let can : CanStart view = subst CanStart (sym c.self.view_is) c.requires.can in
    let state : DeskState = desk_after_all (new_desk was.config was.id) was.entries.items in
    let fits : FitsOp was.config noted = subst (FitsOp was.config) (sym c.in_ok-noted.ensures) (subst (λ (d : DeskView). FitsOp d.config c.args.op.now) (sym c.self.view_is) c.requires.fits) in
    let start : MayStart state.client noted = record {
      idle = can.idle;
      fresh = can.fresh;
      fits = subst (λ k. FitsOp k noted) (sym (config_at was.config was.id was.entries.items)) fits;
    } in
    let may : ActsAs was.lying state (Start noted) = subst (λ b. ActsAs b state (Start noted)) (sym can.up.correct) (can.up.up, start) in
    let to : c.start.new.self ≡ with_started state.client (started state.client noted) =
    c.in_ok-_mail.ensures.ok ∙ ap (λ o. with_started was.client (started was.client o)) (sym c.in_ok-noted.ensures) ∙ ap (λ (k : ClientView). with_started k (started k noted)) c.self.invariant.left in
    let told : c.in_ok-told.told ≡ noted = c.in_ok-told.ensures ∙ sym c.in_ok-noted.ensures in
    let last : record_of c.opened.result ≡ open_record was.id (task_at (c.draw-number.result + 1) (started state.client noted)) =
    c.opened.ensures state.client ∙ ap (λ (o : Op). open_record was.id (task_at (c.draw-number.result + 1) (started state.client o))) told in
    let records : map record_of c.push_reserved-2.new.self.items ≡ map record_of was.records.items ++ record_of c.opened.result ∷ [] =
    ap (map record_of) (c.push_reserved-2.ensures.items ∙ ap (λ l. l ++ c.opened.result ∷ []) c.reserve-2.ensures.items) ∙ map-append record_of was.records.items (c.opened.result ∷ []) in
    desk_grows was.config was.id was.lying was.client c.start.new.self was.crashed was.crashed was.entries.items c.push_reserved.new.self.items (map record_of was.records.items) (map record_of c.push_reserved-2.new.self.items) was.pass c.draw-number.new.pass c.draw-number.result (Start noted) c.self.invariant may c.draw-number.ensures.later
    (ap (λ p. p.seen) c.draw-number.ensures.drawn) (ap (λ p. p.drawn) c.draw-number.ensures.drawn) to c.self.invariant.fell (c.push_reserved.ensures.items ∙ ap (λ l. l ++ desk_entry c.draw-number.result (Start noted) ∷ []) c.reserve.ensures.items)
    (records ∙ ap (λ (l : List Record). l ++ record_of c.opened.result ∷ []) c.self.invariant.told ∙ ap (λ (r : Record). client_records was.id state ++ r ∷ []) last ∙ sym (start_records was.id c.draw-number.result state noted can.idle))
