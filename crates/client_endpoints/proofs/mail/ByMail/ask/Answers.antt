-- Lemmas of `Mailing`.
use Rattle.std.proofs.Common.{length, refl, sym, ap, subst, ◌∙◌}
use Rattle.std.proofs.lemmas.Option.{slice_get_read}
use Rattle.protocol.specs.Messages.{Message}
use Rattle.event_clock.specs.Passes.{Sight}
use Rattle.client_endpoints.specs.declared.asked.Asked.{Asked}
use Rattle.client_endpoints.specs.Mail.{IsAskAt}
use Rattle.client_endpoints.proofs.lemmas.Mailing.{same_next, same_lasts}
use Rattle.client_endpoints.proofs.mail.ByMail.ask.Goals as goal

pub put-requires : goal.put-requires
put-requires g c =
    let mail = c.args.self.now in
    let inbox = c.index_mut-inbox.result.now in
    let at = slice_get_read mail.asks.items (length mail.asks.items) c.args.place inbox refl c.requires.place c.index_mut-inbox.ensures.value in
    let ticks = ap (λ (s : Sight). s.clock) c.note.ensures.note ∙ c.requires.clock in
    subst (λ (m : Message). IsAskAt inbox.inbox.place (record { seat = mail.seat; way = c.args.way; ask = m; note = c.note.result })) (sym c.in_ok-copy.ensures) (c.requires.asks inbox at c.note.result ticks)

pub returns-in_default-clause-same : goal.returns-in_default-clause-same
returns-in_default-clause-same g c =
    let item : Asked = record { seat = c.args.self.now.seat; way = c.args.way; ask = c.in_ok-copy.field-0; note = c.note.result } in
    same_lasts c.args.self.now c.args.place c.index_mut-inbox.result.now c.put.new.self item c.take.new.self c.index_mut-inbox.ensures.value c.put.ensures c.in_default.ensures.none

pub returns-then-not-is_to-clause-same : goal.returns-then-not-is_to-clause-same
returns-then-not-is_to-clause-same g c =
    let item : Asked = record { seat = c.args.self.now.seat; way = c.args.way; ask = c.in_ok-copy.field-0; note = c.note.result } in
    same_next c.args.self.now c.args.place c.index_mut-inbox.result.now c.put.new.self item c.take.new.self c.index_mut-inbox.ensures.value c.put.ensures c.in-Some.field-0-0 c.in-Some.answer c.in-Some.ensures.some

pub returns-in_err-told-clause-same : goal.returns-in_err-told-clause-same
returns-in_err-told-clause-same g c =
    let item : Asked = record { seat = c.args.self.now.seat; way = c.args.way; ask = c.in_ok-copy.field-0; note = c.note.result } in
    same_next c.args.self.now c.args.place c.index_mut-inbox.result.now c.put.new.self item c.take.new.self c.index_mut-inbox.ensures.value c.put.ensures c.in-Some.field-0-0 c.in-Some.answer c.in-Some.ensures.some

pub returns-then-not-can_hear-clause-same : goal.returns-then-not-can_hear-clause-same
returns-then-not-can_hear-clause-same g c =
    let item : Asked = record { seat = c.args.self.now.seat; way = c.args.way; ask = c.in_ok-copy.field-0; note = c.note.result } in
    same_next c.args.self.now c.args.place c.index_mut-inbox.result.now c.put.new.self item c.take.new.self c.index_mut-inbox.ensures.value c.put.ensures c.in-Some.field-0-0 c.in-Some.answer c.in-Some.ensures.some

pub returns-clause-same : goal.returns-clause-same
returns-clause-same g c =
    let item : Asked = record { seat = c.args.self.now.seat; way = c.args.way; ask = c.in_ok-copy.field-0; note = c.note.result } in
    same_next c.args.self.now c.args.place c.index_mut-inbox.result.now c.put.new.self item c.take.new.self c.index_mut-inbox.ensures.value c.put.ensures c.in-Some.field-0-0 c.in-Some.answer c.in-Some.ensures.some
