-- Lemmas of `Answering`.
use Rattle.std.proofs.Common.{◌≡◌, length, refl, sym, ap, subst, ◌∙◌, arith}
use Rattle.std.specs.declared.option.Option.TheVariants.{Some}
use Rattle.std.specs.Prelude.{slice_get, slice_set}
use Rattle.std.proofs.lemmas.Option.{slice_get_read}
use Rattle.inboxes.specs.Sides.{took, put_more, IsDone}
use Rattle.locked_nodes.specs.declared.charter.Charter.{Charter}
use Rattle.locked_nodes.specs.CellShards.{cell_shard_of}
use Rattle.protocol.specs.Messages.{Message}
use Rattle.node_workers.specs.Workers.{HasAnswered, AreAnswered, clients_of}
use Rattle.node_workers.proofs.Answering.{IsServing, serving_none, answered_more, answered_late, asked_more, seat_within, putter_of}
use Rattle.node_workers.proofs.worker.NodeWorker.serve.Goals as goal

pub loop-init : goal.loop-init
loop-init g c = serving_none c.args.clock.now c.args.self.now c.requires

pub bring_all-requires : goal.bring_all-requires
bring_all-requires g c =
    let so = subst (IsServing c.args.self.now) (sym c.self.view_is) c.loop.invariant in
    ap (λ (t : Charter). t.pass.clock) so.answered.charter ∙ c.requires.cell

pub end-requires : goal.end-requires
end-requires g c =
    let so = subst (IsServing c.args.self.now) (sym c.self.view_is) c.loop.invariant in
    so.none

pub answer_to-answer-requires-clause-clock : goal.answer_to-answer-requires-clause-clock
answer_to-answer-requires-clause-clock g c =
    let so = subst (IsServing c.args.self.now) (sym c.self.view_is) c.loop.invariant in
    ap (λ (t : Charter). t.pass.clock) so.answered.charter ∙ c.requires.cell

pub answer_to-answer-requires-clause-fits : goal.answer_to-answer-requires-clause-fits
answer_to-answer-requires-clause-fits g c =
    let so = subst (IsServing c.args.self.now) (sym c.self.view_is) c.loop.invariant in (
      c.self.inside.asks.inbox.place,
      c.in-Some-take.ensures.fits,
      ap (λ i. i.place.clock.value) so.asks ∙ c.requires.ticks,
      ap (λ i. i.place.cell_shard) so.asks ∙ c.requires.cell_shard ∙ ap cell_shard_of (sym so.answered.charter),
    )

pub index_mut-putter-requires : goal.index_mut-putter-requires
index_mut-putter-requires g c =
    let w = c.args.self.now in
    let now = c.self.inside in
    let so = subst (IsServing w) (sym c.self.view_is) c.loop.invariant in
    let asked = c.in-Some-take.asked in
    let client = ap (λ i. slice_get i.place.clients.value asked.seat) (sym so.asks) ∙ c.in-Some-take.ensures.fits.client in
    let lt = seat_within c.args.clock.now (clients_of w) w.cell w.answers now.cell now.answers.items c.requires.answer_putters so.answered asked.seat asked.ask.client client in
    omega (arith, lt, now.answers.ok.0)

pub put-requires : goal.put-requires
put-requires g c =
    let w = c.args.self.now in
    let now = c.self.inside in
    let so = subst (IsServing w) (sym c.self.view_is) c.loop.invariant in
    let asked = c.in-Some-take.asked in
    let client = ap (λ i. slice_get i.place.clients.value asked.seat) (sym so.asks) ∙ c.in-Some-take.ensures.fits.client in
    let putter = c.index_mut-putter.result.now in
    let lt = seat_within c.args.clock.now (clients_of w) w.cell w.answers now.cell now.answers.items c.requires.answer_putters so.answered asked.seat asked.ask.client client in
    let at : slice_get now.answers.items asked.seat ≡ Some putter = slice_get_read now.answers.items (length now.answers.items) asked.seat putter refl lt c.index_mut-putter.ensures.value in
    let answer_putter = putter_of c.args.clock.now (clients_of w) w.cell w.answers now.cell now.answers.items c.requires.answer_putters so.answered asked.seat asked.ask.client putter client at in
    let answer = c.answer_to-answer.ensures in
    record { clock = answer.clock ∙ sym answer_putter.0; client = ap (λ (m : Message). m.client) answer.to.1 ∙ sym answer_putter.1; seen = answer.seen }

pub bring_one-came-requires : goal.bring_one-came-requires
bring_one-came-requires g c =
    let so = subst (IsServing c.args.self.now) (sym c.self.view_is) c.loop.invariant in
    ap (λ (t : Charter). t.pass.clock) (c.answer_to-answer.ensures.met.charter ∙ so.answered.charter) ∙ c.requires.cell

pub loop-preserved : goal.loop-preserved
loop-preserved g c =
    let w = c.args.self.now in
    let now = c.self.inside in
    let so = subst (IsServing w) (sym c.self.view_is) c.loop.invariant in
    let asked = c.in-Some-take.asked in
    let client = ap (λ i. slice_get i.place.clients.value asked.seat) (sym so.asks) ∙ c.in-Some-take.ensures.fits.client in
    let putter = c.index_mut-putter.result.now in
    let lt = seat_within c.args.clock.now (clients_of w) w.cell w.answers now.cell now.answers.items c.requires.answer_putters so.answered asked.seat asked.ask.client client in
    let at : slice_get now.answers.items asked.seat ≡ Some putter = slice_get_read now.answers.items (length now.answers.items) asked.seat putter refl lt c.index_mut-putter.ensures.value in
    let answer = c.answer_to-answer in
    let more = answered_more now.answers.items asked.seat putter at answer.result (clients_of w) w.cell now.cell answer.new.cell w.answers so.answered answer.ensures.met (client ∙ ap (λ (m : Message). Some m.client) (sym answer.ensures.to.1)) in
    let put : HasAnswered (clients_of w) w.cell w.answers answer.new.cell (slice_set now.answers.items asked.seat c.put.new.self) = subst (λ p. HasAnswered (clients_of w) w.cell w.answers answer.new.cell (slice_set now.answers.items asked.seat p)) (sym c.put.ensures) more in
    let answer_putters = slice_set now.answers.items asked.seat (put_more putter answer.result) in
    let to = asked_more now.answers.items asked.seat putter at answer.result (took now.asks)
    c.in-Some-take.field-0-0 asked refl answer.ensures.to so.asked in
    let all : AreAnswered (took c.take.new.self) answer_putters =
    subst (λ l. AreAnswered l answer_putters) (sym c.in-Some-take.ensures.took) to in
    record {
      asks = ap (λ t. t.inbox) c.in-Some-take.ensures.some.1 ∙ so.asks;
      asked = subst (λ p. AreAnswered (took c.take.new.self) (slice_set now.answers.items asked.seat p))
          (sym c.put.ensures) all;
      answered = answered_late (clients_of w) w.cell answer.new.cell c.bring_one-came.new.cell w.answers (slice_set now.answers.items asked.seat c.put.new.self) put c.bring_one-came.ensures;
      none = so.none;
    }

pub returns-in_default : goal.returns-in_default
returns-in_default g c =
    let w = c.args.self.now in
    let now = c.self.inside in
    let so = subst (IsServing w) (sym c.self.view_is) c.loop.invariant in
    let end = c.end.ensures in
    let late = answered_late (clients_of w) w.cell now.cell c.bring_all.new.cell w.answers now.answers.items so.answered c.bring_all.ensures in
    let asks : took c.end.new.self.asks ≡ took now.asks = ap (λ t. took t) end.asks ∙ c.in_default.ensures.kept in
    let asked : AreAnswered (took c.end.new.self.asks) now.answers.items =
    subst (λ l. AreAnswered l now.answers.items) (sym asks) so.asked in
    let all : HasAnswered (clients_of w) w.cell w.answers c.end.new.self.cell c.end.new.self.sents = subst (λ s. HasAnswered (clients_of w) w.cell w.answers c.end.new.self.cell s) (sym end.sents) (subst (λ x. HasAnswered (clients_of w) w.cell w.answers x now.answers.items) (sym end.cell) late) in
    record {
      asks = ap (λ t. t.inbox) end.asks ∙ ap (λ t. t.inbox) c.in_default.ensures.none.1 ∙ so.asks;
      done = subst (λ t. IsDone t) (sym end.asks) c.in_default.ensures.done;
      asked = subst (AreAnswered (took c.end.new.self.asks)) (sym end.sents) asked;
      none = end.none;
      answered = all;
    }
