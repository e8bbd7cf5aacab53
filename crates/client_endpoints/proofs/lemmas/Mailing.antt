-- What may be asked by mail, and what was told after one answer more.
use Rattle.std.proofs.Common.{◌≡◌, ℕ, List, [], ◌∷◌, get_or, Result, Ok, refl, sym, ap, subst, ◌∙◌, inl, inr}
use Rattle.std.specs.declared.option.Option.TheVariants.{Some}
use Rattle.std.specs.Prelude.{◌⊎◌, slice_get}
use Rattle.std.specs.List.{Contains}
use Rattle.std.proofs.lemmas.List.Elements.{Contains-push, Contains-append_left, Contains-append_cases}
use Rattle.protocol.specs.Messages.{Message}
use Rattle.event_clock.specs.Passes.{ClockId}
use Rattle.inboxes.specs.Sides.{Putting, Taking, put_more, took, TookNext, TookLasts}
use Rattle.std.specs.Vec.{with_item}
use Rattle.std.proofs.Math.Seq.{map-set_same}
use Rattle.journals.specs.declared.desk.Way.{Way}
use Rattle.journals.specs.declared.desk.Way.TheVariants.{Hold}
use Rattle.journals.specs.declared.desk.DeskEntry.{DeskEntry}
use Rattle.locked_nodes.specs.declared.answers.CellRefusal.{CellRefusal}
use Rattle.locked_nodes.specs.declared.answers.Told.{Told}
use Rattle.locked_nodes.specs.Cells.{IsShare, IsWhole}
use Rattle.locked_nodes.specs.declared.cell_shard.CellShard.{CellShard}
use Rattle.locked_nodes.specs.CellShards.{IsFor, IsPlace, IsWholeAt}
use Rattle.client_endpoints.specs.declared.asked.Asked.{Asked}
use Rattle.client_endpoints.specs.declared.asked.NodePlace.{NodePlace}
use Rattle.client_endpoints.specs.declared.answered.Answered.{Answered}
use Rattle.client_endpoints.specs.declared.answered.ClientPlace.{ClientPlace}
use Rattle.client_endpoints.specs.declared.mail.ByMail.{ByMail}
use Rattle.client_endpoints.specs.declared.transport.Transport.TheVariants.{Mail}
use Rattle.client_endpoints.specs.Asking.{CanAsk, IsSameMail, HasTaken}
use Rattle.client_endpoints.specs.Transports.{call_of, HasAnswer, HasTold, inboxes_of}
use Rattle.client_endpoints.specs.Endpoint.{SharedCellsView, IsAskOn, IsAskPlace, AreItsInboxes}
use Rattle.client_endpoints.proofs.Turns.{on_shard, is_whole}
use Rattle.thread_work.proofs.lemmas.Places.{get_map}
use Rattle.lists.proofs.lemmas.Members.{Contains-one}

-- an ask to the shard's node, on a block of its shard
can_ask : (clock : ClockId) (cell_shard : CellShard) (seat id node block : ℕ) (way : Way) (ask : Message) (place : NodePlace) → IsAskPlace clock cell_shard seat id place → IsFor cell_shard node block
    → ask.node ≡ node → ask.client ≡ id → IsAskOn block ask.body → (way ≡ Hold → cell_shard.shards ≡ 1) → CanAsk clock seat way ask place
can_ask clock cell_shard seat id node block way ask place at is to by on whole note ticks = record {
  clock = ticks ∙ sym at.clock;
  node = to ∙ sym is.of ∙ ap (λ (s : CellShard). s.node) (sym at.cell_shard);
  share = subst (λ (s : CellShard). IsShare s.shard s.shards ask.body) (sym at.cell_shard) (on_shard cell_shard node block is ask.body on);
  whole = subst (λ (s : CellShard). IsWhole s.shards way) (sym at.cell_shard) (is_whole cell_shard way whole);
  client = at.client ∙ ap Some (sym by);
}

-- and so at its place behind shared cells
pub can_ask_at : (id : ℕ) (mail : ByMail) (shared_cells : SharedCellsView) (place block : ℕ) (way : Way) (ask : Message) → AreItsInboxes id (inboxes_of mail) shared_cells → IsPlace shared_cells.cell_shards place ask.node block → ask.client ≡ id → IsAskOn block ask.body
    → (way ≡ Hold → IsWholeAt shared_cells.cell_shards ask.node) → (p : Putting Asked NodePlace) → slice_get mail.asks.items place ≡ Some p → CanAsk shared_cells.clock mail.seat way ask p.inbox.place
can_ask_at id mail shared_cells place block way ask by is own on whole p at =
    can_ask shared_cells.clock is.cell_shard mail.seat id ask.node block way ask p.inbox.place (by.each place p.inbox is.cell_shard (get_map (λ (x : Putting Asked NodePlace). x.inbox) mail.asks.items place p at) is.there) is.is refl own on
    (λ held. whole held place is.cell_shard is.there is.is.of)

-- the way by mail is the same after an item was put and others were taken
module _ (old new : Taking Answered ClientPlace) where
  next_same : (from : ℕ) (item : Answered) → TookNext old from item new → (new.inbox ≡ old.inbox) × (new.senders ≡ old.senders)
  next_same from item next = (ap (λ (t : Taking Answered ClientPlace). t.inbox) next.1, ap (λ (t : Taking Answered ClientPlace). t.senders) next.1)

  lasts_same : TookLasts old new → (new.inbox ≡ old.inbox) × (new.senders ≡ old.senders)
  lasts_same lasts = (ap (λ (t : Taking Answered ClientPlace). t.inbox) lasts.1, ap (λ (t : Taking Answered ClientPlace). t.senders) lasts.1)

module _ (old : ByMail) (place : ℕ) (inbox now : Putting Asked NodePlace) (item : Asked) (answers : Taking Answered ClientPlace) (at : inbox ≡ get_or old.asks.items place inbox) (put : now ≡ put_more inbox item) where
  same_after : (answers.inbox ≡ old.answers.inbox) × (answers.senders ≡ old.answers.senders) → IsSameMail old (record { seat = old.seat; asks = with_item old.asks place now; answers = answers })
  same_after is = record {
    seat = refl;
    asks = map-set_same (λ (p : Putting Asked NodePlace). p.inbox) old.asks.items place now inbox (ap (λ (p : Putting Asked NodePlace). p.inbox) put ∙ ap (λ (p : Putting Asked NodePlace). p.inbox) at);
    inbox = is.0;
    senders = is.1;
  }

  pub same_next : (from : ℕ) (answer : Answered) → TookNext old.answers from answer answers → IsSameMail old (record { seat = old.seat; asks = with_item old.asks place now; answers = answers })
  same_next from answer next = same_after (next_same old.answers answers from answer next)

  pub same_lasts : TookLasts old.answers answers → IsSameMail old (record { seat = old.seat; asks = with_item old.asks place now; answers = answers })
  same_lasts lasts = same_after (lasts_same old.answers answers lasts)

pub same_told : (r : Result Told CellRefusal) (t u : Told) → r ≡ Ok t → r ≡ Ok u → t ≡ u
same_told r t u one other = let e : Ok t ≡ Ok u = sym one ∙ other in cc

-- the routes of mail that is the same
pub same_route : (old new : ByMail) → IsSameMail old new → inboxes_of new ≡ inboxes_of old
same_route old new same = λ i. record { seat = same.seat i; asks = same.asks i; answers = same.inbox i; senders = same.senders i }

-- an answer that was taken tells one call
module _ (was now : ByMail) (way : Way) (ask : Message) (told : Told) (taken : HasTaken was way ask told now) where
  abbrev e : DeskEntry
  e = call_of way ask told

  told_is : (a : Answered) (t : Told) → a ≡ taken.answer → a.told ≡ Ok t → call_of a.way a.ask t ≡ e
  told_is a t is tells =
      let same = same_told taken.answer.told t told (ap (λ (x : Answered). x.told) (sym is) ∙ tells) taken.told in
      ap (λ (x : Answered). call_of x.way x.ask t) is ∙ ap (λ (u : Told). call_of taken.answer.way taken.answer.ask u) same
      ∙ ap (λ (w : Way). call_of w taken.answer.ask told) taken.way
      ∙ ap (λ (m : Message). call_of way m told) taken.ask

  abbrev one_taken : ℕ × Answered
  one_taken = (taken.from, taken.answer)

  kept : (c : ℕ) (d : DeskEntry) → HasAnswer (took was.answers) c d → HasAnswer (took now.answers) c d
  kept c d h = record {
    from = h.from;
    answer = h.answer;
    there = subst (λ (l : List (ℕ × Answered)). Contains l (h.from, h.answer)) (sym taken.grew) (Contains-append_left (took was.answers) (one_taken ∷ []) (h.from, h.answer) h.there);
    told = h.told;
    tells = h.tells;
    client = h.client;
    is = h.is;
  }

  one : HasAnswer (took now.answers) ask.client e
  one = record {
    from = taken.from;
    answer = taken.answer;
    there = subst (λ (l : List (ℕ × Answered)). Contains l one_taken) (sym taken.grew) (Contains-push (took was.answers) one_taken);
    told = told;
    tells = taken.told;
    client = ap (λ (m : Message). m.client) taken.ask;
    is = sym (told_is taken.answer told refl taken.told);
  }

  only : (c : ℕ) (d : DeskEntry) → HasAnswer (took now.answers) c d → HasAnswer (took was.answers) c d ⊎ ((c ≡ ask.client) × (d ≡ e))
  only c d h = elim (Contains-append_cases (took was.answers) (one_taken ∷ []) (h.from, h.answer) (subst (λ (l : List (ℕ × Answered)). Contains l (h.from, h.answer)) taken.grew h.there)) [
    | inl before ↦ inl (record { from = h.from; answer = h.answer; there = before; told = h.told; tells = h.tells; client = h.client; is = h.is })
    | inr after ↦ (
        let same : h.answer ≡ taken.answer = ap (λ (x : ℕ × Answered). x.1) (Contains-one {X = ℕ × Answered} (h.from, h.answer) one_taken after) in
        inr (sym h.client ∙ ap (λ (a : Answered). a.ask.client) same ∙ ap (λ (m : Message). m.client) taken.ask, h.is ∙ told_is h.answer h.told same h.tells)
        )
  ]

  pub mail_told : HasTold (Mail was) ask.client e (Mail now)
  mail_told = record { kept = kept; one = one; only = only }
