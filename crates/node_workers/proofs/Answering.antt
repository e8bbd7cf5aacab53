-- What one ask more adds to what a worker has answered.
use Rattle.std.proofs.Common.{◌≡◌, ◌≢◌, ℕ, zero, suc, ◌<◌, List, [], ◌∷◌, ◌++◌, length, length-set, map, cond, refl, sym, ap, subst, ◌∙◌, arith, inl, inr, append_assoc, append-nil}
use Rattle.std.specs.declared.option.Option.TheVariants.{Some}
use Rattle.std.specs.declared.result.Result.{Result}
use Rattle.std.specs.declared.result.Result.TheVariants.{Ok, Err}
use Rattle.std.specs.Prelude.{◌⊎◌, Bool, true, false, nat_eq, slice_get, slice_set, IfOk, OnErr}
use Rattle.std.specs.List.{Contains, filter}
use Rattle.std.proofs.lemmas.List.{map-append}
use Rattle.std.proofs.lemmas.List.Elements.{filter-append, Contains-append_left, Contains-append_right, Contains-append_cases, Contains-push, Contains-push_cases}
use Rattle.std.proofs.lemmas.Option.{slice_get_within}
use Rattle.thread_work.specs.Pairwise.{Beside}
use Rattle.thread_work.proofs.lemmas.Places.{slice_get-unique, slice_get-set_cases, beside_left}
use Rattle.inboxes.specs.Sides.{put_more, took, took_in}
use Rattle.inboxes.proofs.lemmas.SenderWords.{true_here, false_here, same_or_not}
use Rattle.journals.specs.declared.desk.DeskAct.{DeskAct}
use Rattle.journals.specs.declared.node.NodeEntry.{NodeEntry}
use Rattle.journals.specs.Steps.{side}
use Rattle.locked_nodes.specs.declared.answers.Told.{Told}
use Rattle.locked_nodes.specs.Cells.{CellView, HasMoreAside, state_of, told_as, number_of, entry, with_entry}
use Rattle.locked_nodes.specs.declared.answers.CellRefusal.{CellRefusal}
use Rattle.protocol.specs.Messages.{Message}
use Rattle.event_clock.specs.Passes.{ClockId, Sight}
use Rattle.journals.specs.declared.desk.Way.{Way}
use Rattle.journals.specs.declared.desk.DeskAct.TheVariants.{Call}
use Rattle.journals.specs.Acts.{act, answer_of}
use Rattle.locked_nodes.specs.Cells.{reply_told}
use Rattle.locked_nodes.proofs.lemmas.Sides.{act_side, told_reply}
use Rattle.client_endpoints.specs.declared.asked.Asked.{Asked}
use Rattle.client_endpoints.specs.declared.answered.Answered.{Answered}
use Rattle.node_workers.specs.Workers.{AnswerPutter, WorkerView, clients_of, CanServe, IsPutterTo, Tells, WasTold, TellsOf, IsSamePutter, HasAnswered, HasMet, asks_from, asks_told, AreAnswered}
use Rattle.lists.proofs.lemmas.Members.{slice_get-set, at_place}

set_elsewhere : {A : Type 0} (xs : List A) (k i : ℕ) (x y : A) → i ≢ k → slice_get xs i ≡ Some x → slice_get (slice_set xs k y) i ≡ Some x
set_elsewhere [] k i x y apart at = absurd cc
set_elsewhere (z ∷ xs) zero zero x y apart at = absurd (apart refl)
set_elsewhere (z ∷ xs) zero (suc i) x y apart at = at
set_elsewhere (z ∷ xs) (suc k) zero x y apart at = at
set_elsewhere (z ∷ xs) (suc k) (suc i) x y apart at = set_elsewhere xs k i x y (λ e. apart (ap suc e)) at

pub none_in : {A : Type 0} (xs : List A) (x : A) → xs ≡ [] → Contains xs x → ⊥
none_in xs x none (k, lt, is) = let few = ap length none in omega (arith, lt, few)

-- a worker that has answered nobody
same_putter : (seat : ℕ) (x y : AnswerPutter) → x ≡ y → IsSamePutter seat x y
same_putter seat x y same = record { inbox = ap (λ (l : AnswerPutter). l.inbox) (sym same); number = ap (λ (l : AnswerPutter). l.number) (sym same) }

pub answered_none : (clients : List ℕ) (cell : CellView) (answer_putters : List AnswerPutter) → ((seat : ℕ) (answer_putter : AnswerPutter) → slice_get answer_putters seat ≡ Some answer_putter → answer_putter.put ≡ []) → HasAnswered clients cell answer_putters cell answer_putters
answered_none clients cell answer_putters new = record {
  charter = refl;
  more = [];
  grew = sym (append-nil cell.journal);
  same = record { count = refl; each = λ i x y a b. same_putter i x y (slice_get-unique answer_putters i x y a b) };
  told = λ n c act has is. absurd (none_in [] n refl has);
  done = λ seat answer_putter a t at has is. absurd (none_in answer_putter.put a (new seat answer_putter at) has);
}

-- what was asked from a seat, with one ask more
asks-append : (seat : ℕ) (xs ys : List (ℕ × Asked))
    → asks_from seat (xs ++ ys) ≡ asks_from seat xs ++ asks_from seat ys
asks-append seat xs ys =
    let f : ℕ × Asked → Way × Message = λ i. (i.1.way, i.1.ask) in
    let p : ℕ × Asked → Bool = λ i. nat_eq i.1.seat seat in
    ap (map f) (filter-append p xs ys) ∙ map-append f (filter p xs) (filter p ys)

module _ (seat from : ℕ) (q : Asked) where
  one_ask : (b : Bool) → nat_eq q.seat seat ≡ b
      → asks_from seat ((from, q) ∷ []) ≡ map (λ (i : ℕ × Asked). (i.1.way, i.1.ask)) (cond b ((from, q) ∷ []) [])
  one_ask b is = ap (λ c. map (λ (i : ℕ × Asked). (i.1.way, i.1.ask)) (cond c ((from, q) ∷ []) [])) is

  one_more : (asks : List (ℕ × Asked)) → q.seat ≡ seat
      → asks_from seat (asks ++ (from, q) ∷ []) ≡ asks_from seat asks ++ (q.way, q.ask) ∷ []
  one_more asks same =
      let here : nat_eq q.seat seat ≡ true = ap (λ k. nat_eq k seat) same ∙ true_here seat in
      asks-append seat asks ((from, q) ∷ []) ∙ ap (λ l. asks_from seat asks ++ l) (one_ask true here)

  none_more : (asks : List (ℕ × Asked)) → q.seat ≢ seat
      → asks_from seat (asks ++ (from, q) ∷ []) ≡ asks_from seat asks
  none_more asks apart =
      let none = one_ask false (false_here q.seat seat apart) in
      asks-append seat asks ((from, q) ∷ []) ∙ ap (λ l. asks_from seat asks ++ l) none
      ∙ append-nil (asks_from seat asks)

-- the putters after an answer was put into one of them
module _ (answer_putters : List AnswerPutter) (seat : ℕ) (answer_putter : AnswerPutter) (here : slice_get answer_putters seat ≡ Some answer_putter) (a : Answered) where
  abbrev after : List AnswerPutter
  after = slice_set answer_putters seat (put_more answer_putter a)

  new_answer_putter : slice_get after seat ≡ Some (put_more answer_putter a)
  new_answer_putter = slice_get-set answer_putters seat answer_putter (put_more answer_putter a) here

  kept_by : (clients : List ℕ) (n : NodeEntry) (w : WasTold clients answer_putters n) → (w.seat ≡ seat) ⊎ (w.seat ≢ seat) → WasTold clients after n
  kept_by clients n w (inl is) =
      let same : w.answer_putter ≡ answer_putter = slice_get-unique answer_putters seat w.answer_putter answer_putter (ap (slice_get answer_putters) (sym is) ∙ w.there) here in
      record {
        seat = seat;
        answer_putter = put_more answer_putter a;
        there = new_answer_putter;
        answer = w.answer;
        client = ap (slice_get clients) (sym is) ∙ w.client;
        put = Contains-append_left answer_putter.put (a ∷ []) w.answer (subst (λ (l : AnswerPutter). Contains l.put w.answer) same w.put);
        tells = w.tells;
      }
  kept_by clients n w (inr apart) =
      record { seat = w.seat; answer_putter = w.answer_putter; there = set_elsewhere answer_putters seat w.seat w.answer_putter (put_more answer_putter a) apart w.there; answer = w.answer; client = w.client; put = w.put; tells = w.tells }

  kept : (clients : List ℕ) (n : NodeEntry) → WasTold clients answer_putters n → WasTold clients after n
  kept clients n w = kept_by clients n w (same_or_not w.seat seat)

  told_now : (clients : List ℕ) (n : NodeEntry) → slice_get clients seat ≡ Some a.ask.client → Tells n a → WasTold clients after n
  told_now clients n client tells = record { seat = seat; answer_putter = put_more answer_putter a; there = new_answer_putter; answer = a; client = client; put = Contains-push answer_putter.put a; tells = tells }

  module _ (clients : List ℕ) (old now new : CellView) (first : List AnswerPutter) (so : HasAnswered clients old first now answer_putters) (met : HasMet now a new) (client : slice_get clients seat ≡ Some a.ask.client) where
    abbrev all_more : List NodeEntry
    all_more = so.more ++ met.tail

    told_of : (n : NodeEntry) (c : ℕ) (act : DeskAct) → side n.act ≡ Some (c, act) → Contains so.more n ⊎ Contains met.tail n → WasTold clients after n
    told_of n c act is (inl has) = kept clients n (so.told n c act has is)
    told_of n c act is (inr has) = told_now clients n client (met.told n has)

    of_old : (s : ℕ) (b : Answered) → TellsOf clients so.more s b → TellsOf clients all_more s b
    of_old s b of = record { entry = of.entry; there = Contains-append_left so.more met.tail of.entry of.there; client = of.client; tells = of.tells }

    of_new : (s : ℕ) (b : Answered) (t : Told) → s ≡ seat → a ≡ b → b.told ≡ Ok t → TellsOf clients all_more s b
    of_new s b t at same is =
        let entry = met.done t (ap (λ (x : Answered). x.told) same ∙ is) in
        record {
          entry = entry.0;
          there = Contains-append_right so.more met.tail entry.0 entry.1;
          client = ap (slice_get clients) at ∙ client ∙ ap (λ (x : Answered). Some x.ask.client) same;
          tells = subst (Tells entry.0) same (met.told entry.0 entry.1);
        }

    done_put : (s : ℕ) (b : Answered) (t : Told) → s ≡ seat → b.told ≡ Ok t → Contains answer_putter.put b ⊎ (a ≡ b) → TellsOf clients all_more s b
    done_put s b t at is (inl has) = of_old s b (so.done s answer_putter b t (ap (slice_get answer_putters) at ∙ here) has is)
    done_put s b t at is (inr same) = of_new s b t at same is

    done_of : (s : ℕ) (l : AnswerPutter) (b : Answered) (t : Told) → Contains l.put b → b.told ≡ Ok t → ((s ≡ seat) × (l ≡ put_more answer_putter a)) ⊎ ((s ≢ seat) × (slice_get answer_putters s ≡ Some l)) → TellsOf clients all_more s b
    done_of s l b t has is (inl h) = done_put s b t h.0 is (Contains-push_cases answer_putter.put a b (subst (λ (x : AnswerPutter). Contains x.put b) h.1 has))
    done_of s l b t has is (inr h) = of_old s b (so.done s l b t h.1 has is)

    putter_kept : (s : ℕ) (x y : AnswerPutter) → slice_get first s ≡ Some x → ((s ≡ seat) × (y ≡ put_more answer_putter a)) ⊎ ((s ≢ seat) × (slice_get answer_putters s ≡ Some y)) → IsSamePutter s x y
    putter_kept s x y at (inl h) =
        let was = so.same.each s x answer_putter at (ap (slice_get answer_putters) h.0 ∙ here) in
        record { inbox = ap (λ (l : AnswerPutter). l.inbox) h.1 ∙ was.inbox; number = ap (λ (l : AnswerPutter). l.number) h.1 ∙ was.number }
    putter_kept s x y at (inr h) = so.same.each s x y at h.1

    pub answered_more : HasAnswered clients old first new after
    answered_more = record {
      charter = met.charter ∙ so.charter;
      more = all_more;
      grew = met.grew ∙ ap (λ l. l ++ met.tail) so.grew ∙ append_assoc old.journal so.more met.tail;
      same = record { count = so.same.count ∙ sym (length-set answer_putters seat (put_more answer_putter a)); each = λ s x y at to. putter_kept s x y at (slice_get-set_cases answer_putters seat s y (put_more answer_putter a) to) };
      told = λ n c act has is. told_of n c act is (Contains-append_cases so.more met.tail n has);
      done = λ s l b t at has is. done_of s l b t has is (slice_get-set_cases answer_putters seat s l (put_more answer_putter a) at);
    }

  -- and the asks with the one to which it is the answer
  module _ (asks : List (ℕ × Asked)) (from : ℕ) (q : Asked) (own : q.seat ≡ seat)
      (is : (a.way ≡ q.way) × (a.ask ≡ q.ask)) (so : AreAnswered asks answer_putters) where
    asked_at : (s : ℕ) (l : AnswerPutter)
        → ((s ≡ seat) × (l ≡ put_more answer_putter a)) ⊎ ((s ≢ seat) × (slice_get answer_putters s ≡ Some l))
        → asks_told l.put ≡ asks_from s (asks ++ (from, q) ∷ [])
    asked_at s l (inl h) =
        ap (λ (x : AnswerPutter). asks_told x.put) h.1
        ∙ map-append (λ (x : Answered). (x.way, x.ask)) answer_putter.put (a ∷ [])
        ∙ (λ j. so seat answer_putter here j ++ (is.0 j, is.1 j) ∷ [])
        ∙ sym (one_more seat from q asks own)
        ∙ ap (λ k. asks_from k (asks ++ (from, q) ∷ [])) (sym h.0)
    asked_at s l (inr h) = so s l h.1 ∙ sym (none_more s from q asks (λ e. h.0 (sym e ∙ own)))

    pub asked_more : AreAnswered (asks ++ (from, q) ∷ []) after
    asked_more s l at = asked_at s l (slice_get-set_cases answer_putters seat s l (put_more answer_putter a) at)

-- what has no client's side is told to nobody
module _ (clients : List ℕ) (old now new : CellView) (first answer_putters : List AnswerPutter) (so : HasAnswered clients old first now answer_putters) (late : HasMoreAside now new) where
  told_before : (n : NodeEntry) (c : ℕ) (act : DeskAct) → side n.act ≡ Some (c, act) → Contains so.more n ⊎ Contains late.more n → WasTold clients answer_putters n
  told_before n c act is (inl has) = so.told n c act has is
  told_before n c act is (inr has) = let none = late.aside n has in absurd cc

  done_before : (seat : ℕ) (a : Answered) → TellsOf clients so.more seat a → TellsOf clients (so.more ++ late.more) seat a
  done_before seat a of = record { entry = of.entry; there = Contains-append_left so.more late.more of.entry of.there; client = of.client; tells = of.tells }

  pub answered_late : HasAnswered clients old first new answer_putters
  answered_late = record {
    charter = late.charter ∙ so.charter;
    more = so.more ++ late.more;
    grew = late.grew ∙ ap (λ l. l ++ late.more) so.grew ∙ append_assoc old.journal so.more late.more;
    same = so.same;
    told = λ n c act has is. told_before n c act is (Contains-append_cases so.more late.more n has);
    done = λ seat answer_putter a t at has is. done_before seat a (so.done seat answer_putter a t at has is);
  }

-- the putter of a seat, when a worker starts and later
putter_at : (of : ClockId) (clients : List ℕ) (answer_putters : List AnswerPutter) (seat : ℕ) (answer_putter : AnswerPutter) → Beside (IsPutterTo of) clients answer_putters → slice_get answer_putters seat ≡ Some answer_putter → (id : ℕ) × (slice_get clients seat ≡ Some id) × IsPutterTo of seat id answer_putter
putter_at of clients answer_putters seat answer_putter to at =
    beside_left (IsPutterTo of) clients answer_putters seat answer_putter to at

pub new_answer_putters : (of : ClockId) (clients : List ℕ) (answer_putters : List AnswerPutter) → Beside (IsPutterTo of) clients answer_putters → (seat : ℕ) (answer_putter : AnswerPutter) → slice_get answer_putters seat ≡ Some answer_putter → answer_putter.put ≡ []
new_answer_putters of clients answer_putters to seat answer_putter at = (putter_at of clients answer_putters seat answer_putter to at).2.new

pub seat_within : (of : ClockId) (clients : List ℕ) (old : CellView) (first : List AnswerPutter) (now : CellView) (answer_putters : List AnswerPutter) → Beside (IsPutterTo of) clients first → HasAnswered clients old first now answer_putters → (seat id : ℕ) → slice_get clients seat ≡ Some id → seat < length answer_putters
seat_within of clients old first now answer_putters to so seat id at = let lt = slice_get_within clients seat id at in omega (arith, lt, to.count, so.same.count)

pub putter_of : (of : ClockId) (clients : List ℕ) (old : CellView) (first : List AnswerPutter) (now : CellView) (answer_putters : List AnswerPutter) → Beside (IsPutterTo of) clients first → HasAnswered clients old first now answer_putters → (seat id : ℕ) (answer_putter : AnswerPutter) → slice_get clients seat ≡ Some id → slice_get answer_putters seat ≡ Some answer_putter
    → (answer_putter.inbox.place.clock.value ≡ of) × (answer_putter.inbox.place.client ≡ id)
putter_of of clients old first now answer_putters to so seat id answer_putter at here =
    let lt = slice_get_within answer_putters seat answer_putter here in
    let was = at_place first seat (omega (arith, lt, so.same.count)) in
    let same = (so.same.each seat was.0 answer_putter was.1 here).inbox in
    let is = to.each seat id was.0 at was.1 in
    (ap (λ i. i.place.clock.value) same ∙ is.ticks, ap (λ i. i.place.client) same ∙ is.client)

-- what a cell did with an ask, and what it told of it
tells_act : (s : CellView) (n : ℕ) (way : Way) (ask : Message) (t : Told) (note : Sight) → t ≡ told_as (number_of t) (answer_of (act (state_of s) s.charter.nature way ask)) → Tells (entry (number_of t) (act (state_of s) s.charter.nature way ask)) (record { way = way; ask = ask; told = Ok t; note = note })
tells_act s n way ask t note is = record {
  told = t;
  is = refl;
  number = refl;
  agree = act_side (state_of s) s.charter.nature way ask
      ∙ ap (λ r. Some (ask.client, Call way ask r)) (sym (told_reply (number_of t) (answer_of (act (state_of s) s.charter.nature way ask))) ∙ ap reply_told (sym is));
}

one_of : {A : Type 0} (x y : A) → Contains (x ∷ []) y → x ≡ y
one_of x y (zero, lt, is) = is
one_of x y (suc k, lt, is) = absurd (omega (arith, lt))

pub has_met : (told : Result Told CellRefusal) (old new : CellView) (way : Way) (ask : Message) (note before : Sight) → IfOk told (λ t. new ≡ with_entry old (number_of t) (act (state_of old) old.charter.nature way ask))
    → IfOk told (λ t. t ≡ told_as (number_of t) (answer_of (act (state_of old) old.charter.nature way ask))) → OnErr told ((new ≡ old) × (note ≡ before)) → HasMet old (record { way = way; ask = ask; told = told; note = note }) new
has_met (Ok t) old new way ask note before cell tell err = record {
  charter = ap (λ (c : CellView). c.charter) cell;
  tail = entry (number_of t) (act (state_of old) old.charter.nature way ask) ∷ [];
  grew = ap (λ (c : CellView). c.journal) cell;
  told = λ n has. subst (λ m. Tells m (record { way = way; ask = ask; told = Ok t; note = note })) (one_of (entry (number_of t) (act (state_of old) old.charter.nature way ask)) n has) (tells_act old 0 way ask t note tell);
  done = λ u is. (entry (number_of t) (act (state_of old) old.charter.nature way ask), (0, omega arith, refl));
}
has_met (Err e) old new way ask note before cell tell err = record {
  charter = ap (λ (c : CellView). c.charter) err.0;
  tail = [];
  grew = ap (λ (c : CellView). c.journal) err.0 ∙ sym (append-nil old.journal);
  told = λ n has. absurd (none_in [] n refl has);
  done = λ u is. absurd cc;
}

-- a worker that has answered what it was asked so far
pub record IsServing (old new : WorkerView) : Type 0 where
  pub asks : new.asks.inbox ≡ old.asks.inbox
  pub asked : AreAnswered (took new.asks) new.answers
  pub answered : HasAnswered (clients_of old) old.cell old.answers new.cell new.answers
  pub none : new.sents ≡ []

pub serving_none : (of : ClockId) (w : WorkerView) → CanServe of w → IsServing w w
serving_none of w can =
    let new = new_answer_putters of (clients_of w) w.answers can.answer_putters in
    record {
      asks = refl;
      asked = λ seat answer_putter at. ap asks_told (new seat answer_putter at) ∙ ap (λ h. asks_from seat (took_in h)) (sym can.new);
      answered = answered_none (clients_of w) w.cell w.answers new;
      none = can.none;
    }
