-- From what workers told to what was told through transports.
use Rattle.std.proofs.Common.{◌≡◌, ℕ, zero, suc, ◌<◌, List, [], ◌∷◌, ◌++◌, length, map, refl, sym, ap, subst, ◌∙◌, arith, inl, inr, Bool, true, false, true≢false, cond}
use Rattle.std.specs.declared.option.Option.{Option}
use Rattle.std.specs.declared.option.Option.TheVariants.{Some}
use Rattle.std.specs.Prelude.{◌⊎◌, slice_get, nat_eq, All}
use Rattle.std.specs.List.{Contains, filter}
use Rattle.std.proofs.lemmas.List.Elements.{Contains-append_right, Contains-append_cases}
use Rattle.std.proofs.lemmas.Bool.Decides.{eqb_tells}
use Rattle.std.proofs.lemmas.Option.{same_Some, slice_get_within}
use Rattle.inboxes.specs.Sides.{took, items_from}
use Rattle.journals.specs.declared.node.NodeEntry.{NodeEntry}
use Rattle.journals.specs.declared.desk.DeskAct.{DeskAct}
use Rattle.journals.specs.declared.desk.DeskAct.TheVariants.{Call}
use Rattle.journals.specs.declared.desk.DeskEntry.{DeskEntry}
use Rattle.journals.specs.Steps.{side}
use Rattle.locked_nodes.specs.declared.answers.Told.{Told}
use Rattle.locked_nodes.specs.Cells.{CellView, rechartered, number_of, reply_told}
use Rattle.client_desks.specs.Desks.{desk_entry}
use Rattle.thread_work.specs.Pairwise.{Beside}
use Rattle.client_endpoints.specs.declared.answered.Answered.{Answered}
use Rattle.client_endpoints.specs.declared.mail.ByMail.{ByMail}
use Rattle.client_endpoints.specs.declared.transport.Transport.{Transport}
use Rattle.client_endpoints.specs.declared.transport.Transport.TheVariants.{Mail}
use Rattle.client_endpoints.specs.Transports.{IsTold, HasAnswer}
use Rattle.node_workers.specs.Workers.{AnswerPutter, TellsOf, WasTold, HasAnswered}
use Rattle.node_workers.proofs.Answering.{none_in}
use Rattle.phase_threads.specs.Standing.{HasSideIn}
use Rattle.phase_threads.specs.Told.{IsToldIn, AreJustTold}
use Rattle.thread_work.proofs.lemmas.Places.{slice_get-unique, get_map, map_get, beside_right, beside_left}
use Rattle.lists.proofs.lemmas.Members.{place_of, all_at_place, at_place, Contains-slice_get}
use Rattle.inboxes.proofs.lemmas.SenderWords.{true_here}
use Rattle.client_endpoints.proofs.lemmas.Mailing.{same_told}

-- what was taken of a sender is among the sender's items, and the other way round
module _ {T : Type 0} where
  further : (z : T) (xs : List T) (x : T) → Contains xs x → Contains (z ∷ xs) x
  further z xs x (k, lt, is) = (suc k, omega (arith, lt), is)

  front : (y : T) (xs : List T) (x : T) → Contains (y ∷ xs) x → (y ≡ x) ⊎ Contains xs x
  front y xs x (zero, lt, is) = inl is
  front y xs x (suc k, lt, is) = inr (k, omega (arith, lt), is)

eq_of : (q p : ℕ) → nat_eq q p ≡ true → q ≡ p
eq_of q p is = elim (eqb_tells q p) [ inl same ↦ same.1 | inr not ↦ absurd (true≢false (sym is ∙ not.0)) ]

module _ {T : Type 0} where
  taken_more : (p q : ℕ) (y : T) (xs : List (ℕ × T)) (x : T) → Contains (items_from p xs) x ⊎ ((q ≡ p) × (y ≡ x)) → (Contains (items_from p xs) x → Contains xs (p, x)) → Contains ((q, y) ∷ xs) (p, x)
  taken_more p q y xs x (inl has) f = further (q, y) xs (p, x) (f has)
  taken_more p q y xs x (inr is) f = (0, omega arith, λ k. (is.0 k, is.1 k))

  by_test : (b : Bool) (p q : ℕ) (y : T) (fs : List (ℕ × T)) (x : T) → nat_eq q p ≡ b → Contains (map (λ (i : ℕ × T). i.1) (cond b ((q, y) ∷ fs) fs)) x → Contains (map (λ (i : ℕ × T). i.1) fs) x ⊎ ((q ≡ p) × (y ≡ x))
  by_test false p q y fs x is has = inl has
  by_test true p q y fs x is has = elim (front y (map (λ (i : ℕ × T). i.1) fs) x has) [ inl same ↦ inr (eq_of q p is, same) | inr later ↦ inl later ]

  pub taken_of : (p : ℕ) (xs : List (ℕ × T)) (x : T) → Contains (items_from p xs) x → Contains xs (p, x)
  taken_of p [] x has = absurd (none_in [] x refl has)
  taken_of p ((q, y) ∷ xs) x has = taken_more p q y xs x (by_test (nat_eq q p) p q y (filter (λ (i : ℕ × T). nat_eq i.0 p) xs) x refl has) (taken_of p xs x)

  put_here : (b : Bool) (p : ℕ) (x : T) (fs : List (ℕ × T)) → b ≡ true → Contains (map (λ (i : ℕ × T). i.1) (cond b ((p, x) ∷ fs) fs)) x
  put_here true p x fs is = (0, omega arith, refl)
  put_here false p x fs is = absurd cc

  put_on : (b : Bool) (q : ℕ) (y : T) (fs : List (ℕ × T)) (x : T) → Contains (map (λ (i : ℕ × T). i.1) fs) x → Contains (map (λ (i : ℕ × T). i.1) (cond b ((q, y) ∷ fs) fs)) x
  put_on true q y fs x has = further y (map (λ (i : ℕ × T). i.1) fs) x has
  put_on false q y fs x has = has

  put_first : (p q : ℕ) (y : T) (xs : List (ℕ × T)) (x : T) → (q ≡ p) → (y ≡ x) → Contains (items_from p ((q, y) ∷ xs)) x
  put_first p q y xs x num same = subst (λ z. Contains (items_from p ((q, y) ∷ xs)) z) same (put_here (nat_eq q p) q y (filter (λ (i : ℕ × T). nat_eq i.0 p) xs) (ap (λ n. nat_eq n p) num ∙ true_here p))

  pub of_taken : (p : ℕ) (xs : List (ℕ × T)) (x : T) → Contains xs (p, x) → Contains (items_from p xs) x
  of_taken p [] x has = absurd (none_in [] (p, x) refl has)
  of_taken p ((q, y) ∷ xs) x has =
      elim (front (q, y) xs (p, x) has) [
        | inl same ↦ put_first p q y xs x (ap (λ (i : ℕ × T). i.0) same) (ap (λ (i : ℕ × T). i.1) same)
        | inr later ↦ put_on (nat_eq q p) q y (filter (λ (i : ℕ × T). nat_eq i.0 p) xs) x (of_taken p xs x later)
      ]

-- a cell before a phase and after it, with its worker's putters, of which the first were made so
pub record IsServed (clients : List ℕ) (cells : List CellView) (k : ℕ) (row : List AnswerPutter) (cell : CellView) : Type 0 where
  pub old : CellView
  pub there : slice_get cells k ≡ Some old
  pub first : List AnswerPutter
  pub numbers : (seat : ℕ) (answer_putter : AnswerPutter) → slice_get first seat ≡ Some answer_putter → answer_putter.number ≡ k
  pub count : length first ≡ length clients
  pub answered : HasAnswered clients (rechartered old false) first cell row

-- a client's way by mail after a phase: what each putter to the client put it took
pub record IsHeard (rows : List (List AnswerPutter)) (seat : ℕ) (mail : ByMail) : Type 0 where
  pub senders : All (λ i. i.0 < length rows) (took mail.answers)
  pub items : (k : ℕ) (row : List AnswerPutter) (answer_putter : AnswerPutter) → slice_get rows k ≡ Some row → slice_get row seat ≡ Some answer_putter → items_from answer_putter.number (took mail.answers) ≡ answer_putter.put

-- all that a phase leaves
pub record Phase (clients : List ℕ) (cells now : List CellView) (rows : List (List AnswerPutter)) (mails : List ByMail) (transports : List Transport) : Type 0 where
  pub served : Beside (IsServed clients cells) rows now
  pub heard : (i : ℕ) (m : ByMail) → slice_get mails i ≡ Some m → IsHeard rows i m
  pub ways : map (λ m. Mail m) mails ≡ transports
  pub seats : length clients ≡ length mails

-- the call that an answer tells is the side of the entry of which it tells
pub record IsCall (id c m n : ℕ) (call act : DeskAct) : Type 0 where
  pub client : id ≡ c
  pub is : desk_entry n act ≡ desk_entry m call

as_told : (found : Option (ℕ × DeskAct)) (id c m n : ℕ) (call act : DeskAct) → found ≡ Some (id, call) → found ≡ Some (c, act) → n ≡ m → IsCall id c m n call act
as_told found id c m n call act one other number =
    let both : (id, call) ≡ (c, act) = same_Some {A = ℕ × DeskAct} (id, call) (c, act) (sym one ∙ other) in
    record { client = ap (λ (p : ℕ × DeskAct). p.0) both; is = λ i. desk_entry (number i) (sym (ap (λ (p : ℕ × DeskAct). p.1) both) i) }

-- a journal that has entries more
comes_in : (n : NodeEntry) (old more new : List NodeEntry) → new ≡ old ++ more → Contains more n → Contains new n
comes_in n old more new grew has = subst (λ (l : List NodeEntry). Contains l n) (sym grew) (Contains-append_right old more n has)

parts_in : (n : NodeEntry) (old more new : List NodeEntry) → new ≡ old ++ more → Contains new n → Contains old n ⊎ Contains more n
parts_in n old more new grew has = Contains-append_cases old more n (subst (λ (l : List NodeEntry). Contains l n) grew has)

-- what each step finds is a variable of the next one, so that no proof spells out how it was found
module _ (clients : List ℕ) (cells now : List CellView) (rows : List (List AnswerPutter)) (mails : List ByMail) (transports : List Transport) (phase : Phase clients cells now rows mails transports) where
  transport_at : (i : ℕ) (m : ByMail) → slice_get mails i ≡ Some m → slice_get transports i ≡ Some (Mail m)
  transport_at i m at = ap (λ (l : List Transport). slice_get l i) (sym phase.ways) ∙ get_map (λ (x : ByMail). Mail x) mails i m at

  mail_at : (i : ℕ) (t : Transport) → slice_get transports i ≡ Some t → (m : ByMail) × (slice_get mails i ≡ Some m) × (Mail m ≡ t)
  mail_at i t at = map_get (λ (x : ByMail). Mail x) mails i t (ap (λ (l : List Transport). slice_get l i) phase.ways ∙ at)

  -- what a worker told was told through the transport of the client that asked
  told_by : (k c : ℕ) (row : List AnswerPutter) (n : NodeEntry) (act : DeskAct) (w : WasTold clients row n) (m : ByMail) → slice_get rows k ≡ Some row → side n.act ≡ Some (c, act) → IsHeard rows w.seat m → IsTold (Mail m) c (desk_entry n.number act)
  told_by k c row n act w m here is heard =
      let put : Contains (items_from w.answer_putter.number (took m.answers)) w.answer = subst (λ (l : List Answered). Contains l w.answer) (sym (heard.items k row w.answer_putter here w.there)) w.put in
      let call = as_told (side n.act) w.answer.ask.client c (number_of w.tells.told) n.number (Call w.answer.way w.answer.ask (reply_told w.tells.told)) act w.tells.agree is w.tells.number in
      record {
        from = w.answer_putter.number;
        answer = w.answer;
        there = taken_of w.answer_putter.number (took m.answers) w.answer put;
        told = w.tells.told;
        tells = w.tells.is;
        client = call.client;
        is = call.is;
      }

  told_in : (k c : ℕ) (row : List AnswerPutter) (n : NodeEntry) (act : DeskAct) → slice_get rows k ≡ Some row → side n.act ≡ Some (c, act) → WasTold clients row n → IsToldIn transports c (desk_entry n.number act)
  told_in k c row n act here is w =
      let m = at_place mails w.seat (subst (λ (x : ℕ). w.seat < x) phase.seats (slice_get_within clients w.seat w.answer.ask.client w.client)) in
      record { seat = w.seat; transport = Mail m.0; there = transport_at w.seat m.0 m.1; told = told_by k c row n act w m.0 here is (phase.heard w.seat m.0 m.1) }

  told_of : (k c : ℕ) (row : List AnswerPutter) (was cell : CellView) (served : IsServed clients cells k row cell) (n : NodeEntry) (act : DeskAct) → slice_get cells k ≡ Some was → slice_get rows k ≡ Some row → side n.act ≡ Some (c, act)
      → Contains served.old.journal n ⊎ Contains served.answered.more n → Contains was.journal n ⊎ IsToldIn transports c (desk_entry n.number act)
  told_of k c row was cell served n act there here is (inl has) = inl (subst (λ (x : CellView). Contains x.journal n) (slice_get-unique cells k served.old was served.there there) has)
  told_of k c row was cell served n act there here is (inr has) = inr (told_in k c row n act here is (served.answered.told n c act has is))

  told_at : (k c : ℕ) (row : List AnswerPutter) (was cell : CellView) → IsServed clients cells k row cell → (n : NodeEntry) (act : DeskAct) → slice_get cells k ≡ Some was → slice_get rows k ≡ Some row → Contains cell.journal n → side n.act ≡ Some (c, act)
      → Contains was.journal n ⊎ IsToldIn transports c (desk_entry n.number act)
  told_at k c row was cell served n act there here has is = told_of k c row was cell served n act there here is (parts_in n served.old.journal served.answered.more cell.journal served.answered.grew has)

  told : (k : ℕ) (was cell : CellView) (n : NodeEntry) (c : ℕ) (act : DeskAct) → slice_get cells k ≡ Some was → slice_get now k ≡ Some cell → Contains cell.journal n → side n.act ≡ Some (c, act) → Contains was.journal n ⊎ IsToldIn transports c (desk_entry n.number act)
  told k was cell n c act there to has is =
      let row = beside_left (IsServed clients cells) rows now k cell phase.served to in
      told_at k c row.0 was cell row.2 n act there row.1 has is

  -- what a desk heard stands in the cell of the worker that told it
  heard_of : (seat c : ℕ) (m : ByMail) (e : DeskEntry) (a : HasAnswer (took m.answers) c e) (row : List AnswerPutter) (cell : CellView) → slice_get now a.from ≡ Some cell
      → (served : IsServed clients cells a.from row cell) → TellsOf clients served.answered.more seat a.answer → HasSideIn now c e
  heard_of seat c m e a row cell at served of =
      let told : of.tells.told ≡ a.told = same_told a.answer.told of.tells.told a.told of.tells.is a.tells in
      record {
        cell = cell;
        there = Contains-slice_get now a.from cell at;
        of = of.entry;
        stands = comes_in of.entry served.old.journal served.answered.more cell.journal served.answered.grew of.there;
        number = of.tells.number ∙ ap number_of told ∙ sym (ap (λ (x : DeskEntry). x.number) a.is);
        agree = of.tells.agree ∙ ap (λ (t : Told). Some (a.answer.ask.client, Call a.answer.way a.answer.ask (reply_told t))) told ∙ ap (λ (i : ℕ). Some (i, Call a.answer.way a.answer.ask (reply_told a.told))) a.client ∙ ap (λ (x : DeskEntry). Some (c, x.act)) (sym a.is);
      }

  heard_putter : (seat c : ℕ) (m : ByMail) (e : DeskEntry) → IsHeard rows seat m → (a : HasAnswer (took m.answers) c e) (row : List AnswerPutter) (cell : CellView) (first answer_putter : AnswerPutter) → slice_get rows a.from ≡ Some row → slice_get now a.from ≡ Some cell
      → (served : IsServed clients cells a.from row cell) → slice_get served.first seat ≡ Some first → slice_get row seat ≡ Some answer_putter → HasSideIn now c e
  heard_putter seat c m e heard a row cell first answer_putter here at served was is =
      let number : answer_putter.number ≡ a.from = (served.answered.same.each seat first answer_putter was is).number ∙ served.numbers seat first was in
      let all : items_from a.from (took m.answers) ≡ answer_putter.put = ap (λ (p : ℕ). items_from p (took m.answers)) (sym number) ∙ heard.items a.from row answer_putter here is in
      let put : Contains answer_putter.put a.answer = subst (λ (l : List Answered). Contains l a.answer) all (of_taken a.from (took m.answers) a.answer a.there) in
      heard_of seat c m e a row cell at served (served.answered.done seat answer_putter a.answer a.told is put a.tells)

  heard_at : (seat c : ℕ) (m : ByMail) (e : DeskEntry) → seat < length clients → IsHeard rows seat m → (a : HasAnswer (took m.answers) c e) (row : List AnswerPutter) (cell : CellView) → slice_get rows a.from ≡ Some row → slice_get now a.from ≡ Some cell
      → IsServed clients cells a.from row cell → HasSideIn now c e
  heard_at seat c m e lt heard a row cell here at served =
      let n = served.count in
      let k = served.answered.same.count in
      let first = at_place served.first seat (omega (arith, lt, n)) in
      let answer_putter = at_place row seat (omega (arith, lt, n, k)) in
      heard_putter seat c m e heard a row cell first.0 answer_putter.0 here at served first.1 answer_putter.1

  heard_in : (seat c : ℕ) (m : ByMail) (e : DeskEntry) → seat < length clients → IsHeard rows seat m → HasAnswer (took m.answers) c e → HasSideIn now c e
  heard_in seat c m e lt heard a =
      let place = place_of (took m.answers) (a.from, a.answer) a.there in
      let below = all_at_place (λ (i : ℕ × Answered). i.0 < length rows) (took m.answers) place.0 (a.from, a.answer) heard.senders place.1 in
      let row = at_place rows a.from below in
      let cell = beside_right (IsServed clients cells) rows now a.from row.0 phase.served row.1 in
      heard_at seat c m e lt heard a row.0 cell.0 row.1 cell.1 cell.2

  stands : (i : ℕ) (t : Transport) (c : ℕ) (e : DeskEntry) → slice_get transports i ≡ Some t → IsTold t c e → HasSideIn now c e
  stands i t c e at h =
      let m = mail_at i t at in
      let lt = subst (λ (x : ℕ). i < x) (sym phase.seats) (slice_get_within mails i m.0 m.1) in
      heard_in i c m.0 e lt (phase.heard i m.0 m.1) (subst (λ (x : Transport). IsTold x c e) (sym m.2) h)

  -- what cells have more, of which a client has a side, is just what was told
  pub just_told : AreJustTold cells now transports
  just_told = record { told = told; stands = stands }
