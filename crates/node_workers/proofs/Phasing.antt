-- A phase by mail from its opening to its closing.
use Rattle.std.proofs.Common.{◌≡◌, ℕ, ◌<◌, List, ◌++◌, length, map, sym, ap, subst, ◌∙◌, arith}
use Rattle.std.specs.declared.option.Option.TheVariants.{None, Some}
use Rattle.std.specs.Prelude.{slice_get, All}
use Rattle.std.specs.List.{AllZip}
use Rattle.std.proofs.lemmas.List.{length-map}
use Rattle.std.proofs.lemmas.Option.{slice_get_within}
use Rattle.quorum_rules.specs.Limits.{Numbers}
use Rattle.thread_work.specs.Pairwise.{Beside}
use Rattle.thread_work.proofs.lemmas.Places.{slice_get-unique, all_from_places, all_zip, get_map, map_get, beside_right, beside_left}
use Rattle.event_clock.specs.Passes.{ClockId}
use Rattle.inboxes.specs.Sides.{InboxId, Putting, Taking, IsDone, took, new_putter}
use Rattle.locked_nodes.specs.declared.cell_shard.CellShard.{CellShard}
use Rattle.locked_nodes.specs.CellShards.{cell_shard_of, cell_shards_of, Cover}
use Rattle.locked_nodes.specs.Cells.{CellView}
use Rattle.client_desks.specs.Desks.{DeskView}
use Rattle.client_desks.specs.Later.{IsLater}
use Rattle.client_endpoints.specs.declared.asked.Asked.{Asked}
use Rattle.client_endpoints.specs.declared.asked.NodePlace.{NodePlace}
use Rattle.client_endpoints.specs.declared.answered.Answered.{Answered}
use Rattle.client_endpoints.specs.declared.answered.ClientPlace.{ClientPlace}
use Rattle.client_endpoints.specs.declared.mail.ByMail.{ByMail}
use Rattle.client_endpoints.specs.declared.shared_cells.Cells.TheVariants.{Threads}
use Rattle.client_endpoints.specs.declared.transport.Transport.{Transport}
use Rattle.client_endpoints.specs.declared.transport.Transport.TheVariants.{Mail}
use Rattle.client_endpoints.specs.Asking.{HasEnded}
use Rattle.client_endpoints.specs.Transports.{inboxes_of}
use Rattle.client_endpoints.specs.Endpoint.{EndpointView, SharedCellsView, IsShared, Fit, AreItsInboxes, IsAskPlace, Agree}
use Rattle.node_workers.specs.Workers.{AnswerPutter, WorkerView, CanServe, IsPutterTo, IsSamePutter, HasServed, HasAnswered}
use Rattle.phase_threads.specs.declared.duty.Seat.{Seat}
use Rattle.phase_threads.specs.Standing.{AreCells, IsCellOf, IsDeskAt, PairsStand, HasWorked}
use Rattle.node_workers.specs.Portions.{AreSpread}
use Rattle.node_workers.specs.Opened.{IsAnswerBox, IsWorkerOf, IsClientOf, ids_of, Opened}
use Rattle.node_workers.specs.ThreadStates.{IsReady, HasDone, seat_of}
use Rattle.node_workers.specs.Closed.{IsOfMail, HasAllOf}
use Rattle.phase_threads.specs.Told.{HasHeard}
use Rattle.phase_threads.proofs.lemmas.Pairing.{pairs_stand}
use Rattle.node_workers.proofs.Telling.{IsServed, IsHeard, Phase, just_told}
use Rattle.lists.proofs.lemmas.Members.{all_at_place, at_place}
use Rattle.phase_threads.proofs.lemmas.Phasing.{desks_of}

abbrev pub mail_cells : ClockId → List CellShard → SharedCellsView
mail_cells of cell_shards = record { clock = of; cell_shards = cell_shards; cells = Threads }

pub open_all : {T : Type 0} {config : Numbers} {of at : ClockId} {cells : List CellView} {seats slice : List (Seat T)} {boxes : List (Taking Answered ClientPlace)} {rows : List (List AnswerPutter)} {portions : List (List (Putting Asked NodePlace))} {now workers : List WorkerView} {clients : List (EndpointView × T)} {shared_cells : SharedCellsView} {nodes : ℕ} {ids : List ℕ}
    → length rows ≡ length cells → slice ≡ seats → ids ≡ ids_of seats → at ≡ of → workers ≡ now → Beside (IsAnswerBox of nodes) slice boxes → AreSpread nodes boxes rows → Beside (IsWorkerOf at ids rows) cells now → AreSpread (length ids) (map (λ (w : WorkerView). w.asks) now) portions
    → Beside (IsClientOf boxes portions) seats clients → shared_cells ≡ mail_cells of (cell_shards_of cells) → AreCells config of cells → All (λ (s : Seat T). IsDeskAt config of s.desk) seats → Opened config of cells seats boxes rows portions workers clients shared_cells
open_all {T = T} {of = of} {at = at} {cells = cells} {seats = seats} {slice = slice} {boxes = boxes} {rows = rows} {portions = portions} {now = now} {nodes = nodes} {ids = ids} all list is same kept answers answer_putters served asks seated shared_cells are desks =
    let count : nodes ≡ length cells = sym answer_putters.count ∙ all in
    record {
      answers = subst (λ n. Beside (IsAnswerBox of n) seats boxes) count (subst (λ (l : List (Seat T)). Beside (IsAnswerBox of nodes) l boxes) list answers);
      answer_putters = subst (λ n. AreSpread n boxes rows) count answer_putters;
      nodes = subst (λ (l : List WorkerView). Beside (IsWorkerOf of (ids_of seats) rows) cells l) (sym kept) (subst (λ l. Beside (IsWorkerOf of l rows) cells now) is (subst (λ c. Beside (IsWorkerOf c ids rows) cells now) same served));
      asks = subst (λ (l : List WorkerView). AreSpread (length (ids_of seats)) (map (λ (w : WorkerView). w.asks) l) portions) (sym kept) (subst (λ (l : List ℕ). AreSpread (length l) (map (λ (w : WorkerView). w.asks) now) portions) is asks);
      seated = seated;
      is = shared_cells;
      are = are;
      desks = desks;
    }

module _ {T : Type 0} (config : Numbers) (of : ClockId) (row : List CellView) (seats : List (Seat T)) (boxes : List (Taking Answered ClientPlace)) (rows : List (List AnswerPutter)) (portions : List (List (Putting Asked NodePlace))) (workers : List WorkerView) (clients : List (EndpointView × T)) (shared_cells : SharedCellsView)
    (o : Opened config of row seats boxes rows portions workers clients shared_cells) where
  -- the putter of worker k to seat i
  record PutterAt (k i : ℕ) (answer_putter : AnswerPutter) : Type 0 where
    box : Taking Answered ClientPlace
    seat : Seat T
    there : slice_get seats i ≡ Some seat
    here : slice_get boxes i ≡ Some box
    is : answer_putter ≡ new_putter box.inbox k
    of_box : IsAnswerBox of (length row) i seat box

  putter_at : (k : ℕ) (cell : CellView) (w : WorkerView) (i : ℕ) (answer_putter : AnswerPutter) → IsWorkerOf of (ids_of seats) rows k cell w → slice_get w.answers i ≡ Some answer_putter → PutterAt k i answer_putter
  putter_at k cell w i answer_putter worker at =
      let lt = slice_get_within w.answers i answer_putter at in
      let n = o.answer_putters.full k w.answers worker.answer_putters in
      let box = at_place boxes i (omega (arith, lt, n)) in
      let seat = beside_left (IsAnswerBox of (length row)) seats boxes i box.0 o.answers box.1 in
      record { box = box.0; seat = seat.0; there = seat.1; here = box.1; is = o.answer_putters.each k i w.answers answer_putter box.0 worker.answer_putters at box.1; of_box = seat.2 }

  putters_count : (k : ℕ) (cell : CellView) (w : WorkerView) → IsWorkerOf of (ids_of seats) rows k cell w → length w.answers ≡ length seats
  putters_count k cell w worker = o.answer_putters.full k w.answers worker.answer_putters ∙ sym o.answers.count

  id_at : (i : ℕ) (s : Seat T) → slice_get seats i ≡ Some s → slice_get (ids_of seats) i ≡ Some s.desk.id
  id_at i s at = get_map (λ (x : Seat T). x.desk.id) seats i s at

  to_client : (k i id : ℕ) (answer_putter : AnswerPutter) (l : PutterAt k i answer_putter) → slice_get (ids_of seats) i ≡ Some id → IsPutterTo of i id answer_putter
  to_client k i id answer_putter l at = record {
    ticks = ap (λ (x : AnswerPutter). x.inbox.place.clock.value) l.is ∙ l.of_box.ticks;
    client = ap (λ (x : AnswerPutter). x.inbox.place.client) l.is ∙ l.of_box.client ∙ slice_get-unique (ids_of seats) i l.seat.desk.id id (id_at i l.seat l.there) at;
    new = ap (λ (x : AnswerPutter). x.put) l.is;
  }

  -- the worker of a cell can serve
  serves : (k : ℕ) (cell : CellView) (w : WorkerView) → IsCellOf config of cell → IsWorkerOf of (ids_of seats) rows k cell w → CanServe of w
  serves k cell w of_cell worker = record {
    cell = ap (λ (x : CellView). x.charter.pass.clock) worker.is ∙ worker.own ∙ of_cell.ticks;
    ticks = worker.box.ticks;
    cell_shard = worker.box.cell_shard ∙ ap (λ (x : CellView). cell_shard_of x.charter) (sym worker.is);
    new = worker.box.new;
    answer_putters = record {
      count = ap length worker.box.clients ∙ length-map seats (λ (s : Seat T). s.desk.id) ∙ sym (putters_count k cell w worker);
      each = λ i id answer_putter there here. to_client k i id answer_putter (putter_at k cell w i answer_putter worker here) (ap (λ (l : List ℕ). slice_get l i) (sym worker.box.clients) ∙ there);
    };
    none = worker.none;
  }

  pub can_serve : (k : ℕ) (w : WorkerView) → slice_get workers k ≡ Some w → CanServe shared_cells.clock w
  can_serve k w at =
      let c = beside_left (IsWorkerOf of (ids_of seats) rows) row workers k w o.nodes at in
      let can = serves k c.0 w (all_at_place (IsCellOf config of) row k c.0 o.are.each c.1) c.2 in
      subst (λ (f : SharedCellsView). CanServe f.clock w) (sym o.is) can

  -- the cell, and the worker, to which a client's putter goes
  ask_to : (i k : ℕ) (s : Seat T) (m : ByMail) (cell : CellView) (w : WorkerView) (p : Putting Asked NodePlace) → slice_get seats i ≡ Some s → m.seat ≡ i → slice_get portions i ≡ Some m.asks.items → slice_get m.asks.items k ≡ Some p
      → slice_get workers k ≡ Some w → IsWorkerOf of (ids_of seats) rows k cell w → IsAskPlace of (cell_shard_of cell.charter) m.seat s.desk.id p.inbox.place
  ask_to i k s m cell w p at seat asks here there worker =
      let is : p ≡ new_putter w.asks.inbox i = o.asks.each i k m.asks.items p w.asks asks here (get_map (λ (x : WorkerView). x.asks) workers k w there) in
      record {
        clock = ap (λ (x : Putting Asked NodePlace). x.inbox.place.clock.value) is ∙ worker.box.ticks;
        cell_shard = ap (λ (x : Putting Asked NodePlace). x.inbox.place.cell_shard) is ∙ worker.box.cell_shard;
        client = ap (λ (x : Putting Asked NodePlace). slice_get x.inbox.place.clients.value m.seat) is ∙ ap (λ (l : List ℕ). slice_get l m.seat) worker.box.clients ∙ ap (slice_get (ids_of seats)) seat ∙ id_at i s at;
      }

  ask_place : (i : ℕ) (s : Seat T) (m : ByMail) → slice_get seats i ≡ Some s → m.seat ≡ i → slice_get portions i ≡ Some m.asks.items → (k : ℕ) (p : Putting Asked NodePlace) (cell_shard : CellShard) → slice_get m.asks.items k ≡ Some p → slice_get (cell_shards_of row) k ≡ Some cell_shard
      → IsAskPlace of cell_shard m.seat s.desk.id p.inbox.place
  ask_place i s m at seat asks k p cell_shard here there =
      let cell = map_get (λ (c : CellView). cell_shard_of c.charter) row k cell_shard there in
      let w = beside_right (IsWorkerOf of (ids_of seats) rows) row workers k cell.0 o.nodes cell.1 in
      subst (λ (z : CellShard). IsAskPlace of z m.seat s.desk.id p.inbox.place) cell.2 (ask_to i k s m cell.0 w.0 p at seat asks here w.1 w.2)

  -- the endpoint of a client reach the cells by mail
  reaches : (i : ℕ) (s : Seat T) (m : ByMail) → slice_get seats i ≡ Some s → m.seat ≡ i → slice_get portions i ≡ Some m.asks.items → slice_get boxes i ≡ Some m.answers → IsAnswerBox of (length row) i s m.answers → AreItsInboxes s.desk.id (inboxes_of m) (mail_cells of (cell_shards_of row))
  reaches i s m at seat asks here box = record {
    client = box.client;
    ticks = box.ticks;
    count = length-map m.asks.items (λ (p : Putting Asked NodePlace). p.inbox) ∙ o.asks.full i m.asks.items asks ∙ length-map workers (λ (w : WorkerView). w.asks) ∙ sym o.nodes.count ∙ sym (length-map row (λ (y : CellView). cell_shard_of y.charter));
    each = λ k inbox cell_shard there to.
        let p = map_get (λ (x : Putting Asked NodePlace). x.inbox) m.asks.items k inbox there in
        subst (λ (b : InboxId Asked NodePlace). IsAskPlace of cell_shard m.seat s.desk.id b.place) p.2 (ask_place i s m at seat asks k p.0 cell_shard p.1 to);
  }

  has_shards : (k : ℕ) (cell_shard : CellShard) → slice_get (cell_shards_of row) k ≡ Some cell_shard → 0 < cell_shard.shards
  has_shards k cell_shard there =
      let cell = map_get (λ (z : CellView). cell_shard_of z.charter) row k cell_shard there in
      subst (λ (u : CellShard). 0 < u.shards) cell.2 (all_at_place (IsCellOf config of) row k cell.0 o.are.each cell.1).some

  covers : (s : Seat T) → IsDeskAt config of s.desk → IsShared s.desk.config (mail_cells of (cell_shards_of row))
  covers s desk = record {
    some = all_from_places (λ (y : CellShard). 0 < y.shards) (cell_shards_of row) has_shards;
    cover = subst (λ (n : Numbers). Cover n.n (cell_shards_of row)) (sym desk.cluster) o.are.cover;
    each = λ k y v a b. absurd cc;
  }

  fit_of : (i : ℕ) (s : Seat T) (x : EndpointView × T) → IsClientOf boxes portions i s x → slice_get seats i ≡ Some s → IsDeskAt config of s.desk → Fit x.0 shared_cells
  fit_of i s x c at desk =
      let fit : Fit (record { began = s.desk; desk = s.desk; transport = Mail c.mail; refused = None }) (mail_cells of (cell_shards_of row)) = record {
        shared_cells = covers s desk;
        ticks = desk.ticks;
        own = reaches i s c.mail at c.seat c.asks c.answers (o.answers.each i s c.mail.answers at c.answers);
      } in
      subst (Fit x.0) (sym o.is) (subst (λ (ks : EndpointView). Fit ks (mail_cells of (cell_shards_of row))) (sym c.endpoint) fit)

  -- and the client is ready, where its seat was
  ready_as : (ready : T → List CellShard → DeskView → Type 0) (i : ℕ) (s : Seat T) (x : EndpointView × T) → IsClientOf boxes portions i s x → ready s.duty (cell_shards_of row) s.desk → ready x.1 shared_cells.cell_shards x.0.desk
  ready_as ready i s x c can =
      subst (λ (f : SharedCellsView). ready x.1 f.cell_shards x.0.desk) (sym o.is)
      (subst (λ (d : T). ready d (cell_shards_of row) x.0.desk) (sym c.duty) (subst (ready s.duty (cell_shards_of row)) (sym (ap (λ (ks : EndpointView). ks.desk) c.endpoint)) can))

  ready_at : (ready : T → List CellShard → DeskView → Type 0) (i : ℕ) (s : Seat T) (x : EndpointView × T) → IsClientOf boxes portions i s x → slice_get seats i ≡ Some s → IsDeskAt config of s.desk → ready s.duty (cell_shards_of row) s.desk → IsReady ready shared_cells x.0 x.1
  ready_at ready i s x c at desk can = record {
    fit = fit_of i s x c at desk;
    sound = ap (λ (ks : EndpointView). ks.refused) c.endpoint;
    ready = ready_as ready i s x c can;
  }

  pub is_ready : (ready : T → List CellShard → DeskView → Type 0) → All (λ (s : Seat T). ready s.duty (cell_shards_of row) s.desk) seats → (i : ℕ) (x : EndpointView × T) → slice_get clients i ≡ Some x → IsReady ready shared_cells x.0 x.1
  is_ready ready all i x at =
      let s = beside_left (IsClientOf boxes portions) seats clients i x o.seated at in
      ready_at ready i s.0 x s.2 s.1 (all_at_place (λ (y : Seat T). IsDeskAt config of y.desk) seats i s.0 o.desks s.1) (all_at_place (λ (y : Seat T). ready y.duty (cell_shards_of row) y.desk) seats i s.0 all s.1)

  -- and after the threads have ended
  module _ (ends : List WorkerView) (lasts : List (EndpointView × T)) (done : T → DeskView → T → DeskView → Type 0) (served : Beside (λ (i : ℕ) (w v : WorkerView). HasServed w v) workers ends) (worked : Beside (λ (i : ℕ) (x y : EndpointView × T). HasDone done x.0 x.1 y.0 y.1) clients lasts)
      (mails : List ByMail) (ways : map (λ (m : ByMail). Mail m) mails ≡ map (λ (x : EndpointView × T). x.0.transport) lasts) where
    -- seat i, before and after
    record Way (i : ℕ) (s : Seat T) (y : EndpointView × T) : Type 0 where
      x : EndpointView × T
      client : IsClientOf boxes portions i s x
      goes : HasDone done x.0 x.1 y.0 y.1

    way : (i : ℕ) (s : Seat T) (y : EndpointView × T) → slice_get seats i ≡ Some s → slice_get lasts i ≡ Some y → Way i s y
    way i s y at there =
        let x = beside_right (IsClientOf boxes portions) seats clients i s o.seated at in
        record { x = x.0; client = x.2; goes = worked.each i x.0 y x.1 there }

    count_lasts : length seats ≡ length lasts
    count_lasts = o.seated.count ∙ worked.count

    later_on : (i : ℕ) (s : Seat T) (y : EndpointView × T) → Way i s y → IsLater s.desk y.0.desk
    later_on i s y w = subst (λ (d : DeskView). IsLater d y.0.desk) (ap (λ (ks : EndpointView). ks.desk) w.client.endpoint) w.goes.later

    later_at : (i : ℕ) (s : Seat T) (y : EndpointView × T) → slice_get seats i ≡ Some s → slice_get lasts i ≡ Some y → IsLater s.desk y.0.desk
    later_at i s y at there = later_on i s y (way i s y at there)

    pub desks_later : AllZip (λ (s t : Seat T). IsLater s.desk t.desk) seats (map seat_of lasts)
    desks_later = all_zip (λ (s t : Seat T). IsLater s.desk t.desk) seats (map seat_of lasts) (count_lasts ∙ sym (length-map lasts seat_of)) (λ i s t at there.
        let y = map_get seat_of lasts i t there in
        subst (λ (u : Seat T). IsLater s.desk u.desk) y.2 (later_at i s y.0 at y.1))

    done_on : (i : ℕ) (s : Seat T) (y : EndpointView × T) → Way i s y → y.0.refused ≡ None → done s.duty s.desk y.1 y.0.desk
    done_on i s y w none =
        subst (λ (d : T). done d s.desk y.1 y.0.desk) w.client.duty (subst (λ (d : DeskView). done w.x.1 d y.1 y.0.desk) (ap (λ (ks : EndpointView). ks.desk) w.client.endpoint) (w.goes.done none))

    pub duties_done : All (λ (y : EndpointView × T). y.0.refused ≡ None) lasts → AllZip (λ (s t : Seat T). done s.duty s.desk t.duty t.desk) seats (map seat_of lasts)
    duties_done sound = all_zip (λ (s t : Seat T). done s.duty s.desk t.duty t.desk) seats (map seat_of lasts) (count_lasts ∙ sym (length-map lasts seat_of)) (λ i s t at there.
        let y = map_get seat_of lasts i t there in
        subst (λ (u : Seat T). done s.duty s.desk u.duty u.desk) y.2 (done_on i s y.0 (way i s y.0 at y.1) (all_at_place (λ (z : EndpointView × T). z.0.refused ≡ None) lasts i y.0 sound y.1)))

    -- a client after the phase, and its seat before it
    record Ended (i : ℕ) (y : EndpointView × T) : Type 0 where
      seat : Seat T
      here : slice_get seats i ≡ Some seat
      x : EndpointView × T
      client : IsClientOf boxes portions i seat x
      goes : HasDone done x.0 x.1 y.0 y.1

    ended : (i : ℕ) (y : EndpointView × T) → slice_get lasts i ≡ Some y → Ended i y
    ended i y at =
        let x = beside_left (λ (j : ℕ) (a b : EndpointView × T). HasDone done a.0 a.1 b.0 b.1) clients lasts i y worked at in
        let s = beside_left (IsClientOf boxes portions) seats clients i x.0 o.seated x.1 in
        record { seat = s.0; here = s.1; x = x.0; client = s.2; goes = x.2 }

    -- the way by mail of a client after the phase
    record MailAt (i : ℕ) (m : ByMail) (y : EndpointView × T) : Type 0 where
      there : slice_get lasts i ≡ Some y
      from : Ended i y
      all : HasEnded from.client.mail m

    same_mail : (t : Transport) (m n : ByMail) → t ≡ Mail m → t ≡ Mail n → n ≡ m
    same_mail t m n one other = let e : Mail n ≡ Mail m = sym other ∙ one in cc

    mail_of : (i : ℕ) (m : ByMail) (y : EndpointView × T) → slice_get lasts i ≡ Some y → y.0.transport ≡ Mail m → Ended i y → MailAt i m y
    mail_of i m y at is e =
        let n = e.goes.all e.client.mail (ap (λ (ks : EndpointView). ks.transport) e.client.endpoint) in
        record { there = at; from = e; all = subst (HasEnded e.client.mail) (same_mail y.0.transport m n.0 is n.1) n.2 }

    mail_at : (i : ℕ) (m : ByMail) → slice_get mails i ≡ Some m → (y : EndpointView × T) × MailAt i m y
    mail_at i m at =
        let y = map_get (λ (x : EndpointView × T). x.0.transport) lasts i (Mail m) (ap (λ (l : List Transport). slice_get l i) (sym ways) ∙ get_map (λ (z : ByMail). Mail z) mails i m at) in
        (y.0, mail_of i m y.0 y.1 y.2 (ended i y.0 y.1))

    count_mails : length mails ≡ length lasts
    count_mails = sym (length-map mails (λ (m : ByMail). Mail m)) ∙ ap length ways ∙ length-map lasts (λ (x : EndpointView × T). x.0.transport)

    pub mails_done : All (λ (m : ByMail). IsDone m.answers) mails
    mails_done = all_from_places (λ (m : ByMail). IsDone m.answers) mails (λ i m at. (mail_at i m at).1.all.done)

    goes_to : (k i : ℕ) (m : ByMail) (y : EndpointView × T) (all : MailAt i m y) (first answer_putter : AnswerPutter) → PutterAt k i first → answer_putter.inbox ≡ first.inbox → IsOfMail i m answer_putter
    goes_to k i m y all first answer_putter l inbox =
        inbox ∙ ap (λ (x : AnswerPutter). x.inbox) l.is ∙ ap (λ (b : Taking Answered ClientPlace). b.inbox) (slice_get-unique boxes i l.box all.from.client.mail.answers l.here all.from.client.answers) ∙ sym all.all.inbox

    own_of : (k : ℕ) (cell : CellView) (w v : WorkerView) → IsWorkerOf of (ids_of seats) rows k cell w → HasServed w v → (i : ℕ) (m : ByMail) (answer_putter : AnswerPutter) → slice_get mails i ≡ Some m → slice_get v.sents i ≡ Some answer_putter → IsOfMail i m answer_putter
    own_of k cell w v worker goes i m answer_putter to there =
        let first = beside_left (λ (j : ℕ) (a b : AnswerPutter). IsSamePutter j a b) w.answers v.sents i answer_putter goes.answered.same there in
        let y = mail_at i m to in
        goes_to k i m y.0 y.1 first.0 answer_putter (putter_at k cell w i first.0 worker first.1) first.2.inbox

    rows_of : (k : ℕ) (cell : CellView) (w v : WorkerView) → IsWorkerOf of (ids_of seats) rows k cell w → HasServed w v → Beside IsOfMail mails v.sents
    rows_of k cell w v worker goes = record {
      count = count_mails ∙ sym count_lasts ∙ sym (putters_count k cell w worker) ∙ goes.answered.same.count;
      each = own_of k cell w v worker goes;
    }

    row_own : (k : ℕ) (v : WorkerView) → slice_get ends k ≡ Some v → Beside IsOfMail mails v.sents
    row_own k v at =
        let w = beside_left (λ (j : ℕ) (a b : WorkerView). HasServed a b) workers ends k v served at in
        let cell = beside_left (IsWorkerOf of (ids_of seats) rows) row workers k w.0 o.nodes w.1 in
        rows_of k cell.0 w.0 v cell.2 w.2

    pub rows_own : All (λ (r : List AnswerPutter). Beside IsOfMail mails r) (map (λ (v : WorkerView). v.sents) ends)
    rows_own = all_from_places (λ (r : List AnswerPutter). Beside IsOfMail mails r) (map (λ (v : WorkerView). v.sents) ends) (λ k r at.
        let v = map_get (λ (x : WorkerView). x.sents) ends k r at in
        subst (λ (l : List AnswerPutter). Beside IsOfMail mails l) v.2 (row_own k v.0 v.1))

    rows_count : length row ≡ length (map (λ (v : WorkerView). v.sents) ends)
    rows_count = o.nodes.count ∙ served.count ∙ sym (length-map ends (λ (v : WorkerView). v.sents))

    -- a worker that served its cell
    served_cell : (k : ℕ) (old : CellView) (w v : WorkerView) → slice_get row k ≡ Some old → IsWorkerOf of (ids_of seats) rows k old w → HasServed w v → IsServed (ids_of seats) row k v.sents v.cell
    served_cell k old w v there worker goes = record {
      old = old;
      there = there;
      first = w.answers;
      numbers = λ i answer_putter here. ap (λ (x : AnswerPutter). x.number) (putter_at k old w i answer_putter worker here).is;
      count = putters_count k old w worker ∙ sym (length-map seats (λ (s : Seat T). s.desk.id));
      answered = subst (λ (c : CellView). HasAnswered (ids_of seats) c w.answers v.cell v.sents) worker.is (subst (λ (l : List ℕ). HasAnswered l w.cell w.answers v.cell v.sents) worker.box.clients goes.answered);
    }

    served_at : (k : ℕ) (v : WorkerView) → slice_get ends k ≡ Some v → IsServed (ids_of seats) row k v.sents v.cell
    served_at k v at =
        let w = beside_left (λ (j : ℕ) (a b : WorkerView). HasServed a b) workers ends k v served at in
        let old = beside_left (IsWorkerOf of (ids_of seats) rows) row workers k w.0 o.nodes w.1 in
        served_cell k old.0 w.0 v old.1 old.2 w.2

    served_as : (k : ℕ) (v : WorkerView) (r : List AnswerPutter) (cell : CellView) → slice_get ends k ≡ Some v → v.sents ≡ r → slice_get (map (λ (x : WorkerView). x.cell) ends) k ≡ Some cell → IsServed (ids_of seats) row k r cell
    served_as k v r cell at is to =
        subst (λ (c : CellView). IsServed (ids_of seats) row k r c) (slice_get-unique (map (λ (x : WorkerView). x.cell) ends) k v.cell cell (get_map (λ (x : WorkerView). x.cell) ends k v at) to)
        (subst (λ (l : List AnswerPutter). IsServed (ids_of seats) row k l v.cell) is (served_at k v at))

    is_served : (k : ℕ) (r : List AnswerPutter) (cell : CellView) → slice_get (map (λ (v : WorkerView). v.sents) ends) k ≡ Some r → slice_get (map (λ (v : WorkerView). v.cell) ends) k ≡ Some cell → IsServed (ids_of seats) row k r cell
    is_served k r cell at to = let v = map_get (λ (x : WorkerView). x.sents) ends k r at in served_as k v.0 r cell v.1 v.2 to

    worked_cell : (k : ℕ) (old : CellView) (w v : WorkerView) → IsWorkerOf of (ids_of seats) rows k old w → HasServed w v → HasWorked old v.cell
    worked_cell k old w v worker goes = record {
      charter = goes.answered.charter ∙ ap (λ (c : CellView). c.charter) worker.is;
      grew = (goes.answered.more, goes.answered.grew ∙ ap (λ (c : CellView). c.journal ++ goes.answered.more) worker.is);
    }

    worked_at : (k : ℕ) (old new : CellView) → slice_get row k ≡ Some old → slice_get (map (λ (v : WorkerView). v.cell) ends) k ≡ Some new → HasWorked old new
    worked_at k old new at to =
        let v = map_get (λ (x : WorkerView). x.cell) ends k new to in
        let w = beside_right (IsWorkerOf of (ids_of seats) rows) row workers k old o.nodes at in
        subst (HasWorked old) v.2 (worked_cell k old w.0 v.0 w.2 (served.each k w.0 v.0 w.1 v.1))

    pub cells_worked : AllZip HasWorked row (map (λ (v : WorkerView). v.cell) ends)
    cells_worked = all_zip HasWorked row (map (λ (v : WorkerView). v.cell) ends) (o.nodes.count ∙ served.count ∙ sym (length-map ends (λ (v : WorkerView). v.cell))) worked_at

    module _ (settled : All (λ (r : List AnswerPutter). Beside HasAllOf mails r) (map (λ (v : WorkerView). v.sents) ends)) (sound : All (λ (y : EndpointView × T). y.0.refused ≡ None) lasts)
        (agree : All (λ (y : EndpointView × T). y.0.refused ≡ None → Agree y.0.began y.0.desk y.0.transport) lasts) where
      abbrev transports : List Transport
      transports = map (λ (y : EndpointView × T). y.0.transport) lasts

      -- what was put into a client's inbox it took
      heard_by : (i : ℕ) (m : ByMail) (y : EndpointView × T) → slice_get mails i ≡ Some m → MailAt i m y → IsHeard (map (λ (v : WorkerView). v.sents) ends) i m
      heard_by i m y at mail =
          let box = o.answers.each i mail.from.seat mail.from.client.mail.answers mail.from.here mail.from.client.answers in
          let senders : m.answers.senders ≡ length (map (λ (v : WorkerView). v.sents) ends) = mail.all.senders ∙ box.count ∙ rows_count in
          record {
            senders = subst (λ (n : ℕ). All (λ (j : ℕ × Answered). j.0 < n) (took m.answers)) senders mail.all.known;
            items = λ k r answer_putter here to. (all_at_place (λ (l : List AnswerPutter). Beside HasAllOf mails l) (map (λ (v : WorkerView). v.sents) ends) k r settled here).each i m answer_putter at to;
          }

      heard_at : (i : ℕ) (m : ByMail) → slice_get mails i ≡ Some m → IsHeard (map (λ (v : WorkerView). v.sents) ends) i m
      heard_at i m at = let y = mail_at i m at in heard_by i m y.0 at y.1

      phase_of : Phase (ids_of seats) row (map (λ (v : WorkerView). v.cell) ends) (map (λ (v : WorkerView). v.sents) ends) mails transports
      phase_of = record {
        served = record { count = length-map ends (λ (v : WorkerView). v.sents) ∙ sym (length-map ends (λ (v : WorkerView). v.cell)); each = is_served };
        heard = heard_at;
        ways = ways;
        seats = length-map seats (λ (s : Seat T). s.desk.id) ∙ count_lasts ∙ sym count_mails;
      }

      desk_of : (i : ℕ) (y : EndpointView × T) → slice_get lasts i ≡ Some y → Ended i y → HasHeard (desks_of seats) i y.0.transport y.0.desk
      desk_of i y at e =
          let right = all_at_place (λ (x : EndpointView × T). x.0.refused ≡ None → Agree x.0.began x.0.desk x.0.transport) lasts i y agree at (all_at_place (λ (x : EndpointView × T). x.0.refused ≡ None) lasts i y sound at) in
          record {
            old = e.seat.desk;
            there = get_map (λ (x : Seat T). x.desk) seats i e.seat e.here;
            later = subst (λ (d : DeskView). IsLater d y.0.desk) (ap (λ (ks : EndpointView). ks.desk) e.client.endpoint) e.goes.later;
            agree = subst (λ (d : DeskView). Agree d y.0.desk y.0.transport) (e.goes.began ∙ ap (λ (ks : EndpointView). ks.began) e.client.endpoint) right;
          }

      desk_at : (i : ℕ) (t : Transport) (d : DeskView) → slice_get transports i ≡ Some t → slice_get (desks_of (map seat_of lasts)) i ≡ Some d → HasHeard (desks_of seats) i t d
      desk_at i t d at to =
          let y = map_get (λ (x : EndpointView × T). x.0.transport) lasts i t at in
          let there : slice_get (desks_of (map seat_of lasts)) i ≡ Some y.0.0.desk = get_map (λ (s : Seat T). s.desk) (map seat_of lasts) i (seat_of y.0) (get_map seat_of lasts i y.0 y.1) in
          subst (HasHeard (desks_of seats) i t) (slice_get-unique (desks_of (map seat_of lasts)) i y.0.0.desk d there to) (subst (λ (x : Transport). HasHeard (desks_of seats) i x y.0.0.desk) y.2 (desk_of i y.0 y.1 (ended i y.0 y.1)))

      pub pairs_again : PairsStand row (desks_of seats) → PairsStand (map (λ (v : WorkerView). v.cell) ends) (desks_of (map seat_of lasts))
      pairs_again pairs =
          pairs_stand row (map (λ (v : WorkerView). v.cell) ends) (desks_of seats) (desks_of (map seat_of lasts)) transports
          (record { count = o.nodes.count ∙ served.count ∙ sym (length-map ends (λ (v : WorkerView). v.cell)); each = worked_at })
          (just_told (ids_of seats) row (map (λ (v : WorkerView). v.cell) ends) (map (λ (v : WorkerView). v.sents) ends) mails transports phase_of)
          (record { count = length-map lasts (λ (y : EndpointView × T). y.0.transport) ∙ sym (length-map lasts seat_of) ∙ sym (length-map (map seat_of lasts) (λ (s : Seat T). s.desk)); each = desk_at })
          (length-map seats (λ (s : Seat T). s.desk) ∙ count_lasts ∙ sym (length-map lasts (λ (y : EndpointView × T). y.0.transport))) pairs
