-- A phase from its opening to its closing.
use Rattle.std.proofs.Common.{◌≡◌, ℕ, ◌+◌, List, [], ◌∷◌, length, map, sym, ap, subst, ◌∙◌, arith, inl, inr}
use Rattle.std.specs.declared.option.Option.TheVariants.{None, Some}
use Rattle.std.specs.Prelude.{All, slice_get, reverse}
use Rattle.std.specs.List.{AllZip, Contains}
use Rattle.std.proofs.lemmas.List.{length-map, reverse-reverse}
use Rattle.std.proofs.lemmas.List.Elements.{All-nil, All-cons, All-contains}
use Rattle.quorum_rules.specs.Limits.{Numbers}
use Rattle.event_clock.specs.Passes.{ClockId}
use Rattle.receipt_lock.specs.Chits.{Holder as Chit, Deposit}
use Rattle.locked_nodes.specs.declared.charter.Item.{Item}
use Rattle.locked_nodes.specs.declared.cell_shard.CellShard.{CellShard}
use Rattle.locked_nodes.specs.CellShards.{cell_shard_of, cell_shards_of}
use Rattle.locked_nodes.specs.Cells.{CellView}
use Rattle.client_desks.specs.Desks.{DeskView}
use Rattle.client_desks.specs.Later.{IsLater}
use Rattle.std.specs.Global.{Vec}
use Rattle.client_endpoints.specs.declared.shared_cells.Cells.TheVariants.{Vaults}
use Rattle.client_endpoints.specs.declared.transport.Transport.{Transport}
use Rattle.client_endpoints.specs.declared.transport.Transport.TheVariants.{Locks}
use Rattle.client_endpoints.specs.Transports.{route, AtRest, IsByLocks}
use Rattle.client_endpoints.specs.Endpoint.{EndpointView, SharedCellsView, Fixed, Agree, Fit}
use Rattle.phase_threads.specs.Told.{HasHeard}
use Rattle.phase_threads.specs.declared.duty.Seat.{Seat}
use Rattle.phase_threads.specs.declared.thread_state.ThreadState.{ThreadState}
use Rattle.phase_threads.specs.declared.thread_state.ThreadState.TheVariants.{Client, Courier as Carrier}
use Rattle.phase_threads.specs.declared.courier.Courier.{Courier}
use Rattle.phase_threads.specs.Carried.{IsAside, CanCarry, HasCarried}
use Rattle.phase_threads.specs.ThreadStates.{chits_of, clients_in, couriers_in, seat_of, chits_in, hand_of, IsReady, HasDone, CanWork, DidWork}
use Rattle.phase_threads.specs.Standing.{AreCells, IsDeskAt, PairsStand, HasWorked}
use Rattle.thread_work.specs.Pairwise.{Beside}
use Rattle.phase_threads.specs.Phased.{IsVaultOf, IsClientOf, AreStates, IsClosed, new_portion}
use Rattle.thread_work.proofs.lemmas.Places.{slice_get-unique, all_from_places, all_zip, get_map, map_get, beside_right, beside_left}
use Rattle.phase_threads.proofs.Opening.{portion_rests, portion_new, hand_aside, portion_vaults, shared_cells_of, new_fit, same_vaults, by_locks}
use Rattle.phase_threads.proofs.Posting.{can_all, all_posts, client_in, courier_in, client_post, posts_count, clients_worked, courier_worked}
use Rattle.phase_threads.proofs.Receipts.{IsPortion, IsGiven, HasHand, has_worked, just_told}
use Rattle.phase_threads.proofs.lemmas.Pairing.{pairs_stand}
use Rattle.lists.proofs.lemmas.Members.{all_at_place, place_of, Contains-slice_get}

abbrev pub desks_of : {T : Type 0} → List (Seat T) → List DeskView
desks_of seats = map (λ s. s.desk) seats

-- each portion is a new one
pub portions_rest : (vaults : List (Deposit Item)) (portions : List (List (Chit Item))) → All (λ (h : List (Chit Item)). h ≡ new_portion vaults) portions → All (λ (h : List (Chit Item)). All (λ (c : Chit Item). c.holds ≡ None) h) portions
portions_rest vaults portions same = all_from_places (λ (h : List (Chit Item)). All (λ (c : Chit Item). c.holds ≡ None) h) portions
    (λ k h at. subst (All (λ (c : Chit Item). c.holds ≡ None)) (sym (all_at_place (λ (g : List (Chit Item)). g ≡ new_portion vaults) portions k h same at)) (portion_rests vaults))

pub portions_new : (vaults : List (Deposit Item)) (portions : List (List (Chit Item))) → All (λ (h : List (Chit Item)). h ≡ new_portion vaults) portions → All (λ (h : List (Chit Item)). All (λ (c : Chit Item). c.mine ≡ []) h) portions
portions_new vaults portions same = all_from_places (λ (h : List (Chit Item)). All (λ (c : Chit Item). c.mine ≡ []) h) portions
    (λ k h at. subst (All (λ (c : Chit Item). c.mine ≡ [])) (sym (all_at_place (λ (g : List (Chit Item)). g ≡ new_portion vaults) portions k h same at)) (portion_new vaults))

abbrev pub shared_cells_with : ClockId → Vec (Deposit Item) → List CellShard → SharedCellsView
shared_cells_with clock vaults cell_shards = record { clock = clock; cell_shards = cell_shards; cells = Vaults vaults }

-- new thread states are ready
module _ {T : Type 0} (count : ℕ) (cells : List CellView) (vaults : Vec (Deposit Item)) (seats : List (Seat T)) (states : List (ThreadState T)) (opened : Beside (IsVaultOf count) cells vaults.items) (posted : AreStates (new_portion vaults.items) seats states) where
  abbrev firsts : List (EndpointView × T)
  firsts = clients_in states

  clients_ready : (ready : T → List CellShard → DeskView → Type 0) (config : Numbers) (clock : ClockId) (shared_cells : SharedCellsView) → shared_cells ≡ shared_cells_with clock vaults (cell_shards_of cells) → AreCells config clock cells → All (λ (s : Seat T). IsDeskAt config clock s.desk) seats → All (λ (s : Seat T). ready s.duty (cell_shards_of cells) s.desk) seats
      → All (λ (x : EndpointView × T). IsReady ready shared_cells x.0 x.1) firsts
  clients_ready ready config clock shared_cells is are desks can = all_from_places (λ (x : EndpointView × T). IsReady ready shared_cells x.0 x.1) firsts (λ i x at.
      let s = beside_left (IsClientOf (new_portion vaults.items)) seats firsts i x posted.clients at in
      let desk_is : x.0.desk ≡ s.0.desk = ap (λ (k : EndpointView). k.desk) s.2.endpoint in
      let desk : IsDeskAt config clock x.0.desk = subst (IsDeskAt config clock) (sym desk_is) (all_at_place (λ (y : Seat T). IsDeskAt config clock y.desk) seats i s.0 desks s.1) in
      let can_do : ready s.0.duty (cell_shards_of cells) s.0.desk = all_at_place (λ (y : Seat T). ready y.duty (cell_shards_of cells) y.desk) seats i s.0 can s.1 in
      let cell_shards : cell_shards_of cells ≡ shared_cells.cell_shards = ap (λ (f : SharedCellsView). f.cell_shards) (sym is) in
      record {
        fit = subst (Fit x.0) (sym is) (new_fit count cells vaults opened config clock x.0 s.2.chits are desk (ap (λ (k : EndpointView). k.transport) s.2.endpoint) s.2.list);
        sound = ap (λ (k : EndpointView). k.refused) s.2.endpoint;
        ready = subst (λ (l : List CellShard). ready x.1 l x.0.desk) cell_shards (subst (λ d. ready d (cell_shards_of cells) x.0.desk) (sym s.2.duty) (subst (ready s.0.duty (cell_shards_of cells)) (sym desk_is) can_do));
      })

  courier_can : (config : Numbers) (clock : ClockId) (shared_cells : SharedCellsView) → shared_cells ≡ shared_cells_with clock vaults (cell_shards_of cells) → AreCells config clock cells → CanCarry shared_cells posted.courier
  courier_can config clock shared_cells is are = subst (λ f. CanCarry f posted.courier) (sym is) (record {
    config = config;
    shared_cells = shared_cells_of count cells vaults opened config clock are;
    own = record {
      count = length-map cells (λ (c : CellView). cell_shard_of c.charter) ∙ opened.count;
      own = ap (map (λ (c : Chit Item). c.vault)) posted.list ∙ portion_vaults vaults.items;
    };
    rest = subst (All (λ (c : Chit Item). c.holds ≡ None)) (sym posted.list) (portion_rests vaults.items);
    aside = subst (All IsAside) (sym posted.list) (hand_aside vaults.items);
    sound = posted.sound;
  })

  pub posts_can : (ready : T → List CellShard → DeskView → Type 0) (config : Numbers) (clock : ClockId) (shared_cells : SharedCellsView) → shared_cells ≡ shared_cells_with clock vaults (cell_shards_of cells) → AreCells config clock cells → All (λ (s : Seat T). IsDeskAt config clock s.desk) seats → All (λ (s : Seat T). ready s.duty (cell_shards_of cells) s.desk) seats
      → All (CanWork ready shared_cells) states
  posts_can ready config clock shared_cells is are desks can =
      can_all ready shared_cells states (clients_ready ready config clock shared_cells is are desks can)
      (subst (All (CanCarry shared_cells)) (sym posted.one) (All-cons (CanCarry shared_cells) posted.courier [] (courier_can config clock shared_cells is are) (All-nil (CanCarry shared_cells))))

  module _ (done : T → DeskView → T → DeskView → Type 0) (ends : List (ThreadState T)) (went : Beside (λ i p q. DidWork done p q) states ends) where
    abbrev finals : List (EndpointView × T)
    finals = clients_in ends

    worked : Beside (λ i (x y : EndpointView × T). HasDone done x.0 x.1 y.0 y.1) firsts finals
    worked = clients_worked done states ends went

    last_courier : (d : Courier) × (couriers_in ends ≡ d ∷ []) × HasCarried posted.courier d
    last_courier = courier_worked done states ends posted.courier posted.one went

    -- a client after the phase, which began with a new portion
    record Ended (i : ℕ) (y : EndpointView × T) : Type 0 where
      seat : Seat T
      here : slice_get seats i ≡ Some seat
      before : EndpointView × T
      there : slice_get firsts i ≡ Some before
      client : IsClientOf (new_portion vaults.items) i seat before
      did : HasDone done before.0 before.1 y.0 y.1

    ended : (i : ℕ) (y : EndpointView × T) → slice_get finals i ≡ Some y → Ended i y
    ended i y at =
        let x = beside_left (λ i (x y : EndpointView × T). HasDone done x.0 x.1 y.0 y.1) firsts finals i y worked at in
        let s = beside_left (IsClientOf (new_portion vaults.items)) seats firsts i x.0 posted.clients x.1 in
        record { seat = s.0; here = s.1; before = x.0; there = x.1; client = s.2; did = x.2 }

    route_is : (i : ℕ) (y : EndpointView × T) (e : Ended i y) → route y.0.transport ≡ route (Locks e.client.chits)
    route_is i y e = ap (λ (f : Fixed). f.route) e.did.goes.stays ∙ ap (λ (k : EndpointView). route k.transport) e.client.endpoint

    began_is : (i : ℕ) (y : EndpointView × T) (e : Ended i y) → y.0.began ≡ e.seat.desk
    began_is i y e = ap (λ (f : Fixed). f.began) e.did.goes.stays ∙ ap (λ (k : EndpointView). k.began) e.client.endpoint

    by_chits : (i : ℕ) (y : EndpointView × T) → Ended i y → IsByLocks y.0.transport
    by_chits i y e = by_locks y.0.transport (map (λ (c : Chit Item). c.vault) e.client.chits.items) (route_is i y e)

    pub ends_locks : All (λ (y : EndpointView × T). IsByLocks y.0.transport) finals
    ends_locks = all_from_places (λ (y : EndpointView × T). IsByLocks y.0.transport) finals (λ i y at. by_chits i y (ended i y at))

    module _ (lasts : List (Seat T)) (left : lasts ≡ map seat_of finals) where
      -- a seat's client, before and after
      record Way (i : ℕ) (s t : Seat T) : Type 0 where
        after : EndpointView × T
        there : slice_get finals i ≡ Some after
        ended : Ended i after
        same : ended.seat ≡ s
        seat : t ≡ seat_of after

      seat_at : (i : ℕ) (t : Seat T) → slice_get lasts i ≡ Some t → (y : EndpointView × T) × (slice_get finals i ≡ Some y) × (seat_of y ≡ t)
      seat_at i t at = map_get seat_of finals i t (ap (λ l. slice_get l i) (sym left) ∙ at)

      way : (i : ℕ) (s t : Seat T) → slice_get seats i ≡ Some s → slice_get lasts i ≡ Some t → Way i s t
      way i s t at to =
          let y = seat_at i t to in
          let e = ended i y.0 y.1 in
          record { after = y.0; there = y.1; ended = e; same = slice_get-unique seats i e.seat s e.here at; seat = sym y.2 }

      count_lasts : length seats ≡ length lasts
      count_lasts = posted.clients.count ∙ worked.count ∙ sym (length-map finals seat_of) ∙ ap length (sym left)

      later_of : (i : ℕ) (y : EndpointView × T) (e : Ended i y) → IsLater e.seat.desk y.0.desk
      later_of i y e = subst (λ d. IsLater d y.0.desk) (ap (λ (k : EndpointView). k.desk) e.client.endpoint) e.did.goes.later

      later_at : (i : ℕ) (s t : Seat T) → slice_get seats i ≡ Some s → slice_get lasts i ≡ Some t → IsLater s.desk t.desk
      later_at i s t at to =
          let w = way i s t at to in
          subst (λ (x : Seat T). IsLater x.desk t.desk) w.same (subst (λ (x : Seat T). IsLater w.ended.seat.desk x.desk) (sym w.seat) (later_of i w.after w.ended))

      pub desks_later : AllZip (λ (s t : Seat T). IsLater s.desk t.desk) seats lasts
      desks_later = all_zip (λ (s t : Seat T). IsLater s.desk t.desk) seats lasts count_lasts later_at

      did_of : (i : ℕ) (y : EndpointView × T) (e : Ended i y) → y.0.refused ≡ None → done e.seat.duty e.seat.desk y.1 y.0.desk
      did_of i y e sound =
          subst (λ d. done d e.seat.desk y.1 y.0.desk) e.client.duty (subst (λ d. done e.before.1 d y.1 y.0.desk) (ap (λ (k : EndpointView). k.desk) e.client.endpoint) (e.did.done sound))

      pub duties_done : All (λ (y : EndpointView × T). y.0.refused ≡ None) finals → AllZip (λ (s t : Seat T). done s.duty s.desk t.duty t.desk) seats lasts
      duties_done sound = all_zip (λ (s t : Seat T). done s.duty s.desk t.duty t.desk) seats lasts count_lasts (λ i s t at to.
          let w = way i s t at to in
          let is = did_of i w.after w.ended (all_at_place (λ (y : EndpointView × T). y.0.refused ≡ None) finals i w.after sound w.there) in
          subst (λ (x : Seat T). done x.duty x.desk t.duty t.desk) w.same (subst (λ (x : Seat T). done w.ended.seat.duty w.ended.seat.desk x.duty x.desk) (sym w.seat) is))

      module _ (portions : List (List (Chit Item))) (given : portions ≡ map hand_of ends) where
        -- the thread states behind the portions that are left
        post_at : (i : ℕ) (h : List (Chit Item)) → slice_get portions i ≡ Some h → (q : ThreadState T) × (slice_get ends i ≡ Some q) × (reverse h ≡ chits_in q)
        post_at i h at =
            let q = map_get hand_of ends i h (ap (λ l. slice_get l i) (sym given) ∙ at) in
            (q.0, q.1, ap reverse (sym q.2) ∙ reverse-reverse (chits_in q.0))

        all_portions : (P : List (Chit Item) → Type 0) → All (λ (q : ThreadState T). P (chits_in q)) ends → All (λ (h : List (Chit Item)). P (reverse h)) portions
        all_portions P all = all_from_places (λ (h : List (Chit Item)). P (reverse h)) portions (λ i h at.
            let q = post_at i h at in
            subst P (sym q.2) (all_at_place (λ (p : ThreadState T). P (chits_in p)) ends i q.0 all q.1))

        abbrev AreOwn : List (Chit Item) → Type 0
        AreOwn chits = map (λ (c : Chit Item). c.vault) chits ≡ map (λ (v : Deposit Item). v.id) vaults.items

        client_own : (i : ℕ) (y : EndpointView × T) → Ended i y → AreOwn (chits_of y.0.transport)
        client_own i y e =
            let by = by_chits i y e in
            ap (λ (t : Transport). map (λ (c : Chit Item). c.vault) (chits_of t)) by.1
            ∙ same_vaults (map (λ (c : Chit Item). c.vault) by.0.items) (map (λ (c : Chit Item). c.vault) e.client.chits.items) (ap route (sym by.1) ∙ route_is i y e)
            ∙ ap (map (λ (c : Chit Item). c.vault)) e.client.list ∙ portion_vaults vaults.items

        one_all : (P : Courier → Type 0) → P last_courier.0 → All P (couriers_in ends)
        one_all P is = subst (All P) (sym last_courier.1) (All-cons P last_courier.0 [] is (All-nil P))

        pub portions_own : All (λ (h : List (Chit Item)). map (λ (c : Chit Item). c.vault) (reverse h) ≡ map (λ (v : Deposit Item). v.id) vaults.items) portions
        portions_own = all_portions AreOwn (all_posts (λ (q : ThreadState T). AreOwn (chits_in q)) ends
            (all_from_places (λ (y : EndpointView × T). AreOwn (chits_of y.0.transport)) finals (λ i y at. client_own i y (ended i y at)))
            (one_all (λ (d : Courier). AreOwn d.chits.items) (last_courier.2.own ∙ ap (map (λ (c : Chit Item). c.vault)) posted.list ∙ portion_vaults vaults.items)))

        rest_of : (t : Transport) → IsByLocks t → AtRest t → All (λ (c : Chit Item). c.holds ≡ None) (chits_of t)
        rest_of t by rest = subst (λ (x : Transport). All (λ (c : Chit Item). c.holds ≡ None) (chits_of x)) (sym by.1) (subst AtRest by.1 rest)

        pub portions_left : All (λ (y : EndpointView × T). AtRest y.0.transport) finals → All (λ (h : List (Chit Item)). All (λ (c : Chit Item). c.holds ≡ None) (reverse h)) portions
        portions_left rests = all_portions (All (λ (c : Chit Item). c.holds ≡ None)) (all_posts (λ (q : ThreadState T). All (λ (c : Chit Item). c.holds ≡ None) (chits_in q)) ends
            (all_from_places (λ (y : EndpointView × T). All (λ (c : Chit Item). c.holds ≡ None) (chits_of y.0.transport)) finals (λ i y at.
            rest_of y.0.transport (by_chits i y (ended i y at)) (all_at_place (λ (z : EndpointView × T). AtRest z.0.transport) finals i y rests at)))
            (one_all (λ (d : Courier). All (λ (c : Chit Item). c.holds ≡ None) d.chits.items) last_courier.2.rest))

        hands_count : length portions ≡ length seats + 1
        hands_count =
            let all = ap length given ∙ length-map ends hand_of in
            let one : length (couriers_in ends) ≡ 1 = ap length last_courier.1 in
            omega (arith, all, posts_count ends, one, worked.count, posted.clients.count)

        pub chits_all : count ≡ length seats + 1 → All (λ (v : Deposit Item). v.chits ≡ length portions) vaults.items
        chits_all many = all_from_places (λ (v : Deposit Item). v.chits ≡ length portions) vaults.items (λ k v at.
            let cell = beside_left (IsVaultOf count) cells vaults.items k v opened at in
            cell.2.chits ∙ many ∙ sym hands_count)

        module _ (now : List CellView) (closed : Beside (IsClosed portions) vaults.items now) where
          worked_at : (k : ℕ) (old new : CellView) → slice_get cells k ≡ Some old → slice_get now k ≡ Some new → HasWorked old new
          worked_at k old new at to =
              let v = beside_right (IsVaultOf count) cells vaults.items k old opened at in
              has_worked old new v.0.id.begun v.2.begun (closed.each k v.0 new v.1 to).settled.begins

          pub cells_worked : AllZip HasWorked cells now
          cells_worked = all_zip HasWorked cells now (opened.count ∙ closed.count) worked_at

          module _ (sound : All (λ (y : EndpointView × T). y.0.refused ≡ None) finals) (agree : All (λ (y : EndpointView × T). y.0.refused ≡ None → Agree y.0.began y.0.desk y.0.transport) finals) where
            abbrev transports : List Transport
            transports = map (λ (y : EndpointView × T). y.0.transport) finals

            -- the portion of a client's thread state is that of its transport
            hand_is : (i : ℕ) (y : EndpointView × T) (h : List (Chit Item)) → Ended i y → reverse h ≡ chits_of y.0.transport → IsPortion y.0.transport h
            hand_is i y h e is = let by = by_chits i y e in record { chits = by.0; is = by.1; list = sym (is ∙ ap chits_of by.1) }

            given_by : (h : List (Chit Item)) (q : ThreadState T) → Contains ends q → reverse h ≡ chits_in q → IsGiven transports h
            given_by h (Client endpoint duty) has is =
                let place = place_of finals (endpoint, duty) (client_in ends endpoint duty has) in
                inl (record {
                  seat = place.0;
                  transport = endpoint.transport;
                  there = get_map (λ (y : EndpointView × T). y.0.transport) finals place.0 (endpoint, duty) place.1;
                  is = hand_is place.0 (endpoint, duty) h (ended place.0 (endpoint, duty) place.1) is;
                })
            given_by h (Carrier c) has is =
                inr (subst (All IsAside) (sym is) (All-contains (λ (d : Courier). All IsAside d.chits.items) (couriers_in ends) c (one_all (λ (d : Courier). All IsAside d.chits.items) last_courier.2.aside) (courier_in ends c has)))

            given_at : (i : ℕ) (h : List (Chit Item)) → slice_get portions i ≡ Some h → IsGiven transports h
            given_at i h at = let q = post_at i h at in given_by h q.0 (Contains-slice_get ends i q.0 q.1) q.2

            back_at : (i : ℕ) (t : Transport) → slice_get transports i ≡ Some t → HasHand portions t
            back_at i t at =
                let y = map_get (λ (z : EndpointView × T). z.0.transport) finals i t at in
                let place = place_of ends (Client y.0.0 y.0.1) (client_post ends y.0 (Contains-slice_get finals i y.0 y.1)) in
                let portion : List (Chit Item) = hand_of (Client y.0.0 y.0.1) in
                record {
                  place = place.0;
                  portion = portion;
                  there = ap (λ l. slice_get l place.0) given ∙ get_map hand_of ends place.0 (Client y.0.0 y.0.1) place.1;
                  is = subst (λ (x : Transport). IsPortion x portion) y.2 (hand_is i y.0 portion (ended i y.0 y.1) (reverse-reverse (chits_of y.0.0.transport)));
                }

            heard_by : (i : ℕ) (y : EndpointView × T) → slice_get finals i ≡ Some y → HasHeard (desks_of seats) i y.0.transport y.0.desk
            heard_by i y at =
                let e = ended i y at in
                let right = all_at_place (λ (z : EndpointView × T). z.0.refused ≡ None → Agree z.0.began z.0.desk z.0.transport) finals i y agree at (all_at_place (λ (z : EndpointView × T). z.0.refused ≡ None) finals i y sound at) in
                record {
                  old = e.seat.desk;
                  there = get_map (λ (s : Seat T). s.desk) seats i e.seat e.here;
                  later = later_of i y e;
                  agree = subst (λ d. Agree d y.0.desk y.0.transport) (began_is i y e) right;
                }

            heard_at : (i : ℕ) (t : Transport) (d : DeskView) → slice_get transports i ≡ Some t → slice_get (desks_of lasts) i ≡ Some d → HasHeard (desks_of seats) i t d
            heard_at i t d at to =
                let s = map_get (λ (s : Seat T). s.desk) lasts i d to in
                let y = seat_at i s.0 s.1 in
                let same : y.0.0.transport ≡ t = slice_get-unique transports i y.0.0.transport t (get_map (λ (z : EndpointView × T). z.0.transport) finals i y.0 y.1) at in
                subst (HasHeard (desks_of seats) i t) (ap (λ (x : Seat T). x.desk) y.2 ∙ s.2) (subst (λ (x : Transport). HasHeard (desks_of seats) i x y.0.0.desk) same (heard_by i y.0 y.1))

            pub pairs_again : PairsStand cells (desks_of seats) → PairsStand now (desks_of lasts)
            pairs_again pairs =
                pairs_stand cells now (desks_of seats) (desks_of lasts) transports (record { count = opened.count ∙ closed.count; each = worked_at })
                (just_told count cells now vaults.items portions transports (record { opened = opened; closed = closed; own = λ i h at. all_at_place (λ (g : List (Chit Item)). AreOwn (reverse g)) portions i h portions_own at; given = given_at; back = back_at }))
                (record { count = length-map finals (λ (y : EndpointView × T). y.0.transport) ∙ sym (length-map finals seat_of) ∙ ap length (sym left) ∙ sym (length-map lasts (λ (s : Seat T). s.desk)); each = heard_at })
                (length-map seats (λ (s : Seat T). s.desk) ∙ posted.clients.count ∙ worked.count ∙ sym (length-map finals (λ (y : EndpointView × T). y.0.transport))) pairs
