-- Lemmas of `Posting`.
use Rattle.std.proofs.Common.{◌≡◌, ◌++◌, ◌∷◌, [], List, length, map, reverse, ap, sym, subst, ◌∙◌, All, append-nil}
use Rattle.std.specs.declared.option.Option.TheVariants.{None}
use Rattle.std.specs.Vec.Iter.{into_iter_items, into_iter_len}
use Rattle.std.proofs.lemmas.List.{map-append}
use Rattle.std.proofs.lemmas.List.Elements.{All-nil, All-push}
use Rattle.client_endpoints.specs.Transports.{IsByLocks, AtRest}
use Rattle.client_endpoints.specs.Endpoint.{EndpointView, Agree}
use Rattle.phase_threads.specs.declared.duty.Seat.{Seat}
use Rattle.phase_threads.specs.declared.thread_state.ThreadState.{ThreadState}
use Rattle.phase_threads.specs.ThreadStates.{chits_of, clients_in, seat_of, chits_in, hand_of}
use Rattle.thread_work.proofs.lemmas.Places.{walk_on, walk_end}
use Rattle.phase_threads.proofs.Posting.{client_clients, courier_clients, client_among}
use Rattle.phase_threads.proofs.close.part.Goals as goal
use Rattle.lists.proofs.lemmas.Members.{all_at_place, slice_get-seam}

-- a list that was mapped, with one more
map_one : {X Y : Type 0} (f : X → Y) (xs : List X) (ys zs : List Y) (x : X) (y : Y) → ys ≡ map f xs → y ≡ f x → zs ≡ ys ++ y ∷ [] → zs ≡ map f (xs ++ x ∷ [])
map_one f xs ys zs x y was is pushed = pushed ∙ (λ i. was i ++ is i ∷ []) ∙ sym (map-append f xs (x ∷ []))

pub loop-state-init : goal.loop-state-init
loop-state-init g c =
    let gives = c.into_iter-state-iterator.ensures.into_iter_gives in (
      [],
      (sym gives.0, gives.1 ∙ c.args.states.ok.0 ∙ ap length (sym gives.0)),
      c.new-seats.ensures.items,
      c.new-portions.ensures.items,
      (λ none. All-nil (λ (x : EndpointView × g.row.T.Denot). x.0.refused ≡ None)),
      All-nil (λ (x : EndpointView × g.row.T.Denot). AtRest x.0.transport),
      All-nil (λ (x : EndpointView × g.row.T.Denot). x.0.refused ≡ None → Agree x.0.began x.0.desk x.0.transport),
    )

pub into_chits-requires : goal.into_chits-requires
into_chits-requires g c =
    let inv = c.loop-state.invariant in
    let state = c.in-Some.state in
    let endpoint = c.in-Client.endpoint in
    let duty = c.in-Client.duty in
    let rest = into_iter_items c.next.new.self in
    let list : c.args.states.items ≡ inv.0 ++ state ∷ rest = inv.1.0 ∙ ap (λ l. inv.0 ++ l) c.in-Some.ensures.steps.0 in
    let among = ap clients_in list ∙ client_among inv.0 rest state endpoint duty c.in-Client.is in
    let own = subst (All (λ (x : EndpointView × g.row.T.Denot). IsByLocks x.0.transport)) among c.requires in
    subst IsByLocks (sym c.into_parts-desk.ensures.transport)
    (all_at_place (λ (x : EndpointView × g.row.T.Denot). IsByLocks x.0.transport) (clients_in inv.0 ++ (endpoint, duty) ∷ clients_in rest) (length (clients_in inv.0)) (endpoint, duty) own (slice_get-seam (clients_in inv.0) (endpoint, duty) (clients_in rest)))

pub loop-state-preserved-in-Continue-branch-2 : goal.loop-state-preserved-in-Continue-branch-2
loop-state-preserved-in-Continue-branch-2 g c =
    let inv = c.loop-state.invariant in
    let steps = c.in-Some.ensures.steps in
    let state = c.in-Some.state in
    let endpoint = c.in-Client.endpoint in
    let duty = c.in-Client.duty in
    let parts = c.into_parts-desk in
    let x : EndpointView × g.row.T.Denot = (endpoint, duty) in
    let seat : Seat g.row.T.Denot = record { desk = parts.result.0; duty = duty } in
    let clients = client_clients inv.0 state endpoint duty c.in-Client.is in
    let chits : chits_in state ≡ c.into_chits.result.items = ap chits_in c.in-Client.is ∙ ap chits_of (sym parts.ensures.transport ∙ c.into_chits.ensures) in (
      inv.0 ++ state ∷ [],
      walk_on c.args.states.items inv.0 (into_iter_items c.loop-state.state-iterator) (into_iter_items c.next.new.self) state (into_iter_len c.loop-state.state-iterator) (into_iter_len c.next.new.self) inv.1 steps.0 steps.1,
      map_one seat_of (clients_in inv.0) c.loop-state.seats.items c.push.new.self.items x seat inv.2 (ap (λ d. record { desk = d; duty = duty }) parts.ensures.desk) c.in_ok-push-in-Client.ensures.items ∙ ap (map seat_of) (sym clients),
      map_one hand_of inv.0 c.loop-state.portions.items c.push-in-Client.new.self.items state c.turned.result inv.3 (c.turned.ensures ∙ ap reverse (sym chits)) c.in_ok-push-in-Client-2.ensures.items,
      (λ none.
          let both = c.first_refusal-refused.ensures.none.0 none in
          subst (All (λ (x : EndpointView × g.row.T.Denot). x.0.refused ≡ None)) (sym clients) (All-push (λ (x : EndpointView × g.row.T.Denot). x.0.refused ≡ None) (clients_in inv.0) x (inv.4 both.0) (sym c.refused.ensures ∙ both.1))),
      subst (All (λ (x : EndpointView × g.row.T.Denot). AtRest x.0.transport)) (sym clients) (All-push (λ (x : EndpointView × g.row.T.Denot). AtRest x.0.transport) (clients_in inv.0) x inv.5 parts.ensures.rest),
      subst (All (λ (x : EndpointView × g.row.T.Denot). x.0.refused ≡ None → Agree x.0.began x.0.desk x.0.transport)) (sym clients)
          (All-push (λ (x : EndpointView × g.row.T.Denot). x.0.refused ≡ None → Agree x.0.began x.0.desk x.0.transport) (clients_in inv.0) x inv.6 parts.ensures.agree),
    )

pub loop-state-preserved : goal.loop-state-preserved
loop-state-preserved g c =
    let inv = c.loop-state.invariant in
    let steps = c.in-Some.ensures.steps in
    let state = c.in-Some.state in
    let courier = c.in-Courier.courier in
    let clients = courier_clients inv.0 state courier c.in-Courier.is ∙ append-nil (clients_in inv.0) in
    let chits : chits_in state ≡ courier.chits.items = ap chits_in c.in-Courier.is in (
      inv.0 ++ state ∷ [],
      walk_on c.args.states.items inv.0 (into_iter_items c.loop-state.state-iterator) (into_iter_items c.next.new.self) state (into_iter_len c.loop-state.state-iterator) (into_iter_len c.next.new.self) inv.1 steps.0 steps.1,
      inv.2 ∙ ap (map seat_of) (sym clients),
      map_one hand_of inv.0 c.loop-state.portions.items c.push-in-Courier.new.self.items state c.turned-in-Courier.result inv.3 (c.turned-in-Courier.ensures ∙ ap reverse (sym chits)) c.in_ok-push-in-Courier.ensures.items,
      (λ none. subst (All (λ (x : EndpointView × g.row.T.Denot). x.0.refused ≡ None)) (sym clients) (inv.4 (c.first_refusal-refused-in-Courier.ensures.none.0 none).0)),
      subst (All (λ (x : EndpointView × g.row.T.Denot). AtRest x.0.transport)) (sym clients) inv.5,
      subst (All (λ (x : EndpointView × g.row.T.Denot). x.0.refused ≡ None → Agree x.0.began x.0.desk x.0.transport)) (sym clients) inv.6,
    )

pub returns-clause-seats : goal.returns-clause-seats
returns-clause-seats g c =
    let inv = c.loop-state.invariant in
    let all = walk_end c.args.states.items inv.0 (into_iter_items c.loop-state.state-iterator) (into_iter_len c.loop-state.state-iterator) inv.1 c.in-None.ensures.steps.0 in
    inv.2 ∙ ap (λ l. map seat_of (clients_in l)) (sym all)

pub returns-clause-portions : goal.returns-clause-portions
returns-clause-portions g c =
    let inv = c.loop-state.invariant in
    let all = walk_end c.args.states.items inv.0 (into_iter_items c.loop-state.state-iterator) (into_iter_len c.loop-state.state-iterator) inv.1 c.in-None.ensures.steps.0 in
    inv.3 ∙ ap (map hand_of) (sym all)

pub returns-clause-refused : goal.returns-clause-refused
returns-clause-refused g c none =
    let inv = c.loop-state.invariant in
    let all = walk_end c.args.states.items inv.0 (into_iter_items c.loop-state.state-iterator) (into_iter_len c.loop-state.state-iterator) inv.1 c.in-None.ensures.steps.0 in
    subst (λ (l : List (ThreadState g.row.T.Denot)). All (λ x. x.0.refused ≡ None) (clients_in l)) (sym all) (inv.4 none)

pub returns-clause-rest : goal.returns-clause-rest
returns-clause-rest g c =
    let inv = c.loop-state.invariant in
    let all = walk_end c.args.states.items inv.0 (into_iter_items c.loop-state.state-iterator) (into_iter_len c.loop-state.state-iterator) inv.1 c.in-None.ensures.steps.0 in
    subst (λ (l : List (ThreadState g.row.T.Denot)). All (λ x. AtRest x.0.transport) (clients_in l)) (sym all) inv.5

pub returns-clause-agree : goal.returns-clause-agree
returns-clause-agree g c =
    let inv = c.loop-state.invariant in
    let all = walk_end c.args.states.items inv.0 (into_iter_items c.loop-state.state-iterator) (into_iter_len c.loop-state.state-iterator) inv.1 c.in-None.ensures.steps.0 in
    subst (λ (l : List (ThreadState g.row.T.Denot)). All (λ x. x.0.refused ≡ None → Agree x.0.began x.0.desk x.0.transport) (clients_in l)) (sym all) inv.6
