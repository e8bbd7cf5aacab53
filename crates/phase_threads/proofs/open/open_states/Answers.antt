use Rattle.std.proofs.Common.{◌≡◌, ◌+◌, ◌++◌, ◌∷◌, [], Some, List, length, sym, ap, subst, ◌∙◌, refl, arith, All, length-append, append-nil}
use Rattle.std.specs.declared.option.Option.TheVariants.{None}
use Rattle.std.specs.Vec.Iter.{into_iter_items, into_iter_len}
use Rattle.std.proofs.lemmas.List.Elements.{All-pop}
use Rattle.receipt_lock.specs.Chits.{Holder as Chit}
use Rattle.locked_nodes.specs.declared.charter.Item.{Item}
use Rattle.phase_threads.specs.declared.thread_state.ThreadState.{ThreadState}
use Rattle.thread_work.specs.Pairwise.{Beside}
use Rattle.phase_threads.specs.declared.thread_state.ThreadState.TheVariants.{Client, Courier as Carrier}
use Rattle.phase_threads.specs.declared.courier.Courier.{Courier}
use Rattle.client_endpoints.specs.Endpoint.{EndpointView}
use Rattle.phase_threads.specs.ThreadStates.{clients_in, couriers_in}
use Rattle.phase_threads.specs.Phased.{IsClientOf}
use Rattle.phase_threads.proofs.Posting.{client_clients, client_couriers, courier_clients, courier_couriers}
use Rattle.thread_work.proofs.lemmas.Places.{none_beside, push_beside, walk_on, walk_end}
use Rattle.phase_threads.proofs.open.open_states.Goals as goal

pub loop-seat-init : goal.loop-seat-init
loop-seat-init g c =
    let gives = c.into_iter-seat-iterator.ensures.into_iter_gives in
    let none = c.new-states.ensures.items in
    let count : into_iter_len c.into_iter-seat-iterator.result ≡ length c.args.seats.items = gives.1 ∙ c.args.seats.ok.0 in (
      [],
      (sym gives.0, count ∙ ap length (sym gives.0)),
      c.requires.enough ∙ ap (λ n. n + 1) (sym count),
      c.requires.rest,
      c.requires.new,
      (λ portion same. (same, subst (λ (l : List (ThreadState g.row.T.Denot)). Beside (IsClientOf portion) [] (clients_in l)) (sym none) (none_beside (IsClientOf portion)))),
      ap couriers_in none,
    )

pub unreachable-requires : goal.unreachable-requires
unreachable-requires g c =
    let inv = c.loop-seat.invariant in
    let none = c.in_default.ensures.cases.0 in
    let own = c.loop-seat.portions.ok.0 in
    omega (arith, inv.2, none, own)

pub new-endpoint-requires-clause-rest : goal.new-endpoint-requires-clause-rest
new-endpoint-requires-clause-rest g c =
    let inv = c.loop-seat.invariant in
    let portion = c.in-Some-pop.portion in
    subst (All (λ (x : Chit Item). x.holds ≡ None)) (sym c.into_vec.ensures)
    (All-pop (λ (h : List (Chit Item)). All (λ (x : Chit Item). x.holds ≡ None) h) c.loop-seat.portions.items c.pop.new.self.items (Some portion) c.in-Some-pop.ensures.items inv.3).1

pub new-endpoint-requires-clause-new : goal.new-endpoint-requires-clause-new
new-endpoint-requires-clause-new g c =
    let inv = c.loop-seat.invariant in
    let portion = c.in-Some-pop.portion in
    subst (All (λ (x : Chit Item). x.mine ≡ [])) (sym c.into_vec.ensures)
    (All-pop (λ (h : List (Chit Item)). All (λ (x : Chit Item). x.mine ≡ []) h) c.loop-seat.portions.items c.pop.new.self.items (Some portion) c.in-Some-pop.ensures.items inv.4).1

pub loop-seat-preserved : goal.loop-seat-preserved
loop-seat-preserved g c =
    let inv = c.loop-seat.invariant in
    let steps = c.in-Some.ensures.steps in
    let seat = c.in-Some.seat in
    let portion = c.in-Some-pop.portion in
    let was = c.loop-seat.portions.items in
    let now = c.pop.new.self.items in
    let popped = c.in-Some-pop.ensures.items in
    let few = ap length popped in
    let endpoint = c.new-endpoint.result in
    let x : EndpointView × g.row.T.Denot = (endpoint, seat.duty) in
    let pushed = c.in_ok-push.ensures.items in
    let before = c.loop-seat.states.items in
    let more : clients_in c.push.new.self.items ≡ clients_in before ++ x ∷ [] = ap clients_in pushed ∙ client_clients before (Client endpoint seat.duty) endpoint seat.duty refl in (
      inv.0 ++ seat ∷ [],
      walk_on c.args.seats.items inv.0 (into_iter_items c.loop-seat.seat-iterator) (into_iter_items c.next.new.self) seat (into_iter_len c.loop-seat.seat-iterator) (into_iter_len c.next.new.self) inv.1 steps.0 steps.1,
      omega (arith, few, inv.2, steps.1, length-append now (portion ∷ [])),
      (All-pop (λ (h : List (Chit Item)). All (λ (x : Chit Item). x.holds ≡ None) h) was now (Some portion) popped inv.3).0,
      (All-pop (λ (h : List (Chit Item)). All (λ (x : Chit Item). x.mine ≡ []) h) was now (Some portion) popped inv.4).0,
      (λ all same.
          let so = inv.5 all same in
          let p = All-pop (λ (h : List (Chit Item)). h ≡ all) was now (Some portion) popped so.0 in
          let chits = c.into_vec.ensures ∙ p.1 in
          let is : IsClientOf all (length inv.0) seat x = record { chits = c.into_vec.result; list = chits; endpoint = c.new-endpoint.ensures; duty = refl } in
          (p.0, subst (Beside (IsClientOf all) (inv.0 ++ seat ∷ [])) (sym more) (push_beside (IsClientOf all) inv.0 (clients_in before) seat x so.1 is))),
      ap couriers_in pushed ∙ client_couriers before (Client endpoint seat.duty) endpoint seat.duty refl inv.6,
    )

pub returns : goal.returns
returns g c =
    let inv = c.loop-seat.invariant in
    let all = walk_end c.args.seats.items inv.0 (into_iter_items c.loop-seat.seat-iterator) (into_iter_len c.loop-seat.seat-iterator) inv.1 c.in-None.ensures.steps.0 in
    let was = c.loop-seat.states.items in
    let portion = c.in-Some-pop-2.portion in
    let courier : Courier = record { chits = c.into_vec-2.result; refused = None } in
    let pushed = c.in_ok-push-2.ensures.items in
    λ like same.
    let so = inv.5 like same in
    let last = (All-pop (λ (h : List (Chit Item)). h ≡ like) c.loop-seat.portions.items c.pop-2.new.self.items (Some portion) c.in-Some-pop-2.ensures.items so.0).1 in
    let clients : clients_in c.push-2.new.self.items ≡ clients_in was = ap clients_in pushed ∙ courier_clients was (Carrier courier) courier refl ∙ append-nil (clients_in was) in
    record {
      clients = subst (λ l. Beside (IsClientOf like) c.args.seats.items l) (sym clients) (subst (λ l. Beside (IsClientOf like) l (clients_in was)) (sym all) so.1);
      courier = courier;
      one = ap couriers_in pushed ∙ courier_couriers was (Carrier courier) courier refl inv.6;
      list = c.into_vec-2.ensures ∙ last;
      sound = refl;
    }
