-- Lemmas of `Opening`.
use Rattle.std.proofs.Common.{◌≡◌, ◌++◌, ◌∷◌, [], ◌+◌, length, length-append, reverse, sym, ap, subst, ◌∙◌, refl}
use Rattle.std.specs.declared.option.Option.TheVariants.{Some}
use Rattle.std.specs.Prelude.{slice_get}
use Rattle.std.specs.Vec.Iter.{into_iter_items, into_iter_len}
use Rattle.thread_work.proofs.lemmas.Places.{walk_on, walk_end}
use Rattle.inboxes.specs.Sides.{took_in}
use Rattle.client_endpoints.specs.declared.mail.ByMail.{ByMail}
use Rattle.node_workers.specs.declared.thread_state.ThreadState.TheVariants.{Client}
use Rattle.node_workers.specs.ThreadStates.{nodes_in, clients_in}
use Rattle.node_workers.specs.Opened.{IsClientOf}
use Rattle.node_workers.proofs.Opening.{UpTo, AreLeft, up_to_none, up_to_more, up_to_all, all_left, next_left, client_nodes, client_clients, here_of}
use Rattle.node_workers.proofs.open.open_clients.Goals as goal

pub loop-seat-init : goal.loop-seat-init
loop-seat-init g c =
    let gives = c.into_iter-seat-iterator.ensures.into_iter_gives in (
      [],
      (sym gives.0, gives.1 ∙ c.args.seats.ok.0 ∙ ap length (sym gives.0)),
      subst (UpTo (IsClientOf c.args.boxes c.args.putters.items) c.args.seats.items) (sym c.requires.clients) (up_to_none (IsClientOf c.args.boxes c.args.putters.items) c.args.seats.items),
      ap length c.requires.clients,
      refl,
      refl,
      all_left c.args.boxes c.reverse.new.self.items (c.reverse.ensures.items ∙ ap reverse c.into_vec-takers.ensures),
      all_left c.args.putters.items c.reverse-2.new.self.items c.reverse-2.ensures.items,
    )

pub new-endpoint-requires-clause-new : goal.new-endpoint-requires-clause-new
new-endpoint-requires-clause-new g c =
    let inv = c.loop-seat.invariant in
    let seat = c.in-Some.seat in
    let answers = c.in-Some-pop.answers in
    let rest = into_iter_items c.next.new.self in
    let at = here_of c.args.seats.items inv.0 rest seat (length inv.0) (inv.1.0 ∙ ap (λ l. inv.0 ++ l) c.in-Some.ensures.steps.0) refl in
    let next = next_left c.args.boxes c.loop-seat.takers.items c.pop.new.self.items answers (length inv.0) inv.6 c.in-Some-pop.ensures.items in
    ap (λ h. took_in h) (c.requires.boxes.2.each (length inv.0) seat answers at next.1).new

pub loop-seat-preserved : goal.loop-seat-preserved
loop-seat-preserved g c =
    let inv = c.loop-seat.invariant in
    let steps = c.in-Some.ensures.steps in
    let seats = c.args.seats.items in
    let boxes = c.args.boxes in
    let portions = c.args.putters.items in
    let seat = c.in-Some.seat in
    let answers = c.in-Some-pop.answers in
    let asks = c.in-Some-pop-2.asks in
    let rest = into_iter_items c.next.new.self in
    let was = c.loop-seat.states.items in
    let endpoint = c.new-endpoint.result in
    let pushed = c.in_ok-push.ensures.items in
    let clients : clients_in c.push.new.self.items ≡ clients_in was ++ (endpoint, seat.duty) ∷ [] = ap (λ l. clients_in l) pushed ∙ client_clients was (Client endpoint seat.duty) endpoint seat.duty refl in
    let nodes : nodes_in c.push.new.self.items ≡ nodes_in was = ap (λ l. nodes_in l) pushed ∙ client_nodes was (Client endpoint seat.duty) endpoint seat.duty refl in
    let at : slice_get seats (length (clients_in was)) ≡ Some seat = here_of seats inv.0 rest seat (length (clients_in was)) (inv.1.0 ∙ ap (λ l. inv.0 ++ l) steps.0) inv.3 in
    let box = next_left boxes c.loop-seat.takers.items c.pop.new.self.items answers (length inv.0) inv.6 c.in-Some-pop.ensures.items in
    let portion = next_left portions c.loop-seat.putters.items c.pop-in-loop-seat.new.self.items asks (length inv.0) inv.7 c.in-Some-pop-2.ensures.items in
    let mail : ByMail = record { seat = c.loop-seat.number; asks = c.into_vec.result; answers = answers } in
    let is : IsClientOf boxes portions (length (clients_in was)) seat (endpoint, seat.duty) = record {
      mail = mail;
      endpoint = c.new-endpoint.ensures;
      duty = refl;
      seat = inv.5 ∙ sym inv.3;
      asks = ap (slice_get portions) inv.3 ∙ portion.1 ∙ ap (λ l. Some l) (sym c.into_vec.ensures);
      answers = ap (slice_get boxes) inv.3 ∙ box.1;
    } in (
      inv.0 ++ seat ∷ [],
      walk_on seats inv.0 (into_iter_items c.loop-seat.seat-iterator) rest seat (into_iter_len c.loop-seat.seat-iterator) (into_iter_len c.next.new.self) inv.1 steps.0 steps.1,
      subst (UpTo (IsClientOf boxes portions) seats) (sym clients) (up_to_more (IsClientOf boxes portions) seats (clients_in was) seat (endpoint, seat.duty) inv.2 at is),
      ap length clients ∙ length-append (clients_in was) ((endpoint, seat.duty) ∷ []) ∙ ap (λ n. n + 1) inv.3 ∙ sym (length-append inv.0 (seat ∷ [])),
      nodes ∙ inv.4,
      ap (λ n. n + 1) inv.5 ∙ sym (length-append inv.0 (seat ∷ [])),
      subst (AreLeft boxes c.pop.new.self.items) (sym (length-append inv.0 (seat ∷ []))) box.0,
      subst (AreLeft portions c.pop-in-loop-seat.new.self.items) (sym (length-append inv.0 (seat ∷ []))) portion.0,
    )

pub returns-clause-clients : goal.returns-clause-clients
returns-clause-clients g c =
    let inv = c.loop-seat.invariant in
    let all = walk_end c.args.seats.items inv.0 (into_iter_items c.loop-seat.seat-iterator) (into_iter_len c.loop-seat.seat-iterator) inv.1 c.in-None.ensures.steps.0 in
    up_to_all (IsClientOf c.args.boxes c.args.putters.items) c.args.seats.items (clients_in c.loop-seat.states.items) inv.2 (inv.3 ∙ ap length (sym all))
