-- Lemmas of `Opening`.
use Rattle.std.proofs.Common.{◌≡◌, ◌++◌, ◌∷◌, [], List, map, sym, ap, subst, ◌∙◌, All}
use Rattle.std.specs.declared.option.Option.TheVariants.{None}
use Rattle.std.specs.Vec.Iter.{into_iter_items, into_iter_len}
use Rattle.std.proofs.lemmas.List.{map-append}
use Rattle.std.proofs.lemmas.List.Elements.{All-push}
use Rattle.thread_work.proofs.lemmas.Places.{walk_on, walk_end}
use Rattle.client_endpoints.specs.declared.mail.ByMail.{ByMail}
use Rattle.client_endpoints.specs.declared.transport.Transport.TheVariants.{Mail}
use Rattle.client_endpoints.specs.Transports.{IsByMail}
use Rattle.client_endpoints.specs.Endpoint.{EndpointView, Agree}
use Rattle.node_workers.specs.Workers.{WorkerView}
use Rattle.node_workers.specs.declared.thread_state.ThreadState.{ThreadState}
use Rattle.node_workers.specs.ThreadStates.{nodes_in, clients_in, seat_of}
use Rattle.node_workers.proofs.Opening.{node_nodes, node_clients, client_nodes, client_clients, client_at, map_more}
use Rattle.node_workers.proofs.close.part.Goals as goal
use Rattle.lists.proofs.lemmas.Members.{all_at_place}

pub loop-state-preserved-in-Continue-branch-2 : goal.loop-state-preserved-in-Continue-branch-2
loop-state-preserved-in-Continue-branch-2 g c =
    let inv = c.loop-state.invariant in
    let steps = c.in-Some.ensures.steps in
    let state = c.in-Some.state in
    let worker = c.in-Node.worker in
    let nodes = node_nodes inv.0 state worker c.in-Node.is in
    let clients = node_clients inv.0 state worker c.in-Node.is in (
      inv.0 ++ state ∷ [],
      walk_on c.args.states.items inv.0 (into_iter_items c.loop-state.state-iterator) (into_iter_items c.next.new.self) state (into_iter_len c.loop-state.state-iterator) (into_iter_len c.next.new.self) inv.1 steps.0 steps.1,
      map_more (λ (w : WorkerView). w.cell) (nodes_in inv.0) (nodes_in (inv.0 ++ state ∷ [])) worker c.loop-state.cells.items c.push.new.self.items c.into_parts-cell.result.0 inv.2 c.into_parts-cell.ensures.cell nodes c.in_ok-push-in-Node.ensures.items,
      map_more (λ (w : WorkerView). w.sents) (nodes_in inv.0) (nodes_in (inv.0 ++ state ∷ [])) worker c.loop-state.rows.items c.push-in-Node.new.self.items c.from_vec.result inv.3 (c.from_vec.ensures ∙ c.into_parts-cell.ensures.sents) nodes c.in_ok-push-in-Node-2.ensures.items,
      inv.4 ∙ ap (map seat_of) (sym clients),
      inv.5 ∙ ap (map (λ (x : EndpointView × g.row.T.Denot). x.0.transport)) (sym clients),
      (λ none. subst (All (λ (x : EndpointView × g.row.T.Denot). x.0.refused ≡ None)) (sym clients) (inv.6 none)),
      subst (All (λ (x : EndpointView × g.row.T.Denot). x.0.refused ≡ None → Agree x.0.began x.0.desk x.0.transport)) (sym clients) inv.7,
    )

pub into_mail-requires : goal.into_mail-requires
into_mail-requires g c =
    let inv = c.loop-state.invariant in
    let steps = c.in-Some.ensures.steps in
    let state = c.in-Some.state in
    let endpoint = c.in-Client.endpoint in
    let duty = c.in-Client.duty in
    let rest = into_iter_items c.next.new.self in
    let list : c.args.states.items ≡ inv.0 ++ state ∷ rest = inv.1.0 ∙ ap (λ l. inv.0 ++ l) steps.0 in
    subst IsByMail (sym c.into_parts-desk.ensures.transport)
    (all_at_place (λ (x : EndpointView × g.row.T.Denot). IsByMail x.0.transport) (clients_in c.args.states.items) _ (endpoint, duty) c.requires (client_at c.args.states.items inv.0 rest state endpoint duty list c.in-Client.is))

pub loop-state-preserved : goal.loop-state-preserved
loop-state-preserved g c =
    let inv = c.loop-state.invariant in
    let steps = c.in-Some.ensures.steps in
    let state = c.in-Some.state in
    let endpoint = c.in-Client.endpoint in
    let duty = c.in-Client.duty in
    let parts = c.into_parts-desk in
    let mail = c.into_mail.result in
    let was = c.loop-state.mails.items in
    let nodes = client_nodes inv.0 state endpoint duty c.in-Client.is in
    let clients = client_clients inv.0 state endpoint duty c.in-Client.is in (
      inv.0 ++ state ∷ [],
      walk_on c.args.states.items inv.0 (into_iter_items c.loop-state.state-iterator) (into_iter_items c.next.new.self) state (into_iter_len c.loop-state.state-iterator) (into_iter_len c.next.new.self) inv.1 steps.0 steps.1,
      inv.2 ∙ ap (map (λ (w : WorkerView). w.cell)) (sym nodes),
      inv.3 ∙ ap (map (λ (w : WorkerView). w.sents)) (sym nodes),
      map_more seat_of (clients_in inv.0) (clients_in (inv.0 ++ state ∷ [])) (endpoint, duty) c.loop-state.seats.items c.push-in-Client.new.self.items (record { desk = parts.result.0; duty = duty }) inv.4 (ap (λ d. record { desk = d; duty = duty }) parts.ensures.desk) clients c.in_ok-push-in-Client.ensures.items,
      map_more (λ (x : EndpointView × g.row.T.Denot). x.0.transport) (clients_in inv.0) (clients_in (inv.0 ++ state ∷ [])) (endpoint, duty) (map (λ (m : ByMail). Mail m) was) (map (λ (m : ByMail). Mail m) c.push-in-Client-2.new.self.items) (Mail mail) inv.5 (sym c.into_mail.ensures ∙ parts.ensures.transport) clients (ap (map (λ (m : ByMail). Mail m)) c.in_ok-push-in-Client-2.ensures.items ∙ map-append (λ (m : ByMail). Mail m) was (mail ∷ [])),
      (λ none.
          let both = c.first_refusal-refused.ensures.none.0 none in
          subst (All (λ (x : EndpointView × g.row.T.Denot). x.0.refused ≡ None)) (sym clients) (All-push (λ (x : EndpointView × g.row.T.Denot). x.0.refused ≡ None) (clients_in inv.0) (endpoint, duty) (inv.6 both.0) (sym c.refused.ensures ∙ both.1))),
      subst (All (λ (x : EndpointView × g.row.T.Denot). x.0.refused ≡ None → Agree x.0.began x.0.desk x.0.transport)) (sym clients)
          (All-push (λ (x : EndpointView × g.row.T.Denot). x.0.refused ≡ None → Agree x.0.began x.0.desk x.0.transport) (clients_in inv.0) (endpoint, duty) inv.7 parts.ensures.agree),
    )

pub returns-clause-cells : goal.returns-clause-cells
returns-clause-cells g c =
    let inv = c.loop-state.invariant in
    let all = walk_end c.args.states.items inv.0 (into_iter_items c.loop-state.state-iterator) (into_iter_len c.loop-state.state-iterator) inv.1 c.in-None.ensures.steps.0 in
    inv.2 ∙ ap (λ l. map (λ (w : WorkerView). w.cell) (nodes_in l)) (sym all)

pub returns-clause-rows : goal.returns-clause-rows
returns-clause-rows g c =
    let inv = c.loop-state.invariant in
    let all = walk_end c.args.states.items inv.0 (into_iter_items c.loop-state.state-iterator) (into_iter_len c.loop-state.state-iterator) inv.1 c.in-None.ensures.steps.0 in
    inv.3 ∙ ap (λ l. map (λ (w : WorkerView). w.sents) (nodes_in l)) (sym all)

pub returns-clause-seats : goal.returns-clause-seats
returns-clause-seats g c =
    let inv = c.loop-state.invariant in
    let all = walk_end c.args.states.items inv.0 (into_iter_items c.loop-state.state-iterator) (into_iter_len c.loop-state.state-iterator) inv.1 c.in-None.ensures.steps.0 in
    inv.4 ∙ ap (λ l. map seat_of (clients_in l)) (sym all)

pub returns-clause-mails : goal.returns-clause-mails
returns-clause-mails g c =
    let inv = c.loop-state.invariant in
    let all = walk_end c.args.states.items inv.0 (into_iter_items c.loop-state.state-iterator) (into_iter_len c.loop-state.state-iterator) inv.1 c.in-None.ensures.steps.0 in
    inv.5 ∙ ap (λ l. map (λ (x : EndpointView × g.row.T.Denot). x.0.transport) (clients_in l)) (sym all)

pub returns-clause-refused : goal.returns-clause-refused
returns-clause-refused g c none =
    let inv = c.loop-state.invariant in
    let all = walk_end c.args.states.items inv.0 (into_iter_items c.loop-state.state-iterator) (into_iter_len c.loop-state.state-iterator) inv.1 c.in-None.ensures.steps.0 in
    subst (λ (l : List (ThreadState g.row.T.Denot)). All (λ x. x.0.refused ≡ None) (clients_in l)) (sym all) (inv.6 none)

pub returns-clause-agree : goal.returns-clause-agree
returns-clause-agree g c =
    let inv = c.loop-state.invariant in
    let all = walk_end c.args.states.items inv.0 (into_iter_items c.loop-state.state-iterator) (into_iter_len c.loop-state.state-iterator) inv.1 c.in-None.ensures.steps.0 in
    subst (λ (l : List (ThreadState g.row.T.Denot)). All (λ x. x.0.refused ≡ None → Agree x.0.began x.0.desk x.0.transport) (clients_in l)) (sym all) inv.7
