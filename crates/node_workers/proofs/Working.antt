-- Thread states before their threads work and after.
use Rattle.std.proofs.Common.{◌≡◌, ℕ, suc, List, [], ◌∷◌, refl, sym, ap, ◌∙◌}
use Rattle.std.specs.declared.option.Option.TheVariants.{Some}
use Rattle.std.specs.Prelude.{slice_get, map, All}
use Rattle.std.specs.List.{AllZip}
use Rattle.std.proofs.lemmas.List.Elements.{All-nil, All-cons, All-head, All-tail}
use Rattle.thread_work.specs.Pairwise.{Beside}
use Rattle.thread_work.proofs.lemmas.Places.{all_zip, all_from_places, beside_left}
use Rattle.phase_threads.proofs.lemmas.Zipping.{zip_beside}
use Rattle.lists.proofs.lemmas.Members.{all_at_place}
use Rattle.locked_nodes.specs.declared.cell_shard.CellShard.{CellShard}
use Rattle.client_desks.specs.Desks.{DeskView}
use Rattle.client_endpoints.specs.declared.mail.ByMail.{ByMail}
use Rattle.client_endpoints.specs.declared.transport.Transport.{Transport}
use Rattle.client_endpoints.specs.declared.transport.Transport.TheVariants.{Locks, Mail}
use Rattle.client_endpoints.specs.Asking.{HasEnded}
use Rattle.client_endpoints.specs.Transports.{Inboxes, Route, route, inboxes_of, IsByMail, HaveEnded}
use Rattle.client_endpoints.specs.Transports.Route.{ToVaults, ToInboxes}
use Rattle.client_endpoints.specs.Endpoint.{EndpointView, SharedCellsView, Fixed, fixed}
use Rattle.node_workers.specs.Workers.{WorkerView, CanServe, HasServed}
use Rattle.node_workers.specs.declared.thread_state.ThreadState.{ThreadState}
use Rattle.node_workers.specs.declared.thread_state.ThreadState.TheVariants.{Client, Node}
use Rattle.node_workers.specs.ThreadStates.{nodes_in, clients_in, IsReady, HasDone, HasTakenAll, CanWork, DidWork}

module _ {T : Type 0} where
  -- thread states can work where their nodes and clients can
  pub can_all : (ready : T → List CellShard → DeskView → Type 0) (of : SharedCellsView) (ps : List (ThreadState T)) → ((k : ℕ) (w : WorkerView) → slice_get (nodes_in ps) k ≡ Some w → CanServe of.clock w) → ((k : ℕ) (x : EndpointView × T) → slice_get (clients_in ps) k ≡ Some x → IsReady ready of x.0 x.1)
      → All (CanWork ready of) ps
  can_all ready of [] nodes clients = All-nil (CanWork ready of)
  can_all ready of (Node w ∷ ps) nodes clients = All-cons (CanWork ready of) (Node w) ps (nodes 0 w refl) (can_all ready of ps (λ k v at. nodes (suc k) v at) clients)
  can_all ready of (Client endpoint duty ∷ ps) nodes clients = All-cons (CanWork ready of) (Client endpoint duty) ps (clients 0 (endpoint, duty) refl) (can_all ready of ps nodes (λ k x at. clients (suc k) x at))

  module _ (done : T → DeskView → T → DeskView → Type 0) where
    nodes_did : (ps qs : List (ThreadState T)) → AllZip (DidWork done) ps qs → AllZip HasServed (nodes_in ps) (nodes_in qs)
    nodes_did [] [] z = tt
    nodes_did [] (q ∷ qs) z = absurd z
    nodes_did (p ∷ ps) [] z = absurd z
    nodes_did (Node w ∷ ps) (Node v ∷ qs) z = (z.0, nodes_did ps qs z.1)
    nodes_did (Node w ∷ ps) (Client endpoint duty ∷ qs) z = absurd z.0
    nodes_did (Client endpoint duty ∷ ps) (Node v ∷ qs) z = absurd z.0
    nodes_did (Client endpoint duty ∷ ps) (Client after left ∷ qs) z = nodes_did ps qs z.1

    clients_did : (ps qs : List (ThreadState T)) → AllZip (DidWork done) ps qs → AllZip (λ (x y : EndpointView × T). HasDone done x.0 x.1 y.0 y.1) (clients_in ps) (clients_in qs)
    clients_did [] [] z = tt
    clients_did [] (q ∷ qs) z = absurd z
    clients_did (p ∷ ps) [] z = absurd z
    clients_did (Node w ∷ ps) (Node v ∷ qs) z = clients_did ps qs z.1
    clients_did (Node w ∷ ps) (Client endpoint duty ∷ qs) z = absurd z.0
    clients_did (Client endpoint duty ∷ ps) (Node v ∷ qs) z = absurd z.0
    clients_did (Client endpoint duty ∷ ps) (Client after left ∷ qs) z = (z.0, clients_did ps qs z.1)

    zip_of : (ps qs : List (ThreadState T)) → Beside (λ i p q. DidWork done p q) ps qs → AllZip (DidWork done) ps qs
    zip_of ps qs all = all_zip (DidWork done) ps qs all.count all.each

    -- nodes and clients worked where thread states did
    pub nodes_worked : (ps qs : List (ThreadState T)) → Beside (λ i p q. DidWork done p q) ps qs → Beside (λ i w v. HasServed w v) (nodes_in ps) (nodes_in qs)
    nodes_worked ps qs all = zip_beside HasServed (nodes_in ps) (nodes_in qs) (nodes_did ps qs (zip_of ps qs all))

    pub clients_worked : (ps qs : List (ThreadState T)) → Beside (λ i p q. DidWork done p q) ps qs → Beside (λ i (x y : EndpointView × T). HasDone done x.0 x.1 y.0 y.1) (clients_in ps) (clients_in qs)
    clients_worked ps qs all = zip_beside (λ (x y : EndpointView × T). HasDone done x.0 x.1 y.0 y.1) (clients_in ps) (clients_in qs) (clients_did ps qs (zip_of ps qs all))

-- a route to inboxes is that of mail
inboxes_to : Route → Inboxes → Inboxes
inboxes_to (ToVaults l) b = b
inboxes_to (ToInboxes a) b = a

same_inboxes : (a b : Inboxes) → ToInboxes a ≡ ToInboxes b → a ≡ b
unfolding inboxes_to
same_inboxes a b is = ap (λ (r : Route). inboxes_to r b) is

ended_of : (t new : Transport) (m : ByMail) → route t ≡ ToInboxes (inboxes_of m) → HaveEnded t new → (n : ByMail) × (new ≡ Mail n) × HasEnded m n
ended_of (Locks c) new m is ended = absurd cc
ended_of (Mail k) (Locks c) m is ended = absurd ended
ended_of (Mail k) (Mail n) m is ended =
    let same = same_inboxes (inboxes_of k) (inboxes_of m) is in (
      n,
      refl,
      record {
        seat = ended.seat ∙ ap (λ (b : Inboxes). b.seat) same;
        inbox = ended.inbox ∙ ap (λ (b : Inboxes). b.answers) same;
        senders = ended.senders ∙ ap (λ (b : Inboxes). b.senders) same;
        done = ended.done;
        known = ended.known;
      },
    )

-- an endpoint whose route stayed have taken all when they end
pub taken_all : (before mid : EndpointView) (new : Transport) → fixed mid ≡ fixed before → HaveEnded mid.transport new → HasTakenAll before.transport new
taken_all before mid new stays ended m is = ended_of mid.transport new m (ap (λ (f : Fixed). f.route) stays ∙ ap (λ (t : Transport). route t) is) ended

-- clients that worked have their ways by mail
way_of : (t new : Transport) → IsByMail t → HasTakenAll t new → IsByMail new
way_of t new by all = let n = all by.0 by.1 in (n.0, n.1)

module _ {T : Type 0} where
  pub ways_worked : (done : T → DeskView → T → DeskView → Type 0) (xs ys : List (EndpointView × T)) → Beside (λ i (x y : EndpointView × T). HasDone done x.0 x.1 y.0 y.1) xs ys → All (λ (x : EndpointView × T). IsByMail x.0.transport) xs → All (λ (y : EndpointView × T). IsByMail y.0.transport) ys
  ways_worked done xs ys worked by = all_from_places (λ (y : EndpointView × T). IsByMail y.0.transport) ys (λ k y at.
      let x = beside_left (λ (i : ℕ) (x z : EndpointView × T). HasDone done x.0 x.1 z.0 z.1) xs ys k y worked at in
      way_of x.0.0.transport y.0.transport (all_at_place (λ (z : EndpointView × T). IsByMail z.0.transport) xs k x.0 by x.1) x.2.all)

  pub mails_of : (ys : List (EndpointView × T)) → All (λ (y : EndpointView × T). IsByMail y.0.transport) ys → (mails : List ByMail) × (map (λ (m : ByMail). Mail m) mails ≡ map (λ (y : EndpointView × T). y.0.transport) ys)
  mails_of [] all = ([], refl)
  mails_of (y ∷ ys) all =
      let m = All-head (λ (z : EndpointView × T). IsByMail z.0.transport) y ys all in
      let rest = mails_of ys (All-tail (λ (z : EndpointView × T). IsByMail z.0.transport) y ys all) in
      (m.0 ∷ rest.0, λ j. sym m.1 j ∷ rest.1 j)
