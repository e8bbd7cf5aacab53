-- Thread states: the clients and the couriers among them.
use Rattle.std.proofs.Common.{◌≡◌, ◌+◌, List, [], ◌∷◌, ◌++◌, length, refl, sym, ap, subst, ◌∙◌, arith, inl, inr}
use Rattle.std.specs.Prelude.{All}
use Rattle.std.specs.List.{Contains, AllZip}
use Rattle.std.proofs.lemmas.List.Elements.{All-nil, All-cons, All-head, All-tail}
use Rattle.thread_work.specs.Pairwise.{Beside}
use Rattle.thread_work.proofs.lemmas.Places.{all_zip}
use Rattle.locked_nodes.specs.declared.cell_shard.CellShard.{CellShard}
use Rattle.client_desks.specs.Desks.{DeskView}
use Rattle.client_endpoints.specs.Endpoint.{EndpointView, SharedCellsView}
use Rattle.lists.proofs.lemmas.Members.{Contains-head, Contains-none, Contains-rest, Contains-cons_cases}
use Rattle.phase_threads.specs.declared.courier.Courier.{Courier}
use Rattle.phase_threads.specs.declared.thread_state.ThreadState.{ThreadState}
use Rattle.phase_threads.specs.declared.thread_state.ThreadState.TheVariants.{Client, Courier as Carrier}
use Rattle.phase_threads.specs.Carried.{CanCarry, HasCarried}
use Rattle.phase_threads.specs.ThreadStates.{clients_in, couriers_in, IsReady, HasDone, CanWork, DidWork}
use Rattle.phase_threads.proofs.lemmas.Zipping.{zip_beside}

module _ {T : Type 0} where
  -- thread states with one more at the end
  clients_append : (ps qs : List (ThreadState T)) → clients_in (ps ++ qs) ≡ clients_in ps ++ clients_in qs
  clients_append [] qs = refl
  clients_append (Client endpoint duty ∷ ps) qs = ap (λ l. (endpoint, duty) ∷ l) (clients_append ps qs)
  clients_append (Carrier c ∷ ps) qs = clients_append ps qs

  couriers_append : (ps qs : List (ThreadState T)) → couriers_in (ps ++ qs) ≡ couriers_in ps ++ couriers_in qs
  couriers_append [] qs = refl
  couriers_append (Client endpoint duty ∷ ps) qs = couriers_append ps qs
  couriers_append (Carrier c ∷ ps) qs = ap (λ l. c ∷ l) (couriers_append ps qs)

  pub client_clients : (ps : List (ThreadState T)) (p : ThreadState T) (endpoint : EndpointView) (duty : T) → p ≡ Client endpoint duty → clients_in (ps ++ p ∷ []) ≡ clients_in ps ++ (endpoint, duty) ∷ []
  client_clients ps p endpoint duty is = ap (λ (q : ThreadState T). clients_in (ps ++ q ∷ [])) is ∙ clients_append ps (Client endpoint duty ∷ [])

  pub client_couriers : (ps : List (ThreadState T)) (p : ThreadState T) (endpoint : EndpointView) (duty : T) → p ≡ Client endpoint duty → couriers_in ps ≡ [] → couriers_in (ps ++ p ∷ []) ≡ []
  client_couriers ps p endpoint duty is none = ap (λ (q : ThreadState T). couriers_in (ps ++ q ∷ [])) is ∙ couriers_append ps (Client endpoint duty ∷ []) ∙ ap (λ l. l ++ []) none

  pub courier_clients : (ps : List (ThreadState T)) (p : ThreadState T) (c : Courier) → p ≡ Carrier c → clients_in (ps ++ p ∷ []) ≡ clients_in ps ++ []
  courier_clients ps p c is = ap (λ (q : ThreadState T). clients_in (ps ++ q ∷ [])) is ∙ clients_append ps (Carrier c ∷ [])

  pub courier_couriers : (ps : List (ThreadState T)) (p : ThreadState T) (c : Courier) → p ≡ Carrier c → couriers_in ps ≡ [] → couriers_in (ps ++ p ∷ []) ≡ c ∷ []
  courier_couriers ps p c is none = ap (λ (q : ThreadState T). couriers_in (ps ++ q ∷ [])) is ∙ couriers_append ps (Carrier c ∷ []) ∙ ap (λ l. l ++ c ∷ []) none

  pub client_among : (ps rest : List (ThreadState T)) (p : ThreadState T) (endpoint : EndpointView) (duty : T) → p ≡ Client endpoint duty → clients_in (ps ++ p ∷ rest) ≡ clients_in ps ++ (endpoint, duty) ∷ clients_in rest
  client_among ps rest p endpoint duty is = ap (λ (q : ThreadState T). clients_in (ps ++ q ∷ rest)) is ∙ clients_append ps (Client endpoint duty ∷ rest)

  -- each thread state is a client's or a courier's
  pub posts_count : (ps : List (ThreadState T)) → length ps ≡ length (clients_in ps) + length (couriers_in ps)
  posts_count [] = refl
  posts_count (Client endpoint duty ∷ ps) = let n = posts_count ps in omega (arith, n)
  posts_count (Carrier c ∷ ps) = let n = posts_count ps in omega (arith, n)

  pub all_posts : (P : ThreadState T → Type 0) (ps : List (ThreadState T)) → All (λ (x : EndpointView × T). P (Client x.0 x.1)) (clients_in ps) → All (λ (c : Courier). P (Carrier c)) (couriers_in ps) → All P ps
  all_posts P [] clients couriers = All-nil P
  all_posts P (Client endpoint duty ∷ ps) clients couriers =
      All-cons P (Client endpoint duty) ps (All-head (λ (x : EndpointView × T). P (Client x.0 x.1)) (endpoint, duty) (clients_in ps) clients)
      (all_posts P ps (All-tail (λ (x : EndpointView × T). P (Client x.0 x.1)) (endpoint, duty) (clients_in ps) clients) couriers)
  all_posts P (Carrier c ∷ ps) clients couriers =
      All-cons P (Carrier c) ps (All-head (λ (d : Courier). P (Carrier d)) c (couriers_in ps) couriers)
      (all_posts P ps clients (All-tail (λ (d : Courier). P (Carrier d)) c (couriers_in ps) couriers))

  pub client_post : (ps : List (ThreadState T)) (x : EndpointView × T) → Contains (clients_in ps) x → Contains ps (Client x.0 x.1)
  client_post [] x has = absurd (Contains-none x has)
  client_post (Client endpoint duty ∷ ps) x has = elim (Contains-cons_cases x (endpoint, duty) (clients_in ps) has) [
    | inl same ↦ subst (λ (y : EndpointView × T). Contains (Client endpoint duty ∷ ps) (Client y.0 y.1)) (sym same) (Contains-head (Client endpoint duty) ps)
    | inr rest ↦ Contains-rest (Client x.0 x.1) (Client endpoint duty) ps (client_post ps x rest)
  ]
  client_post (Carrier c ∷ ps) x has = Contains-rest (Client x.0 x.1) (Carrier c) ps (client_post ps x has)

  pub client_in : (ps : List (ThreadState T)) (endpoint : EndpointView) (duty : T) → Contains ps (Client endpoint duty) → Contains (clients_in ps) (endpoint, duty)
  client_in [] endpoint duty has = absurd (Contains-none (Client endpoint duty) has)
  client_in (Client k d ∷ ps) endpoint duty has = elim (Contains-cons_cases (Client endpoint duty) (Client k d) ps has) [
    | inl same ↦ (let e : (endpoint, duty) ≡ (k, d) = cc in subst (Contains ((k, d) ∷ clients_in ps)) (sym e) (Contains-head (k, d) (clients_in ps)))
    | inr rest ↦ Contains-rest (endpoint, duty) (k, d) (clients_in ps) (client_in ps endpoint duty rest)
  ]
  client_in (Carrier c ∷ ps) endpoint duty has = elim (Contains-cons_cases (Client endpoint duty) (Carrier c) ps has) [ inl same ↦ absurd cc | inr rest ↦ client_in ps endpoint duty rest ]

  pub courier_in : (ps : List (ThreadState T)) (c : Courier) → Contains ps (Carrier c) → Contains (couriers_in ps) c
  courier_in [] c has = absurd (Contains-none (Carrier c) has)
  courier_in (Client k d ∷ ps) c has = elim (Contains-cons_cases (Carrier c) (Client k d) ps has) [ inl same ↦ absurd cc | inr rest ↦ courier_in ps c rest ]
  courier_in (Carrier b ∷ ps) c has = elim (Contains-cons_cases (Carrier c) (Carrier b) ps has) [
    | inl same ↦ (let e : c ≡ b = cc in subst (Contains (b ∷ couriers_in ps)) (sym e) (Contains-head b (couriers_in ps)))
    | inr rest ↦ Contains-rest c b (couriers_in ps) (courier_in ps c rest)
  ]

  -- thread states can work where their clients and couriers can
  pub can_all : (ready : T → List CellShard → DeskView → Type 0) (of : SharedCellsView) (ps : List (ThreadState T)) → All (λ (x : EndpointView × T). IsReady ready of x.0 x.1) (clients_in ps) → All (CanCarry of) (couriers_in ps) → All (CanWork ready of) ps
  can_all ready of ps clients couriers = all_posts (CanWork ready of) ps clients couriers

  -- and where thread states worked, clients and couriers did
  module _ (done : T → DeskView → T → DeskView → Type 0) where
    clients_did : (ps qs : List (ThreadState T)) → AllZip (DidWork done) ps qs → AllZip (λ (x y : EndpointView × T). HasDone done x.0 x.1 y.0 y.1) (clients_in ps) (clients_in qs)
    clients_did [] [] z = tt
    clients_did [] (q ∷ qs) z = absurd z
    clients_did (p ∷ ps) [] z = absurd z
    clients_did (Client endpoint duty ∷ ps) (Client after left ∷ qs) z = (z.0, clients_did ps qs z.1)
    clients_did (Client endpoint duty ∷ ps) (Carrier d ∷ qs) z = absurd z.0
    clients_did (Carrier c ∷ ps) (Client after left ∷ qs) z = absurd z.0
    clients_did (Carrier c ∷ ps) (Carrier d ∷ qs) z = clients_did ps qs z.1

    couriers_did : (ps qs : List (ThreadState T)) → AllZip (DidWork done) ps qs → AllZip HasCarried (couriers_in ps) (couriers_in qs)
    couriers_did [] [] z = tt
    couriers_did [] (q ∷ qs) z = absurd z
    couriers_did (p ∷ ps) [] z = absurd z
    couriers_did (Client endpoint duty ∷ ps) (Client after left ∷ qs) z = couriers_did ps qs z.1
    couriers_did (Client endpoint duty ∷ ps) (Carrier d ∷ qs) z = absurd z.0
    couriers_did (Carrier c ∷ ps) (Client after left ∷ qs) z = absurd z.0
    couriers_did (Carrier c ∷ ps) (Carrier d ∷ qs) z = (z.0, couriers_did ps qs z.1)

    zip_of : (ps qs : List (ThreadState T)) → Beside (λ i p q. DidWork done p q) ps qs → AllZip (DidWork done) ps qs
    zip_of ps qs all = all_zip (DidWork done) ps qs all.count all.each

    pub clients_worked : (ps qs : List (ThreadState T)) → Beside (λ i p q. DidWork done p q) ps qs → Beside (λ i (x y : EndpointView × T). HasDone done x.0 x.1 y.0 y.1) (clients_in ps) (clients_in qs)
    clients_worked ps qs all = zip_beside (λ (x y : EndpointView × T). HasDone done x.0 x.1 y.0 y.1) (clients_in ps) (clients_in qs) (clients_did ps qs (zip_of ps qs all))

    one_courier : (c : Courier) (cs : List Courier) → AllZip HasCarried (c ∷ []) cs → (d : Courier) × (cs ≡ d ∷ []) × HasCarried c d
    one_courier c [] z = absurd z
    one_courier c (d ∷ []) z = (d, refl, z.0)
    one_courier c (d ∷ e ∷ cs) z = absurd z.1

    pub courier_worked : (ps qs : List (ThreadState T)) (c : Courier) → couriers_in ps ≡ c ∷ [] → Beside (λ i p q. DidWork done p q) ps qs → (d : Courier) × (couriers_in qs ≡ d ∷ []) × HasCarried c d
    courier_worked ps qs c one all = one_courier c (couriers_in qs) (subst (λ l. AllZip HasCarried l (couriers_in qs)) one (couriers_did ps qs (zip_of ps qs all)))
