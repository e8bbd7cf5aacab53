-- Inboxes and thread states that are opened one after another.
use Rattle.std.proofs.Common.{◌≡◌, ℕ, ◌+◌, ◌<◌, List, [], ◌∷◌, ◌++◌, length, length-append, map, reverse, refl, sym, ap, subst, ◌∙◌, arith, inl, inr, append_assoc, append-nil}
use Rattle.std.specs.declared.option.Option.TheVariants.{Some}
use Rattle.std.specs.Prelude.{◌⊎◌, slice_get, All}
use Rattle.std.proofs.lemmas.List.{reverse-append, reverse-reverse, map-append}
use Rattle.std.proofs.lemmas.Option.{slice_get_within}
use Rattle.thread_work.specs.Pairwise.{Beside}
use Rattle.thread_work.proofs.lemmas.Places.{slice_get-unique, get_snoc}
use Rattle.event_clock.specs.Passes.{ClockId}
use Rattle.inboxes.specs.Sides.{Putting, Taking, new_putter}
use Rattle.client_endpoints.specs.declared.answered.Answered.{Answered}
use Rattle.client_endpoints.specs.declared.answered.ClientPlace.{ClientPlace}
use Rattle.phase_threads.specs.declared.duty.Seat.{Seat}
use Rattle.client_endpoints.specs.Endpoint.{EndpointView}
use Rattle.node_workers.specs.Workers.{WorkerView}
use Rattle.node_workers.specs.declared.thread_state.ThreadState.{ThreadState}
use Rattle.node_workers.specs.declared.thread_state.ThreadState.TheVariants.{Client, Node}
use Rattle.node_workers.specs.ThreadStates.{nodes_in, clients_in}
use Rattle.phase_threads.specs.Portions.{AreDealt}
use Rattle.node_workers.specs.Portions.{AreNewPutters, AreSpread}
use Rattle.node_workers.specs.Opened.{IsAnswerBox}
use Rattle.lists.proofs.lemmas.Members.{all_at_place, slice_get-seam, at_place}

-- each item of the second list is so to the one of the first list at its place
pub record UpTo {X Y : Type 0} (R : ℕ → X → Y → Type 0) (xs : List X) (ys : List Y) : Type 0 where
  pub each : (k : ℕ) (x : X) (y : Y) → slice_get xs k ≡ Some x → slice_get ys k ≡ Some y → R k x y

module _ {X Y : Type 0} (R : ℕ → X → Y → Type 0) where
  pub up_to_none : (xs : List X) → UpTo R xs []
  up_to_none xs = record { each = λ k x y a b. absurd cc }

  next_each : (xs : List X) (ys : List Y) (x : X) (y : Y) (k : ℕ) (a : X) (b : Y) → UpTo R xs ys → slice_get xs (length ys) ≡ Some x → R (length ys) x y → slice_get xs k ≡ Some a → (slice_get ys k ≡ Some b) ⊎ ((k ≡ length ys) × (b ≡ y)) → R k a b
  next_each xs ys x y k a b up here is at (inl there) = up.each k a b at there
  next_each xs ys x y k a b up here is at (inr p) =
      let same : x ≡ a = slice_get-unique xs (length ys) x a here (ap (slice_get xs) (sym p.0) ∙ at) in
      subst (λ n. R n a b) (sym p.0) (subst (λ u. R (length ys) u b) same (subst (R (length ys) x) (sym p.1) is))

  pub up_to_more : (xs : List X) (ys : List Y) (x : X) (y : Y) → UpTo R xs ys → slice_get xs (length ys) ≡ Some x → R (length ys) x y → UpTo R xs (ys ++ y ∷ [])
  up_to_more xs ys x y up here is = record { each = λ k a b at there. next_each xs ys x y k a b up here is at (get_snoc ys y k b there) }

  pub up_to_all : (xs : List X) (ys : List Y) → UpTo R xs ys → length ys ≡ length xs → Beside R xs ys
  up_to_all xs ys up all = record { count = sym all; each = up.each }

-- what is left of a list that was turned round, after so many items were taken from its end
pub record AreLeft {A : Type 0} (all rest : List A) (k : ℕ) : Type 0 where
  pub first : List A
  pub is : all ≡ first ++ reverse rest
  pub count : length first ≡ k

module _ {A : Type 0} where
  pub all_left : (all rest : List A) → rest ≡ reverse all → AreLeft all rest 0
  all_left all rest is = record { first = []; is = sym (ap reverse is ∙ reverse-reverse all); count = refl }

  turned : (less : List A) (x : A) → reverse (less ++ x ∷ []) ≡ x ∷ reverse less
  turned less x = reverse-append less (x ∷ [])

  pub next_left : (all rest less : List A) (x : A) (k : ℕ) → AreLeft all rest k → rest ≡ less ++ x ∷ [] → AreLeft all less (k + 1) × (slice_get all k ≡ Some x)
  next_left all rest less x k l is =
      let whole : all ≡ l.first ++ x ∷ reverse less = l.is ∙ ap (λ r. l.first ++ r) (ap reverse is ∙ turned less x) in (
        record { first = l.first ++ x ∷ []; is = whole ∙ sym (append_assoc l.first (x ∷ []) (reverse less)); count = length-append l.first (x ∷ []) ∙ ap (λ n. n + 1) l.count },
        ap (λ n. slice_get all n) (sym l.count) ∙ ap (λ xs. slice_get xs (length l.first)) whole ∙ slice_get-seam l.first x (reverse less),
      )

  pub some_left : (all rest : List A) (k : ℕ) → AreLeft all rest k → k < length all → rest ≡ [] → ⊥
  some_left all rest k l lt none =
      let few : length all ≡ length l.first = ap length (l.is ∙ ap (λ r. l.first ++ reverse r) none ∙ append-nil l.first) in
      let n = l.count in
      omega (arith, few, n, lt)

-- putters into one box more
module _ {T P : Type 0} (count : ℕ) where
  pub none_spread : (portions : List (List (Putting T P))) → length portions ≡ count → All (λ (h : List (Putting T P)). h ≡ []) portions → AreSpread {T = T} {P = P} count [] portions
  none_spread portions n empty = record {
    count = n;
    full = λ i portion at. ap length (all_at_place (λ (h : List (Putting T P)). h ≡ []) portions i portion empty at);
    each = λ i k portion p box at here there. absurd cc;
  }

  module _ (boxes : List (Taking T P)) (portions new : List (List (Putting T P))) (box : Taking T P) (putters : List (Putting T P)) (so : AreSpread count boxes portions) (made : AreNewPutters count box putters) (dealt : AreDealt portions putters new) where
    -- a portion before and after, and what it got
    record Got (i : ℕ) (portion : List (Putting T P)) : Type 0 where
      was : List (Putting T P)
      there : slice_get portions i ≡ Some was
      is : portion ≡ was ++ new_putter box.inbox i ∷ []

    got : (i : ℕ) (portion : List (Putting T P)) → slice_get new i ≡ Some portion → Got i portion
    got i portion at =
        let lt = slice_get_within new i portion at in
        let was = at_place portions i (omega (arith, lt, dealt.count)) in
        let own = made.each i (omega (arith, lt, dealt.count, so.count)) in
        record { was = was.0; there = was.1; is = dealt.each i was.0 portion (new_putter box.inbox i) was.1 at own }

    each_of : (i k : ℕ) (portion : List (Putting T P)) (p : Putting T P) (b : Taking T P) (g : Got i portion) → (slice_get g.was k ≡ Some p) ⊎ ((k ≡ length g.was) × (p ≡ new_putter box.inbox i)) → (slice_get boxes k ≡ Some b) ⊎ ((k ≡ length boxes) × (b ≡ box)) → p ≡ new_putter b.inbox i
    each_of i k portion p b g (inl x) (inl y) = so.each i k g.was p b g.there x y
    each_of i k portion p b g (inl x) (inr y) = absurd (let lt = slice_get_within g.was k p x in let n = so.full i g.was g.there in let e = y.0 in omega (arith, lt, n, e))
    each_of i k portion p b g (inr x) (inl y) = absurd (let lt = slice_get_within boxes k b y in let n = so.full i g.was g.there in let e = x.0 in omega (arith, lt, n, e))
    each_of i k portion p b g (inr x) (inr y) = x.1 ∙ ap (λ (z : Taking T P). new_putter z.inbox i) (sym y.1)

    each_in : (i k : ℕ) (portion : List (Putting T P)) (p : Putting T P) (b : Taking T P) → Got i portion → slice_get portion k ≡ Some p → slice_get (boxes ++ box ∷ []) k ≡ Some b → p ≡ new_putter b.inbox i
    each_in i k portion p b g here there = each_of i k portion p b g (get_snoc g.was (new_putter box.inbox i) k p (ap (λ (l : List (Putting T P)). slice_get l k) (sym g.is) ∙ here)) (get_snoc boxes box k b there)

    full_in : (i : ℕ) (portion : List (Putting T P)) → Got i portion → length portion ≡ length (boxes ++ box ∷ [])
    full_in i portion g = ap length g.is ∙ length-append g.was (new_putter box.inbox i ∷ []) ∙ ap (λ (n : ℕ). n + 1) (so.full i g.was g.there) ∙ sym (length-append boxes (box ∷ []))

    pub spread_more : AreSpread count (boxes ++ box ∷ []) new
    spread_more = record {
      count = dealt.count ∙ so.count;
      full = λ i portion at. full_in i portion (got i portion at);
      each = λ i k portion p b at here there. each_in i k portion p b (got i portion at) here there;
    }

-- thread states one after another
module _ {T : Type 0} where
  pub nodes-append : (ps qs : List (ThreadState T)) → nodes_in (ps ++ qs) ≡ nodes_in ps ++ nodes_in qs
  nodes-append [] qs = refl
  nodes-append (Node w ∷ ps) qs = ap (λ l. w ∷ l) (nodes-append ps qs)
  nodes-append (Client endpoint duty ∷ ps) qs = nodes-append ps qs

  pub clients-append : (ps qs : List (ThreadState T)) → clients_in (ps ++ qs) ≡ clients_in ps ++ clients_in qs
  clients-append [] qs = refl
  clients-append (Node w ∷ ps) qs = clients-append ps qs
  clients-append (Client endpoint duty ∷ ps) qs = ap (λ l. (endpoint, duty) ∷ l) (clients-append ps qs)

  -- with a thread state more
  pub node_nodes : (ps : List (ThreadState T)) (p : ThreadState T) (w : WorkerView) → p ≡ Node w → nodes_in (ps ++ p ∷ []) ≡ nodes_in ps ++ w ∷ []
  node_nodes ps p w is = ap (λ q. nodes_in (ps ++ q ∷ [])) is ∙ nodes-append ps (Node w ∷ [])

  pub node_clients : (ps : List (ThreadState T)) (p : ThreadState T) (w : WorkerView) → p ≡ Node w → clients_in (ps ++ p ∷ []) ≡ clients_in ps
  node_clients ps p w is = ap (λ q. clients_in (ps ++ q ∷ [])) is ∙ clients-append ps (Node w ∷ []) ∙ append-nil (clients_in ps)

  pub client_nodes : (ps : List (ThreadState T)) (p : ThreadState T) (endpoint : EndpointView) (duty : T) → p ≡ Client endpoint duty → nodes_in (ps ++ p ∷ []) ≡ nodes_in ps
  client_nodes ps p endpoint duty is = ap (λ q. nodes_in (ps ++ q ∷ [])) is ∙ nodes-append ps (Client endpoint duty ∷ []) ∙ append-nil (nodes_in ps)

  pub client_clients : (ps : List (ThreadState T)) (p : ThreadState T) (endpoint : EndpointView) (duty : T) → p ≡ Client endpoint duty → clients_in (ps ++ p ∷ []) ≡ clients_in ps ++ (endpoint, duty) ∷ []
  client_clients ps p endpoint duty is = ap (λ q. clients_in (ps ++ q ∷ [])) is ∙ clients-append ps (Client endpoint duty ∷ [])

  pub client_at : (all done rest : List (ThreadState T)) (p : ThreadState T) (endpoint : EndpointView) (duty : T) → all ≡ done ++ p ∷ rest → p ≡ Client endpoint duty → slice_get (clients_in all) (length (clients_in done)) ≡ Some (endpoint, duty)
  client_at all done rest p endpoint duty list is =
      ap (λ l. slice_get l (length (clients_in done))) (ap (λ l. clients_in l) (list ∙ ap (λ q. done ++ q ∷ rest) is) ∙ clients-append done (Client endpoint duty ∷ rest)) ∙ slice_get-seam (clients_in done) (endpoint, duty) (clients_in rest)

-- what stands at the place up to which a list was walked
pub here_of : {A : Type 0} (all done rest : List A) (x : A) (n : ℕ) → all ≡ done ++ x ∷ rest → n ≡ length done → slice_get all n ≡ Some x
here_of all done rest x n is count = ap (slice_get all) count ∙ ap (λ l. slice_get l (length done)) is ∙ slice_get-seam done x rest

pub map_more : {A B : Type 0} (f : A → B) (xs l : List A) (x : A) (ys zs : List B) (y : B) → ys ≡ map f xs → y ≡ f x → l ≡ xs ++ x ∷ [] → zs ≡ ys ++ y ∷ [] → zs ≡ map f l
map_more f xs l x ys zs y are is more grew = grew ∙ (λ j. are j ++ is j ∷ []) ∙ sym (map-append f xs (x ∷ [])) ∙ ap (map f) (sym more)

-- the inbox of a seat's client, whatever the seat's place
pub answer_at : {T : Type 0} (of : ClockId) (senders i k : ℕ) (seat : Seat T) (box : Taking Answered ClientPlace) → IsAnswerBox of senders i seat box → IsAnswerBox of senders k seat box
answer_at of senders i k seat box is = record { ticks = is.ticks; client = is.client; count = is.count; new = is.new }
