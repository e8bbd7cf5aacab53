-- The asks of a phase come to those of their nodes, message by message.
use Rattle.std.proofs.Common.{◌≡◌, ◌⊎◌, ℕ, zero, suc, ◌+◌, ◌<◌, ◌≤◌, List, [], ◌∷◌, ◌++◌, length, refl, sym, ap, subst, ◌∙◌, arith, inl, inr, length-append}
use Rattle.std.specs.Prelude.{slice_get, slice_set}
use Rattle.std.specs.declared.option.Option.TheVariants.{Some}
use Rattle.std.proofs.lemmas.Option.{slice_get_within}
use Rattle.lists.proofs.lemmas.Members.{slice_get-pushed, slice_get-push, slice_get-set}
use Rattle.protocol.specs.Count.{collect}
use Rattle.protocol.specs.Messages.{Ask, Message, IsAsk}
use Rattle.wire_forms.specs.declared.Body.TheVariants.{Ask as Asks}
use Rattle.protocol.specs.Setting.{Setting}
use Rattle.protocol.specs.Operations.{outstanding, mail}
use Rattle.protocol.specs.Seen.{SeenTask, task_at}
use Rattle.block_phases.specs.Phases.{ask_to}
use Rattle.batch_clients.specs.Batches.Stand.{Asks as AsksOne}
use Rattle.batch_clients.specs.Parts.{AskMore, IsDealt}

length_collect : {A : Type 0} (n : ℕ) (f : ℕ → A) → length (collect n (λ i. Some (f i))) ≡ n
length_collect zero f = refl
length_collect (suc n) f = length-append (collect n (λ i. Some (f i))) (f n ∷ []) ∙ (let r = length_collect n f in omega (arith, r))

get_collect : {A : Type 0} (n : ℕ) (f : ℕ → A) (k : ℕ) → k < n → slice_get (collect n (λ i. Some (f i))) k ≡ Some (f k)
get_collect zero f k lt = absurd (omega arith)
get_collect (suc n) f k lt =
    let rest = λ (l : k < n). slice_get-push (collect n (λ i. Some (f i))) (f n) k (f k) (get_collect n f k l) in
    let c : (k < n) ⊎ (k ≡ n) = grind arith in
    elim c [
      | inl l ↦ rest l
      | inr e ↦ rw (e) (subst (λ (j : ℕ). slice_get (collect n (λ i. Some (f i)) ++ f n ∷ []) j ≡ Some (f n)) (length_collect n f) (slice_get-pushed (collect n (λ i. Some (f i))) (f n)))
    ]

other_at : {A : Type 0} (xs : List A) (k i : ℕ) (y : A) → (i ≡ k → ⊥) → slice_get (slice_set xs k y) i ≡ slice_get xs i
other_at [] k i y apart = refl
other_at (x ∷ xs) zero zero y apart = absurd (apart refl)
other_at (x ∷ xs) zero (suc i) y apart = refl
other_at (x ∷ xs) (suc k) zero y apart = refl
other_at (x ∷ xs) (suc k) (suc i) y apart = other_at xs k i y (λ e. apart (ap suc e))

length_set : {A : Type 0} (xs : List A) (k : ℕ) (y : A) → length (slice_set xs k y) ≡ length xs
length_set [] k y = refl
length_set (x ∷ xs) zero y = refl
length_set (x ∷ xs) (suc k) y = ap suc (length_set xs k y)

-- the ask was put at the end of what is asked of its node
pub dealt_one : (m : Message) (old new : List (List Ask)) (ask : Ask) (asks : List Ask) → m.body ≡ Asks ask → slice_get old m.node ≡ Some asks → new ≡ slice_set old m.node (asks ++ ask ∷ []) → IsDealt m old new
dealt_one m old new ask asks is at set = record {
  count = ap length set ∙ length_set old m.node (asks ++ ask ∷ []);
  here = λ other more body there.
      let b : Asks other ≡ Asks ask = sym body ∙ is in
      let a : other ≡ ask = cc in
      let s : Some more ≡ Some asks = sym there ∙ at in
      let x : more ≡ asks = cc in
      let both : Some (more ++ other ∷ []) ≡ Some (asks ++ ask ∷ []) = λ j. Some (x j ++ a j ∷ []) in
      ap (λ l. slice_get l m.node) set ∙ slice_get-set old m.node asks (asks ++ ask ∷ []) at ∙ sym both;
  others = λ i apart. ap (λ l. slice_get l i) set ∙ other_at old m.node i (asks ++ ask ∷ []) apart;
}

module _ (s : Setting) (client : ℕ) (t : SeenTask) where
  -- the messages of the phase to the nodes from this one on
  abbrev pub AreFrom : ℕ → List Message → Type 0
  AreFrom k [] = k ≡ s.n
  AreFrom k (m ∷ messages) = (m ≡ outstanding s client (task_at 0 t) k) × AreFrom (suc k) messages

  from_places : (messages : List Message) (k : ℕ) → k + length messages ≡ s.n → ((j : ℕ) (m : Message) → slice_get messages j ≡ Some m → m ≡ outstanding s client (task_at 0 t) (k + j)) → AreFrom k messages
  from_places [] k count at = omega (arith, count)
  from_places (m ∷ messages) k count at = (
    at 0 m refl ∙ ap (outstanding s client (task_at 0 t)) (omega arith),
    from_places messages (suc k) (omega (arith, count)) (λ j x there. at (suc j) x there ∙ ap (outstanding s client (task_at 0 t)) (omega arith)),
  )

  all_from : AreFrom 0 (mail s client (task_at 0 t))
  all_from =
      let one = outstanding s client (task_at 0 t) in
      let count = length_collect s.n one in
      from_places (mail s client (task_at 0 t)) 0 (omega (arith, count)) (λ j m there.
      let lt = slice_get_within (collect s.n (λ i. Some (one i))) j m there in
      let e : Some m ≡ Some (one j) = sym there ∙ get_collect s.n one j (omega (arith, lt, count)) in
      let same : m ≡ one j = cc in
      same ∙ ap one (omega arith))

  places_left : (messages : List Message) (k : ℕ) → AreFrom k messages → k + length messages ≡ s.n
  places_left [] k is = omega (arith, is)
  places_left (m ∷ messages) k is = let r = places_left messages (suc k) is.1 in omega (arith, r)

  -- the asks of the first nodes were put at the end of what is asked of them, and what is asked of the others stays
  pub record IsDealing (old now : List (List Ask)) (rest : List Message) : Type 0 where
    pub node : ℕ
    pub left : AreFrom node rest
    pub count : length now ≡ length old
    pub full : length old ≡ s.n
    pub dealt : (i : ℕ) (asks : List Ask) → i < node → slice_get old i ≡ Some asks → slice_get now i ≡ Some (asks ++ ask_to s t i ∷ [])
    pub same : (i : ℕ) → node ≤ i → slice_get now i ≡ slice_get old i

  pub dealing_begins : (old : List (List Ask)) → length old ≡ s.n → (messages : List Message) → messages ≡ mail s client (task_at 0 t) → IsDealing old old messages
  dealing_begins old full messages is = record { node = 0; left = subst (AreFrom 0) (sym is) all_from; count = refl; full = full; dealt = λ i asks lt at. absurd (omega arith); same = λ i le. refl }

  module _ (old now : List (List Ask)) (m : Message) (rest : List Message) (h : IsDealing old now (m ∷ rest)) where
    pub next_there : m.node < length now
    next_there =
        let n : m.node ≡ h.node = ap (λ (x : Message). x.node) h.left.0 in
        let r = places_left rest (suc h.node) h.left.1 in
        omega (arith, n, r, h.count, h.full)

    pub next_asks : IsAsk m.body
    next_asks = subst IsAsk (sym (ap (λ (x : Message). x.body) h.left.0)) tt

    pub dealing_goes_on : (new : List (List Ask)) → IsDealt m now new → IsDealing old new rest
    dealing_goes_on new d =
        let n : m.node ≡ h.node = ap (λ (x : Message). x.node) h.left.0 in
        let body : m.body ≡ Asks (ask_to s t h.node) = ap (λ (x : Message). x.body) h.left.0 in
        record {
          node = suc h.node;
          left = h.left.1;
          count = d.count ∙ h.count;
          full = h.full;
          dealt = λ i asks lt at.
              let c : (i < h.node) ⊎ (i ≡ h.node) = grind arith in
              elim c [
                | inl l ↦ d.others i (λ e. omega (arith, e, n, l)) ∙ h.dealt i asks l at
                | inr e ↦ (
                    let here = d.here (ask_to s t h.node) asks body (ap (slice_get now) n ∙ h.same h.node (omega arith) ∙ ap (slice_get old) (sym e) ∙ at) in
                    ap (slice_get new) (e ∙ sym n) ∙ here ∙ ap (λ (k : ℕ). Some (asks ++ ask_to s t k ∷ [])) (sym e))
              ];
          same = λ i le. d.others i (λ e. omega (arith, e, n, le)) ∙ h.same i (omega (arith, le));
        }

  pub dealing_ends : (old now : List (List Ask)) → IsDealing old now [] → AskMore s (AsksOne t) old now
  dealing_ends old now h = record { count = h.count; each = λ i asks lt at. h.dealt i asks (omega (arith, lt, h.left)) at }
