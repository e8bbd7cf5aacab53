-- One phase in which some nodes answer: it goes on as their answers decide.
use Rattle.std.proofs.Common.{◌≡◌, ◌⊎◌, ℕ, ◌<◌, Bool, true, false, List, map, get_or, Option, slice_get, refl, sym, ◌∙◌, subst, inr, arith}
use Rattle.std.specs.declared.option.Option.TheVariants.{None, Some}
use Rattle.std.specs.List.{range_with_len}
use Rattle.std.proofs.lemmas.List.FromFn.{get_or-map-range_with_len, length-map-range_with_len}
use Rattle.std.proofs.lemmas.Option.{slice_get-get_or, slice_get_within}
use Rattle.protocol.specs.Messages.{Reply, IsFormedReply}
use Rattle.protocol.specs.Nodes.{reply}
use Rattle.protocol.specs.Operations.{Work}
use Rattle.protocol.specs.Seen.{SeenTask}
use Rattle.protocol.specs.Setting.{Setting}
use Rattle.block_phases.specs.Executions.{IsRunning}
use Rattle.block_phases.specs.Laws.{ContinuesAs}
use Rattle.block_phases.specs.Phases.{Keeps, Progress, after_phase, ask_to, AreAnswers, HasDone, IsAfterPhase}
use Rattle.block_phases.proofs.lemmas.Executing.{operations_go_on}

module _ (s : Setting) where
  -- what a node answers, where it does
  unfoldable pub said : Bool → SeenTask → Keeps → ℕ → Option Reply
  said true task now i = Some (reply s i (now i) (ask_to s task i))
  said false task now i = None

  -- a node that answers has done what was asked
  abbrev pub DoneIf : Bool → SeenTask → ℕ → Keeps → Keeps → Type 0
  DoneIf true task i now then = HasDone s task i (now i) (then i)
  DoneIf false task i now then = (then i ≡ now i) ⊎ HasDone s task i (now i) (then i)

  -- so it is with each node, of which these answer
  abbrev pub replies : (ℕ → Bool) → SeenTask → Keeps → List (Option Reply)
  replies answering task now = map (λ i. said (answering i) task now i) (range_with_len 0 s.n)

  module _ (answering : ℕ → Bool) (task : SeenTask) (now : Keeps) where
    at_place : (i : ℕ) (x : Option Reply) → slice_get (replies answering task now) i ≡ Some x → (i < s.n) × (said (answering i) task now i ≡ x)
    at_place i x e =
        let f = λ (j : ℕ). said (answering j) task now j in
        let xs = replies answering task now in
        let long = length-map-range_with_len f 0 s.n in
        let below : i < s.n = (let w = slice_get_within xs i x e in omega (arith, w, long)) in
        let there = get_or-map-range_with_len f 0 s.n i i x below (omega arith) in
        let same : Some (get_or xs i x) ≡ Some x = sym (slice_get-get_or xs i x (omega (arith, below, long))) ∙ e in
        let is : get_or xs i x ≡ x = cc in
        (below, sym there ∙ is)

    said_is : (f : Bool) (i : ℕ) (r : Reply) → said f task now i ≡ Some r → (f ≡ true) × (r ≡ reply s i (now i) (ask_to s task i))
    unfolding said
    said_is true i r e = (refl, (let g : reply s i (now i) (ask_to s task i) ≡ r = cc in sym g))
    said_is false i r e = absurd cc

    answers : ((i : ℕ) → i < s.n → IsFormedReply (reply s i (now i) (ask_to s task i))) → AreAnswers s task now (replies answering task now)
    answers formed = record {
      count = length-map-range_with_len (λ i. said (answering i) task now i) 0 s.n;
      formed = λ i r e.
          let p = at_place i (Some r) e in
          let g = (said_is (answering i) i r p.1).1 in
          subst IsFormedReply (sym g) (formed i p.0);
      answers = λ i r e. (said_is (answering i) i r (at_place i (Some r) e).1).1;
    }

    module _ (then : Keeps) (done : (i : ℕ) → i < s.n → DoneIf (answering i) task i now then) where
      answered : (f : Bool) (i : ℕ) (r : Reply) → said f task now i ≡ Some r → DoneIf f task i now then → HasDone s task i (now i) (then i)
      unfolding said
      answered true i r e h = h
      answered false i r e h = absurd cc

      silent : (f : Bool) (i : ℕ) → said f task now i ≡ None → DoneIf f task i now then → (then i ≡ now i) ⊎ HasDone s task i (now i) (then i)
      unfolding said
      silent true i e h = inr h
      silent false i e h = h

      after : IsAfterPhase s task now (replies answering task now) then
      after = record {
        answered = λ i r e. (let p = at_place i (Some r) e in answered (answering i) i r p.1 (done i p.0));
        silent = λ i e. (let p = at_place i None e in silent (answering i) i p.1 (done i p.0));
      }

  pub goes_on_as : (answering : ℕ → Bool) (away : ℕ → Bool) (block client : ℕ) (work : Work) (task : SeenTask) (old now then : Keeps)
      → ((i : ℕ) → i < s.n → IsFormedReply (reply s i (now i) (ask_to s task i)))
      → IsRunning s away block client work task old now
      → ((i : ℕ) → i < s.n → answering i ≡ true → away i ≡ false)
      → ((i : ℕ) → i < s.n → DoneIf (answering i) task i now then)
      → (p : Progress) → after_phase s client task (replies answering task now) ≡ p → ContinuesAs s away block client work p old then
  goes_on_as answering away block client work task old now then formed goes there done p is =
      subst (λ (q : Progress). ContinuesAs s away block client work q old then) is
      (operations_go_on s away block client work task (replies answering task now) old now then goes (answers answering task now formed)
      (λ i r e. (let h = at_place answering task now i (Some r) e in there i h.0 (said_is answering task now (answering i) i r h.1).0))
      (after answering task now then done))
