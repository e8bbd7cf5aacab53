-- What the turns of operations come to, one after the other.
use Rattle.std.proofs.Common.{◌≡◌, ℕ, zero, suc, ◌+◌, ◌-◌, ◌^◌, ◌<◌, List, [], ◌∷◌, ◌++◌, length, Option, refl, sym, ap, subst, ◌∙◌, arith, append_assoc, append-nil}
use Rattle.std.specs.Prelude.{All}
use Rattle.std.specs.List.{AllZip}
use Rattle.std.proofs.lemmas.List.Elements.{All-head, All-tail}
use Rattle.quorum_rules.specs.Limits.{Numbers}
use Rattle.protocol.specs.Messages.{Ask, Reply}
use Rattle.batch_clients.specs.declared.run.Run.{Run}
use Rattle.batch_clients.specs.declared.turn.Turn.{Turn}
use Rattle.batch_clients.specs.Batches.{Running}
use Rattle.batch_clients.specs.Parts.{stand_of, phase_at, left_by, IsRun, IsAdded}
use Rattle.batch_clients.specs.Turns.{HasHeard, MayTake, Comes, heard_as, IsTurnOf, AreTurnsOf}
use Rattle.batch_clients.proofs.Adding.{IsGoing, going_on, length_left}

-- ---- the turns are taken from the operations

-- these turns are those of the operations before the rest, and these answers are left for the rest
pub record AreTaken (c : Numbers) (answers : List (Option (List Reply))) (runs : List Run) (left : List (Option (List Reply))) (rest : List Run) (turns : List Turn) : Type 0 where
  pub early : All (IsRun c (2 ^ 64 - 2)) rest
  pub few : length left < 256
  pub go_on : (more : List Turn) → AreTurnsOf c left rest more → AreTurnsOf c answers runs (turns ++ more)

module _ (c : Numbers) (answers : List (Option (List Reply))) (runs : List Run) where
  pub taking_begins : All (IsRun c (2 ^ 64 - 2)) runs → length answers < 256 → (left : List (Option (List Reply))) → left ≡ answers → (rest : List Run) → rest ≡ runs → AreTaken c answers runs left rest []
  taking_begins early few left same rest is = record {
    early = subst (All (IsRun c (2 ^ 64 - 2))) (sym is) early;
    few = (let e = ap length same in omega (arith, e, few));
    go_on = λ more h. subst (λ (l : List (Option (List Reply))). AreTurnsOf c l runs more) same (subst (λ (l : List Run). AreTurnsOf c left l more) is h);
  }

  pub taking_goes_on : (left : List (Option (List Reply))) (run : Run) (rest : List Run) (turns : List Turn) → AreTaken c answers runs left (run ∷ rest) turns
      → (now : List (Option (List Reply))) → (IsRun c (2 ^ 64 - 2) run → now ≡ left_by (stand_of run.standing) left) → (turn : Turn) → (IsRun c (2 ^ 64 - 2) run → length left < 256 → IsTurnOf c left run turn)
      → (new : List Turn) → new ≡ turns ++ turn ∷ [] → AreTaken c answers runs now rest new
  taking_goes_on left run rest turns h now leaves turn of_run new push =
      let early = All-head (IsRun c (2 ^ 64 - 2)) run rest h.early in
      let is = leaves early in
      record {
        early = All-tail (IsRun c (2 ^ 64 - 2)) run rest h.early;
        few = (let e = length_left (stand_of run.standing) left now is in let f = h.few in omega (arith, e, f));
        go_on = λ more k.
            subst (AreTurnsOf c answers runs) (sym (ap (λ (l : List Turn). l ++ more) push ∙ append_assoc turns (turn ∷ []) more))
            (h.go_on (turn ∷ more) (of_run early h.few, subst (λ (l : List (Option (List Reply))). AreTurnsOf c l rest more) is k));
      }

  pub taking_ends : (left : List (Option (List Reply))) (rest : List Run) (turns : List Turn) → AreTaken c answers runs left rest turns → rest ≡ [] → AreTurnsOf c answers runs turns
  taking_ends left rest turns h none =
      subst (AreTurnsOf c answers runs) (append-nil turns) (h.go_on [] (subst (λ (l : List Run). AreTurnsOf c left l []) (sym none) tt))

-- ---- each has taken its turn

-- each operation's turn has come to something
abbrev pub HaveCome : Numbers → List (Option (List Reply)) → List Run → List Turn → Type 0
HaveCome c left [] [] = Unit {0}
HaveCome c left (run ∷ runs) (turn ∷ turns) = HasHeard c (heard_as c left run) (phase_at (stand_of run.standing) + 1) turn × HaveCome c (left_by (stand_of run.standing) left) runs turns
HaveCome c left _ _ = ⊥

pub all_may : (c : Numbers) (left : List (Option (List Reply))) (runs : List Run) (turns : List Turn) → AreTurnsOf c left runs turns → All (MayTake c) turns
all_may c left [] [] h i d lt = absurd (omega (arith, lt))
all_may c left [] (turn ∷ turns) h i d lt = absurd h
all_may c left (run ∷ runs) [] h i d lt = absurd h
all_may c left (run ∷ runs) (turn ∷ turns) h zero d lt = h.0.may
all_may c left (run ∷ runs) (turn ∷ turns) h (suc i) d lt = all_may c (left_by (stand_of run.standing) left) runs turns h.1 i d (omega (arith, lt))

pub all_come : (c : Numbers) (left : List (Option (List Reply))) (runs : List Run) (old new : List Turn) → AreTurnsOf c left runs old → AllZip Comes old new → HaveCome c left runs new
all_come c left [] [] [] h come = tt
all_come c left [] [] (new ∷ news) h come = absurd come
all_come c left [] (old ∷ olds) news h come = absurd h
all_come c left (run ∷ runs) [] news h come = absurd h
all_come c left (run ∷ runs) (old ∷ olds) [] h come = absurd come
all_come c left (run ∷ runs) (old ∷ olds) (new ∷ news) h come = (h.0.comes new come.0, all_come c (left_by (stand_of run.standing) left) runs olds news h.1 come.1)

-- ---- they are put beside one another again

-- the operations before the rest have heard their answers, and the rest's turns have come to something
pub record ArePut (c : Numbers) (answers : List (Option (List Reply))) (runs : List Run) (turns : List Turn) (heard : List Run) (asks : List (List Ask)) : Type 0 where
  pub left : List (Option (List Reply))
  pub rest : List Run
  pub come : HaveCome c left rest turns
  pub going : IsGoing c answers runs left rest heard asks

module _ (c : Numbers) (answers : List (Option (List Reply))) (runs heard : List Run) (asks : List (List Ask)) where
  pub putting_begins : (turns : List Turn) → HaveCome c answers runs turns → IsGoing c answers runs answers runs heard asks → ArePut c answers runs turns heard asks
  putting_begins turns come going = record { left = answers; rest = runs; come = come; going = going }

  module _ (turn : Turn) (turns : List Turn) (h : ArePut c answers runs (turn ∷ turns) heard asks) where
    pub next_put : (r : Running) × (phase : ℕ) × HasHeard c r phase turn
    next_put = by h.rest h.come
      where
        by : (rest : List Run) → HaveCome c h.left rest (turn ∷ turns) → (r : Running) × (phase : ℕ) × HasHeard c r phase turn
        by [] e = absurd e
        by (run ∷ rest) e = (heard_as c h.left run, phase_at (stand_of run.standing) + 1, e.0)

    pub putting_goes_on : (new : List Run) (more : List (List Ask)) → ((r : Running) (phase : ℕ) → HasHeard c r phase turn → IsAdded c r phase heard new asks more) → ArePut c answers runs turns new more
    putting_goes_on new more added = by h.rest h.come h.going
      where
        by : (rest : List Run) → HaveCome c h.left rest (turn ∷ turns) → IsGoing c answers runs h.left rest heard asks → ArePut c answers runs turns new more
        by [] e g = absurd e
        by (run ∷ rest) e g = record {
          left = left_by (stand_of run.standing) h.left;
          rest = rest;
          come = e.1;
          going = going_on c answers runs h.left run rest heard asks g (left_by (stand_of run.standing) h.left) new more refl (added (heard_as c h.left run) (phase_at (stand_of run.standing) + 1) e.0);
        }

  pub putting_ends : (turns : List Turn) → turns ≡ [] → (h : ArePut c answers runs turns heard asks) → IsGoing c answers runs h.left [] heard asks
  putting_ends turns none h = by h.rest (subst (HaveCome c h.left h.rest) none h.come) h.going
    where
      by : (rest : List Run) → HaveCome c h.left rest [] → IsGoing c answers runs h.left rest heard asks → IsGoing c answers runs h.left [] heard asks
      by [] e g = g
      by (run ∷ rest) e g = absurd e
