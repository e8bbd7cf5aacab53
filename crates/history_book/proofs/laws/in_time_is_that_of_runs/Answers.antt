use Rattle.std.proofs.Common.{ℕ, ◌≤◌, get_or, sym, ap, ◌∙◌, arith, inl, inr}
use Rattle.std.proofs.lemmas.Bool.{cases_eq}
use Rattle.history_book.proofs.laws.in_time_is_that_of_runs.Goals as goal

pub returns-clause-same : goal.returns-clause-same
returns-clause-same c =
    λ h right in_time i j d low high same end start ends starts lt.
    elim (cases_eq i j) [
      | inl is ↦
          let le : start ≤ end = right j d high end start (ap (λ (k : ℕ). (get_or h k d).end) (sym is) ∙ ends) starts in
          absurd (omega arith)
      | inr differ ↦ in_time i j d low high differ same end start ends starts lt
    ]

pub returns-clause-back : goal.returns-clause-back
returns-clause-back c = λ h in_time i j d low high differ same end start ends starts lt. in_time i j d low high same end start ends starts lt
