-- How time goes on by a call.
use Rattle.std.proofs.Common.{inl, inr, ℕ, List, ◌∷◌, arith}
use Rattle.sqlite_disk.specs.Events.{Event}
use Rattle.system_file.specs.Outcomes.{Leaves}
use Rattle.system_file.specs.Doings.{GoesOn}

module _ (start : List ℕ) where
  -- where nothing happens
  pub goes_nowhere : (h : List Event) → GoesOn start h h
  goes_nowhere h = record {
    later = omega arith;
    nothing_else = λ t c le left. inl left;
    remembers = λ t c le left. left;
  }

  -- by any one call
  pub goes_one : (e : Event) (h : List Event) → GoesOn start h (e ∷ h)
  goes_one e h = record {
    later = omega arith;
    nothing_else = λ t c le left. elim left [ inl now ↦ inr now.1 | inr before ↦ inl before ];
    remembers = λ t c le left. inr left;
  }

  -- by one more call, which leaves what could be left before it
  pub goes_more : (e : Event) (old h : List Event) → GoesOn start old h → ((c : List ℕ) → Leaves start h c → Leaves start (e ∷ h) c) → GoesOn start old (e ∷ h)
  goes_more e old h so_far grows = record {
    later = omega (arith, so_far.later);
    nothing_else = λ t c le left. elim left [
      | inl now ↦ inr now.1
      | inr before ↦ elim (so_far.nothing_else t c le before) [ inl was ↦ inl was | inr may ↦ inr (grows c may) ]
    ];
    remembers = λ t c le left. inr (so_far.remembers t c le left);
  }
