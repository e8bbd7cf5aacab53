-- How a run of disk calls goes on.
use Rattle.std.proofs.Common.{inl, inr, ⊎_elim, ℕ, List, arith}
use Rattle.disk_model.specs.Crash.{Pending, MayLeave, Elapses, LeavesOnly}

module _ {D : Type 0} (moment : D → ℕ) (left_since : D → ℕ → List ℕ → Type 0) (pending : D → Pending) where
  -- before the first call
  pub leaves_only_started : (old : D) (P : List ℕ → Type 0) → ((c : List ℕ) → left_since old (moment old) c → P c) → LeavesOnly moment left_since old old P
  leaves_only_started old P here = record { later = omega arith; each = here; before = λ t c le left. inl left }

  -- one call more, after which a crash leaves what has P
  pub leaves_only_goes_on : (old mid new : D) (P : List ℕ → Type 0) → LeavesOnly moment left_since old mid P → Elapses moment left_since pending mid new
      → ((c : List ℕ) → MayLeave (pending new) c → P c) → LeavesOnly moment left_since old new P
  leaves_only_goes_on old mid new P so_far time here = record {
    later = omega (arith, so_far.later, time.later);
    each = λ c left. ⊎_elim (λ past. so_far.each c past) (here c) (time.nothing_else (moment old) c so_far.later left);
    before = λ t c le left. ⊎_elim (so_far.before t c le) (λ now. inr (here c now)) (time.nothing_else t c (omega (arith, le, so_far.later)) left);
  }

  -- a run that goes on with another one
  pub leaves_only_joined : (old mid new : D) (P : List ℕ → Type 0) → LeavesOnly moment left_since old mid P → LeavesOnly moment left_since mid new P → LeavesOnly moment left_since old new P
  leaves_only_joined old mid new P first second = record {
    later = omega (arith, first.later, second.later);
    each = λ c left. ⊎_elim (λ past. first.each c past) (λ p. p) (second.before (moment old) c first.later left);
    before = λ t c le left. ⊎_elim (λ past. first.before t c le past) (λ p. inr p) (second.before t c (omega (arith, le, first.later)) left);
  }

-- what holds of each crash, held of each of them before
pub leaves_only_weaker : {D : Type 0} (moment : D → ℕ) (left_since : D → ℕ → List ℕ → Type 0) (old new : D) (P Q : List ℕ → Type 0) → ((c : List ℕ) → P c → Q c) → LeavesOnly moment left_since old new P → LeavesOnly moment left_since old new Q
leaves_only_weaker moment left_since old new P Q so l = record {
  later = l.later;
  each = λ c left. so c (l.each c left);
  before = λ t c le left. ⊎_elim (λ past. inl past) (λ p. inr (so c p)) (l.before t c le left);
}
