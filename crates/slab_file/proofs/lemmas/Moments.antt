-- How a crash at any moment of a run of calls is known from its calls.
use Rattle.std.proofs.Common.{◌⊎◌, inl, inr, ℕ, ◌≤◌, List, arith}
use Rattle.disk_model.specs.Crash.{LeavesOnly}
use Rattle.slab_file.specs.Moments.{Elapses}

module _ {F : Type 0} (moment : F → ℕ) (left_since : F → ℕ → List ℕ → Type 0) (may_leave : F → List ℕ → Type 0) where
  -- where nothing happens, no time goes by
  pub stands_still : (old : F) → Elapses moment left_since may_leave old old
  stands_still old = record {
    later = omega arith;
    nothing_else = λ t bytes le left. inl left;
    remembers = λ t bytes le left. left;
  }

  -- a run begins
  pub leaves_now : (old : F) (P : List ℕ → Type 0) → ((bytes : List ℕ) → left_since old (moment old) bytes → P bytes) → LeavesOnly moment left_since old old P
  leaves_now old P each = record {
    later = omega arith;
    each = each;
    before = λ t bytes le left. inl left;
  }

  -- it goes on by a call
  pub leaves_more : (old mid new : F) (P : List ℕ → Type 0) → LeavesOnly moment left_since old mid P → Elapses moment left_since may_leave mid new
      → ((bytes : List ℕ) → may_leave new bytes → P bytes) → LeavesOnly moment left_since old new P
  leaves_more old mid new P so_far time each = record {
    later = omega (arith, so_far.later, time.later);
    each = λ bytes left. elim (time.nothing_else (moment old) bytes so_far.later left) [ inl was ↦ so_far.each bytes was | inr may ↦ each bytes may ];
    before = λ t bytes le left. elim (time.nothing_else t bytes (omega (arith, le, so_far.later)) left) [ inl was ↦ so_far.before t bytes le was | inr may ↦ inr (each bytes may) ];
  }

  -- two runs are one
  pub leaves_both : (old mid new : F) (P : List ℕ → Type 0) → LeavesOnly moment left_since old mid P → LeavesOnly moment left_since mid new P → LeavesOnly moment left_since old new P
  leaves_both old mid new P first second = record {
    later = omega (arith, first.later, second.later);
    each = λ bytes left. elim (second.before (moment old) bytes first.later left) [ inl was ↦ first.each bytes was | inr is ↦ is ];
    before = λ t bytes le left. elim (second.before t bytes (omega (arith, le, first.later)) left) [ inl was ↦ first.before t bytes le was | inr is ↦ inr is ];
  }
