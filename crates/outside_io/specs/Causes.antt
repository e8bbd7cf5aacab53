-- When a fault may be told.
use Rattle.std.specs.Prelude.{◌≡◌, ◌⊎◌, ℕ, ◌+◌, ◌-◌, ◌^◌, min, ◌<◌, ◌≤◌, Option, Some, Result, OnOk, OnErr}

-- the count rose, or stands at the last value that it can have
abbrev pub Rose : Option ℕ → ℕ → ℕ → Type 0
Rose last before now = (before < now) ⊎ (last ≡ Some now)

-- the count rose by one, or stands at the last value that it can have
abbrev pub RoseByOne : Option ℕ → ℕ → ℕ → Type 0
RoseByOne last before now = (now ≡ before + 1) ⊎ (last ≡ Some now)

-- the count has not fallen, stays at `Ok`, and an `Err` comes only where it rose
pub record HasCause {T E : Type 0} (last : Option ℕ) (before now : ℕ) (result : Result T E) : Type 0 where
  pub later : before ≤ now
  pub calm : OnOk result (now ≡ before)
  pub failed : OnErr result (Rose last before now)

-- one fault more, where a word can count it
abbrev pub one_more : ℕ → ℕ
one_more faults = min (faults + 1) (2 ^ 64 - 1)
