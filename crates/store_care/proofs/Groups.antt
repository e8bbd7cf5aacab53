-- Calls after calls, and what a node keeps over them.
use Rattle.std.proofs.Common.{◌≡◌, ℕ, ◌+◌, List, [], ◌∷◌, ◌++◌, length, Result, Ok, Err, IfOk, true, is_err, subst, arith}
use Rattle.std.proofs.lemmas.Bool.{false≢true}
use Rattle.quorum_rules.specs.Limits.{Numbers}
use Rattle.disk_model.specs.Crash.{Pending}
use Rattle.version_disk.specs.Stored.{Stored}
use Rattle.store_device.specs.Stores.{SeenStore}
use Rattle.store_device.specs.Calls.{Call, Leads}
use Rattle.store_care.specs.Filling.{AreFill, AreFilling, AreGroups, first_of, count_of}
use Rattle.store_care.specs.declared.filling.Filled.{Filled}

pub if_err : {A E : Type 0} (P : A → Type 0) (r : Result A E) → is_err r ≡ true → IfOk r P
if_err P (Ok x) h = absurd (false≢true h)
if_err P (Err e) h = tt

module _ {D : Type 0} where
  module _ (pending : D → Pending) (seen : D → List ℕ) (capacity : D → ℕ) (moment : D → ℕ) (left_since : D → ℕ → List ℕ → Type 0) where
    pub leads_then : (calls more : List (Call D)) (old mid new : SeenStore D) → Leads pending seen capacity moment left_since old calls mid → Leads pending seen capacity moment left_since mid more new
        → Leads pending seen capacity moment left_since old (calls ++ more) new
    leads_then [] more old mid new same h = subst (λ (s : SeenStore D). Leads pending seen capacity moment left_since s more new) same h
    leads_then (call ∷ calls) more old mid new are h = (are.0, leads_then calls more call.store mid new are.1 h)

  pub groups_then : (blocks group : ℕ) (calls more : List (Call D)) → AreGroups blocks group calls → AreGroups blocks (group + length calls) more → AreGroups blocks group (calls ++ more)
  groups_then blocks group [] more are h = let e : group + 0 ≡ group = omega arith in subst (λ (n : ℕ). AreGroups blocks n more) e h
  groups_then blocks group (call ∷ calls) more are h =
      let e : group + length (call ∷ calls) ≡ group + 1 + length calls = omega arith in
      (are.0, groups_then blocks (group + 1) calls more are.1 (subst (λ (n : ℕ). AreGroups blocks n more) e h))

  pub group_at : (blocks group first count : ℕ) (calls : List (Call D)) → first ≡ first_of blocks group → count ≡ count_of blocks group → AreFill first count calls → AreGroups blocks group calls
  group_at blocks group first count [] f n h = tt
  group_at blocks group first count (read ∷ []) f n h =
      subst (λ (a : ℕ). AreGroups blocks group (read ∷ [])) f (same first count f n h)
    where
      same : (a b : ℕ) → a ≡ first_of blocks group → b ≡ count_of blocks group → AreFill a b (read ∷ []) → AreGroups blocks group (read ∷ [])
      same a b ea eb h =
          (subst (λ (x : ℕ). AreFill x (count_of blocks group) (read ∷ [])) ea (subst (λ (y : ℕ). AreFill a y (read ∷ [])) eb h), tt)
  group_at blocks group first count (read ∷ more ∷ rest) f n h = absurd h

  module _ {E : Type 0} (pending : E → Pending) (seen : E → List ℕ) (c : Numbers) (number : ℕ) where
    pub filling_then : (calls more : List (Call D)) (old mid new : Filled) (was between is : Stored E)
        → AreFilling pending seen c number calls old mid was between → AreFilling pending seen c number more mid new between is
        → AreFilling pending seen c number (calls ++ more) old new was is
    filling_then [] more old mid new was between is same h =
        subst (λ (f : Filled). AreFilling pending seen c number more f new was is) same.0
        (subst (λ (n : Stored E). AreFilling pending seen c number more mid new n is) same.1 h)
    filling_then (call ∷ calls) more old mid new was between is are h =
        (are.0, are.1, are.2, filling_then calls more are.0 mid new are.1 between is are.3 h)
