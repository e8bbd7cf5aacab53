-- The calls by which a disk is read, and what a crash leaves at each moment of them.
use Rattle.std.proofs.Common.{◌≡◌, inl, inr, ℕ, List, map, ◌∙◌, ap, subst}
use Rattle.disk_model.specs.Crash.{Pending, MayLeave, Elapses, LeavesOnly, settled, IsWithin}
use Rattle.disk_model.proofs.lemmas.Crash.{only_settled}
use Rattle.quorum_rules.specs.Limits.{Numbers}
use Rattle.slot_disk.specs.Bodies.{bodies}
use Rattle.slot_disk.specs.Slots.{body_len, slot_of}
use Rattle.version_disk.specs.Reopened.{IsStillThere}
use Rattle.slot_disk.proofs.lemmas.Moments.{leaves_only_started, leaves_only_goes_on, leaves_only_joined, leaves_only_weaker}

module _ {D : Type 0} (moment : D → ℕ) (left_since : D → ℕ → List ℕ → Type 0) (pending : D → Pending) (seen : D → List ℕ) (old : D)
    (only_now : (bytes : List ℕ) → left_since old (moment old) bytes → MayLeave (pending old) bytes) where
  abbrev May : List ℕ → Type 0
  May = MayLeave (pending old)

  pub untouched : LeavesOnly moment left_since old old May
  untouched = leaves_only_started moment left_since pending old May only_now

  pub synced : (d : D) → IsWithin (pending d) (pending old) → Elapses moment left_since pending old d → LeavesOnly moment left_since old d May
  synced d crash time = leaves_only_goes_on moment left_since pending old old d May untouched time crash

  pub measured : (d e : D) → IsWithin (pending d) (pending old) → Elapses moment left_since pending old d → pending e ≡ pending d → Elapses moment left_since pending d e → LeavesOnly moment left_since old e May
  measured d e crash time same time_2 = leaves_only_goes_on moment left_since pending old d e May (synced d crash time) time_2 (λ c m. crash c (subst (λ (p : Pending). MayLeave p c) same m))

  pub was_read : (d e f : D) → IsWithin (pending d) (pending old) → Elapses moment left_since pending old d → pending e ≡ pending d → Elapses moment left_since pending d e
      → pending f ≡ pending e → Elapses moment left_since pending e f → LeavesOnly moment left_since old f May
  was_read d e f crash time same time_2 same_2 time_3 =
      leaves_only_goes_on moment left_since pending old e f May (measured d e crash time same time_2) time_3 (λ c m. crash c (subst (λ (p : Pending). MayLeave p c) (same_2 ∙ same) m))

  -- where all is safe, nothing can be lost
  pub unread : pending old ≡ settled (seen old) → LeavesOnly moment left_since old old (λ c. c ≡ seen old)
  unread settles = leaves_only_started moment left_since pending old (λ c. c ≡ seen old) (λ c left. only_settled (seen old) c (subst (λ (p : Pending). MayLeave p c) settles (only_now c left)))

-- a disk that was read, and whose gate was then closed, still has its slots
pub then_closed : {D : Type 0} (moment : D → ℕ) (left_since : D → ℕ → List ℕ → Type 0) (pending : D → Pending) (seen : D → List ℕ) (c : Numbers) (body : ℕ) (old mid new : D) → body ≡ body_len c → seen mid ≡ seen old
    → LeavesOnly moment left_since old mid (MayLeave (pending old)) → LeavesOnly moment left_since mid new (λ left. bodies body left ≡ bodies body (seen mid)) → LeavesOnly moment left_since old new (IsStillThere c (pending old) (seen old))
then_closed moment left_since pending seen c body old mid new size same read closed =
    leaves_only_joined moment left_since pending old mid new (IsStillThere c (pending old) (seen old))
    (leaves_only_weaker moment left_since old mid (MayLeave (pending old)) (IsStillThere c (pending old) (seen old)) (λ left may. inl may) read)
    (leaves_only_weaker moment left_since mid new (λ left. bodies body left ≡ bodies body (seen mid)) (IsStillThere c (pending old) (seen old))
    (λ left is. inr (ap (map (slot_of c.n)) (subst (λ (w : ℕ). bodies w left ≡ bodies w (seen mid)) size is ∙ ap (bodies (body_len c)) same))) closed)

-- and one that was read alone
pub only_read : {D : Type 0} (moment : D → ℕ) (left_since : D → ℕ → List ℕ → Type 0) (c : Numbers) (before : Pending) (bytes : List ℕ) (old new : D) → LeavesOnly moment left_since old new (MayLeave before) → LeavesOnly moment left_since old new (IsStillThere c before bytes)
only_read moment left_since c before bytes old new read = leaves_only_weaker moment left_since old new (MayLeave before) (IsStillThere c before bytes) (λ left may. inl may) read
