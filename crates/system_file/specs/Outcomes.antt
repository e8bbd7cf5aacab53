-- What a crash may leave of a file, from the record of its calls.
use Rattle.std.specs.Prelude.{◌≡◌, ◌⊎◌, ◌≤◌, ℕ, zero, suc, Bool, true, false, ◌&&◌, List, [], ◌∷◌, length}
use Rattle.sqlite_disk.specs.Disk.{Torn}
use Rattle.sqlite_disk.specs.Events.{Event, Model, replay}

-- a sync that succeeds leaves nothing but what was seen
abbrev pub LeftBySync : Bool → List ℕ → (List ℕ → Type 0) → List ℕ → Type 0
LeftBySync true seen P c = c ≡ seen
LeftBySync false seen P c = P c

-- What a crash may leave after a call, where before it it could leave what has P. The call is told by its kind, place, success and bytes. A write may be torn. A length is set only to make a file longer.
abbrev pub LeftAfter : ℕ → ℕ → Bool → List ℕ → Model → Model → (List ℕ → Type 0) → List ℕ → Type 0
LeftAfter zero at ok bytes was now P c = P c
LeftAfter (suc zero) at ok bytes was now P c = P c
LeftAfter (suc (suc zero)) at ok bytes was now P c = P c
LeftAfter (suc (suc (suc zero))) at ok bytes was now P c = (d : List ℕ) × P d × Torn at (length bytes) d c
LeftAfter (suc (suc (suc (suc zero)))) at ok bytes was now P c = (c ≡ now.seen) ⊎ ((d : List ℕ) × P d × Torn at 0 d c)
LeftAfter (suc (suc (suc (suc (suc zero))))) at ok bytes was now P c = LeftBySync (was.is_usable && ok) was.seen P c
LeftAfter (suc (suc (suc (suc (suc (suc more)))))) at ok bytes was now P c = P c

-- what a crash may leave of a file that held `start`, after these calls, of which the newest comes first
abbrev pub Leaves : List ℕ → List Event → List ℕ → Type 0
Leaves start [] c = c ≡ start
Leaves start (e ∷ earlier) c = LeftAfter e.0 e.1 e.3 e.4 (replay start earlier) (replay start (e ∷ earlier)) (Leaves start earlier) c

-- what a crash could leave after t calls or more of these
abbrev pub LeftSince : List ℕ → List Event → ℕ → List ℕ → Type 0
LeftSince start [] t c = (t ≤ 0) × (c ≡ start)
LeftSince start (e ∷ earlier) t c = ((t ≤ length (e ∷ earlier)) × Leaves start (e ∷ earlier) c) ⊎ LeftSince start earlier t c
