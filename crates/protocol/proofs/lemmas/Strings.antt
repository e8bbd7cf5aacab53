-- Strings that were seen stay seen, and what no clash of theirs gives.
use Rattle.std.proofs.Common.{ℕ, List, suc, ◌<◌, [], ◌∷◌}
use Rattle.std.specs.List.{Contains}
use Rattle.protocol.specs.Messages.{Message, IsBytes}
use Rattle.protocol.specs.Setting.{Setting}
use Rattle.protocol.specs.Operations.{Work}
use Rattle.protocol.specs.Operations.Work.{Reads, Writes}
use Rattle.protocol.specs.World.{World}
use Rattle.protocol.specs.History.{IsSeen, IsValue, NoClash}
use Rattle.protocol.specs.History.IsSeen.{in_message, sum_seen, fragment_seen}
use Rattle.protocol.proofs.Invariant.{NoClashFor}
use Rattle.std.specs.Prelude.{slice_index}

pub NoClashFor-any : (s : Setting) (w : World) (work : Work) → NoClash s w → NoClashFor s w work
NoClashFor-any s w Reads apart = apart
NoClashFor-any s w (Writes value) apart = tt

module _ (s : Setting) (w v : World) where
  pub IsSeen-more : ((m : Message) → Contains w.pool m → Contains v.pool m) → ((x : List ℕ) → IsValue s w x → IsValue s v x) → (x : List ℕ) → IsSeen s w x → IsSeen s v x
  IsSeen-more pool values x (in_message {m = m} h k) = in_message {m = m} (pool m h) k
  IsSeen-more pool values x (sum_seen {value = y} h) = sum_seen (values y h)
  IsSeen-more pool values x (fragment_seen {value = y} h k) = fragment_seen (values y h) k

  pub NoClashFor-before : (NoClash s v → NoClash s w) → (work : Work) → NoClashFor s v work → NoClashFor s w work
  NoClashFor-before back Reads apart = back apart
  NoClashFor-before back (Writes value) apart = tt

  pub NoClash-before : ((m : Message) → Contains w.pool m → Contains v.pool m) → ((x : List ℕ) → IsValue s w x → IsValue s v x) → NoClash s v → NoClash s w
  NoClash-before pool values apart x y h k e = apart x y (IsSeen-more pool values x h) (IsSeen-more pool values y k) e

pub all_bytes : (xs : List ℕ) → ((i : ℕ) → slice_index xs i < 256) → IsBytes xs
all_bytes [] h = tt
all_bytes (x ∷ xs) h = (h 0, all_bytes xs (λ i. h (suc i)))
