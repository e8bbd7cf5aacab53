-- What each event keeps holds in the last world of a run.
use Rattle.std.proofs.Common.{ℕ, List, [], ◌∷◌}
use Rattle.protocol.specs.Setting.{Setting, IsValid}
use Rattle.protocol.specs.World.{World, Event, Allowed, AllAllowed, all_happen, happens, only_place}
use Rattle.protocol.specs.Lines.{Line, Run, events, plays}
use Rattle.protocol.proofs.Invariant.{IsSafe}
use Rattle.protocol.proofs.Runs.{happens_safe}
use Rattle.protocol.proofs.lemmas.Playing.{no_fault, events_allowed}
use Rattle.protocol.proofs.Plays.{IsRight, plays_right}

module _ (s : Setting) (good : IsValid s) (P : World → Type 0) (event : (w : World) → IsSafe s w → P w → (place : ℕ) (e : Event) → Allowed s w place e → P (happens s w place e))
    (later : (w : World) (place : ℕ) → P w → P (only_place s w place)) where
  events_keep : (place : ℕ) (es : List Event) (w : World) → IsSafe s w → P w → AllAllowed s w place es → P (all_happen s w place es)
  events_keep place [] w safe p h = p
  events_keep place (e ∷ es) w safe p h = events_keep place es (happens s w place e) (happens_safe s good w safe place e h.0) (event w safe p place e h.0) h.1

  pub run_keeps : (ls : List (ℕ × Line)) (w last : World) → IsRight s good w → Run s w ls last → P w → P last
  run_keeps [] w last right run p = rw run p
  run_keeps (l ∷ ls) w last right run p =
      run_keeps ls (plays s w l.0 l.1) last (plays_right s good w right l.0 run.0 l.1 run.1 run.2) run.3
      (later _ l.0 (events_keep l.0 (events s w l.1) w right.safe p (events_allowed s good w right.safe l.0 run.0 l.1 run.1 (no_fault s w l.1 run.2))))
