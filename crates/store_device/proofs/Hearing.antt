-- What a phase leaves of an operation.
use Rattle.std.proofs.Common.{◌≡◌, ℕ, suc, Bool, true, false, cond, ltb, List, [], ◌∷◌, Option, Some, None, refl, subst}
use Rattle.protocol.specs.Count.{one_more}
use Rattle.protocol.specs.Messages.{Version, Reply, Tag}
use Rattle.protocol.specs.Setting.{Setting}
use Rattle.protocol.specs.Nodes.{after}
use Rattle.protocol.specs.Operations.{Stage, Decision, request_of, decide, awaits_more}
use Rattle.protocol.specs.Operations.Stage.{Times, Versions, Storing}
use Rattle.protocol.specs.Operations.Decision.{GoesOn, Ends}
use Rattle.protocol.specs.Seen.{SeenTask, task_at, hearing, is_counted, seen_counted, by_decision, after_counting}
use Rattle.protocol.specs.Seen.Hearing.{Ignored, Counted}
use Rattle.block_phases.specs.Phases.{Progress, tag_of, progress, heard_from, after_phase}
use Rattle.block_phases.specs.Phases.Progress.{UnderWay, Over}

-- the stage has nodes store something
abbrev pub is_storing : Stage → Bool
is_storing (Storing stamp value) = true
is_storing _ = false

-- what is asked otherwise changes nothing of a node
pub quiet : (s t : Setting) (stage : Stage) (number i block : ℕ) (vs : List Version) → is_storing stage ≡ false
    → after s number vs (record { block = block; request = request_of t stage i }) ≡ vs
quiet s t Times number i block vs e = either (ltb block s.blocks)
  where
    either : (b : Bool) → one_more vs (cond b None None) ≡ vs
    either true = refl
    either false = refl
quiet s t (Versions bound) number i block vs e = either (ltb block s.blocks)
  where
    either : (b : Bool) → one_more vs (cond b None None) ≡ vs
    either true = refl
    either false = refl
quiet s t (Storing stamp value) number i block vs e = absurd cc

module _ (s : Setting) (client : ℕ) where
  -- what each hearing keeps is kept in a phase
  keeps : (tag : Tag) (P : Progress → Type 0)
      → ((task : SeenTask) (i : ℕ) (given : Reply) → P (UnderWay task) → P (progress s task (hearing s client task i tag given)))
      → (p : Progress) (i : ℕ) (replies : List (Option Reply)) → P p → P (heard_from s client tag p i replies)
  keeps tag P step p i [] holds = holds
  keeps tag P step (UnderWay task) i (None ∷ replies) holds = keeps tag P step (UnderWay task) (suc i) replies holds
  keeps tag P step (UnderWay task) i (Some given ∷ replies) holds = keeps tag P step (progress s task (hearing s client task i tag given))
      (suc i) replies (step task i given holds)
  keeps tag P step (Over outcome) i (None ∷ replies) holds = keeps tag P step (Over outcome) (suc i) replies holds
  keeps tag P step (Over outcome) i (Some given ∷ replies) holds = keeps tag P step (Over outcome) (suc i) replies holds

  -- the operation is on this block
  abbrev IsOn : ℕ → Progress → Type 0
  IsOn block (UnderWay task) = task.block ≡ block
  IsOn block (Over outcome) = Unit {0}

  on_step : (block : ℕ) (tag : Tag) (task : SeenTask) (i : ℕ) (given : Reply) → IsOn block (UnderWay task)
      → IsOn block (progress s task (hearing s client task i tag given))
  on_step block tag task i given on = counts (is_counted s task i tag given)
    where
      decided : (d : Decision) → IsOn block (progress s task (by_decision s (seen_counted task i given) d))
      decided (GoesOn stage) = on
      decided (Ends outcome) = tt

      waits : (b : Bool) → IsOn block (progress s task (cond b (Counted (seen_counted task i given)) (by_decision s (seen_counted task i
          given) (decide s client (task_at 0 (seen_counted task i given)) (seen_counted task i given).stage))))
      waits true = on
      waits false = decided (decide s client (task_at 0 (seen_counted task i given)) (seen_counted task i given).stage)

      counts : (b : Bool) → IsOn block (progress s task (cond b (after_counting s client (seen_counted task i given)) Ignored))
      counts true = waits (awaits_more s (task_at 0 (seen_counted task i given)))
      counts false = on

  pub phase_on : (task : SeenTask) (replies : List (Option Reply)) (next : SeenTask) → after_phase s client task replies ≡ UnderWay next
      → next.block ≡ task.block
  phase_on task replies next is = subst (IsOn task.block) is (keeps (tag_of task) (IsOn task.block) (on_step task.block (tag_of task))
      (UnderWay task) 0 replies refl)

  -- the operation is in this phase, in which nodes store something, or over
  abbrev IsStill : ℕ → Progress → Type 0
  IsStill phase (UnderWay task) = (task.phase ≡ phase) × (is_storing task.stage ≡ true)
  IsStill phase (Over outcome) = Unit {0}

  still_step : (phase : ℕ) (tag : Tag) (task : SeenTask) (i : ℕ) (given : Reply) → IsStill phase (UnderWay task)
      → IsStill phase (progress s task (hearing s client task i tag given))
  still_step phase tag task i given still = counts (is_counted s task i tag given)
    where
      decided : (stage : Stage) → is_storing stage ≡ true
          → IsStill phase (progress s task (by_decision s (seen_counted task i given)
          (decide s client (task_at 0 (seen_counted task i given)) stage)))
      decided Times e = absurd cc
      decided (Versions bound) e = absurd cc
      decided (Storing stamp value) e = tt

      waits : (b : Bool) → IsStill phase (progress s task (cond b (Counted (seen_counted task i given)) (by_decision s (seen_counted task
          i given) (decide s client (task_at 0 (seen_counted task i given)) (seen_counted task i given).stage))))
      waits true = still
      waits false = decided task.stage still.1

      counts : (b : Bool) → IsStill phase (progress s task (cond b (after_counting s client (seen_counted task i given)) Ignored))
      counts true = waits (awaits_more s (task_at 0 (seen_counted task i given)))
      counts false = still

  -- no phase follows on one in which nodes store something
  pub storing_stays : (task : SeenTask) (replies : List (Option Reply)) (next : SeenTask) → is_storing task.stage ≡ true
      → after_phase s client task replies ≡ UnderWay next → next.phase ≡ task.phase
  storing_stays task replies next storing is =
      let still : IsStill task.phase (UnderWay next) = subst (IsStill task.phase) is
      (keeps (tag_of task) (IsStill task.phase) (still_step task.phase (tag_of task)) (UnderWay task) 0 replies (refl, storing)) in
      still.0
