-- That operations come to their end: what holds of one between two phases, and how many phases it has left.
use Rattle.std.specs.Prelude.{◌≡◌, ℕ, zero, suc, ◌+◌, ◌*◌, ◌<◌, ◌≤◌, ⊤, List, count_by, replicate, Option, slice_index_or}
use Rattle.std.specs.declared.option.Option.TheVariants.{None}
use Rattle.stamp_order.specs.declared.Bound.{Bound}
use Rattle.stamp_order.specs.declared.Bound.TheVariants.{All as Every, AtMost, Below}
use Rattle.stamp_order.specs.Stamps.{has}
use Rattle.protocol.specs.Count.{count}
use Rattle.protocol.specs.Messages.{Reply}
use Rattle.protocol.specs.Setting.{Setting, IsBlock}
use Rattle.protocol.specs.Nodes.{refusal}
use Rattle.protocol.specs.Operations.{Work, Stage, is_answered, value_of}
use Rattle.protocol.specs.Operations.Stage.{Times, Versions, Storing}
use Rattle.protocol.specs.World.{Fits}
use Rattle.protocol.specs.Seen.{SeenTask, seen_begun}
use Rattle.block_phases.specs.Phases.{Keeps}
use Rattle.block_phases.specs.Phases.{Progress, after_phase, AreAnswers}
use Rattle.block_phases.specs.Phases.Progress.{UnderWay, Over}

-- how many versions the nodes below n keep that are in a bound
abbrev pub kept_within : Bound → ℕ → Keeps → ℕ
kept_within bound zero kept = 0
kept_within bound (suc k) kept = kept_within bound k kept + count_by (λ v. has bound v.stamp) (kept k)

-- How many phases an operation has left at most. A read has two for each version that it may still step back over,
-- one in which there is none, and one that stores what it gives.
abbrev pub phases_left : ℕ → Keeps → Stage → ℕ
phases_left n kept Times = 2
phases_left n kept (Storing stamp value) = 1
phases_left n kept (Versions Every) = 2 * kept_within Every n kept + 2
phases_left n kept (Versions (Below stamp)) = 2 * kept_within (Below stamp) n kept + 2
phases_left n kept (Versions (AtMost stamp)) = 2 * kept_within (Below stamp) n kept + 3

-- from how many nodes there is an answer
abbrev pub answers_given : ℕ → List (Option Reply) → ℕ
answers_given n replies = count n (λ i. is_answered (slice_index_or replies i None))

module _ (s : Setting) where
  -- what is asked may be: a time for a block that is written, and of no node to store what it refuses
  abbrev pub MayAsk : Work → Stage → Type 0
  MayAsk work Times = IsBlock s (value_of work)
  MayAsk work (Versions bound) = ⊤
  MayAsk work (Storing stamp value) =
      (i : ℕ) → i < s.n → refusal s i (record { stamp = stamp; sum = s.sum_of value; fragment = s.fragment_of value i }) ≡ None

  -- an operation between two phases: the present one may be asked, and none of its answers was heard
  pub record IsAsked (task : SeenTask) : Type 0 where
    pub there : task.block < s.blocks
    pub may : MayAsk task.work task.stage
    pub unheard : task.answers ≡ replicate s.n None

  abbrev pub OperationsAreAsked : Type 0
  OperationsAreAsked = (block op : ℕ) (work : Work) → block < s.blocks → Fits s work → IsAsked (seen_begun s op block work)

  -- the operation is over, or in its next phase, with fewer left
  abbrev pub IsNearer : SeenTask → Keeps → Progress → Type 0
  IsNearer task now (Over outcome) = ⊤
  IsNearer task now (UnderWay next) =
      (next.phase ≡ task.phase + 1) × IsAsked next × (phases_left s.n now next.stage < phases_left s.n now task.stage)

  -- answers of n-t nodes end a phase, whatever versions these nodes keep
  abbrev pub PhasesEnd : Type 0
  PhasesEnd =
      (client : ℕ) (task : SeenTask) (now : Keeps) (replies : List (Option Reply))
      → IsAsked task
      → AreAnswers s task now replies
      → s.n ≤ answers_given s.n replies + s.t
      → IsNearer task now (after_phase s client task replies)
