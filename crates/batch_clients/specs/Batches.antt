-- Operations that go on in step: what each asks of the nodes in a phase, and what the answers make of it.
use Rattle.std.specs.Prelude.{◌≡◌, ℕ, suc, ◌+◌, ◌<◌, ◌==◌, if◌then◌else◌, List, [], ◌∷◌, length, map, filter_map, Option, slice_get}
use Rattle.std.specs.declared.option.Option.TheVariants.{None, Some}
use Rattle.quorum_rules.specs.Limits.{Numbers}
use Rattle.wire_forms.specs.declared.op.Op.{Op}
use Rattle.protocol.specs.Messages.{Ask, Reply}
use Rattle.protocol.specs.Setting.{Setting}
use Rattle.protocol.specs.Operations.{Outcome}
use Rattle.protocol.specs.Seen.{SeenTask, block_of, work_of, seen_begun}
use Rattle.block_phases.specs.Phases.{Progress, ask_to, after_phase}
use Rattle.block_phases.specs.Phases.Progress.{UnderWay, Over}

-- where an operation stands between two phases
pub data Stand : Type 0 where
  -- its present phase is to be asked
  Asks : SeenTask → Stand
  -- it has ended
  Ended : Outcome → Stand
  -- too few nodes answered
  Lost : Stand

-- an operation of a batch, and whose it is
pub record Running : Type 0 where
  pub client : ℕ
  pub stand : Stand

-- what contracts see of a batch: the cluster's numbers, its operations, and how many phases were asked
pub record SeenBatch : Type 0 where
  pub config : Numbers
  pub runs : List Running
  pub phases : ℕ

-- how many asks of each node it has: one or none
abbrev pub how_many : Stand → ℕ
how_many (Asks task) = 1
how_many _ = 0

-- how it ended, if it did
abbrev pub end_of : Stand → Option Outcome
end_of (Ended outcome) = Some outcome
end_of _ = None

-- where a phase that came to this leaves the operation: one that is still in the same phase is lost
abbrev pub stand_after : SeenTask → Progress → Stand
stand_after task (Over outcome) = Ended outcome
stand_after task (UnderWay next) = if next.phase == task.phase then Lost else Asks next

-- a node's answers, of which there is one for each ask, if it answered
abbrev pub reply_at : ℕ → Option (List Reply) → Option Reply
reply_at j None = None
reply_at j (Some replies) = slice_get replies j

-- the answers of all nodes to ask number j of each
abbrev pub column : ℕ → List (Option (List Reply)) → List (Option Reply)
column j answers = map (reply_at j) answers

module _ (s : Setting) where
  -- operations that have just begun, the first of them the client's of this number
  abbrev pub begun : ℕ → List Op → List Running
  begun client [] = []
  begun client (op ∷ ops) = record { client = client; stand = Asks (seen_begun s 1 (block_of op) (work_of op)) } ∷ begun (suc client) ops

  -- what an operation asks of a node
  abbrev pub ask_by : ℕ → Stand → Option Ask
  ask_by i (Asks task) = Some (ask_to s task i)
  ask_by i _ = None

  -- what the operations ask of a node, in their order
  abbrev pub asks_to : ℕ → List Running → List Ask
  asks_to i runs = filter_map (λ r. ask_by i r.stand) runs

  -- where the operation stands when it has heard the answers to ask number j of each node, if it asked
  abbrev pub stand_heard : ℕ → List (Option (List Reply)) → ℕ → Stand → Stand
  stand_heard j answers client (Asks task) = stand_after task (after_phase s client task (column j answers))
  stand_heard j answers client stand = stand

  -- the operations when they have heard the answers, where the first one that asks has asked number j
  abbrev pub after_answers : ℕ → List (Option (List Reply)) → List Running → List Running
  after_answers j answers [] = []
  after_answers j answers (r ∷ runs) =
      record { client = r.client; stand = stand_heard j answers r.client r.stand } ∷ after_answers (j + how_many r.stand) answers runs

  -- for each node what the operations ask of it
  pub record AreAsksOf (runs : List Running) (asks : List (List Ask)) : Type 0 where
    pub count : length asks ≡ s.n
    pub each : (i : ℕ) → i < s.n → slice_get asks i ≡ Some (asks_to i runs)

  -- of each node either an answer to each of its asks, or none at all
  pub record AreAnswersTo (runs : List Running) (answers : List (Option (List Reply))) : Type 0 where
    pub count : length answers ≡ s.n
    pub each : (i : ℕ) (replies : List Reply) → slice_get answers i ≡ Some (Some replies) → length replies ≡ length (asks_to i runs)
