-- An operation of a correct client: what it asks, which answers count, and how a phase ends.
use Rattle.std.specs.Prelude.{ℕ, ◌+◌, ◌-◌, ◌^◌, Bool, true, false, cond, if◌then◌else◌, not, ◌||◌, ◌&&◌, ◌==◌, nat_lt, nat_le, List, [], ◌∷◌, length, take, map, Option}
use Rattle.std.specs.declared.option.Option.TheVariants.{None, Some}
use Rattle.protocol.specs.Count.{count, collect, kept_where, update}
use Rattle.stamp_order.specs.declared.Stamp.{Stamp}
use Rattle.stamp_order.specs.declared.Bound.{Bound}
use Rattle.stamp_order.specs.Stamps.{has, up_to, same_stamp}
use Rattle.protocol.specs.Reach.{highest}
use Rattle.stamp_order.specs.declared.Bound.TheVariants.{All as Every, AtMost, Below}
use Rattle.protocol.specs.Messages.{flat, Version, Ask, Request, Reply, Tag, Message}
use Rattle.wire_forms.specs.declared.Request.TheVariants.{Time, Read, Write}
use Rattle.wire_forms.specs.declared.Reply.TheVariants.{TimeIs, Found, Nothing, Ack}
use Rattle.wire_forms.specs.declared.Body.TheVariants.{Ask as Asks}
pub use Rattle.run_words.specs.declared.outcome.How.{How}
pub use Rattle.run_words.specs.declared.outcome.Outcome.{Outcome}
use Rattle.run_words.specs.declared.outcome.How.TheVariants.{Plain, Repaired}
use Rattle.run_words.specs.declared.outcome.Outcome.TheVariants.{Wrote, Spent, Gave, Outvoted}
pub use Rattle.protocol.specs.Nodes.{carries}
use Rattle.protocol.specs.Setting.{Setting, zeros, first_stamp, verifier_of, digest_at, same, same_digests}

-- what an operation is to do
pub data Work : Type 0 where
  Reads : Work
  Writes : List ℕ → Work

-- what its present phase asks for: times, versions in a bound, or that a value is stored
pub data Stage : Type 0 where
  Times : Stage
  Versions : Bound → Stage
  Storing : Stamp → List ℕ → Stage

-- an operation under way
pub record Task : Type 0 where
  pub op : ℕ
  pub block : ℕ
  pub work : Work
  pub start : ℕ
  pub phase : ℕ
  pub rounds : ℕ
  pub stage : Stage
  -- for each node its answer, if one was counted in this phase
  pub answers : ℕ → Option Reply

-- how a phase ends: by a further phase or with the operation
pub data Decision : Type 0 where
  GoesOn : Stage → Decision
  Ends : Outcome → Decision

-- no node has answered
abbrev pub no_answers : ℕ → Option Reply
no_answers i = None

-- the stage that an operation begins with
abbrev pub first_work : Work → Stage
first_work Reads = Versions Every
first_work (Writes value) = Times

-- there is an answer
abbrev pub is_answered : Option Reply → Bool
is_answered None = false
is_answered (Some reply) = true

-- the reply is of the kind that the stage counts
abbrev pub is_of_kind : Stage → Reply → Bool
is_of_kind Times (TimeIs time) = true
is_of_kind (Versions bound) (Found v) = true
is_of_kind (Versions bound) Nothing = true
is_of_kind (Storing stamp value) Ack = true
is_of_kind _ _ = false

-- the time of an answer, if it tells one
abbrev pub time_of : Option Reply → Option ℕ
time_of (Some (TimeIs time)) = Some time
time_of _ = None

-- the time, or 0 if there is none
abbrev pub time_or_zero : Option ℕ → ℕ
time_or_zero None = 0
time_or_zero (Some x) = x

-- there is a stamp
abbrev pub is_there : Option Stamp → Bool
is_there None = false
is_there (Some x) = true

-- the stamp of a version, if there is one
abbrev pub stamp_of : Option Version → Option Stamp
stamp_of None = None
stamp_of (Some v) = Some v.stamp

-- what there is, if the test holds
abbrev pub only_if : {A : Type 0} → Bool → Option A → Option A
only_if b x = cond b x None

-- the cross checksum of the first
abbrev pub sum_of_first : List (ℕ × Version) → List (List ℕ)
sum_of_first [] = []
sum_of_first (p ∷ ps) = p.1.sum

-- the version with the number of its node
abbrev pub numbered : ℕ → Option Version → Option (ℕ × Version)
numbered i None = None
numbered i (Some v) = Some (i, v)

-- the fragment with the number of its node
abbrev pub part_of : ℕ × Version → ℕ × List ℕ
part_of p = (p.0, p.1.fragment)

-- what an operation ends with when its stamp is stored
abbrev pub stored : Work → ℕ → Stamp → List ℕ → Outcome
stored Reads rounds stamp value = Gave stamp value Repaired rounds
stored (Writes written) rounds stamp value = Wrote stamp

-- what a write is to write
abbrev pub value_of : Work → List ℕ
value_of Reads = []
value_of (Writes value) = value

-- a phase that asks for versions is one more round
abbrev pub rounds_after : Stage → ℕ → ℕ
rounds_after (Versions bound) rounds = rounds + 1
rounds_after _ rounds = rounds

-- the task in its next phase
abbrev pub goes_on : Task → Stage → Task
goes_on task stage =
    record { op = task.op; block = task.block; work = task.work; start = task.start; phase = task.phase + 1; rounds = rounds_after stage task.rounds; stage = stage; answers = no_answers }

-- the task of a new operation
abbrev pub begun : ℕ → ℕ → Work → ℕ → Task
begun op block work start =
    record { op = op; block = block; work = work; start = start; phase = 1; rounds = rounds_after (first_work work) 0; stage = first_work work; answers = no_answers }

-- the task with one more answer counted
abbrev pub counted : Task → ℕ → Reply → Task
counted task node reply =
    record { op = task.op; block = task.block; work = task.work; start = task.start; phase = task.phase; rounds = task.rounds; stage = task.stage; answers = update task.answers node (Some reply) }

module _ (s : Setting) where
  -- the version is one that node i may keep: its lengths, its verifier and its digest are right, and its time isn't 0 or its stamp is the first
  abbrev pub is_whole : ℕ → Version → Bool
  is_whole i v =
      (length v.sum == s.n)
      && (length v.fragment == s.share)
      && same v.stamp.verifier (s.digest (flat v.sum))
      && same (s.digest v.fragment) (digest_at s v.sum i)
      && (nat_lt 0 v.stamp.time || same_stamp v.stamp (first_stamp s))

  -- the test of a version that node i gives under a bound
  abbrev pub is_valid : ℕ → Bound → Version → Bool
  is_valid i bound v = has bound v.stamp && is_whole i v

  -- the version of a valid answer of node i
  abbrev pub valid : ℕ → Bound → Option Reply → Option Version
  valid i bound (Some (Found v)) = kept_where (is_valid i bound v) v
  valid i bound _ = None

  module _ (answers : ℕ → Option Reply) where
    -- how many nodes have answered
    abbrev pub answered : ℕ
    answered = count s.n (λ i. is_answered (answers i))

    -- the (b+1)-th highest of the times, or 0 where there are fewer
    abbrev pub drawn_from : ℕ
    drawn_from = time_or_zero (highest nat_le s.n (λ i. time_of (answers i)) (s.b + 1))

    module _ (bound : Bound) where
      -- the stamps of the valid answers
      abbrev pub stamps : ℕ → Option Stamp
      stamps i = stamp_of (valid i bound (answers i))

      -- how many valid answers carry exactly this stamp
      abbrev pub support : Stamp → ℕ
      support stamp = count s.n (λ i. carries stamp (valid i bound (answers i)))

      -- the greatest stamp that a valid answer carries and at least qc-t valid answers reach: the (qc-t)-th highest
      abbrev pub pivot : Option Stamp
      pivot = highest up_to s.n stamps (s.qc - s.t)

      -- the nodes whose answers aren't valid
      abbrev pub invalid_nodes : List ℕ
      invalid_nodes = collect s.n (λ i. kept_where (is_answered (answers i) && not (is_there (stamps i))) i)

      -- the answers that carry the stamp, by node
      abbrev pub carriers : Stamp → List (ℕ × Version)
      carriers stamp = collect s.n (λ i. only_if (carries stamp (valid i bound (answers i))) (numbered i (valid i bound (answers i))))

      -- the m answers of least node number that carry the stamp
      abbrev pub chosen : Stamp → List (ℕ × Version)
      chosen stamp = take s.m (carriers stamp)

      -- the block that the chosen answers decode to
      abbrev pub candidate : Stamp → List ℕ
      candidate stamp = s.decoded (map part_of (chosen stamp))

      -- the pivot's value is given if it is the first or has enough support, stored if it has less, and stepped back from if it has too little or is poisonous
      abbrev pub decide_at : ℕ → Stamp → Decision
      decide_at rounds p =
          if same_stamp p (first_stamp s) then Ends (Gave (first_stamp s) (zeros s) Plain rounds)
          else (if nat_lt (support p) (s.qc - s.t) then GoesOn (Versions (AtMost p))
          else (if not (same_digests (s.sum_of (candidate p)) (sum_of_first (chosen p))) then GoesOn (Versions (Below p))
          else (if nat_le (s.qc + s.b) (support p) then Ends (Gave p (candidate p) Plain rounds)
          else GoesOn (Storing p (candidate p)))))

      -- what a round comes to: where there is no pivot the read is outvoted
      abbrev pub decide_pivot : ℕ → Option Stamp → Decision
      decide_pivot rounds None = Ends (Outvoted invalid_nodes)
      decide_pivot rounds (Some p) = decide_at rounds p

  -- what a writer does with the time that it drew: it takes the next one, if there is one
  abbrev pub decide_time : ℕ → List ℕ → ℕ → Decision
  decide_time client value x =
      if x == 2 ^ 64 - 1 then Ends Spent
      else GoesOn (Storing (record { time = x + 1; client = client; verifier = verifier_of s value }) value)

  -- how the phase ends when wait answers are counted
  abbrev pub decide : ℕ → Task → Stage → Decision
  decide client task Times = decide_time client (value_of task.work) (drawn_from task.answers)
  decide client task (Versions bound) = decide_pivot task.answers bound task.rounds (pivot task.answers bound)
  decide client task (Storing stamp value) = Ends (stored task.work task.rounds stamp value)

  -- node's answer with this tag is one that the present phase counts: it is the node's first to this phase, of the kind that was asked for
  abbrev pub is_counted : Task → ℕ → Tag → Reply → Bool
  is_counted task node tag reply =
      (tag.op == task.op) && (tag.phase == task.phase) && nat_lt node s.n && is_of_kind task.stage reply && not (is_answered (task.answers node))

  -- fewer answers are counted than a phase waits for
  abbrev pub awaits_more : Task → Bool
  awaits_more task = nat_lt (answered task.answers) (s.n - s.t)

  -- what the present phase asks of node i
  abbrev pub request_of : Stage → ℕ → Request
  request_of Times i = Time
  request_of (Versions bound) i = Read bound
  request_of (Storing stamp value) i = Write (record { stamp = stamp; sum = s.sum_of value; fragment = s.fragment_of value i })

  -- what the present phase asks of node i, for its block
  abbrev pub ask_of : Task → ℕ → Ask
  ask_of task i = record { block = task.block; request = request_of task.stage i }

  -- the present phase's message to node i
  abbrev pub outstanding : ℕ → Task → ℕ → Message
  outstanding client task i = record { client = client; node = i; tag = record { op = task.op; phase = task.phase }; body = Asks (ask_of task i) }

  -- the messages of the present phase, to all nodes in order
  abbrev pub mail : ℕ → Task → List Message
  mail client task = collect s.n (λ i. Some (outstanding client task i))
