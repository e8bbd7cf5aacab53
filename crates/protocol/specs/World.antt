-- The world of a run, and what each event makes of it.
use Rattle.std.specs.Prelude.{◌≡◌, ℕ, ◌+◌, ◌*◌, ◌^◌, ◌-◌, ◌<◌, ◌≤◌, Bool, true, false, if◌then◌else◌, ◌&&◌, ◌==◌, List, [], ◌∷◌, ◌++◌, map, Option}
use Rattle.std.specs.declared.option.Option.TheVariants.{None, Some}
use Rattle.std.specs.List.{Contains}
use Rattle.protocol.specs.Count.{update, one_more}
use Rattle.stamp_order.specs.declared.Stamp.{Stamp}
use Rattle.stamp_order.specs.Stamps.{up_to}
use Rattle.protocol.specs.Messages.{IsFormedBody, Version, Ask, Reply, Body, Message}
use Rattle.wire_forms.specs.declared.Body.TheVariants.{Ask as Asks, Answer as Answers}
use Rattle.wire_forms.specs.Liars.{IsClientNumber}
use Rattle.protocol.specs.Setting.{Setting, IsBlock}
use Rattle.protocol.specs.Nodes.{first_version, reply, accepts, after, pruned}
use Rattle.protocol.specs.Operations.{Task, Work, Stage, Outcome, Decision, decide, mail, goes_on, begun, counted, is_counted, awaits_more}
use Rattle.protocol.specs.Operations.Work.{Reads, Writes}
use Rattle.protocol.specs.Operations.Stage.{Storing}
use Rattle.run_words.specs.declared.outcome.Outcome.TheVariants.{Wrote, Spent, Gave, Outvoted}
use Rattle.protocol.specs.Operations.Decision.{GoesOn, Ends}

-- an operation of a correct client, from its start on
pub record Record : Type 0 where
  pub client : ℕ
  pub block : ℕ
  pub work : Work
  pub start : ℕ
  pub end : Option ℕ
  pub stamp : Option Stamp
  pub outcome : Option Outcome

-- a version of this stamp was accepted
pub record Accepted : Type 0 where
  pub node : ℕ
  pub block : ℕ
  pub stamp : Stamp

-- all that there is at one moment of a run
pub record World : Type 0 where
  -- every message that was ever sent
  pub pool : List Message
  -- the versions that a node keeps of a block, in order of acceptance
  pub versions : ℕ → ℕ → List Version
  -- the versions that nodes accepted, in order, first versions aside
  pub accepted : List Accepted
  -- what each client does, how often it came back, and how many operations it has started since then
  pub task : ℕ → Option Task
  pub life : ℕ → ℕ
  pub started : ℕ → ℕ
  pub node_crashed : ℕ → Bool
  pub client_crashed : ℕ → Bool
  -- the operations of correct clients, in order of start
  pub records : List Record
  -- the place of the last event
  pub place : ℕ

-- what can take place
pub data Event : Type 0 where
  Start : (client block : ℕ) → Work → Event
  Resend : (client : ℕ) → Event
  Give : (node : ℕ) → Message → Event
  Hear : (client : ℕ) → Message → Event
  CrashNode : (node : ℕ) → Event
  CrashClient : (client : ℕ) → Event
  Lie : Message → Event
  Prune : (node block : ℕ) → Event
  Back : (client : ℕ) → Event

-- the stamp that an operation under way has chosen
abbrev pub chosen_stamp : Work → Stage → Option Stamp
chosen_stamp (Writes value) (Storing stamp stored) = Some stamp
chosen_stamp _ _ = None

-- the stamp that an operation wrote or gave
abbrev pub stamp_of_outcome : Outcome → Option Stamp
stamp_of_outcome (Wrote stamp) = Some stamp
stamp_of_outcome Spent = None
stamp_of_outcome (Gave stamp value how rounds) = Some stamp
stamp_of_outcome (Outvoted nodes) = None

-- the record of an operation under way
abbrev pub open_record : ℕ → Task → Record
open_record client task =
    record { client = client; block = task.block; work = task.work; start = task.start; end = None; stamp = chosen_stamp task.work task.stage; outcome = None }

-- the record of an operation that has ended
abbrev pub closed_record : ℕ → Task → ℕ → Outcome → Record
closed_record client task place outcome =
    record { client = client; block = task.block; work = task.work; start = task.start; end = Some place; stamp = stamp_of_outcome outcome; outcome = Some outcome }

-- r in the place of the record of the same operation: the one of this client that began at the same place
abbrev pub replaced_by : Record → Record → Record
replaced_by r old = if (old.client == r.client) && (old.start == r.start) then r else old

-- the records with r in its place
abbrev pub with_record : List Record → Record → List Record
with_record records r = map (replaced_by r) records

-- the number of a client's last operation: those of life k count from k * 2^32 + 1
abbrev pub last_op : World → ℕ → ℕ
last_op w c = w.life c * 2 ^ 32 + w.started c

-- what there is, unless the test holds
abbrev pub unless : {A : Type 0} → Bool → Option A → Option A
unless b x = if b then None else x

-- what a client that hasn't crashed does
abbrev pub under_way : World → ℕ → Option Task
under_way w c = unless (w.client_crashed c) (w.task c)

-- the stamp that a completed read gave
abbrev pub stamp_given : Option Outcome → Option Stamp
stamp_given (Some (Gave stamp value how rounds)) = Some stamp
stamp_given _ = None

-- the stamp that this record's read of the block gave, if it is one
abbrev pub given_of : ℕ → Record → Option Stamp
given_of block r = if r.block == block then stamp_given r.outcome else None

-- the greater of the two, where there are two
abbrev pub greater_stamp : Option Stamp → Option Stamp → Option Stamp
greater_stamp None y = y
greater_stamp (Some x) None = Some x
greater_stamp (Some x) (Some y) = if up_to x y then Some y else Some x

-- the greatest stamp that a completed read of the block gave
abbrev pub greatest_given : ℕ → List Record → Option Stamp
greatest_given block [] = None
greatest_given block (r ∷ rs) = greater_stamp (given_of block r) (greatest_given block rs)

module _ (s : Setting) where
  -- the world before anything took place
  abbrev pub start_world : World
  start_world = record {
    pool = [];
    versions = λ i block. first_version s i ∷ [];
    accepted = [];
    task = λ c. None;
    life = λ c. 0;
    started = λ c. 0;
    node_crashed = λ i. false;
    client_crashed = λ c. false;
    records = [];
    place = 0;
  }

  -- node i's answer to a message
  abbrev pub answer_of : World → ℕ → Message → Ask → Message
  answer_of w i m ask = record { client = m.client; node = i; tag = m.tag; body = Answers (reply s i (w.versions i ask.block) ask) }

  -- the node's acceptance of a version, if there is one
  abbrev pub accepted_at : ℕ → ℕ → Option Version → Option Accepted
  accepted_at i block None = None
  accepted_at i block (Some v) = Some (record { node = i; block = block; stamp = v.stamp })

  module _ (w : World) (place : ℕ) where
    -- nothing changes but the place
    abbrev pub only_place : World
    only_place = record w { place = place }

    -- messages are sent
    abbrev pub sent : List Message → World
    sent more = record w { pool = w.pool ++ more; place = place }

    -- a client's new operation begins
    abbrev pub started_by : ℕ → Task → World
    started_by c task = record w {
      pool = w.pool ++ mail s c task;
      task = update w.task c (Some task);
      started = update w.started c (w.started c + 1);
      records = w.records ++ open_record c task ∷ [];
      place = place;
    }

    -- node i answers an ask
    abbrev pub handled : ℕ → Message → Ask → World
    handled i m ask = record w {
      pool = w.pool ++ answer_of w i m ask ∷ [];
      versions = update w.versions i (update (w.versions i) ask.block (after s i (w.versions i ask.block) ask));
      accepted = one_more w.accepted (accepted_at i ask.block (accepts s i (w.versions i ask.block) ask));
      place = place;
    }

    -- the client's task becomes this one, with these messages and this record
    abbrev pub moved : ℕ → Option Task → List Message → Record → World
    moved c task more r = record w {
      pool = w.pool ++ more;
      task = update w.task c task;
      records = with_record w.records r;
      place = place;
    }

    -- the phase has ended, by a next one or with the operation
    abbrev pub decided : ℕ → Task → Decision → World
    decided c task (GoesOn stage) = moved c (Some (goes_on task stage)) (mail s c (goes_on task stage)) (open_record c (goes_on task stage))
    decided c task (Ends outcome) = moved c None [] (closed_record c task place outcome)

    -- the answer was counted, and the phase ends when n-t answers are
    abbrev pub advanced : ℕ → Task → World
    advanced c task =
        if awaits_more s task then moved c (Some task) [] (open_record c task)
        else decided c task (decide s c task task.stage)

    -- a client hears an answer, which changes nothing if it isn't counted
    abbrev pub heard_by : ℕ → Option Task → Message → Reply → World
    heard_by c None m given = only_place
    heard_by c (Some task) m given = if is_counted s task m.node m.tag given then advanced c (counted task m.node given) else only_place

    -- a client hears a message
    abbrev pub heard : ℕ → Message → Body → World
    heard c m (Asks ask) = only_place
    heard c m (Answers given) = heard_by c (w.task c) m given

    -- a node is given a message
    abbrev pub given : ℕ → Message → Body → World
    given i m (Asks ask) = handled i m ask
    given i m (Answers reply) = only_place

    -- a client sends the messages of its present phase again
    abbrev pub resent_by : ℕ → Option Task → World
    resent_by c None = only_place
    resent_by c (Some task) = sent (mail s c task)

    -- a node prunes a block by a stamp
    abbrev pub pruned_at : ℕ → ℕ → Option Stamp → World
    pruned_at i block None = only_place
    pruned_at i block (Some stamp) = record w { versions = update w.versions i (update (w.versions i) block (pruned s stamp (w.versions i block))); place = place }

    -- the client is idle in its next life
    abbrev pub back_again : ℕ → World
    back_again c = record w {
      task = update w.task c None;
      life = update w.life c (w.life c + 1);
      started = update w.started c 0;
      client_crashed = update w.client_crashed c false;
      place = place;
    }

    -- the world after an event that is allowed
    abbrev pub happens : Event → World
    happens (Start c block work) = started_by c (begun (last_op w c + 1) block work place)
    happens (Resend c) = resent_by c (w.task c)
    happens (Give i m) = given i m m.body
    happens (Hear c m) = heard c m m.body
    happens (CrashNode i) = record w { node_crashed = update w.node_crashed i true; place = place }
    happens (CrashClient c) = record w { client_crashed = update w.client_crashed c true; place = place }
    happens (Lie m) = sent (m ∷ [])
    happens (Prune i block) = pruned_at i block (greatest_given block w.records)
    happens (Back c) = back_again c

  -- an ask to node i
  abbrev pub IsAskTo : ℕ → Message → Type 0
  IsAskTo i m = (m.node ≡ i) × (ask : Ask) × (m.body ≡ Asks ask)

  -- an answer to client c
  abbrev pub IsAnswerTo : ℕ → Message → Type 0
  IsAnswerTo c m = (m.client ≡ c) × (reply : Reply) × (m.body ≡ Answers reply)

  -- a value that is written is a block
  abbrev pub Fits : Work → Type 0
  Fits Reads = Unit {0}
  Fits (Writes value) = IsBlock s value

  -- the sender is declared lying
  abbrev pub IsOfLiar : Body → Message → Type 0
  IsOfLiar (Asks ask) m = s.lying_client m.client ≡ true
  IsOfLiar (Answers given) m = s.lying_node m.node ≡ true

  -- there is such a client
  abbrev pub IsClient : ℕ → Type 0
  IsClient c = IsClientNumber c

  -- no operation on the block is under way
  abbrev pub IsQuiet : World → ℕ → Type 0
  IsQuiet w block = (c : ℕ) (task : Task) → under_way w c ≡ Some task → task.block ≡ block → ⊥

  -- a correct client that hasn't crashed and does nothing may start an operation on a block of the cluster
  pub record MayStart (w : World) (place c block : ℕ) (work : Work) : Type 0 where
    pub later : w.place < place
    pub client : IsClient c
    pub correct : s.lying_client c ≡ false
    pub up : w.client_crashed c ≡ false
    pub idle : w.task c ≡ None
    pub fresh : w.started c < 2 ^ 32 - 1
    pub inside : block < s.blocks
    pub fits : Fits work

  -- a correct client that hasn't crashed may send again what it asks
  pub record MayResend (w : World) (place c : ℕ) : Type 0 where
    pub later : w.place ≤ place
    pub client : IsClient c
    pub correct : s.lying_client c ≡ false
    pub up : w.client_crashed c ≡ false
    pub task : Task
    pub busy : w.task c ≡ Some task

  -- an honest node that hasn't crashed may be given an ask to it that was sent
  pub record MayGive (w : World) (place i : ℕ) (m : Message) : Type 0 where
    pub later : w.place ≤ place
    pub node : i < s.n
    pub honest : s.lying_node i ≡ false
    pub up : w.node_crashed i ≡ false
    pub sent : Contains w.pool m
    pub asks : IsAskTo i m

  -- a correct client that hasn't crashed may hear an answer to it that was sent
  pub record MayHear (w : World) (place c : ℕ) (m : Message) : Type 0 where
    pub later : w.place ≤ place
    pub client : IsClient c
    pub correct : s.lying_client c ≡ false
    pub up : w.client_crashed c ≡ false
    pub sent : Contains w.pool m
    pub answers : IsAnswerTo c m

  -- an honest node that hasn't crashed may prune a block on which nobody works and of which a read gave a stamp
  pub record MayPrune (w : World) (place i block : ℕ) : Type 0 where
    pub later : w.place ≤ place
    pub node : i < s.n
    pub honest : s.lying_node i ≡ false
    pub up : w.node_crashed i ≡ false
    pub quiet : IsQuiet w block
    pub stamp : Stamp
    pub given : greatest_given block w.records ≡ Some stamp

  -- an event that isn't refused
  abbrev pub Allowed : World → ℕ → Event → Type 0
  Allowed w place (Start c block work) = MayStart w place c block work
  Allowed w place (Resend c) = MayResend w place c
  Allowed w place (Give i m) = MayGive w place i m
  Allowed w place (Hear c m) = MayHear w place c m
  Allowed w place (CrashNode i) = (w.place ≤ place) × (i < s.n) × (s.lying_node i ≡ false) × (w.node_crashed i ≡ false)
  Allowed w place (CrashClient c) = (w.place ≤ place) × IsClient c × (s.lying_client c ≡ false) × (w.client_crashed c ≡ false)
  Allowed w place (Lie m) = (w.place ≤ place) × (m.node < s.n) × IsClient m.client × IsOfLiar m.body m × IsFormedBody m.body
  Allowed w place (Prune i block) = MayPrune w place i block
  Allowed w place (Back c) = (w.place ≤ place) × IsClient c × (s.lying_client c ≡ false) × (w.client_crashed c ≡ true) × (w.life c < 2 ^ 32 - 1)

  -- the world after these events, one after the other
  abbrev pub all_happen : World → ℕ → List Event → World
  all_happen w place [] = w
  all_happen w place (e ∷ es) = all_happen (happens w place e) place es

  -- each is allowed when its turn comes
  abbrev pub AllAllowed : World → ℕ → List Event → Type 0
  AllAllowed w place [] = Unit {0}
  AllAllowed w place (e ∷ es) = Allowed w place e × AllAllowed (happens w place e) place es
