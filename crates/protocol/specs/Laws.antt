-- What the laws of every run say, each of a setting and the last world of a run in it.
use Rattle.std.specs.Prelude.{◌≡◌, ◌≢◌, ◌↔◌, ◌⊎◌, ◌<◌, ◌≤◌, ◌+◌, ◌^◌, ℕ, Bool, false, true, List, length, map, count_by, ◌++◌, slice_get}
use Rattle.std.specs.declared.option.Option.TheVariants.{Some, None}
use Rattle.std.specs.declared.cmp.Ordering.TheVariants.{Equal}
use Rattle.std.specs.List.{Contains}
use Rattle.quorum_rules.specs.Limits.{Numbers}
use Rattle.stamp_order.specs.declared.Stamp.{Stamp}
use Rattle.stamp_order.specs.declared.Bound.{Bound}
use Rattle.stamp_order.specs.Stamps.{has, before, ◌≼◌}
use Rattle.run_words.specs.declared.outcome.Outcome.TheVariants.{Spent, Gave, Outvoted}
use Rattle.wire_forms.specs.declared.Request.TheVariants.{Write as WriteRequest}
use Rattle.wire_forms.specs.declared.Body.TheVariants.{Ask as Asks, Answer as Answers}
use Rattle.protocol.specs.Messages.{Message, Request, Reply, Ask, Tag, Version, IsFormedReply}
use Rattle.protocol.specs.Setting.{Setting, IsBlock, Sound, first_stamp}
use Rattle.protocol.specs.Operations.{Task, Work, How, begun}
use Rattle.protocol.specs.Operations.Work.{Reads, Writes}
use Rattle.protocol.specs.Operations.Stage.{Versions}
use Rattle.protocol.specs.World.{World, Record, under_way, heard_by, greatest_given, with_record}
use Rattle.protocol.specs.Lines.{Line, Rule, Run, IsRun, FitsLine, plays, fault, false_reply, IsPlayable}
use Rattle.protocol.specs.Instance.{setting_of, IsCluster}
use Rattle.protocol.specs.History.{Entry, IsHistory, IsEntry, Legal, InTime, NoClash, HasRead, HasLie, entry_cmp}
use Rattle.protocol.specs.History.Kind.{Read, Foreign}
use Rattle.protocol.specs.Report.{Ascend, AreRivals, mark, line_cmp, counts_of, is_ended, SpentWrite, IsSpentWrite, spent_writes}
use Rattle.protocol.specs.Bounds.{IsFewAt}
use Rattle.protocol.specs.Moments.{IsLineAt}
use Rattle.protocol.specs.Facts.{IsTold, IsHonest, HasAccepted, IsHosted, IsKnown, IsComplete, IsWorking, Extends, HasGave, IsGreatestGiven, IsSameOperation, HasOperation, HasEnded}
use Rattle.protocol.specs.Seen.{SeenTask, task_at, seen_begun, hearing}
use Rattle.protocol.specs.Views.{IsFull, task_after, after_hearing}
use Rattle.protocol.specs.Freshness.{IsNotBehind, HasPruned, IsSentAt, IsSentDuring}

-- the law holds of each cluster
abbrev pub InEachCluster : (Setting → Type 0) → Type 0
InEachCluster law =
    (c : Numbers) (lying_node lying_client : ℕ → Bool)
    → IsCluster c lying_node
    → law (setting_of c lying_node lying_client)

module _ (s : Setting) (w : World) where
  -- where no two different strings that were seen share a digest, a history is that of plain registers
  abbrev pub HistoriesAreLegal : Type 0
  HistoriesAreLegal =
      (h : List Entry)
      → NoClash s w
      → IsHistory s w h
      → Legal s h

  -- and what ended before another entry of its block began stands before it
  abbrev pub HistoriesAreInTime : Type 0
  HistoriesAreInTime =
      (h : List Entry)
      → NoClash s w
      → IsHistory s w h
      → InTime h

  -- a read gives a value that its stamp is for
  abbrev pub ReadsAreSound : Type 0
  ReadsAreSound =
      (h : List Entry) (e : Entry)
      → IsHistory s w h
      → Contains h e
      → e.kind ≡ Read
      → Sound s e.stamp e.value

  -- no read ends as outvoted
  abbrev pub NoneIsOutvoted : Type 0
  NoneIsOutvoted =
      (r : Record) (nodes : List ℕ)
      → Contains w.records r
      → r.outcome ≢ Some (Outvoted nodes)

  -- there is a history
  abbrev pub HasHistory : Type 0
  HasHistory = (h : List Entry) × IsHistory s w h

  -- there is no second history
  abbrev pub HistoriesAreOne : Type 0
  HistoriesAreOne =
      (h k : List Entry)
      → IsHistory s w h
      → IsHistory s w k
      → h ≡ k

  -- no two entries have one key
  abbrev pub KeysAreOne : Type 0
  KeysAreOne =
      (e f : Entry)
      → IsEntry w.records (first_stamp s) e
      → IsEntry w.records (first_stamp s) f
      → entry_cmp e f ≡ Equal
      → e ≡ f

  -- the value of an entry is a block
  abbrev pub ValuesAreBlocks : Type 0
  ValuesAreBlocks =
      (e : Entry)
      → IsEntry w.records (first_stamp s) e
      → IsBlock s e.value

  -- where no two different strings that were seen share a digest, entries of one stamp have one value
  abbrev pub StampsHaveOneValue : Type 0
  StampsHaveOneValue =
      (e f : Entry)
      → NoClash s w
      → IsEntry w.records (first_stamp s) e
      → IsEntry w.records (first_stamp s) f
      → e.stamp ≡ f.stamp
      → e.value ≡ f.value

  -- the stamp of a read is the first, or that of an entry of its block that is no read
  abbrev pub ReadsAreOfWrites : Type 0
  ReadsAreOfWrites =
      (h : List Entry) (e : Entry)
      → IsHistory s w h
      → Contains h e
      → e.kind ≡ Read
      → (e.stamp ≡ first_stamp s) ⊎ ((f : Entry) × Contains h f × (f.kind ≢ Read) × (f.block ≡ e.block) × (f.stamp ≡ e.stamp))

  -- a foreign write was lied before the line at which a read that gave it ended: each such read, so the first too
  abbrev pub ForeignWritesWereLied : Type 0
  ForeignWritesWereLied =
      (lines : List (ℕ × Line)) (before then : World) (h : List Entry) (e : Entry) (value : List ℕ) (end : ℕ)
      → IsHistory s w h
      → Contains h e
      → e.kind ≡ Foreign
      → HasRead w.records e.block e.stamp value end
      → IsLineAt s lines w end before then
      → HasLie s before e.block e.stamp

  -- a read asked few rounds: twice the pairs of a node and a stamp that were accepted of its block by its end, and one, at most
  abbrev pub ReadsAskedFew : Type 0
  ReadsAskedFew =
      (lines : List (ℕ × Line)) (before then : World) (r : Record) (end : ℕ) (stamp : Stamp) (value : List ℕ) (how : How) (rounds : ℕ)
      → Contains w.records r
      → r.outcome ≡ Some (Gave stamp value how rounds)
      → r.end ≡ Some end
      → IsLineAt s lines w end before then
      → IsFewAt then r.block rounds

  -- whatever follows, the operations that have begun by now are these
  abbrev pub BegunStay : Type 0
  BegunStay =
      (more : List (ℕ × Line)) (last : World) (r : Record)
      → Run s w more last
      → r.start ≤ w.place
      → HasOperation w.records r ↔ HasOperation last.records r

  -- and those that have ended by now are these, as they ended
  abbrev pub EndedStay : Type 0
  EndedStay =
      (more : List (ℕ × Line)) (last : World) (r : Record) (end : ℕ)
      → Run s w more last
      → r.end ≡ Some end
      → end ≤ w.place
      → Contains w.records r ↔ Contains last.records r

  -- an operation that a crash of its client cut off never ends, whatever follows: its record stays, without end and outcome
  abbrev pub CrashedNeverEnd : Type 0
  CrashedNeverEnd =
      (more : List (ℕ × Line)) (last : World) (r : Record)
      → Run s w more last
      → Contains w.records r
      → r.end ≡ None
      → w.client_crashed r.client ≡ true
      → Contains last.records r × (r.outcome ≡ None)

  -- an operation ends at a line, of these
  abbrev pub EndsAreAtLines : Type 0
  EndsAreAtLines =
      (lines : List (ℕ × Line)) (r : Record) (end : ℕ)
      → IsRun s lines w
      → Contains w.records r
      → r.end ≡ Some end
      → (before : World) × (then : World) × IsLineAt s lines w end before then

  -- a line isn't refused exactly where its events are allowed one after the other
  abbrev pub RefusesExactly : Type 0
  RefusesExactly =
      (place : ℕ) (line : Line)
      → w.place < place
      → FitsLine s line
      → (fault s w line ≡ None) ↔ IsPlayable s w place line

  -- a line whose events are allowed one after the other isn't refused
  abbrev pub TakesTheAllowed : Type 0
  TakesTheAllowed =
      (place : ℕ) (line : Line)
      → FitsLine s line
      → IsPlayable s w place line
      → fault s w line ≡ None

  -- a run of lines and further lines is a run of the lines and then one of the further lines
  abbrev pub RunsComeApart : Type 0
  RunsComeApart =
      (lines more : List (ℕ × Line)) (last : World)
      → Run s w (lines ++ more) last
      ↔ ((middle : World) × Run s w lines middle × Run s middle more last)

  -- a line adds messages at the pool's end
  abbrev pub LinesExtendPool : Type 0
  LinesExtendPool = (place : ℕ) (line : Line) → Extends w.pool (plays s w place line).pool

  -- and so does a run
  abbrev pub RunsExtendPool : Type 0
  RunsExtendPool =
      (lines : List (ℕ × Line)) (last : World)
      → Run s w lines last
      → Extends w.pool last.pool

  -- an operation under way is one of a correct client, and its messages and its record tell of it
  abbrev pub TasksAreTold : Type 0
  TasksAreTold =
      (client : ℕ) (task : Task)
      → under_way w client ≡ Some task
      → IsWorking s w client task

  -- an honest node's answer was made from an ask
  abbrev pub AnswersAreHosted : Type 0
  AnswersAreHosted =
      (k : ℕ) (m : Message) (reply : Reply)
      → slice_get w.pool k ≡ Some m
      → m.body ≡ Answers reply
      → IsHonest s m.node
      → IsHosted s w k m reply

  -- what an honest node keeps it accepted
  abbrev pub KeptWasAccepted : Type 0
  KeptWasAccepted =
      (i block : ℕ) (v : Version)
      → IsHonest s i
      → Contains (w.versions i block) v
      → HasAccepted s w i block v.stamp

  -- of each stamp that an honest node accepted it keeps a version that reaches it
  abbrev pub AcceptedIsReached : Type 0
  AcceptedIsReached =
      (i block : ℕ) (stamp : Stamp)
      → IsHonest s i
      → HasAccepted s w i block stamp
      → (v : Version) × Contains (w.versions i block) v × (stamp ≼ v.stamp)

  -- a stamp that an honest node accepted is the first, was chosen by a correct client or was lied
  abbrev pub AcceptedIsKnown : Type 0
  AcceptedIsKnown =
      (i block : ℕ) (stamp : Stamp)
      → IsHonest s i
      → HasAccepted s w i block stamp
      → IsKnown s w block stamp

  -- and so is one that a correct client's Write carries
  abbrev pub AskedIsKnown : Type 0
  AskedIsKnown =
      (m : Message) (ask : Ask) (v : Version)
      → Contains w.pool m
      → m.body ≡ Asks ask
      → s.lying_client m.client ≡ false
      → ask.request ≡ WriteRequest v
      → IsKnown s w ask.block v.stamp

  -- the stamp of an operation that has ended is the first, or enough honest nodes have accepted it
  abbrev pub CompletedIsHeld : Type 0
  CompletedIsHeld =
      (x : Record) (end : ℕ) (stamp : Stamp)
      → Contains w.records x
      → x.end ≡ Some end
      → x.stamp ≡ Some stamp
      → (stamp ≡ first_stamp s) ⊎ IsComplete s w x.block stamp

  -- and so it was when the operation ended
  abbrev pub CompletedWasHeld : Type 0
  CompletedWasHeld =
      (lines : List (ℕ × Line)) (before then : World) (x : Record) (end : ℕ) (stamp : Stamp)
      → Contains w.records x
      → x.end ≡ Some end
      → x.stamp ≡ Some stamp
      → IsLineAt s lines w end before then
      → (stamp ≡ first_stamp s) ⊎ IsComplete s then x.block stamp

  -- an honest node's answer isn't behind what the node had accepted before the line at which it was sent
  abbrev pub AnswersAreFresh : Type 0
  AnswersAreFresh =
      (lines : List (ℕ × Line)) (place : ℕ) (line : Line) (k : ℕ) (m : Message) (reply : Reply)
      → IsRun s lines w
      → w.place < place
      → FitsLine s line
      → fault s w line ≡ None
      → IsSentAt s w place line k m
      → m.body ≡ Answers reply
      → IsHonest s m.node
      → (h : IsHosted s (plays s w place line) k m reply)
      × ((stamp : Stamp)
      → h.ask.block < s.blocks
      → HasAccepted s w m.node h.ask.block stamp
      → IsNotBehind (HasPruned s lines m.node h.ask.block place) stamp h.ask.request reply)

  -- nor is one that comes to an operation under way, where the bound has what was pruned before this began
  abbrev pub OperationsHearFresh : Type 0
  OperationsHearFresh =
      (lines more : List (ℕ × Line)) (last : World)
      → (k : ℕ) (m : Message) (reply : Reply) (task : Task) (stamp : Stamp)
      → IsRun s lines w
      → Run s w more last
      → IsSentDuring s w more k m task
      → m.body ≡ Answers reply
      → IsHonest s m.node
      → HasAccepted s w m.node task.block stamp
      → (h : IsHosted s last k m reply)
      × (h.ask.block ≡ task.block)
      × IsNotBehind (HasPruned s (lines ++ more) m.node task.block task.start) stamp h.ask.request reply

  -- a read that began after an operation on its block had ended asks in no bound without that stamp
  abbrev pub ReadsAskUp : Type 0
  ReadsAskUp =
      (client : ℕ) (task : Task) (bound : Bound) (stamp : Stamp)
      → NoClash s w
      → HasEnded w task.block stamp task.start
      → under_way w client ≡ Some task
      → task.stage ≡ Versions bound
      → has bound stamp ≡ true

  -- a write that began after an operation on its block had ended chooses a greater time
  abbrev pub WritesDrawAbove : Type 0
  WritesDrawAbove =
      (y : Record) (value : List ℕ) (stamp chosen : Stamp)
      → HasEnded w y.block stamp y.start
      → Contains w.records y
      → y.work ≡ Writes value
      → y.stamp ≡ Some chosen
      → stamp.time < chosen.time

  -- a read that began after an operation on its block had ended gives no lower stamp
  abbrev pub ReadsGiveUp : Type 0
  ReadsGiveUp =
      (y : Record) (stamp given : Stamp)
      → NoClash s w
      → HasEnded w y.block stamp y.start
      → Contains w.records y
      → y.work ≡ Reads
      → y.stamp ≡ Some given
      → stamp ≼ given

  -- records stand in order of start
  abbrev pub StartsAscend : Type 0
  StartsAscend = Ascend (map (λ r. r.start) w.records)

  -- each record tells its places in order, and an outcome of its kind
  abbrev pub RecordsAreTold : Type 0
  RecordsAreTold = (r : Record) → Contains w.records r → IsTold w r

  -- no two operations begin at one line, so there are no more than places
  abbrev pub RecordsAreFew : Type 0
  RecordsAreFew = length w.records ≤ w.place

  -- what is counted as done are the entries that have an end
  abbrev pub DoneHaveEnded : Type 0
  DoneHaveEnded =
      (h : List Entry)
      → IsHistory s w h
      → (counts_of w.records).done ≡ count_by is_ended h

  -- what is counted as spent are the spent writes
  abbrev pub SpentAreWrites : Type 0
  SpentAreWrites = (counts_of w.records).spent ≡ length (spent_writes w.records)

  -- each operation is counted as done, spent or pending
  abbrev pub AllAreCounted : Type 0
  AllAreCounted =
      (counts_of w.records).done + (counts_of w.records).spent + (counts_of w.records).pending
      ≡ length w.records

  -- the spent writes stand in order of start
  abbrev pub SpentAscend : Type 0
  SpentAscend = Ascend (map (λ x. x.start) (spent_writes w.records))

  -- a write is spent only where a lying client sent, on its block, a time so high that the lines up to now could bring it to the greatest
  abbrev pub SpentWereLied : Type 0
  SpentWereLied =
      (r : Record)
      → w.place < 2 ^ 64
      → Contains w.records r
      → r.outcome ≡ Some Spent
      → (stamp : Stamp) × HasLie s w r.block stamp × (2 ^ 64 ≤ stamp.time + w.place)

  -- so where no client lies none is
  abbrev pub NoneIsSpent : Type 0
  NoneIsSpent =
      (r : Record)
      → ((client : ℕ) → s.lying_client client ≡ false)
      → w.place < 2 ^ 64
      → Contains w.records r
      → r.outcome ≢ Some Spent

  -- an answer to a client's operation does to the world what it does to the operation as it is seen
  abbrev pub SeenHears : Type 0
  SeenHears =
      (place client start : ℕ) (t : SeenTask) (m : Message) (reply : Reply)
      → IsFull s.n (Some t)
      → heard_by s w place client (Some (task_at start t)) m reply
      ≡ after_hearing s w place client start t (hearing s client t m.node m.tag reply)

module _ (s : Setting) where
  -- an operation begins as it is seen to begin
  abbrev pub SeenBegins : Type 0
  SeenBegins =
      (op block start : ℕ) (work : Work)
      → task_at start (seen_begun s op block work) ≡ begun op block work start

  -- it begins with a place for each node's answer
  abbrev pub BeginsFull : Type 0
  BeginsFull = (op block : ℕ) (work : Work) → IsFull s.n (Some (seen_begun s op block work))

  -- and keeps it
  abbrev pub StaysFull : Type 0
  StaysFull =
      (client node : ℕ) (t : SeenTask) (tag : Tag) (reply : Reply)
      → IsFull s.n (Some t)
      → IsFull s.n (task_after t (hearing s client t node tag reply))

  -- what a lying node answers by a rule is formed
  abbrev pub FalseIsFormed : Type 0
  FalseIsFormed =
      (rule : Rule) (i : ℕ) (request : Request) (reply : Reply)
      → false_reply s rule i request ≡ Some reply
      → IsFormedReply reply

module _ (records : List Record) where
  -- the spent writes are those that ended as spent
  abbrev pub SpentAreThese : Type 0
  SpentAreThese = (x : SpentWrite) → Contains (spent_writes records) x ↔ IsSpentWrite records x

  -- the stamp by which a block is pruned is the greatest that a read of it gave
  abbrev pub GivenIsGreatest : Type 0
  GivenIsGreatest =
      (block : ℕ) (stamp : Stamp)
      → (greatest_given block records ≡ Some stamp) ↔ IsGreatestGiven records block stamp

  -- there is none exactly where no read of it gave one
  abbrev pub NoneIsGiven : Type 0
  NoneIsGiven =
      (block : ℕ)
      → (greatest_given block records ≡ None) ↔ ((stamp : Stamp) → HasGave records block stamp → ⊥)

  -- a record takes the place of one of its operation, and all others stay
  abbrev pub OneIsReplaced : Type 0
  OneIsReplaced =
      (r x : Record)
      → Contains (with_record records r) x
      ↔ ((x ≡ r × HasOperation records r) ⊎ (Contains records x × (IsSameOperation x r → ⊥)))

module _ (h : List Entry) where
  -- one stamp of a block has one mark
  abbrev pub MarksAreOne : Type 0
  MarksAreOne =
      (e f : Entry)
      → e.block ≡ f.block
      → e.stamp ≡ f.stamp
      → mark h e ≡ mark h f

  -- a greater verifier has a greater mark
  abbrev pub MarksAscend : Type 0
  MarksAscend =
      (e f : Entry)
      → Contains h e
      → AreRivals e f
      → before e.stamp f.stamp ≡ true
      → mark h e < mark h f

  -- a mark is 1, or has the one before it
  abbrev pub MarksFollow : Type 0
  MarksFollow =
      (e : Entry)
      → (mark h e ≡ 1) ⊎ ((f : Entry) × Contains h f × AreRivals e f × (mark h f + 1 ≡ mark h e))

  -- a report's lines stand in the order of the entries
  abbrev pub LinesStandAlike : Type 0
  LinesStandAlike =
      (e f : Entry)
      → Contains h e
      → Contains h f
      → line_cmp h e f ≡ entry_cmp e f
