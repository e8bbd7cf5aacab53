-- The lines of a script, what takes place at each, and why one is refused.
use Rattle.std.specs.Prelude.{◌≡◌, ◌≢◌, ℕ, ◌+◌, ◌-◌, ◌^◌, ◌%◌, ◌<◌, Bool, true, false, if◌then◌else◌, not, ◌||◌, ◌&&◌, ◌==◌, nat_lt, nat_le, List, [], ◌∷◌, ◌++◌, length, replicate, find, Option, slice_get}
use Rattle.std.specs.declared.option.Option.TheVariants.{None, Some}
use Rattle.protocol.specs.Count.{count, collect}
use Rattle.stamp_order.specs.declared.Stamp.{Stamp}
use Rattle.stamp_order.specs.Stamps.{has}
use Rattle.protocol.specs.Messages.{flat, IsFormedBody, Version, Request, Reply, Body, Message}
use Rattle.wire_forms.specs.declared.Request.TheVariants.{Time, Read as AskRead, Write as AskWrite}
use Rattle.wire_forms.specs.declared.Reply.TheVariants.{TimeIs, Found, Nothing, Ack}
use Rattle.wire_forms.specs.declared.Body.TheVariants.{Ask as Asks, Answer as Answers}
use Rattle.wire_forms.specs.declared.op.Op.{Op}
use Rattle.wire_forms.specs.declared.op.Op.TheVariants.{Read as ReadOp, Write as WriteOp}
use Rattle.protocol.specs.Setting.{Setting, IsBlock, verifier_of}
use Rattle.protocol.specs.Nodes.{first_version}
use Rattle.protocol.specs.Operations.{Task, outstanding, ask_of}
use Rattle.protocol.specs.Operations.Work.{Reads, Writes}
use Rattle.protocol.specs.World.{World, Event, start_world, all_happen, AllAllowed, answer_of, only_place, under_way, greatest_given}
use Rattle.protocol.specs.World.Event.{Start, Resend as Resends, Give as Gives, Hear as Hears, CrashNode as NodeCrashes, CrashClient as ClientCrashes, Lie as Lies, Prune as Prunes, Back as ComesBack}
pub use Rattle.wire_forms.specs.declared.rule.Rule.{Rule}
use Rattle.wire_forms.specs.declared.rule.Rule.TheVariants.{Silent, Old, Top, Bad}
pub use Rattle.run_words.specs.declared.line.Line.{Line}
pub use Rattle.run_words.specs.declared.line.StepFault.{StepFault}
use Rattle.run_words.specs.declared.line.Line.TheVariants.{Write, Read, Resend, Call, Give, Hear, Lost, CrashNode, CrashClient, Lie, Tell, Poke, False, Sound, Mix, Prune, Back, Restart}
use Rattle.run_words.specs.declared.line.StepFault.TheVariants.{NoSuchActor, NoSuchMessage, WrongReceiver, Busy, Crashed, NotALiar, Idle, IsALiar, NotQuiet, NoRead, Worn, NotCrashed}

-- a node or a client
pub data Actor : Type 0 where
  Node : ℕ → Actor
  Client : ℕ → Actor

-- some element passes
abbrev pub some_of : {A : Type 0} → (A → Bool) → List A → Bool
some_of test [] = false
some_of test (x ∷ xs) = test x || some_of test xs

-- the bytes with the lowest bit of the first one changed
abbrev pub flipped : List ℕ → List ℕ
flipped [] = []
flipped (x ∷ xs) = (if x % 2 == 0 then x + 1 else x - 1) ∷ xs

-- who sends a message
abbrev pub sender : Body → Message → Actor
sender (Asks ask) m = Client m.client
sender (Answers reply) m = Node m.node

-- the parts that nodes and clients have in a line
pub record Roles : Type 0 where
  -- who takes part in it, its lies aside
  pub takes_part : List Actor
  -- who of them must not have crashed
  pub up : List Actor
  -- who tells its lie
  pub lies : List Actor
  -- the node and the client of the lie's message
  pub named : List Actor

-- these take part, and nobody lies
abbrev pub honest : List Actor → Roles
honest actors = record { takes_part = actors; up = actors; lies = []; named = [] }

-- these take part, and this one's lie goes between this node and this client
abbrev pub lie_of : Actor → ℕ → ℕ → List Actor → Roles
lie_of liar i c actors = record { takes_part = actors; up = actors; lies = liar ∷ []; named = Node i ∷ Client c ∷ [] }

-- the parts in each line
abbrev pub roles : Line → Roles
roles (Write c block value) = honest (Client c ∷ [])
roles (Read c block) = honest (Client c ∷ [])
roles (Resend c) = honest (Client c ∷ [])
roles (Call c i) = honest (Client c ∷ Node i ∷ [])
roles (Give i k) = honest (Node i ∷ [])
roles (Hear c k) = honest (Client c ∷ [])
roles (Lost c i) = honest []
roles (CrashNode i) = honest (Node i ∷ [])
roles (CrashClient c) = honest (Client c ∷ [])
roles (Lie m) = lie_of (sender m.body m) m.node m.client []
roles (Tell m) = lie_of (sender m.body m) m.node m.client (Client m.client ∷ [])
roles (Poke m) = lie_of (sender m.body m) m.node m.client (Node m.node ∷ [])
roles (False c i rule) = lie_of (Node i) i c (Client c ∷ [])
roles (Sound c i block time value) = lie_of (Client c) i c (Node i ∷ [])
roles (Mix c i block time value other) = lie_of (Client c) i c (Node i ∷ [])
roles (Prune i block) = honest (Node i ∷ [])
roles (Back c) = record { takes_part = Client c ∷ []; up = []; lies = []; named = [] }
roles (Restart i) = honest (Node i ∷ [])

-- an ask to node i
abbrev pub is_ask_to : ℕ → Body → Message → Bool
is_ask_to i (Asks ask) m = m.node == i
is_ask_to i (Answers reply) m = false

-- an answer to client c
abbrev pub is_answer_to : ℕ → Body → Message → Bool
is_answer_to c (Asks ask) m = false
is_answer_to c (Answers reply) m = m.client == c

-- the message is there, and isn't for this node or client
abbrev pub misgiven : ℕ → Option Message → Bool
misgiven i None = false
misgiven i (Some m) = not (is_ask_to i m.body m)

-- the message is there, and isn't an answer to this client
abbrev pub misheard : ℕ → Option Message → Bool
misheard c None = false
misheard c (Some m) = not (is_answer_to c m.body m)

-- there is an operation
abbrev pub does_something : Option Task → Bool
does_something None = false
does_something (Some task) = true

-- there is an operation on the block
abbrev pub is_at : ℕ → Option Task → Bool
is_at block None = false
is_at block (Some task) = task.block == block

-- a life has room for 2^32-1 operations, and a client for 2^32 lives
abbrev pub no_room : ℕ → Bool
no_room n = nat_le (2 ^ 32 - 1) n

-- there is no stamp
abbrev pub is_missing : Option Stamp → Bool
is_missing None = true
is_missing (Some stamp) = false

-- in the order of their numbers
abbrev pub all_faults : List StepFault
all_faults = NoSuchActor ∷ NoSuchMessage ∷ WrongReceiver ∷ Busy ∷ Crashed ∷ NotALiar ∷ Idle ∷ IsALiar ∷ NotQuiet ∷ NoRead ∷ Worn ∷ NotCrashed ∷ []

module _ (s : Setting) where
  -- the block of all 0xff bytes
  abbrev pub full_block : List ℕ
  full_block = replicate s.size 255

  -- node i's version of a value under a stamp
  abbrev pub version_of : Stamp → List ℕ → ℕ → Version
  version_of stamp value i = record { stamp = stamp; sum = s.sum_of value; fragment = s.fragment_of value i }

  -- the stamp of the block of all 0xff bytes with the greatest time, in the name of node i
  abbrev pub top_stamp : ℕ → Stamp
  top_stamp i = record { time = 2 ^ 64 - 1; client = i; verifier = verifier_of s full_block }

  -- what node i answers by a rule, if it does: as if nothing was ever written, with the greatest time there is, or with a damaged fragment
  abbrev pub false_reply : Rule → ℕ → Request → Option Reply
  false_reply Silent i request = None
  false_reply Old i Time = Some (TimeIs 0)
  false_reply Old i (AskRead bound) = Some (Found (first_version s i))
  false_reply Old i (AskWrite v) = Some Ack
  false_reply Top i Time = Some (TimeIs (2 ^ 64 - 1))
  false_reply Top i (AskRead bound) = Some (if has bound (top_stamp i) then Found (version_of (top_stamp i) full_block i) else Nothing)
  false_reply Top i (AskWrite v) = Some Ack
  false_reply Bad i Time = Some (TimeIs 0)
  false_reply Bad i (AskRead bound) = Some (Found (record { stamp = (first_version s i).stamp; sum = (first_version s i).sum; fragment = flipped (first_version s i).fragment }))
  false_reply Bad i (AskWrite v) = Some Ack

  -- node i's answer to the client's present phase, if there is one
  abbrev pub answer_with : ℕ → ℕ → Task → Option Reply → Option Message
  answer_with c i task None = None
  answer_with c i task (Some reply) = Some (record { client = c; node = i; tag = record { op = task.op; phase = task.phase }; body = Answers reply })

  -- node i's answer by a rule to what the client's present phase asks
  abbrev pub false_answer : Rule → ℕ → ℕ → Task → Option Message
  false_answer rule c i task = answer_with c i task (false_reply rule i (ask_of s task i).request)

  -- a lying client's Write of a version to node i
  abbrev pub write_to : ℕ → ℕ → ℕ → Version → Message
  write_to c i block v = record { client = c; node = i; tag = record { op = 0; phase = 0 }; body = Asks (record { block = block; request = AskWrite v }) }

  -- a Write of a value that the stamp is for
  abbrev pub sound_ask : ℕ → ℕ → ℕ → ℕ → List ℕ → Message
  sound_ask c i block time value = write_to c i block (version_of (record { time = time; client = c; verifier = verifier_of s value }) value i)

  -- fragments by turns of two blocks
  abbrev pub mixed : List ℕ → List ℕ → ℕ → List ℕ
  mixed value other i = if i % 2 == 0 then s.fragment_of value i else s.fragment_of other i

  -- the digests of these fragments
  abbrev pub mixed_sum : List ℕ → List ℕ → List (List ℕ)
  mixed_sum value other = collect s.n (λ i. Some (s.digest (mixed value other i)))

  -- a Write of fragments of two blocks under one stamp
  abbrev pub mix_ask : ℕ → ℕ → ℕ → ℕ → List ℕ → List ℕ → Message
  mix_ask c i block time value other =
      write_to c i block (record { stamp = record { time = time; client = c; verifier = s.digest (flat (mixed_sum value other)) }; sum = mixed_sum value other; fragment = mixed value other i })

  module _ (w : World) where
    -- the client's outstanding message to node i is given, and its answer heard
    abbrev pub called : ℕ → ℕ → Option Task → List Event
    called c i None = []
    called c i (Some task) = Gives i (outstanding s c task i) ∷ Hears c (answer_of s w i (outstanding s c task i) (ask_of s task i)) ∷ []

    -- an answer is told and heard, if there is one
    abbrev pub told : ℕ → Option Message → List Event
    told c None = []
    told c (Some m) = Lies m ∷ Hears c m ∷ []

    -- a false answer to what the client asks is told, and heard
    abbrev pub falsely_told : Rule → ℕ → ℕ → Option Task → List Event
    falsely_told rule c i None = []
    falsely_told rule c i (Some task) = told c (false_answer rule c i task)

    -- the node is given the message, if it is there
    abbrev pub given_at : ℕ → Option Message → List Event
    given_at i None = []
    given_at i (Some m) = Gives i m ∷ []

    -- the client hears the message, if it is there
    abbrev pub heard_at : ℕ → Option Message → List Event
    heard_at c None = []
    heard_at c (Some m) = Hears c m ∷ []

    -- what takes place at a line
    abbrev pub events : Line → List Event
    events (Write c block value) = Start c block (Writes value) ∷ []
    events (Read c block) = Start c block Reads ∷ []
    events (Resend c) = Resends c ∷ []
    events (Call c i) = called c i (w.task c)
    events (Give i k) = given_at i (slice_get w.pool k)
    events (Hear c k) = heard_at c (slice_get w.pool k)
    events (Lost c i) = []
    events (CrashNode i) = NodeCrashes i ∷ []
    events (CrashClient c) = ClientCrashes c ∷ []
    events (Lie m) = Lies m ∷ []
    events (Tell m) = Lies m ∷ Hears m.client m ∷ []
    events (Poke m) = Lies m ∷ Gives m.node m ∷ []
    events (False c i rule) = falsely_told rule c i (w.task c)
    events (Sound c i block time value) = Lies (sound_ask c i block time value) ∷ Gives i (sound_ask c i block time value) ∷ []
    events (Mix c i block time value other) = Lies (mix_ask c i block time value other) ∷ Gives i (mix_ask c i block time value other) ∷ []
    events (Prune i block) = Prunes i block ∷ []
    events (Back c) = ComesBack c ∷ []
    events (Restart i) = []

    -- the world after a line, whose events have one place
    abbrev pub plays : ℕ → Line → World
    plays place line = only_place s (all_happen s w place (events line)) place

    -- there is such a node or client
    abbrev pub is_actor : Actor → Bool
    is_actor (Node i) = nat_lt i s.n
    is_actor (Client c) = nat_le 1 c && nat_le c 1000

    -- it is declared lying
    abbrev pub is_liar : Actor → Bool
    is_liar (Node i) = s.lying_node i
    is_liar (Client c) = s.lying_client c

    -- it has crashed
    abbrev pub has_crashed : Actor → Bool
    has_crashed (Node i) = w.node_crashed i
    has_crashed (Client c) = w.client_crashed c

    -- a lying client is neither idle nor busy
    abbrev pub is_idle : ℕ → Bool
    is_idle c = not (s.lying_client c) && not (does_something (w.task c))

    -- some client works on the block
    abbrev pub is_busy_at : ℕ → Bool
    is_busy_at block = nat_lt 0 (count 1001 (λ c. is_at block (under_way w c)))

    -- what else each line needs, and when that isn't so
    abbrev pub lacks : Line → StepFault → Bool
    lacks (Write c block value) Busy = does_something (w.task c)
    lacks (Write c block value) Worn = no_room (w.started c)
    lacks (Read c block) Busy = does_something (w.task c)
    lacks (Read c block) Worn = no_room (w.started c)
    lacks (Resend c) Idle = is_idle c
    lacks (Call c i) Idle = is_idle c
    lacks (Give i k) NoSuchMessage = nat_le (length w.pool) k
    lacks (Give i k) WrongReceiver = misgiven i (slice_get w.pool k)
    lacks (Hear c k) NoSuchMessage = nat_le (length w.pool) k
    lacks (Hear c k) WrongReceiver = misheard c (slice_get w.pool k)
    lacks (Tell m) WrongReceiver = misheard m.client (Some m)
    lacks (Poke m) WrongReceiver = misgiven m.node (Some m)
    lacks (False c i rule) Idle = is_idle c
    lacks (Prune i block) NotQuiet = is_busy_at block
    lacks (Prune i block) NoRead = is_missing (greatest_given block w.records)
    lacks (Back c) Worn = no_room (w.life c)
    lacks (Back c) NotCrashed = not (w.client_crashed c)
    lacks _ _ = false

    -- the line meets the fault
    abbrev pub meets : Line → StepFault → Bool
    meets line NoSuchActor = some_of (λ a. not (is_actor a)) ((roles line).takes_part ++ (roles line).named)
    meets line Crashed = some_of has_crashed (roles line).up
    meets line NotALiar = some_of (λ a. not (is_liar a)) (roles line).lies
    meets line IsALiar = some_of is_liar (roles line).takes_part
    meets line missing = lacks line missing

    -- why a line is refused: the first fault that it meets
    abbrev pub fault : Line → Option StepFault
    fault line = find (meets line) all_faults

  -- what a line asks is of this configuration
  abbrev pub FitsLine : Line → Type 0
  FitsLine (Write c block value) = (block < s.blocks) × IsBlock s value
  FitsLine (Read c block) = block < s.blocks
  FitsLine (Lie m) = IsFormedBody m.body
  FitsLine (Tell m) = IsFormedBody m.body
  FitsLine (Poke m) = IsFormedBody m.body
  FitsLine (False c i rule) = rule ≢ Silent
  FitsLine (Sound c i block time value) = IsBlock s value
  FitsLine (Mix c i block time value other) = IsBlock s value × IsBlock s other
  FitsLine (Prune i block) = block < s.blocks
  FitsLine _ = Unit {0}

  -- what a line names is there: a message, something that a client does, a node that can restart
  abbrev pub Names : World → Line → Type 0
  Names w (Give i k) = k < length w.pool
  Names w (Hear c k) = k < length w.pool
  Names w (Call c i) = (task : Task) × (w.task c ≡ Some task)
  Names w (False c i rule) = (task : Task) × (w.task c ≡ Some task)
  Names w (Restart i) = (i < s.n) × (s.lying_node i ≡ false) × (w.node_crashed i ≡ false)
  Names w _ = Unit {0}

  -- its events are allowed one after the other
  abbrev pub IsPlayable : World → ℕ → Line → Type 0
  IsPlayable w place line = Names w line × AllAllowed s w place (events w line)

  -- the world that lines lead to, each at a place above those before it
  abbrev pub Run : World → List (ℕ × Line) → World → Type 0
  Run w [] end = end ≡ w
  Run w (l ∷ ls) end = (w.place < l.0) × FitsLine l.1 × (fault w l.1 ≡ None) × Run (plays w l.0 l.1) ls end

  -- the world that lines lead to from the beginning
  abbrev pub IsRun : List (ℕ × Line) → World → Type 0
  IsRun lines w = Run (start_world s) lines w

-- the start of an operation
abbrev pub start_line : ℕ → Op → Line
start_line c (ReadOp block) = Read c block
start_line c (WriteOp block value) = Write c block value
