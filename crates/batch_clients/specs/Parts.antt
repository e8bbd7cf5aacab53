-- How a batch keeps its operations, and what its steps do.
use Rattle.std.specs.Prelude.{◌≡◌, ℕ, ◌+◌, ◌<◌, ◌≤◌, List, [], ◌∷◌, ◌++◌, length, map, reverse, Option, slice_get, option_to_list}
use Rattle.std.specs.declared.option.Option.TheVariants.{None, Some}
use Rattle.std.specs.declared.vec.Vec.{Vec}
use Rattle.quorum_rules.specs.Limits.{Numbers}
use Rattle.protocol.specs.Messages.{Ask, Reply, Tag, Message}
use Rattle.wire_forms.specs.declared.Body.TheVariants.{Ask as Asks, Answer as Answers}
use Rattle.protocol.specs.Setting.{Setting}
use Rattle.protocol.specs.Instance.{setting}
use Rattle.protocol.specs.Seen.{SeenTask, ops_of}
use Rattle.operation_core.specs.Clients.{ClientView, with_task}
use Rattle.client_core.specs.Clients.{mail_of, IsHeard}
use Rattle.client_core.specs.declared.heard.Heard.{Heard}
use Rattle.client_core.specs.declared.heard.Heard.TheVariants.{Unchanged, Send, Ended as EndedWith}
use Rattle.block_phases.specs.Phases.{after_phase}
use Rattle.block_phases.specs.Phases.Progress.{UnderWay, Over}
use Rattle.batch_clients.specs.declared.run.Standing.{Standing}
use Rattle.batch_clients.specs.declared.run.Standing.TheVariants.{Asking, Ended as HasEnded, Lost as IsLost}
use Rattle.batch_clients.specs.declared.run.Run.{Run}
use Rattle.batch_clients.specs.Batches.{Stand, Running, ask_by, stand_after}
use Rattle.batch_clients.specs.Batches.Stand.{Asks as AsksOne, Ended, Lost}

-- an operation under way asks; where there is none, nothing is asked any more
abbrev pub stand_in : Option SeenTask → Stand
stand_in None = Lost
stand_in (Some task) = AsksOne task

-- where an operation stands, as contracts see it
abbrev pub stand_of : Standing → Stand
stand_of (Asking client) = stand_in client.seen.task
stand_of (HasEnded outcome) = Ended outcome
stand_of IsLost = Lost

abbrev pub running : Run → Running
running r = record { client = r.id; stand = stand_of r.standing }

-- the phase that it asks, 0 where it asks nothing
abbrev pub phase_at : Stand → ℕ
phase_at (AsksOne task) = task.phase
phase_at _ = 0

-- the client is that of this number, of this cluster, and its last operation is under way
pub record IsAsking (c : Numbers) (id : ℕ) (client : ClientView) : Type 0 where
  pub cluster : client.config ≡ c
  pub own : client.id ≡ id
  pub task : SeenTask
  pub under_way : client.seen.task ≡ Some task
  pub number : task.op ≡ ops_of client.seen

abbrev pub IsStanding : Numbers → ℕ → Standing → Type 0
IsStanding c id (Asking client) = IsAsking c id client
IsStanding c id _ = Unit {0}

-- an operation that may ask when so many phases were asked
pub record IsRun (c : Numbers) (phases : ℕ) (r : Run) : Type 0 where
  pub standing : IsStanding c r.id r.standing
  pub early : phase_at (stand_of r.standing) ≤ phases

-- a node's answers from the last one on
abbrev pub turned : Option (List Reply) → Option (List Reply)
turned None = None
turned (Some replies) = Some (reverse replies)

-- a node's answers but the first
abbrev pub others_of : List Reply → List Reply
others_of [] = []
others_of (reply ∷ replies) = replies

abbrev pub rest_of : Option (List Reply) → Option (List Reply)
rest_of None = None
rest_of (Some replies) = Some (others_of replies)

-- the answers that are left when an operation that stands so has heard its own
abbrev pub left_by : Stand → List (Option (List Reply)) → List (Option (List Reply))
left_by (AsksOne task) answers = map rest_of answers
left_by _ answers = answers

-- what is asked of each node
abbrev pub items_of : {Z : Type 0} → Vec Ask Z → List Ask
items_of asks = asks.items

abbrev pub lists_of : {Z : Type 0} → List (Vec Ask Z) → List (List Ask)
lists_of asks = map items_of asks

-- of each of n nodes more is asked: what an operation asks that stands so
pub record AskMore (s : Setting) (stand : Stand) (old new : List (List Ask)) : Type 0 where
  pub count : length new ≡ length old
  pub each : (i : ℕ) (asks : List Ask) → i < s.n → slice_get old i ≡ Some asks → slice_get new i ≡ Some (asks ++ option_to_list (ask_by s i stand))

-- a further operation stands so, in this phase at most, and what it asks is asked
pub record IsAdded (c : Numbers) (r : Running) (phase : ℕ) (old new : List Run) (asks more : List (List Ask)) : Type 0 where
  pub run : Run
  pub runs : new ≡ old ++ run ∷ []
  pub stands : running run ≡ r
  pub is_run : IsRun c phase run
  pub asked : AskMore (setting c) r.stand asks more

-- the message's ask is one more of its node's
pub record IsDealt (m : Message) (old new : List (List Ask)) : Type 0 where
  pub count : length new ≡ length old
  pub here : (ask : Ask) (asks : List Ask) → m.body ≡ Asks ask → slice_get old m.node ≡ Some asks → slice_get new m.node ≡ Some (asks ++ ask ∷ [])
  pub others : (i : ℕ) → (i ≡ m.node → ⊥) → slice_get new i ≡ slice_get old i

-- where an operation stands when it has heard these answers of the nodes, if it asked
abbrev pub stand_by : Setting → ℕ → List (Option Reply) → Stand → Stand
stand_by s client replies (AsksOne task) = stand_after task (after_phase s client task replies)
stand_by s client replies stand = stand

-- a node's answer to a client
abbrev pub answer_from : ℕ → ℕ → Tag → Reply → Message
answer_from client node tag reply = record { client = client; node = node; tag = tag; body = Answers reply }

-- the client has heard what the node gave, if it gave an answer
abbrev pub IsHeardFrom : ClientView → ClientView → ℕ → ℕ → Tag → Option Reply → Heard → Type 0
IsHeardFrom old new client node tag None heard = (heard ≡ Unchanged) × (new ≡ old)
IsHeardFrom old new client node tag (Some reply) heard = IsHeard old new (answer_from client node tag reply) heard

-- what the client's phase came to with these answers: a next one, an end, or too few answers
abbrev pub HasCome : ClientView → SeenTask → List (Option Reply) → ClientView → Heard → Type 0
HasCome old task replies new (Send mail) =
    (next : SeenTask) × (after_phase (setting old.config) old.id task replies ≡ UnderWay next) × (next.phase ≡ task.phase + 1) × (next.op ≡ task.op) × (new ≡ with_task old (Some next)) × (mail ≡ mail_of old next)
HasCome old task replies new (EndedWith outcome) = after_phase (setting old.config) old.id task replies ≡ Over outcome
HasCome old task replies new _ = (same : SeenTask) × (after_phase (setting old.config) old.id task replies ≡ UnderWay same) × (same.phase ≡ task.phase)
