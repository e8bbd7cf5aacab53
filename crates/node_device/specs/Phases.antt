-- A phase of the client's operation in which the nodes are asked one after the other.
use Rattle.std.specs.Prelude.{◌≡◌, ℕ, ◌<◌, ◌≤◌, ◌-◌, ◌^◌, if◌then◌else◌, nat_lt, true, List, length, map, replicate, slice_set, Option}
use Rattle.std.specs.declared.option.Option.TheVariants.{None, Some}
use Rattle.std.specs.List.{range_with_len}
use Rattle.quorum_rules.specs.Limits.{Numbers, wait_of}
use Rattle.wire_forms.specs.declared.message.Message.{Message}
use Rattle.wire_forms.specs.declared.message.Body.{Body}
use Rattle.wire_forms.specs.declared.message.Body.TheVariants.{Ask as Asks, Answer as Answers}
use Rattle.protocol.specs.Messages.{Ask, Reply, with_reply}
use Rattle.protocol.specs.Operations.{is_of_kind, ask_of, decide, mail}
use Rattle.protocol.specs.Instance.{setting}
use Rattle.protocol.specs.Views.{task_after}
use Rattle.protocol.specs.Seen.{SeenTask, Hearing, task_at, by_decision}
use Rattle.protocol.specs.Seen.Hearing.{Ignored, Counted, Begins, Ended}
use Rattle.node_core.specs.Seen.{SeenNode, reply_of, after_of, with_versions}
use Rattle.operation_core.specs.Clients.{ClientView, with_task}
use Rattle.client_core.specs.Clients.{IsHeard, mail_of}
use Rattle.client_core.specs.declared.heard.Heard.{Heard}
use Rattle.client_core.specs.declared.heard.Heard.TheVariants.{Unchanged, More, Send, Ended as EndedWith}
use Rattle.node_device.specs.Held.{node_at}

-- the node of the message's number has answered it, and the client has heard the answer
abbrev pub HasMet : List SeenNode → List SeenNode → ClientView → ClientView → Message → Heard → Body → Type 0
HasMet nodes new client after m heard (Asks ask) =
    let node = node_at client.config nodes m.node in
    (new ≡ slice_set nodes m.node (with_versions node ask.block (after_of node ask))) × IsHeard client after (with_reply m (reply_of node ask)) heard
HasMet nodes new client after m heard (Answers reply) = ⊥

module _ (c : Numbers) (nodes : List SeenNode) (t : SeenTask) where
  -- what the phase asks of node i
  abbrev pub ask_to : ℕ → Ask
  ask_to i = ask_of (setting c) (task_at 0 t) i

  -- what node i answers
  abbrev pub answer_of : ℕ → Reply
  answer_of i = reply_of (node_at c nodes i) (ask_to i)

  -- node i when it has answered
  abbrev pub node_after : ℕ → SeenNode
  node_after i = with_versions (node_at c nodes i) t.block (after_of (node_at c nodes i) (ask_to i))

  -- the answer of node i, if it is one of the first k
  abbrev pub answer_below : ℕ → ℕ → Option Reply
  answer_below k i = if nat_lt i k then Some (answer_of i) else None

  -- the operation with the answers of the first k nodes
  abbrev pub asked : ℕ → SeenTask
  asked k = record { op = t.op; block = t.block; work = t.work; phase = t.phase; rounds = t.rounds; stage = t.stage; answers = map (answer_below k) (range_with_len 0 c.n) }

  -- the first k nodes have answered, and no other
  pub record HaveAnswered (k : ℕ) (new : List SeenNode) : Type 0 where
    pub count : length new ≡ length nodes
    pub first : (i : ℕ) → i < k → node_at c new i ≡ node_after i
    pub rest : (i : ℕ) → k ≤ i → node_at c new i ≡ node_at c nodes i

-- how the phase ends
abbrev pub phase_end : Numbers → ℕ → SeenTask → Hearing
phase_end c client t = by_decision (setting c) t (decide (setting c) client (task_at 0 t) t.stage)

-- what the client says of a hearing
abbrev pub heard_of : Numbers → ℕ → Hearing → Heard
heard_of c client Ignored = Unchanged
heard_of c client (Counted t) = More
heard_of c client (Begins t) = Send (mail (setting c) client (task_at 0 t))
heard_of c client (Ended outcome) = EndedWith outcome

-- the client begins this phase, and each node that is asked gives an answer that the phase counts
pub record IsAsking (nodes : List SeenNode) (client : ClientView) (t : SeenTask) (sent : List Message) : Type 0 where
  pub task : client.seen.task ≡ Some t
  pub asks : sent ≡ mail_of client t
  pub none : t.answers ≡ replicate client.config.n None
  pub phase : t.phase < 2 ^ 64 - 1
  pub count : length nodes ≡ client.config.n
  pub waits : (1 ≤ wait_of client.config) × (wait_of client.config ≤ client.config.n)
  pub kinds : (i : ℕ) → i < wait_of client.config → is_of_kind t.stage (answer_of client.config nodes t i) ≡ true

-- the nodes that are asked have answered, and the phase has ended with their answers
pub record HasAsked (nodes new : List SeenNode) (client after : ClientView) (t : SeenTask) (heard : Heard) : Type 0 where
  pub told : heard ≡ heard_of client.config client.id (phase_end client.config client.id (asked client.config nodes t (wait_of client.config)))
  pub goes : after ≡ with_task client (task_after t (phase_end client.config client.id (asked client.config nodes t (wait_of client.config))))
  pub answered : HaveAnswered client.config nodes t (wait_of client.config) new
