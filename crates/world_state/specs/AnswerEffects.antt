-- What a message makes of a client, and of the world that it stands in.
use Rattle.std.specs.Prelude.{◌≡◌, ℕ, ◌≤◌, true, List, [], length, Option}
use Rattle.std.specs.declared.option.Option.TheVariants.{None, Some}
use Rattle.quorum_rules.specs.Limits.{Numbers}
use Rattle.protocol.specs.Count.{update}
use Rattle.protocol.specs.Messages.{Message, Stamp, Tag, Reply}
use Rattle.protocol.specs.Instance.{setting}
use Rattle.protocol.specs.Operations.{Task, Outcome}
use Rattle.protocol.specs.World.{World, stamp_of_outcome, with_record}
use Rattle.protocol.specs.Seen.{SeenTask, Hearing, client_at, started_task, chosen_of, hears as hears_answer}
use Rattle.protocol.specs.Seen.Hearing.{Ignored, Counted, Begins, Ended}
use Rattle.operation_core.specs.Counting.{GoesOn, IsAtEnd}
use Rattle.operation_core.specs.Clients.{ClientView}
use Rattle.client_core.specs.Clients.{operation_of, mail_of, goes_to, is_only_counted, next_of}
use Rattle.world_state.specs.declared.answer_effect.AnswerEffect.{AnswerEffect}
use Rattle.world_state.specs.declared.answer_effect.AnswerEffect.TheVariants.{Same, Counts, Goes, Ends}
use Rattle.world_state.specs.Worlds.{WorldView, world_in}
use Rattle.world_state.specs.Changes.{client_in}

-- the messages of the next phase, if one begins
abbrev pub next_mail : ClientView → Hearing → List Message
next_mail c (Begins u) = mail_of c u
next_mail c _ = []

-- what a node's answer with this tag does to the client
abbrev pub answer_does : ClientView → ℕ → Tag → Reply → Hearing
answer_does c node tag reply = hears_answer (setting c.config) c.id c.seen.task node tag reply

-- the effect is what the message does to the client
abbrev pub IsEffect : ClientView → Hearing → AnswerEffect → Type 0
IsEffect c h Same = h ≡ Ignored
IsEffect c h (Counts node tag reply) = (u : SeenTask) × (h ≡ Counted u) × (answer_does c node tag reply ≡ Counted u)
IsEffect c h (Goes stage) = (u : SeenTask) × (h ≡ Begins u) × (next_of c stage ≡ Some u) × GoesOn (operation_of c) stage
IsEffect c h (Ends outcome) = (h ≡ Ended outcome) × IsAtEnd (operation_of c)

-- the client of this number, with its life and its count of operations
pub record IsSame (v : WorldView) (k : ℕ) (new : ClientView) : Type 0 where
  pub config : new.config ≡ v.config
  pub id : new.id ≡ k
  pub life : new.seen.life ≡ (client_at v.seen k).life
  pub started : new.seen.started ≡ (client_at v.seen k).started

-- the operation may go on so, by this place
pub record MayGoOn (c : Numbers) (place : ℕ) (t : Task) (u : SeenTask) : Type 0 where
  pub block : u.block ≡ t.block
  pub work : u.work ≡ t.work
  pub answers : length u.answers ≡ c.n
  pub phases : u.phase ≤ place

-- an operation under way goes on so, or ends
abbrev pub Becomes : Numbers → ℕ → Option Task → Option SeenTask → Type 0
Becomes c place None next = ⊥
Becomes c place (Some t) None = Unit {0}
Becomes c place (Some t) (Some u) = MayGoOn c place t u

-- the effect may be done to the client
abbrev pub MayApply : WorldView → ℕ → AnswerEffect → Type 0
MayApply v k Same = Unit {0}
MayApply v k (Counts node tag reply) = (is_only_counted (answer_does (client_in v k) node tag reply) ≡ true) × Becomes v.config v.seen.place ((world_in v).task k) (goes_to (answer_does (client_in v k) node tag reply))
MayApply v k (Goes stage) = GoesOn (operation_of (client_in v k)) stage × Becomes v.config v.seen.place ((world_in v).task k) (next_of (client_in v k) stage)
MayApply v k (Ends outcome) = IsAtEnd (operation_of (client_in v k)) × Becomes v.config v.seen.place ((world_in v).task k) None

-- the world when the client's operation has become this one, and this is told of it
abbrev pub settled : World → ℕ → Task → Option SeenTask → Option ℕ → Option Stamp → Option Outcome → World
settled w k t next end stamp outcome = record w {
  task = update w.task k (started_task t.start next);
  records = with_record w.records (record { client = k; block = t.block; work = t.work; start = t.start; end = end; stamp = stamp; outcome = outcome });
}

-- the world when it has become this one, which goes on
abbrev pub goes_on : World → ℕ → Task → Option SeenTask → World
goes_on w k t next = settled w k t next None (chosen_of next) None

-- the world when the effect is done to the client
abbrev pub applied : World → ClientView → Option Task → AnswerEffect → World
applied w c None effect = w
applied w c (Some t) Same = w
applied w c (Some t) (Counts node tag reply) = goes_on w c.id t (goes_to (answer_does c node tag reply))
applied w c (Some t) (Goes stage) = goes_on w c.id t (next_of c stage)
applied w c (Some t) (Ends outcome) = settled w c.id t None (Some w.place) (stamp_of_outcome outcome) (Some outcome)
