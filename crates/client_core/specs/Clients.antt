-- What a correct client does, of which `operation_core` has what contracts see.
use Rattle.std.specs.Prelude.{◌≡◌, ℕ, Bool, true, false, List, Option}
use Rattle.std.specs.declared.option.Option.TheVariants.{None, Some}
use Rattle.quorum_rules.specs.Limits.{Numbers}
use Rattle.wire_forms.specs.declared.message.Message.{Message}
use Rattle.protocol.specs.Messages.{Reply, Tag}
use Rattle.protocol.specs.Instance.{setting}
use Rattle.protocol.specs.Operations.{mail}
use Rattle.protocol.specs.Seen.{SeenTask, SeenOperation, Hearing, task_at}
use Rattle.protocol.specs.Seen.Hearing.{Ignored, Counted, Begins, Ended}
use Rattle.operation_core.specs.declared.stage.Stage.{Stage}
use Rattle.operation_core.specs.Clients.{ClientView, with_task, hears}
use Rattle.operation_core.specs.Stages.{stage_of}
use Rattle.operation_core.specs.Counting.{hears_in, next_task, AnswerDoes, IsPhaseEnd}
use Rattle.client_core.specs.declared.step.Step.{Step}
use Rattle.client_core.specs.declared.step.Step.TheVariants.{Ignored as Unheard, Counts, EndsPhase}
use Rattle.client_core.specs.declared.heard.Heard.{Heard}
use Rattle.client_core.specs.declared.heard.Heard.TheVariants.{Unchanged, More, Send, Ended as EndedWith}

-- its operation, as a writer or a reader shows it
abbrev pub operation_of : ClientView → SeenOperation
operation_of c = record { config = c.config; client = c.id; task = c.seen.task }

-- an idle client in this life
abbrev pub idle_client : Numbers → ℕ → ℕ → ClientView
idle_client c id life = record { config = c; id = id; seen = record { life = life; started = 0; task = None } }

-- what an answer to it does to its operation
abbrev pub hears_answer : ClientView → ℕ → Tag → Reply → Hearing
hears_answer c node tag reply = hears_in (operation_of c) node tag reply

-- the operation under way in its next phase, which this stage begins
abbrev pub next_of : ClientView → Stage → Option SeenTask
next_of c stage = next_task c.config c.seen.task (stage_of stage)

-- the messages of an operation's present phase
abbrev pub mail_of : ClientView → SeenTask → List Message
mail_of c t = mail (setting c.config) c.id (task_at 0 t)

-- the operation under way after an answer was counted
abbrev pub goes_to : Hearing → Option SeenTask
goes_to Ignored = None
goes_to (Counted t) = Some t
goes_to (Begins t) = Some t
goes_to (Ended outcome) = None

-- the phase counts the answer, and goes on
abbrev pub is_only_counted : Hearing → Bool
is_only_counted Ignored = false
is_only_counted (Counted t) = true
is_only_counted (Begins t) = false
is_only_counted (Ended outcome) = false

-- it is what the hearing of a message does to the client
abbrev pub IsStep : ClientView → Hearing → Step → Type 0
IsStep c h Unheard = h ≡ Ignored
IsStep c h (Counts node tag reply) = (t : SeenTask) × (h ≡ Counted t) × (hears_answer c node tag reply ≡ Counted t)
IsStep c h (EndsPhase end) = AnswerDoes (operation_of c) h × IsPhaseEnd (operation_of c) h end

-- the answer says what the message did, and the client did it
abbrev pub IsHeard : ClientView → ClientView → Message → Heard → Type 0
IsHeard old new m Unchanged = (hears old old.seen.task m ≡ Ignored) × (new ≡ old)
IsHeard old new m More = (t : SeenTask) × (hears old old.seen.task m ≡ Counted t) × (new ≡ with_task old (Some t))
IsHeard old new m (Send mail) = (t : SeenTask) × (hears old old.seen.task m ≡ Begins t) × (new ≡ with_task old (Some t)) × (mail ≡ mail_of old t)
IsHeard old new m (EndedWith outcome) = (hears old old.seen.task m ≡ Ended outcome) × (new ≡ with_task old None)
