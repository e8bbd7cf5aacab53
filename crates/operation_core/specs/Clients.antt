-- A correct client as contracts see it, and what a message does to it.
use Rattle.std.specs.Prelude.{ℕ, ◌+◌, if◌then◌else◌, ◌==◌, Option}
use Rattle.std.specs.declared.option.Option.TheVariants.{None, Some}
use Rattle.quorum_rules.specs.Limits.{Numbers}
use Rattle.wire_forms.specs.declared.message.Message.{Message}
use Rattle.wire_forms.specs.declared.message.Body.{Body}
use Rattle.wire_forms.specs.declared.message.Body.TheVariants.{Ask as Asks, Answer as Answers}
use Rattle.wire_forms.specs.declared.op.Op.{Op}
use Rattle.protocol.specs.Instance.{setting}
use Rattle.protocol.specs.Seen.{SeenTask, SeenClient, Hearing, seen_begun, hearing, ops_of, block_of, work_of}
use Rattle.protocol.specs.Seen.Hearing.{Ignored}

-- the configuration that it works in, its number, and what it does
pub record ClientView : Type 0 where
  pub config : Numbers
  pub id : ℕ
  pub seen : SeenClient

-- the client with this operation under way, or none
abbrev pub with_task : ClientView → Option SeenTask → ClientView
with_task c task = record { config = c.config; id = c.id; seen = record { life = c.seen.life; started = c.seen.started; task = task } }

-- the client after it started one more operation
abbrev pub with_started : ClientView → SeenTask → ClientView
with_started c t = record { config = c.config; id = c.id; seen = record { life = c.seen.life; started = c.seen.started + 1; task = Some t } }

-- the operation that a start begins
abbrev pub started : ClientView → Op → SeenTask
started c op = seen_begun (setting c.config) (ops_of c.seen + 1) (block_of op) (work_of op)

-- what a message does to the operation: an answer to this client may be heard, and nothing else
abbrev pub told : ClientView → SeenTask → Message → Body → Hearing
told c t m (Asks ask) = Ignored
told c t m (Answers reply) = if m.client == c.id then hearing (setting c.config) c.id t m.node m.tag reply else Ignored

-- what a message does to the client
abbrev pub hears : ClientView → Option SeenTask → Message → Hearing
hears c None m = Ignored
hears c (Some t) m = told c t m m.body
