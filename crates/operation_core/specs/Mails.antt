-- The messages of a phase.
use Rattle.std.specs.Prelude.{ℕ, List}
use Rattle.std.specs.declared.option.Option.TheVariants.{Some}
use Rattle.quorum_rules.specs.Limits.{Numbers}
use Rattle.wire_forms.specs.declared.message.Body.TheVariants.{Ask as Asks}
use Rattle.protocol.specs.Messages.{Message}
use Rattle.protocol.specs.Count.{collect}
use Rattle.protocol.specs.Instance.{setting}
use Rattle.protocol.specs.Operations.{request_of}
use Rattle.operation_core.specs.declared.mailing.Head.{Head}
use Rattle.operation_core.specs.declared.stage.Stage.{Stage}
use Rattle.operation_core.specs.Stages.{stage_of}

-- the message to node i, which asks for the block what the stage asks for
abbrev pub message_of : Numbers → Head → Stage → ℕ → Message
message_of c head stage i =
    record { client = head.client; node = i; tag = head.tag; body = Asks (record { block = head.block; request = request_of (setting c) (stage_of stage) i }) }

-- those to all nodes in order
abbrev pub mail_of : Numbers → Head → Stage → List Message
mail_of c head stage = collect c.n (λ i. Some (message_of c head stage i))
