-- What a lying node answers to a message.
use Rattle.std.specs.Prelude.{Option}
use Rattle.std.specs.declared.option.Option.TheVariants.{None, Some}
use Rattle.quorum_rules.specs.Limits.{Numbers}
use Rattle.protocol.specs.Messages.{Message, Body, Reply}
use Rattle.wire_forms.specs.declared.message.Body.TheVariants.{Ask as Asks, Answer as Answers}
use Rattle.protocol.specs.Lines.{Rule, false_reply}
use Rattle.protocol.specs.Instance.{setting}

-- the reply to the message, from its node to its client and with its tag
abbrev pub replied : Message → Option Reply → Option Message
replied m None = None
replied m (Some reply) = Some (record { client = m.client; node = m.node; tag = m.tag; body = Answers reply })

-- the message's node's answer by a rule
abbrev pub answer_to : Numbers → Rule → Message → Body → Option Message
answer_to c rule m (Asks ask) = replied m (false_reply (setting c) rule m.node ask.request)
answer_to c rule m (Answers reply) = None
