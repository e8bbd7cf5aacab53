-- What a reply does to a client and to the records of its operations.
use Rattle.std.specs.Prelude.{◌≡◌, ℕ, List, Option}
use Rattle.std.specs.declared.option.Option.TheVariants.{None, Some}
use Rattle.stamp_order.specs.declared.Stamp.{Stamp}
use Rattle.protocol.specs.Messages.{Message}
use Rattle.protocol.specs.Operations.{Outcome}
use Rattle.protocol.specs.World.{Record}
use Rattle.protocol.specs.Seen.{Hearing}
use Rattle.protocol.specs.Seen.Hearing.{Ignored}
use Rattle.operation_core.specs.Clients.{ClientView, hears}
use Rattle.client_core.specs.Clients.{IsStep}
use Rattle.client_core.specs.declared.step.Step.{Step}
use Rattle.journals.specs.Desks.{DeskState}
use Rattle.journals.specs.Records.{client_records}
use Rattle.client_desks.specs.Desks.{ending}
use Rattle.client_desks.specs.declared.recording.Foreseen.{Foreseen}

-- what hearing a reply, if there is one, does to the client
abbrev pub hearing_of : ClientView → Option Message → Hearing
hearing_of c None = Ignored
hearing_of c (Some reply) = hears c c.seen.task reply

-- the step is what hearing the reply does, and the outcome that of the operation that it ends
pub record IsForeseen (c : ClientView) (reply : Option Message) (f : Foreseen) : Type 0 where
  pub step : IsStep c (hearing_of c reply) f.step
  pub outcome : f.outcome ≡ ending c reply

-- the client is that of a desk in this state, with the records of its operations, and the step is what some hearing does to it
pub record MayTake (client : ClientView) (records : List Record) (step : Step) : Type 0 where
  pub id : ℕ
  pub state : DeskState
  pub same : client ≡ state.client
  pub told : records ≡ client_records id state
  pub hearing : Hearing
  pub is : IsStep client hearing step

-- the record, which tells now that the operation stands so
abbrev pub retold : Record → Option ℕ → Option Stamp → Option Outcome → Record
retold r end stamp outcome = record r { end = end; stamp = stamp; outcome = outcome }
