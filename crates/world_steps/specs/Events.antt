-- Single events, as lines and in the definitions' words.
use Rattle.std.specs.Prelude.{◌≡◌, ℕ, List, Option, option_map, slice_get}
use Rattle.std.specs.declared.option.Option.TheVariants.{Some}
use Rattle.protocol.specs.Messages.{Message}
use Rattle.protocol.specs.Setting.{Setting}
use Rattle.protocol.specs.World.{World, Event as AnyEvent, happens}
use Rattle.protocol.specs.World.Event.{Start as Starts, Resend as Resends, Give as Gives, Hear as Hears, CrashNode as NodeCrashes, CrashClient as ClientCrashes, Lie as Lies, Prune as Prunes, Back as ComesBack}
use Rattle.protocol.specs.Lines.{Line, start_line}
use Rattle.protocol.specs.Seen.{block_of, work_of}
use Rattle.run_words.specs.declared.line.Line.TheVariants as lines
use Rattle.world_steps.specs.declared.event.Event.{Event}
use Rattle.world_steps.specs.declared.event.Event.TheVariants.{Start, Resend, Give, Hear, CrashNode, CrashClient, Lie, Prune, Back}

-- the line of which it is the only event
abbrev pub line_of : Event → Line
line_of (Start c op) = start_line c op
line_of (Resend c) = lines.Resend c
line_of (Give i k) = lines.Give i k
line_of (Hear c k) = lines.Hear c k
line_of (CrashNode i) = lines.CrashNode i
line_of (CrashClient c) = lines.CrashClient c
line_of (Lie m) = lines.Lie m
line_of (Prune i block) = lines.Prune i block
line_of (Back c) = lines.Back c

-- the event of the definitions, if the pool has the message of its number
abbrev pub event_of : List Message → Event → Option AnyEvent
event_of pool (Start c op) = Some (Starts c (block_of op) (work_of op))
event_of pool (Resend c) = Some (Resends c)
event_of pool (Give i k) = option_map (Gives i) (slice_get pool k)
event_of pool (Hear c k) = option_map (Hears c) (slice_get pool k)
event_of pool (CrashNode i) = Some (NodeCrashes i)
event_of pool (CrashClient c) = Some (ClientCrashes c)
event_of pool (Lie m) = Some (Lies m)
event_of pool (Prune i block) = Some (Prunes i block)
event_of pool (Back c) = Some (ComesBack c)

-- this event takes place at this place, and nothing else does
pub record Happens (s : Setting) (w : World) (place : ℕ) (event : Event) (last : World) : Type 0 where
  pub is : AnyEvent
  pub told : event_of w.pool event ≡ Some is
  pub world : last ≡ happens s w place is
