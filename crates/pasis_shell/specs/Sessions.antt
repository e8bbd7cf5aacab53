-- What `nbd` does.
use Rattle.std.specs.Prelude.{◌≡◌, ◌≢◌, ◌⊎◌, ℕ, ◌*◌, List, Result, replicate}
use Rattle.std.specs.declared.option.Option.TheVariants.{Some}
use Rattle.outside_io.specs.declared.source.Source.{Ghosts as SeenSource}
use Rattle.outside_io.specs.declared.sink.Sink.{Ghosts as SeenSink}
use Rattle.quorum_rules.specs.Limits.{Numbers}
use Rattle.outside_io.specs.Written.{AllFlushed}
use Rattle.nbd_front.specs.Replies.{greeting}
use Rattle.nbd_front.specs.Sessions.{IsSession, EndsSo}
use Rattle.nbd_front.specs.declared.ending.Served.{Served}
use Rattle.nbd_front.specs.declared.ending.SessionEnd.{SessionEnd}
use Rattle.command_texts.specs.Statuses.{status_of_session}
use Rattle.command_texts.specs.declared.status.Status.{Status}
use Rattle.command_texts.specs.declared.status.Status.TheVariants.{WriteFault, NoMemory}
use Rattle.pasis_shell.specs.Calls.{Call, left, left_after, taken, taken_after, flushed_after, IsCalm}

module _ {S K : Type 0} {seen_source : SeenSource S} {seen_sink : SeenSink K} where
  -- the device, whose bytes are all 0 at first, was served until the session ended so
  abbrev pub IsServed : Numbers → Result Served SessionEnd → Call seen_source seen_sink → Type 0
  IsServed c end call = IsSession (greeting (c.size * c.blocks)) (replicate (c.size * c.blocks) 0) 0 0 end (left call) (left_after call) (taken call) (taken_after call)

  -- what a session did, of which the status tells the end
  pub record Serves (c : Numbers) (status : Status) (call : Call seen_source seen_sink) : Type 0 where
    pub end : Result Served SessionEnd
    pub told : status ≡ status_of_session end
    pub session : IsServed c end call
    pub flushed : status ≢ WriteFault → status ≢ NoMemory → AllFlushed (taken_after call) (flushed_after call)
    -- where neither the source nor the sink fails, that is the end that the input has
    pub complete_session : (input : List ℕ) (own : Result Served SessionEnd) → left call ≡ Some input → EndsSo own 0 0 input → IsCalm call
        → (status ≡ status_of_session own) ⊎ (status ≡ NoMemory)
