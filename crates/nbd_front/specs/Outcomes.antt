-- What calls of a server answer.
use Rattle.std.specs.Prelude.{Option, Some, Result, Ok, Err}
use Rattle.nbd_front.specs.declared.ending.Served.{Served}
use Rattle.nbd_front.specs.declared.ending.Served.TheVariants.{Over}
use Rattle.nbd_front.specs.declared.ending.SessionEnd.{SessionEnd}
use Rattle.nbd_front.specs.declared.server.Stopped.{Stopped}
use Rattle.nbd_front.specs.Servers.{SeenServer}

-- how the session goes on, or why it ended
abbrev pub outcome : Result (SeenServer × Served) Stopped → Result Served SessionEnd
outcome (Ok done) = Ok done.1
outcome (Err stopped) = Err stopped.end

-- the server that is given back, if it is
abbrev pub given_back : Result (SeenServer × Served) Stopped → Option SeenServer
given_back (Ok done) = Some done.0
given_back (Err stopped) = stopped.server

-- how a session ended that was served to its end
abbrev pub closing : Result SeenServer Stopped → Result Served SessionEnd
closing (Ok server) = Ok Over
closing (Err stopped) = Err stopped.end
