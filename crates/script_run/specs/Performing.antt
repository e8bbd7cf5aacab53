-- The run of a replay's event lines: plain lines as they stand, and device commands step by step.
use Rattle.std.specs.Prelude.{◌≡◌, ℕ, ◌+◌, List, [], ◌∷◌, ◌++◌, length, option_map, Option}
use Rattle.std.specs.declared.option.Option.TheVariants.{None, Some}
use Rattle.quorum_rules.specs.Limits.{Numbers}
use Rattle.wire_forms.specs.declared.device.DeviceOp.{DeviceOp}
use Rattle.wire_forms.specs.declared.device.DeviceOp.TheVariants.{Put as Puts, Get as Gets}
use Rattle.run_words.specs.declared.line.Line.{Line}
use Rattle.run_words.specs.declared.line.Line.TheVariants.{Lost, Back}
use Rattle.line_forms.specs.declared.cause.Cause.{Cause}
use Rattle.line_forms.specs.declared.cause.Cause.TheVariants.{Device, QueueBusy, NoCommand, Step}
use Rattle.line_forms.specs.declared.cause.DeviceFault.{DeviceFault}
use Rattle.event_lines.specs.declared.line.ReplayLine.{ReplayLine}
use Rattle.event_lines.specs.declared.line.ReplayLine.TheVariants.{Plain, Put, Get, Next}
use Rattle.block_device.specs.declared.steps.BlockStep.{BlockStep}
use Rattle.block_device.specs.Ranges.{fault_of}
use Rattle.block_device.specs.Steps.{steps_of}
use Rattle.block_device.specs.Ops.{op_of}
use Rattle.protocol.specs.Count.{update}
use Rattle.protocol.specs.Setting.{Setting}
use Rattle.protocol.specs.World.{World, start_world, only_place}
use Rattle.protocol.specs.Lines.{fault, plays, start_line}

-- a world, and of each client the steps that are left of its last command
pub record CommandQueues : Type 0 where
  pub world : World
  pub left : ℕ → List BlockStep

-- why a command can't begin: its range, or steps that are left of an earlier one
abbrev pub command_cause : Option DeviceFault → List BlockStep → Option Cause
command_cause (Some f) left = Some (Device f)
command_cause None [] = None
command_cause None (step ∷ more) = Some QueueBusy

-- who comes back at a line
abbrev pub returning : Line → Option ℕ
returning (Back client) = Some client
returning line = None

-- the steps that are left when this client, if there is one, drops its own
abbrev pub without : (ℕ → List BlockStep) → Option ℕ → ℕ → List BlockStep
without left None = left
without left (Some client) = update left client []

module _ (s : Setting) where
  -- the line by which a client starts a step: as the operation that the step is after the records so far
  abbrev pub started_by : World → ℕ → BlockStep → Line
  started_by w client step = start_line client (op_of s.size client w.records step)

  -- the line of the run at which the first step that is left starts
  abbrev pub next_line : World → ℕ → List BlockStep → Line
  next_line w client [] = Lost client 0
  next_line w client (step ∷ more) = started_by w client step

  -- the line of the run that a line of a replay is: a plain line as it stands, and for the beginning of a command one at which nothing takes place
  abbrev pub run_line : CommandQueues → ReplayLine → Line
  run_line d (Plain line) = line
  run_line d (Put client offset bytes) = Lost client 0
  run_line d (Get client offset len) = Lost client 0
  run_line d (Next client) = next_line d.world client (d.left client)

  -- why the next step can't start
  abbrev pub next_cause : World → ℕ → List BlockStep → Option Cause
  next_cause w client [] = Some NoCommand
  next_cause w client (step ∷ more) = option_map Step (fault s w (started_by w client step))

  -- the first step that is left starts
  abbrev pub stepped : CommandQueues → ℕ → ℕ → List BlockStep → CommandQueues
  stepped d place client [] = d
  stepped d place client (step ∷ more) = record { world = plays s d.world place (started_by d.world client step); left = update d.left client more }

  -- before anything took place
  abbrev pub start_queues : CommandQueues
  start_queues = record { world = start_world s; left = λ client. [] }

module _ (s : Setting) (c : Numbers) where
  -- why a line can't take place
  abbrev pub cause_of : CommandQueues → ReplayLine → Option Cause
  cause_of d (Plain line) = option_map Step (fault s d.world line)
  cause_of d (Put client offset bytes) = command_cause (fault_of c (Puts offset bytes)) (d.left client)
  cause_of d (Get client offset len) = command_cause (fault_of c (Gets offset len)) (d.left client)
  cause_of d (Next client) = next_cause s d.world client (d.left client)

  -- a command begins, and nothing else takes place
  abbrev pub begun : CommandQueues → ℕ → ℕ → DeviceOp → CommandQueues
  begun d place client op = record { world = only_place s d.world place; left = update d.left client (steps_of c op) }

  -- what there is after a line: who comes back has no steps left
  abbrev pub after_line : CommandQueues → ℕ → ReplayLine → CommandQueues
  after_line d place (Plain line) = record { world = plays s d.world place line; left = without d.left (returning line) }
  after_line d place (Put client offset bytes) = begun d place client (Puts offset bytes)
  after_line d place (Get client offset len) = begun d place client (Gets offset len)
  after_line d place (Next client) = stepped s d place client (d.left client)

  -- the lines take place one after the other, the first at this place, and lead to the last queues
  abbrev pub LeadsTo : CommandQueues → ℕ → List ReplayLine → CommandQueues → Type 0
  LeadsTo d place [] last = last ≡ d
  LeadsTo d place (line ∷ lines) last = (cause_of d line ≡ None) × LeadsTo (after_line d place line) (place + 1) lines last

  -- the lines of the run, each at its place, the first at this one
  abbrev pub run_lines_from : CommandQueues → ℕ → List ReplayLine → List (ℕ × Line)
  run_lines_from d place [] = []
  run_lines_from d place (line ∷ lines) = (place, run_line s d line) ∷ run_lines_from (after_line d place line) (place + 1) lines

  -- the lines of the run of a replay's lines
  abbrev pub run_lines : List ReplayLine → List (ℕ × Line)
  run_lines lines = run_lines_from (start_queues s) 1 lines

  -- the run of a replay's lines: places count its lines from 1
  abbrev pub Performs : List ReplayLine → CommandQueues → Type 0
  Performs lines last = LeadsTo (start_queues s) 1 lines last

  -- after so many lines have taken place, the next one can't, and this is why
  pub record StopsAt (lines : List ReplayLine) (done : ℕ) (cause : Cause) : Type 0 where
    pub front : List ReplayLine
    pub line : ReplayLine
    pub rest : List ReplayLine
    pub parts : lines ≡ front ++ line ∷ rest
    pub counted : length front ≡ done
    pub queues : CommandQueues
    pub performed : Performs front queues
    pub stopped : cause_of queues line ≡ Some cause
