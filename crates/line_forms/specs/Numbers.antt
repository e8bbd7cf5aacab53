-- The numbers under which causes and faults are printed.
use Rattle.std.specs.Prelude.{ℕ, Option, Some, None}
use Rattle.quorum_rules.specs.declared.ConfigFault.{ConfigFault}
use Rattle.quorum_rules.specs.declared.ConfigFault.TheVariants.{NodesOutOfRange, LiarsAboveFaults, QuorumLow, QuorumHigh, ShareCount, SizeOutOfRange, BlocksOutOfRange}
use Rattle.run_words.specs.declared.line.StepFault.{StepFault}
use Rattle.run_words.specs.declared.line.StepFault.TheVariants.{NoSuchActor, NoSuchMessage, WrongReceiver, Busy, Crashed, NotALiar, Idle, IsALiar, NotQuiet, NoRead, Worn, NotCrashed}
use Rattle.line_forms.specs.declared.cause.DeviceFault.{DeviceFault}
use Rattle.line_forms.specs.declared.cause.DeviceFault.TheVariants.{PastEnd, EmptyRange}
use Rattle.line_forms.specs.declared.cause.Cause.{Cause}
use Rattle.line_forms.specs.declared.cause.Cause.TheVariants.{Empty, Cut, BadHeader, UnknownWord, WrongCount, BadNumber, OutOfRange, BadValue, BadMessage, Config, Twice, TooManyLiars, TooManyFaulty, LyingClient, TooManyLines, Device, QueueBusy, NoCommand, Step, MissingLine, NotSorted, Count}

-- the place of a cause in the order in which causes are tried
abbrev pub cause_number : Cause → ℕ
cause_number Empty = 1
cause_number Cut = 2
cause_number BadHeader = 3
cause_number UnknownWord = 4
cause_number WrongCount = 5
cause_number BadNumber = 6
cause_number OutOfRange = 7
cause_number BadValue = 8
cause_number BadMessage = 9
cause_number (Config fault) = 10
cause_number Twice = 11
cause_number TooManyLiars = 12
cause_number TooManyFaulty = 13
cause_number LyingClient = 14
cause_number TooManyLines = 15
cause_number (Device fault) = 16
cause_number QueueBusy = 17
cause_number NoCommand = 18
cause_number (Step fault) = 19
cause_number MissingLine = 20
cause_number NotSorted = 21
cause_number Count = 22

-- the place of a rule of configurations in their order
abbrev pub config_number : ConfigFault → ℕ
config_number NodesOutOfRange = 1
config_number LiarsAboveFaults = 2
config_number QuorumLow = 3
config_number QuorumHigh = 4
config_number ShareCount = 5
config_number SizeOutOfRange = 6
config_number BlocksOutOfRange = 7

abbrev pub device_number : DeviceFault → ℕ
device_number PastEnd = 1
device_number EmptyRange = 2

-- the place of a step's fault in the order in which they are tried
abbrev pub step_number : StepFault → ℕ
step_number NoSuchActor = 1
step_number NoSuchMessage = 2
step_number WrongReceiver = 3
step_number Busy = 4
step_number Crashed = 5
step_number NotALiar = 6
step_number Idle = 7
step_number IsALiar = 8
step_number NotQuiet = 9
step_number NoRead = 10
step_number Worn = 11
step_number NotCrashed = 12

-- the number of the fault that a cause carries
abbrev pub carried_number : Cause → Option ℕ
carried_number (Config fault) = Some (config_number fault)
carried_number (Device fault) = Some (device_number fault)
carried_number (Step fault) = Some (step_number fault)
carried_number _ = None
