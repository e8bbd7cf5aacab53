-- The faults that lines can meet.
use Rattle.std.specs.Prelude.{List, [], ◌∷◌}
use Rattle.run_words.specs.declared.line.StepFault.{StepFault}
use Rattle.run_words.specs.declared.line.StepFault.TheVariants.{NoSuchActor, Busy, Crashed, Idle, IsALiar, Worn}
use Rattle.run_words.specs.declared.line.Line.TheVariants.{Write, Read, Call}
use Rattle.protocol.specs.Lines.{Line, all_faults}

-- those that are looked for in a line, in order: of calls and starts the ones that such a line can meet, of other lines all
abbrev pub possible_faults : Line → List StepFault
possible_faults (Call c i) = NoSuchActor ∷ Crashed ∷ Idle ∷ IsALiar ∷ []
possible_faults (Write c block value) = NoSuchActor ∷ Busy ∷ Crashed ∷ IsALiar ∷ Worn ∷ []
possible_faults (Read c block) = NoSuchActor ∷ Busy ∷ Crashed ∷ IsALiar ∷ Worn ∷ []
possible_faults _ = all_faults
