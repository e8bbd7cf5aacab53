-- What became of an operation, by its record.
use Rattle.std.specs.Prelude.{Bool, true, false, Option, Some}
use Rattle.run_words.specs.declared.record.Record.{Record}
use Rattle.run_words.specs.declared.outcome.Outcome.{Outcome}
use Rattle.run_words.specs.declared.outcome.Outcome.TheVariants.{Wrote, Spent, Gave}

-- a write stored its value, or a read gave one
abbrev pub has_result : Option Outcome → Bool
has_result (Some (Wrote stamp)) = true
has_result (Some (Gave stamp value how rounds)) = true
has_result other = false

abbrev pub is_done : Record → Bool
is_done r = has_result r.outcome

-- a write found no time left
abbrev pub found_none : Option Outcome → Bool
found_none (Some Spent) = true
found_none other = false

abbrev pub is_spent : Record → Bool
is_spent r = found_none r.outcome
