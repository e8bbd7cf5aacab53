-- What is told by the records of operations that are done.
use Rattle.std.proofs.Common.{◌≡◌, ℕ, ◌≤◌, List, [], Option, refl, ◌⊎◌, inl, inr}
use Rattle.std.specs.declared.option.Option.TheVariants.{None, Some}
use Rattle.stamp_order.specs.declared.Stamp.{Stamp}
use Rattle.run_words.specs.declared.outcome.Outcome.TheVariants.{Wrote, Spent, Gave, Outvoted}
use Rattle.protocol.specs.Operations.{Work, Outcome}
use Rattle.protocol.specs.Operations.Work.{Reads, Writes}
use Rattle.protocol.specs.World.{World, Record}
use Rattle.protocol.specs.Facts.{IsTold, IsOutcomeOf}
use Rattle.protocol.specs.History.{Entry, Kind, entry_as}
use Rattle.protocol.specs.History.Kind.{Read as ReadKind, Write as WriteKind}
use Rattle.soak_loads.specs.Serial.{IsDone}

-- the stamp and the value of an outcome
abbrev pub stamp_in : Option Outcome → Stamp
stamp_in (Some (Gave stamp value how rounds)) = stamp
stamp_in (Some (Wrote stamp)) = stamp
stamp_in _ = record { time = 0; client = 0; verifier = [] }

abbrev pub given_in : Option Outcome → List ℕ
given_in (Some (Gave stamp value how rounds)) = value
given_in _ = []

abbrev pub value_by : Work → Option Outcome → List ℕ
value_by Reads outcome = given_in outcome
value_by (Writes value) outcome = value

abbrev pub kind_by : Work → Kind
kind_by Reads = ReadKind
kind_by (Writes value) = WriteKind

abbrev pub stamp_of : Record → Stamp
stamp_of r = stamp_in r.outcome

-- the entry of a record that is done
abbrev pub record_entry : Record → Entry
record_entry r = entry_as r (kind_by r.work) (stamp_of r) (value_by r.work r.outcome)

-- how many of these write
abbrev pub writes_by : Work → ℕ
writes_by Reads = 0
writes_by (Writes value) = 1

abbrev pub IsWriting : Work → Type 0
IsWriting Reads = ⊥
IsWriting (Writes value) = Unit {0}

abbrev pub IsReading : Work → Type 0
IsReading Reads = Unit {0}
IsReading (Writes value) = ⊥

pub either : (work : Work) → IsReading work ⊎ IsWriting work
either Reads = inl tt
either (Writes value) = inr tt

stamped_by : (work : Work) (client : ℕ) (stamp : Option Stamp) (outcome : Option Outcome) → IsDone work client outcome → IsOutcomeOf work stamp outcome → stamp ≡ Some (stamp_in outcome)
stamped_by Reads client stamp None d o = absurd d
stamped_by Reads client stamp (Some (Gave given value how rounds)) d o = o
stamped_by Reads client stamp (Some (Wrote wrote)) d o = absurd d
stamped_by Reads client stamp (Some Spent) d o = absurd d
stamped_by Reads client stamp (Some (Outvoted nodes)) d o = absurd d
stamped_by (Writes value) client stamp None d o = absurd d
stamped_by (Writes value) client stamp (Some (Gave given v how rounds)) d o = absurd d
stamped_by (Writes value) client stamp (Some (Wrote wrote)) d o = o
stamped_by (Writes value) client stamp (Some Spent) d o = absurd d
stamped_by (Writes value) client stamp (Some (Outvoted nodes)) d o = absurd d

pub stamped : (w : World) (r : Record) → IsTold w r → IsDone r.work r.client r.outcome → r.stamp ≡ Some (stamp_of r)
stamped w r told done = stamped_by r.work r.client r.stamp r.outcome done told.outcome

not_open : (work : Work) (client : ℕ) (outcome : Option Outcome) → IsDone work client outcome → outcome ≡ None → ⊥
not_open Reads client None d e = d
not_open (Writes value) client None d e = d
not_open work client (Some o) d e = absurd cc

pub ended : (w : World) (r : Record) → IsTold w r → IsDone r.work r.client r.outcome → (end : ℕ) × (r.end ≡ Some end)
ended w r told done = by r.end refl
  where
    by : (o : Option ℕ) → r.end ≡ o → (end : ℕ) × (r.end ≡ Some end)
    by None e = absurd (not_open r.work r.client r.outcome done (told.ended.0 e))
    by (Some end) e = (end, e)

-- a write that is done has its client's stamp, of some time
pub done_write : (work : Work) (client : ℕ) (outcome : Option Outcome) → IsWriting work → IsDone work client outcome → ((stamp_in outcome).client ≡ client) × (1 ≤ (stamp_in outcome).time)
done_write Reads client outcome k d = absurd k
done_write (Writes value) client None k d = absurd d
done_write (Writes value) client (Some (Gave given v how rounds)) k d = absurd d
done_write (Writes value) client (Some (Wrote wrote)) k d = d
done_write (Writes value) client (Some Spent) k d = absurd d
done_write (Writes value) client (Some (Outvoted nodes)) k d = absurd d
