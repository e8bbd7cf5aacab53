-- What the reads of a run's clients gave.
use Rattle.std.specs.Prelude.{ℕ, Bool, false, if◌then◌else◌, nat_lt, List, [], Option}
use Rattle.std.specs.declared.option.Option.TheVariants.{None, Some}
use Rattle.std.specs.List.{filter_map, flat_map}
use Rattle.stamp_order.specs.declared.Stamp.{Stamp}
use Rattle.protocol.specs.World.{Record, stamp_given}
use Rattle.client_desks.specs.Desks.{DeskView, records_at}
use Rattle.phase_threads.specs.declared.duty.Seat.{Seat}
use Rattle.plan_followed.specs.declared.prunes.BlockStamp.{BlockStamp}
use Rattle.client_duties.specs.declared.work.ClientDuty.{ClientDuty}
use Rattle.client_duties.specs.declared.work.ClientDuty.TheVariants.{Client, Lying}

-- the records of a thread's client, if it is a correct one
abbrev pub records_in : ClientDuty → DeskView → List Record
records_in (Client w) d = records_at d
records_in (Lying w) d = []

abbrev pub records_of : Seat ClientDuty → List Record
records_of s = records_in s.duty s.desk

-- what a read of the block gave, if it gave something
abbrev pub given_under : ℕ → Option Stamp → Option BlockStamp
given_under block None = None
given_under block (Some stamp) = Some (record { block = block; stamp = stamp })

-- what the record's read gave
abbrev pub given_by : Record → Option BlockStamp
given_by r = given_under r.block (stamp_given r.outcome)

-- the operation ended at this number or a later one: places count from 1, and numbers count from 0
abbrev pub ends_since : ℕ → Option ℕ → Bool
ends_since from None = false
ends_since from (Some end) = nat_lt from end

-- what the record's read gave, if it ended before this number, or since
abbrev pub early_by : ℕ → Record → Option BlockStamp
early_by from r = if ends_since from r.end then None else given_by r

abbrev pub late_by : ℕ → Record → Option BlockStamp
late_by from r = if ends_since from r.end then given_by r else None

abbrev pub early_in : ℕ → List Record → List BlockStamp
early_in from rs = filter_map (early_by from) rs

abbrev pub late_in : ℕ → List Record → List BlockStamp
late_in from rs = filter_map (late_by from) rs

-- what the reads of all correct clients gave before this number, and since
abbrev pub early_reads : ℕ → List (Seat ClientDuty) → List BlockStamp
early_reads from seats = flat_map (λ s. early_in from (records_of s)) seats

abbrev pub late_reads : ℕ → List (Seat ClientDuty) → List BlockStamp
late_reads from seats = flat_map (λ s. late_in from (records_of s)) seats
