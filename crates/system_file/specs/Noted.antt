-- How a call is noted.
use Rattle.std.specs.Prelude.{ℕ, true, false, List, Some, None}
use Rattle.sqlite_disk.specs.Events.{Event, settled, measured, read, read_under, written, cut, flushed}
use Rattle.sqlite_disk.specs.Refusal.{as_number}
use Rattle.system_file.specs.declared.call_record.Call.{Call}
use Rattle.system_file.specs.declared.call_record.Call.TheVariants.{Opened, Measured, Read, ReadUnder, Wrote, WriteFailed, Resized, Synced}

-- the call with these bytes, as an event of a file
abbrev pub event_of : Call → List ℕ → Event
event_of Opened bytes = settled 0
event_of (Measured None) bytes = measured false 0
event_of (Measured (Some len)) bytes = measured true len
event_of (Read at count done) bytes = read at count done bytes
event_of (ReadUnder key check at count done) bytes = read_under key check at count done bytes
event_of (Wrote at taken) bytes = written at bytes true taken
event_of (WriteFailed at is_full) bytes = written at bytes false (as_number is_full)
event_of (Resized len done is_full) bytes = cut len done (as_number is_full)
event_of (Synced done is_full) bytes = flushed done (as_number is_full)
