use Rattle.std.proofs.Common.{map, ◌∙◌, ap}
use Rattle.protocol.specs.Seen.{record_of}
use Rattle.world_state.specs.Worlds.{setting_in, world_in}
use Rattle.script_run.proofs.LastWorlds.{fits_history, are_of_run}
use Rattle.script_run.proofs.history.last_history.Goals as goal

pub history_of_records-requires : goal.history_of_records-requires
history_of_records-requires c =
    let v = c.args.world in
    (setting_in v, world_in v, are_of_run v c.is_reached.ensures (fits_history v c.is_reached.ensures c.requires) (map record_of c.as_slice.result.now) c.first_stamp.result.now (ap (map record_of) c.as_slice.ensures ∙ c.into_records-records.ensures) c.first_stamp.ensures)

pub returns : goal.returns
returns c =
    let v = c.args.world in
    c.history_of_records.ensures (setting_in v) (world_in v) (are_of_run v c.is_reached.ensures (fits_history v c.is_reached.ensures c.requires) (map record_of c.as_slice.result.now) c.first_stamp.result.now (ap (map record_of) c.as_slice.ensures ∙ c.into_records-records.ensures) c.first_stamp.ensures)
