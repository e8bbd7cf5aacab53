-- The statuses of scripts of which no picture is drawn.
use Rattle.command_texts.specs.Statuses.{status_of_refusal}
use Rattle.run_pictures.specs.declared.status.PictureRefusal.{PictureRefusal}
use Rattle.run_pictures.specs.declared.status.PictureRefusal.TheVariants as refusals
use Rattle.run_pictures.specs.declared.status.PictureStatus.{PictureStatus}
use Rattle.run_pictures.specs.declared.status.PictureStatus.TheVariants.{Replay, TooManyLines}

abbrev pub status_of : PictureRefusal → PictureStatus
status_of (refusals.Replay refusal) = Replay (status_of_refusal refusal)
status_of (refusals.TooManyLines lines) = TooManyLines lines
