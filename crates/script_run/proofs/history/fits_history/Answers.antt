use Rattle.script_run.proofs.LastWorlds.{fits_history}
use Rattle.script_run.proofs.history.fits_history.Goals as goal

pub returns : goal.returns
returns c = fits_history c.args.world.now c.is_reached.ensures c.requires
