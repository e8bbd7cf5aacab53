use Rattle.block_device.proofs.lemmas.Reading.{get_gives, get_keeps}
use Rattle.block_device.proofs.laws.gets_read_their_range.Goals as goal

pub returns-clause-given : goal.returns-clause-given
returns-clause-given c = get_gives

pub returns-clause-same : goal.returns-clause-same
returns-clause-same c = get_keeps
