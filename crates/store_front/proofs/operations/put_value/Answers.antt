use Rattle.store_front.proofs.Valuing.{put_blocks}
use Rattle.store_front.proofs.operations.put_value.Goals as goal

pub returns-clause-blocks : goal.returns-clause-blocks
returns-clause-blocks c = put_blocks c.args.config.now c.args.values.now.entries c.insert.new.self.entries c.args.block c.args.value c.in_ok-insert.ensures.entries c.requires.block c.requires.len c.requires.values
