use Rattle.command_texts.proofs.Loads.{tells_load}
use Rattle.command_texts.proofs.load.load_text.Goals as goal

pub told_history-requires : goal.told_history-requires
told_history-requires c = record { run = c.requires.run; records = c.requires.records; clock = c.requires.clock }

pub returns : goal.returns
returns c =
    tells_load c.plain_loads.ensures.done c.plain_loads.ensures.plain c.args.number c.args.load.now c.args.journals.now c.requires.load
    c.in_ok-history.history c.in_ok-history.ensures c.in_ok-text.text c.in_ok-text.ensures
