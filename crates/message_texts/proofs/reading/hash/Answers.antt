use Rattle.std.proofs.Common.{sym}
use Rattle.message_texts.proofs.lemmas.Spelling.{capital_spells_none, hash_spelled}
use Rattle.message_texts.proofs.reading.hash.Goals as goal

pub returns-then-has_capital : goal.returns-then-has_capital
returns-then-has_capital c = capital_spells_none c.args.digits.now (sym c.if-has_capital.ensures)

pub returns : goal.returns
returns c = rw c.ok.ensures.value (hash_spelled c.args.digits.now c.from_hex.result (sym c.if-has_capital.ensures) (sym c.from_hex.ensures))
