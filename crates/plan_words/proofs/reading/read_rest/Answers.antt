use Rattle.plan_words.proofs.FormCauses.{one_form}
use Rattle.plan_words.proofs.reading.read_rest.Goals as goal

pub returns-in-Lose : goal.returns-in-Lose
returns-in-Lose c = rw (c.in-Lose.is, one_form) c.read_drop.ensures

pub returns-in-Hold : goal.returns-in-Hold
returns-in-Hold c = rw (c.in-Hold.is, one_form) c.read_hold.ensures

pub returns-in-Write : goal.returns-in-Write
returns-in-Write c = rw (c.in-Write.is, one_form) c.read_write.ensures

pub returns-in-Read : goal.returns-in-Read
returns-in-Read c = rw (c.in-Read.is, one_form) c.read_read.ensures

pub returns-in-Put : goal.returns-in-Put
returns-in-Put c = rw (c.in-Put.is, one_form) (c.read_put.ensures c.args.config.now)

pub returns-in-Get : goal.returns-in-Get
returns-in-Get c = rw (c.in-Get.is, one_form) (c.read_get.ensures c.args.config.now)

pub returns-in-Phase : goal.returns-in-Phase
returns-in-Phase c = rw (c.in-Phase.is, one_form) (c.read_phase.ensures c.args.config.now)
