use Rattle.journals.specs.Journals.{setting_for}
use Rattle.merge_trace.proofs.Fitting.{read_fits, write_fits, high_write}
use Rattle.merge_trace.proofs.lines.fits_op.Goals as goal

pub returns-in-Read : goal.returns-in-Read
returns-in-Read c = read_fits (setting_for c.args.journals.now) c.blocks-in-Read.result c.blocks-in-Read.ensures.is c.in-Read.block c.args.op.now c.in-Read.is

pub returns-then-block-blocks : goal.returns-then-block-blocks
returns-then-block-blocks c = write_fits (setting_for c.args.journals.now) c.blocks-in-Write.result c.blocks-in-Write.ensures.is c.in-Write.block c.len.result c.size.result c.in-Write.value c.args.op.now c.in-Write.is c.if-block-blocks.true c.as_slice-bytes.ensures.each c.len.ensures c.size.ensures.is

pub returns-else-block-blocks : goal.returns-else-block-blocks
returns-else-block-blocks c = high_write (setting_for c.args.journals.now) c.blocks-in-Write.result c.blocks-in-Write.ensures.is c.in-Write.block c.in-Write.value c.args.op.now c.in-Write.is c.if-block-blocks.false
