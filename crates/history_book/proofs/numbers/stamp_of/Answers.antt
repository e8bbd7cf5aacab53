use Rattle.std.proofs.Common.{sym}
use Rattle.history_book.proofs.Spelling.{no_dot, one_dot, no_time, no_writer, no_mark, a_stamp}
use Rattle.history_book.proofs.numbers.stamp_of.Goals as goal

pub returns-in_err-time : goal.returns-in_err-time
returns-in_err-time c = rw c.from_residual.ensures (sym (no_dot c.args.field.now c.in_err-time.ensures.parts))

pub returns-in_err-writer : goal.returns-in_err-writer
returns-in_err-writer c = rw c.from_residual-in_err-writer.ensures (sym (one_dot c.args.field.now c.in_ok-time.time.now c.in_ok-time.rest.now c.in_ok-time.ensures.parts c.in_err-writer.ensures.parts))

pub returns-in_err-number : goal.returns-in_err-number
returns-in_err-number c =
    rw c.from_residual-in_err-number.ensures
    (sym (no_time c.args.field.now c.in_ok-time.time.now c.in_ok-time.rest.now c.in_ok-writer.writer.now c.in_ok-writer.mark.now c.in_ok-time.ensures.parts c.in_ok-writer.ensures.parts (sym c.in_err-number.ensures)))

pub returns-in_err-number_u32 : goal.returns-in_err-number_u32
returns-in_err-number_u32 c =
    rw c.from_residual-in_err-number_u32.ensures
    (sym (no_writer c.args.field.now c.in_ok-time.time.now c.in_ok-time.rest.now c.in_ok-writer.writer.now c.in_ok-writer.mark.now c.in_ok-number.field-0 c.in_ok-time.ensures.parts c.in_ok-writer.ensures.parts (sym c.in_ok-number.ensures) (sym c.in_err-number_u32.ensures)))

pub returns-in_err-number_u32-2 : goal.returns-in_err-number_u32-2
returns-in_err-number_u32-2 c =
    rw c.from_residual-in_err-number_u32-2.ensures
    (sym (no_mark c.args.field.now c.in_ok-time.time.now c.in_ok-time.rest.now c.in_ok-writer.writer.now c.in_ok-writer.mark.now c.in_ok-number.field-0 c.in_ok-number_u32.field-0 c.in_ok-time.ensures.parts c.in_ok-writer.ensures.parts (sym c.in_ok-number.ensures) (sym c.in_ok-number_u32.ensures) (sym c.in_err-number_u32-2.ensures)))

pub returns : goal.returns
returns c =
    sym (a_stamp c.args.field.now c.in_ok-time.time.now c.in_ok-time.rest.now c.in_ok-writer.writer.now c.in_ok-writer.mark.now c.in_ok-number.field-0 c.in_ok-number_u32.field-0 c.in_ok-number_u32-2.field-0 c.in_ok-time.ensures.parts c.in_ok-writer.ensures.parts (sym c.in_ok-number.ensures) (sym c.in_ok-number_u32.ensures) (sym c.in_ok-number_u32-2.ensures))
