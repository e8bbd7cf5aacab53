use Rattle.std.proofs.Common.{sym}
use Rattle.message_texts.proofs.lemmas.Spelling.{stamp_needs_time, stamp_needs_client, stamp_time_spelled, stamp_client_spelled, stamp_hash_spelled, stamp_spelled}
use Rattle.message_texts.proofs.reading.stamp.Goals as goal

pub returns-in_err-time : goal.returns-in_err-time
returns-in_err-time c = rw c.from_residual.ensures (stamp_needs_time c.args.field.now c.in_err-time.ensures.parts)

pub returns-in_err-client : goal.returns-in_err-client
returns-in_err-client c = rw c.from_residual-in_err-client.ensures (stamp_needs_client c.args.field.now c.in_ok-time.time.now c.in_ok-time.rest.now c.in_ok-time.ensures.parts c.in_err-client.ensures.parts)

pub returns-in_err-number : goal.returns-in_err-number
returns-in_err-number c =
    rw c.from_residual-in_err-number.ensures
    (stamp_time_spelled c.args.field.now c.in_ok-time.time.now c.in_ok-time.rest.now c.in_ok-time.ensures.parts c.in_ok-client.client.now c.in_ok-client.digits.now c.in_ok-client.ensures.parts (sym c.in_err-number.ensures))

pub returns-in_err-number_u32 : goal.returns-in_err-number_u32
returns-in_err-number_u32 c =
    rw c.from_residual-in_err-number_u32.ensures
    (stamp_client_spelled c.args.field.now c.in_ok-time.time.now c.in_ok-time.rest.now c.in_ok-time.ensures.parts c.in_ok-client.client.now c.in_ok-client.digits.now c.in_ok-client.ensures.parts (sym c.in_err-number_u32.ensures))

pub returns-in_err-hash : goal.returns-in_err-hash
returns-in_err-hash c =
    rw c.from_residual-in_err-hash.ensures
    (stamp_hash_spelled c.args.field.now c.in_ok-time.time.now c.in_ok-time.rest.now c.in_ok-time.ensures.parts c.in_ok-client.client.now c.in_ok-client.digits.now c.in_ok-client.ensures.parts c.in_err-hash.ensures)

pub returns : goal.returns
returns c =
    stamp_spelled c.args.field.now c.in_ok-time.time.now c.in_ok-time.rest.now c.in_ok-time.ensures.parts c.in_ok-client.client.now c.in_ok-client.digits.now c.in_ok-client.ensures.parts c.in_ok-number.field-0 c.in_ok-number_u32.field-0 c.in_ok-hash.field-0
    (sym c.in_ok-number.ensures) (sym c.in_ok-number_u32.ensures) c.in_ok-hash.ensures
