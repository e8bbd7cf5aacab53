use Rattle.std.proofs.Common.{refl, ◌∙◌}
use Rattle.protocol.proofs.lemmas.Firsts.{first_stamp_is}
use Rattle.read_core.proofs.reader.Reader.begin.Goals as goal

pub invariant_of-reader : goal.invariant_of-reader
invariant_of-reader c =
    let config = c.args.config.now in
    let valid = c.in_ok-operation.ensures.valid in
    let first = c.requires.first ∙ first_stamp_is config valid in
    rw c.in_ok-operation.ensures.operation (record { valid = valid; begins = first; read = record { reads = refl; stage = tt }; counted = refl })
