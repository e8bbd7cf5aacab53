use Rattle.std.proofs.Common.{◌∙◌}
use Rattle.slab_codec.proofs.Told.{number_is, key_is}
use Rattle.slab_codec.proofs.header.told_header.Goals as goal

pub returns-in-Some-clause-some : goal.returns-in-Some-clause-some
returns-in-Some-clause-some c k number key is =
    (c.in-Some.ensures.some k number key is, number_is k number key c.args.bytes.now is, c.read_long.ensures ∙ key_is k number key c.args.bytes.now is)
