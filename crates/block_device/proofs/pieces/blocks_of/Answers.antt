use Rattle.std.proofs.Common.{◌≡◌, ◌+◌, ◌-◌, ◌/◌, ◌<◌, sym, subst, arith}
use Rattle.std.specs.List.{range_with_len}
use Rattle.block_device.specs.Ranges.{touched_by}
use Rattle.block_device.proofs.lemmas.Touching.{touched_none, touched_range, first_before_last}
use Rattle.block_device.proofs.pieces.blocks_of.Goals as goal

pub returns-then-len-eq0-clause-touched : goal.returns-then-len-eq0-clause-touched
returns-then-len-eq0-clause-touched c = touched_none c.args.config.now.size c.args.start c.args.len c.args.config.now.blocks (omega (arith, c.if-len-eq0.true))

pub returns-clause-touched : goal.returns-clause-touched
returns-clause-touched c =
    let config = c.args.config.now in
    let start = c.args.start in
    let len = c.args.len in
    let size : c.from-size.result ≡ config.size = cc in
    let apart = c.if-len-eq0.false in
    let some : 0 < len = omega (arith, apart) in
    let sized : 0 < config.size = omega (arith, c.size.ensures.valid.size) in
    let order = first_before_last config.size start len sized some in
    subst (λ z. touched_by config start len ≡ range_with_len (start / z) ((start + len - 1) / z + 1 - start / z)) (sym size)
    (touched_range config.size config.blocks start len ((start + len - 1) / config.size + 1 - start / config.size) sized some c.requires (omega (arith, order)))
