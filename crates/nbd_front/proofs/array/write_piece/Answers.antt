use Rattle.std.proofs.Common.{◌≡◌, ◌∙◌, ap, arith, length}
use Rattle.quorum_rules.specs.Limits.{Numbers}
use Rattle.nbd_front.proofs.Lives.{if_ok}
use Rattle.nbd_front.proofs.Steps.{wrote_whole}
use Rattle.nbd_front.proofs.array.write_piece.Goals as goal

pub returns-then-is_whole : goal.returns-then-is_whole
returns-then-is_whole c =
    let d = c.args.device in
    let size : c.size.result ≡ d.config.size = c.size.ensures.is ∙ ap (λ (x : Numbers). x.size) c.config.ensures in
    let whole = c.is_whole.ensures.0 c.if-is_whole.true in
    let long : length c.args.part ≡ d.config.size = omega (arith, c.requires.len, whole.0, whole.1, size) in
    if_ok _ _ (wrote_whole d c.args.block c.args.piece.at c.args.part (c.requires.order.blocks c.args.block c.requires.block) (long, c.requires.bytes) whole.0) c.write.result c.write.ensures
