use Rattle.std.proofs.Common.{◌≡◌, ◌∙◌, length, ap, sym}
use Rattle.block_device.specs.declared.steps.BlockStep.{BlockStep}
use Rattle.block_device.specs.declared.pieces.Piece.{Piece}
use Rattle.block_device.specs.Pieces.{piece_in}
use Rattle.block_device.proofs.Cut.{put_by_whole, put_by_part}
use Rattle.block_device.proofs.cutting.put_step_count.Goals as goal

pub returns-then-is_whole-clause-count : goal.returns-then-is_whole-clause-count
returns-then-is_whole-clause-count c =
    let config = c.args.config.now in
    let is : c.piece_of-piece.result ≡ piece_in config.size c.args.start (length c.args.bytes.now) c.args.block = cc in
    let whole = c.is_whole.ensures.0 c.if-is_whole.true in
    sym (ap (length {A = BlockStep}) (put_by_whole config c.args.start c.args.bytes.now c.args.block c.requires (sym (ap (λ (p : Piece). p.at) is) ∙ whole.0) (sym (ap (λ (p : Piece). p.end) is) ∙ whole.1 ∙ c.size.ensures.is)))

pub returns-else-is_whole-clause-count : goal.returns-else-is_whole-clause-count
returns-else-is_whole-clause-count c =
    let config = c.args.config.now in
    let is : c.piece_of-piece.result ≡ piece_in config.size c.args.start (length c.args.bytes.now) c.args.block = cc in
    sym (ap (length {A = BlockStep}) (put_by_part config c.args.start c.args.bytes.now c.args.block c.requires
    (λ w. let all = c.is_whole.ensures.1 (ap (λ (p : Piece). p.at) is ∙ w.0, ap (λ (p : Piece). p.end) is ∙ w.1 ∙ sym c.size.ensures.is) in let none = c.if-is_whole.false in cc)))
