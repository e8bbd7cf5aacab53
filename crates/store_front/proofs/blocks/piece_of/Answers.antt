use Rattle.std.proofs.Common.{◌≡◌, arith, sym, subst}
use Rattle.store_front.specs.declared.blocks.Piece.{Piece}
use Rattle.store_front.specs.Blocks.{piece_of, IsPiece}
use Rattle.store_front.proofs.Reaching.{piece_fits}
use Rattle.store_front.proofs.blocks.piece_of.Goals as goal

pub returns-clause-fits : goal.returns-clause-fits
returns-clause-fits c =
    let config = c.args.config.now in
    let request = c.args.request.now in
    let piece : Piece = record { at = c.saturating_sub.result; end = c.min.result; from = c.saturating_sub-2.result; to = c.min-2.result } in
    let same : piece ≡ piece_of config request c.args.block = grind arith in
    subst (λ (p : Piece). IsPiece config.size request.len p) (sym same) (piece_fits config request c.args.block (omega (arith, c.size.ensures.valid.size)) c.requires)
