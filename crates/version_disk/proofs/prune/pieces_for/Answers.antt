use Rattle.std.proofs.Common.{[], ◌++◌, List, ℕ, ◌∙◌, ap}
use Rattle.version_disk.specs.declared.prune.Prune.{Prune}
use Rattle.version_disk.proofs.Pruning.{pieces_more, fitting_more}
use Rattle.version_disk.proofs.prune.pieces_for.Goals as goal

pub loop-prune-preserved : goal.loop-prune-preserved
loop-prune-preserved c =
    let i = c.loop-prune.invariant in
    let d : Prune = record { block = 0; stamp = record { time = 0; client = 0; verifier = [] } } in
    let pieces = c.loop-prune.pieces.items in
    record {
      pieces = pieces_more c.args.config.now c.args.prunes.now c.loop-prune.prune-index d c.loop-prune-test.true pieces c.extend_from_slice.new.self.items i.pieces
          (c.in_ok-extend_from_slice.ensures.items ∙ ap (λ (l : List ℕ). pieces ++ l) (c.deref.ensures.value ∙ c.in_ok-piece.ensures.piece));
      fits = fitting_more c.args.config.now c.args.prunes.now c.loop-prune.prune-index d c.loop-prune-test.true i.fits c.in_ok-piece.ensures.fits;
    }
