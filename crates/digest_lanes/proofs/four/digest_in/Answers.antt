use Rattle.std.proofs.Common.{rules, refl, ap, arith, ◌∙◌, w32}
use Rattle.std.proofs.lemmas.Slice.{overwrites}
use Rattle.std.specs.Int.{to_be_bytes}
use Rattle.sha2.specs.Sha256.{digest_bytes}
use Rattle.sha2.proofs.Absorbing256.{digest_more}
use Rattle.digest_lanes.specs.Lanes.{lane}
use Rattle.digest_lanes.proofs.Vectors.{lane_at}
use Rattle.digest_lanes.proofs.four.digest_in.Goals as goal

pub words-init : goal.words-init
unfolding digest_bytes
words-init c = (refl, refl)

pub words-preserved : goal.words-preserved
words-preserved c = (
  search (rules, overwrites),
  digest_more c.words.digest (lane c.args.state.now c.args.j) c.copy_from_slice.new.self c.words.i _ c.words.invariant.1 (omega arith)
      (c.copy_from_slice.ensures.after ∙ c.to_be_bytes.ensures ∙ ap (to_be_bytes w32) (lane_at 8 c.args.state.now c.words.i c.args.j c.requires.vectors (omega arith))),
)
