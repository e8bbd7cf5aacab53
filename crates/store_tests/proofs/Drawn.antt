-- A batch that is drawn block by block.
use Rattle.std.proofs.Common.{◌≡◌, ◌≢◌, ℕ, ◌+◌, ◌<◌, List, [], ◌∷◌, ◌++◌, arith}
use Rattle.std.proofs.lemmas.Grind.{common_steps}
use Rattle.std.specs.List.{All}
use Rattle.std.proofs.lemmas.List.Elements.{All-push}
use Rattle.std.proofs.lemmas.List.Quantifiers.{all_pairs_push}
use Rattle.quorum_rules.specs.Limits.{Numbers}
use Rattle.wire_forms.specs.declared.op.Op.{Op}
use Rattle.wire_forms.specs.Ops.{Fits}
use Rattle.protocol.specs.Seen.{block_of}
use Rattle.store_tests.specs.Drawn.{AreBelow}

-- no operation on the next block
pub one_block_on : (c : Numbers) (block : ℕ) (ops : List Op) → AreBelow c block ops → AreBelow c (block + 1) ops
one_block_on c block ops are = record {
  few = omega (arith, are.few);
  fits = are.fits;
  below = λ i d lt. omega (arith, are.below i d lt);
  apart = are.apart;
}

-- one operation on the next block
pub one_more : (c : Numbers) (block : ℕ) (ops : List Op) (op : Op)
    → AreBelow c block ops → Fits c op → block_of op ≡ block → AreBelow c (block + 1) (ops ++ op ∷ [])
one_more c block ops op are fits on =
    let few = are.few in
    record {
      few = grind (arith, common_steps);
      fits = All-push (Fits c) ops op are.fits fits;
      below = All-push (λ other. block_of other < block + 1) ops op (one_block_on c block ops are).below (omega (arith, on));
      apart = all_pairs_push (λ one other. block_of one ≢ block_of other) ops op are.apart
          (λ k d lt same. absurd (omega (arith, are.below k d lt, same, on)));
    }
