-- Prunes of blocks that rise.
use Rattle.std.proofs.Common.{◌≡◌, ◌≢◌, ℕ, ◌+◌, ◌<◌, List, [], ◌∷◌, ◌++◌, sym, subst, arith}
use Rattle.std.specs.List.{All}
use Rattle.std.proofs.lemmas.List.Elements.{All-push, All-weaker}
use Rattle.std.proofs.lemmas.List.Quantifiers.{all_pairs_push}
use Rattle.stamp_order.specs.declared.Stamp.{Stamp}
use Rattle.version_disk.specs.declared.prune.Prune.{Prune}
use Rattle.store_device.specs.Seating.{ArePrunesApart}

-- they are of blocks of their own, all below this one
pub record AreRising (prunes : List Prune) (block : ℕ) : Type 0 where
  pub below : All (λ p. p.block < block) prunes
  pub apart : ArePrunesApart prunes

-- one more
pub one_rises : (prunes new : List Prune) (block : ℕ) (stamp : Stamp) → AreRising prunes block → new ≡ prunes ++ record { block = block; stamp = stamp } ∷ [] → AreRising new (block + 1)
one_rises prunes new block stamp are is =
    let one : Prune = record { block = block; stamp = stamp } in
    subst (λ (l : List Prune). AreRising l (block + 1)) (sym is) (record {
      below = All-push (λ (p : Prune). p.block < block + 1) prunes one (All-weaker (λ (p : Prune). p.block < block) (λ (p : Prune). p.block < block + 1) (λ p lt. omega arith) prunes are.below) (omega arith);
      apart = all_pairs_push (λ (p q : Prune). p.block ≢ q.block) prunes one are.apart (λ k d within same. let lt = are.below k d within in omega arith);
    })

-- none
pub none_rises : (prunes new : List Prune) (block : ℕ) → AreRising prunes block → new ≡ prunes → AreRising new (block + 1)
none_rises prunes new block are is = subst (λ (l : List Prune). AreRising l (block + 1)) (sym is) (record {
  below = All-weaker (λ (p : Prune). p.block < block) (λ (p : Prune). p.block < block + 1) (λ p lt. omega arith) prunes are.below;
  apart = are.apart;
})
