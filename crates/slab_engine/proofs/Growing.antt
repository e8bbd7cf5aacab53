-- A batch grows by one.
use Rattle.std.proofs.Common.{◌≡◌, inl, inr, ℕ, ◌+◌, ◌<◌, List, [], ◌∷◌, ◌++◌, length, get_or, sym, ◌∙◌, ap, subst, arith}
use Rattle.std.proofs.lemmas.Bool.{cases_lt}
use Rattle.std.proofs.lemmas.List.{get_or_append_left, get_or_push, length_push}
use Rattle.quorum_rules.specs.Limits.{Numbers}
use Rattle.protocol.specs.Messages.{Ask, Version}
use Rattle.wire_forms.specs.declared.Request.TheVariants.{Write}
use Rattle.slab_node.specs.declared.batch.Fresh.{Fresh}
use Rattle.slab_index.specs.declared.kept.Kept.{Kept}
use Rattle.slab_engine.specs.declared.batch.NewSlots.{NewSlots}
use Rattle.slab_engine.specs.declared.batch.Batch.{Batch}
use Rattle.slab_engine.specs.Batches.{IsAddedBy, IsBatchBelow, IsWriteOf}

module _ (c : Numbers) (key : ℕ) (index : List (List Kept)) (asks : List Ask) (added slots : List ℕ) (next n : ℕ) (old new : Batch) (f : Fresh) (s : NewSlots)
    (fresh_is : new.fresh.items ≡ old.fresh.items ++ f ∷ []) (new_is : new.new.items ≡ old.new.items ++ s ∷ [])
    (so_far : IsBatchBelow c key index asks added slots next n old)
    (it : (d : Ask) → IsAddedBy c key index (get_or asks (get_or added n 0) d) (get_or slots n 0) (next + n) f s) where
  at : (k : ℕ) (d : Ask) (x : Fresh) (y : NewSlots) → k < n + 1
      → IsAddedBy c key index (get_or asks (get_or added k 0) d) (get_or slots k 0) (next + k) (get_or (old.fresh.items ++ f ∷ []) k x) (get_or (old.new.items ++ s ∷ []) k y)
  at k d x y lt = elim (cases_lt k n) [
    | inl below ↦
        let a : get_or (old.fresh.items ++ f ∷ []) k x ≡ get_or old.fresh.items k x = get_or_append_left old.fresh.items (f ∷ []) x k (omega (arith, below, so_far.fresh_count)) in
        let b : get_or (old.new.items ++ s ∷ []) k y ≡ get_or old.new.items k y = get_or_append_left old.new.items (s ∷ []) y k (omega (arith, below, so_far.new_count)) in
        subst (λ (z : Fresh). IsAddedBy c key index (get_or asks (get_or added k 0) d) (get_or slots k 0) (next + k) z (get_or (old.new.items ++ s ∷ []) k y)) (sym a)
        (subst (λ (z : NewSlots). IsAddedBy c key index (get_or asks (get_or added k 0) d) (get_or slots k 0) (next + k) (get_or old.fresh.items k x) z) (sym b) (so_far.each k d x y below))
    | inr ge ↦
        let top : n ≡ k = omega (arith, ge, lt) in
        let a : get_or (old.fresh.items ++ f ∷ []) k x ≡ f = get_or_push old.fresh.items f x k (so_far.fresh_count ∙ top) in
        let b : get_or (old.new.items ++ s ∷ []) k y ≡ s = get_or_push old.new.items s y k (so_far.new_count ∙ top) in
        subst (λ (z : Fresh). IsAddedBy c key index (get_or asks (get_or added k 0) d) (get_or slots k 0) (next + k) z (get_or (old.new.items ++ s ∷ []) k y)) (sym a)
        (subst (λ (z : NewSlots). IsAddedBy c key index (get_or asks (get_or added k 0) d) (get_or slots k 0) (next + k) f z) (sym b)
        (subst (λ (j : ℕ). IsAddedBy c key index (get_or asks (get_or added j 0) d) (get_or slots j 0) (next + j) f s) top (it d)))
  ]

  pub batch_more : IsBatchBelow c key index asks added slots next (n + 1) new
  batch_more = record {
    fresh_count = (let a = ap length fresh_is in let b = so_far.fresh_count in omega (arith, a, b, length_push old.fresh.items f));
    new_count = (let a = ap length new_is in let b = so_far.new_count in omega (arith, a, b, length_push old.new.items s));
    each = λ k d x y lt.
        subst (λ (zs : List Fresh). IsAddedBy c key index (get_or asks (get_or added k 0) d) (get_or slots k 0) (next + k) (get_or zs k x) (get_or new.new.items k y)) (sym fresh_is)
        (subst (λ (zs : List NewSlots). IsAddedBy c key index (get_or asks (get_or added k 0) d) (get_or slots k 0) (next + k) (get_or (old.fresh.items ++ f ∷ []) k x) (get_or zs k y)) (sym new_is) (at k d x y lt));
  }

same_write : (v w : Version) → Write v ≡ Write w → v ≡ w
same_write v w e = cc

-- the version that an ask writes is the one that it is known to write
pub write_of : (c : Numbers) (ask : Ask) (v : Version) → ask.request ≡ Write v → (w : Version) × IsWriteOf c ask w → IsWriteOf c ask v
write_of c ask v is some = subst (λ (x : Version). IsWriteOf c ask x) (same_write some.0 v (sym some.1.request ∙ is)) some.1
