-- Blocks of which some node keeps many versions.
use Rattle.std.proofs.Common.{◌≡◌, ℕ, ◌+◌, Bool, true, false, ◌||◌, cond, List, [], ◌∷◌, ◌++◌, refl, sym, ap, ◌∙◌, arith}
use Rattle.std.specs.Prelude.{filter, map, nat_lt}
use Rattle.std.specs.List.{AllByRecursion, list_any, range_with_len}
use Rattle.std.proofs.lemmas.List.{append-nil}
use Rattle.std.proofs.lemmas.List.Folds.{list_any-append}
use Rattle.std.proofs.lemmas.List.FromFn.{filter_of_map_range_with_len_more, map-range_with_len_more}
use Rattle.wire_forms.specs.declared.op.Op.{Op}
use Rattle.wire_forms.specs.declared.op.Op.TheVariants.{Read}
use Rattle.protocol.specs.Seen.{block_of}
use Rattle.store_device.specs.Stores.{SeenStore}
use Rattle.store_device.specs.Steps.{IsRead}
use Rattle.store_care.specs.Pruning.{is_overfull, overfull}

or_none : (b : Bool) → b ≡ (b || false)
or_none true = refl
or_none false = refl

-- whether one of these counts is greater, and with one more of them
pub any_more : (most : ℕ) (f : ℕ → ℕ) (k : ℕ) (full more : Bool) → full ≡ list_any (nat_lt most) (map f (range_with_len 0 k)) → more ≡ nat_lt most (f k)
    → (full || more) ≡ list_any (nat_lt most) (map f (range_with_len 0 (k + 1)))
any_more most f k full more was is =
    ap (λ (b : Bool). b || more) was ∙ ap (λ (b : Bool). list_any (nat_lt most) (map f (range_with_len 0 k)) || b) (is ∙ or_none (nat_lt most (f k)))
    ∙ sym (list_any-append (nat_lt most) (map f (range_with_len 0 k)) (f k ∷ []))
    ∙ ap (list_any (nat_lt most)) (sym (map-range_with_len_more f 0 k k (omega arith)))

module _ {D : Type 0} (store : SeenStore D) (most : ℕ) where
  one_more : (first count block : ℕ) → first + count ≡ block
      → overfull store first (count + 1) most ≡ overfull store first count most ++ cond (is_overfull store most block) (Read block ∷ []) []
  one_more first count block e = filter_of_map_range_with_len_more (λ (op : Op). is_overfull store most (block_of op)) (λ (b : ℕ). Read b) first count block e

  -- one block more that isn't read, or is
  pub one_more_left : (first count block : ℕ) → first + count ≡ block → is_overfull store most block ≡ false
      → overfull store first (count + 1) most ≡ overfull store first count most
  one_more_left first count block e is = one_more first count block e ∙ at (is_overfull store most block) is
    where
      at : (b : Bool) → b ≡ false → overfull store first count most ++ cond b (Read block ∷ []) [] ≡ overfull store first count most
      at false h = append-nil (overfull store first count most)
      at true h = cc

  pub one_more_read : (first count block : ℕ) → first + count ≡ block → is_overfull store most block ≡ true
      → overfull store first (count + 1) most ≡ overfull store first count most ++ Read block ∷ []
  one_more_read first count block e is = one_more first count block e ∙ at (is_overfull store most block) is
    where
      at : (b : Bool) → b ≡ true → overfull store first count most ++ cond b (Read block ∷ []) [] ≡ overfull store first count most ++ Read block ∷ []
      at true h = refl
      at false h = cc

  -- nothing but reads
  reads_among : (blocks : List ℕ) → AllByRecursion IsRead (filter (λ (op : Op). is_overfull store most (block_of op)) (map (λ (b : ℕ). Read b) blocks))
  reads_among [] = tt
  reads_among (b ∷ blocks) = at (filter (λ (op : Op). is_overfull store most (block_of op)) (map (λ (c : ℕ). Read c) blocks)) (reads_among blocks) (is_overfull store most b)
    where
      at : (rest : List Op) → AllByRecursion IsRead rest → (full : Bool) → AllByRecursion IsRead (cond full (Read b ∷ rest) rest)
      at rest all true = (tt, all)
      at rest all false = all

  pub only_reads : (first count : ℕ) → AllByRecursion IsRead (overfull store first count most)
  only_reads first count = reads_among (range_with_len first count)
