-- The operations of a store's life are linearizable, by the laws of the lives of blocks.
use Rattle.std.proofs.Common.{◌≡◌, ◌≢◌, ℕ, suc, ◌<◌, eqb, List, [], ◌∷◌, ◌++◌, refl, sym, ap, subst, ◌∙◌, arith}
use Rattle.std.specs.List.{Contains}
use Rattle.std.proofs.lemmas.Bool.{eqb-true}
use Rattle.std.proofs.lemmas.List.Sorted.{IsPermutation-refl}
use Rattle.quorum_rules.specs.Limits.{Numbers, IsValid}
use Rattle.protocol.specs.Setting.{zeros}
use Rattle.protocol.specs.Instance.{setting, nobody, IsCluster}
use Rattle.protocol.specs.Laws.{InEachCluster}
use Rattle.protocol.proofs.lemmas.Counting.{nobody_counts}
use Rattle.linear_runs.specs.Linear.{Operation, IsLinear, on_block}
use Rattle.linear_runs.proofs.lemmas.Matching.{filter_none}
use Rattle.block_turns.specs.Turns.{Turn as BlockTurn, told_by as told_there, told as told_of, turns_of}
use Rattle.block_turns.specs.Laws.{LivesAreLinearizable as BlocksAreLinearizable}
use Rattle.block_turns.specs.AllBlocks.{AreLives, LivesAreLinearAsOne, LivesAreDurable as BlocksAreDurable, told_as}
use Rattle.store_device.specs.Lives.{Moment, IsLife, NoneClash, life_on, told, LivesAreLinearizable, LivesAreLinearizableAsOne, LivesAreDurable}
use Rattle.store_device.proofs.LifeOperations.{told_on}
use Rattle.store_device.proofs.LifeTelling.{on_blocks}

-- no operation at all
pub linear_none : (zeros : List ℕ) (ops : List Operation) → ops ≡ [] → IsLinear zeros ops
linear_none zeros ops none =
    subst (IsLinear zeros) (sym none)
    (record {
      order = [];
      of_these = record { left_out = []; all = IsPermutation-refl []; unended = λ i d l. absurd (omega (arith, l)) };
      in_time = λ i j d l m. absurd (omega (arith, m));
      reads_last = tt;
    })

pub none_on : (block : ℕ) (ops : List Operation) → ((o : Operation) → Contains ops o → o.block ≢ block) → on_block block ops ≡ []
none_on block ops apart = filter_none (λ (o : Operation). eqb o.block block) ops (λ o there e. apart o there (eqb-true o.block block e))

-- a cluster in which nobody lies at first
pub calm : (c : Numbers) → IsValid c → IsCluster c nobody
calm c valid = record { config = valid; few = (let e = nobody_counts c.n in omega (arith, e)) }

-- turns under their own numbers
same_told : (block k : ℕ) (turns : List BlockTurn) → told_of block k turns ≡ told_as (λ j. j) block k turns
same_told block k [] = refl
same_told block k (turn ∷ turns) = ap (λ (os : List Operation). told_there block k turn ++ os) (same_told block (suc k) turns)

module _ (c : Numbers) where
  pub by_block : InEachCluster BlocksAreLinearizable → LivesAreLinearizable c
  by_block lives valid life lived block there apart =
      subst (IsLinear (zeros (setting c))) (sym (told_on block c life lived))
      (lives c nobody nobody (calm c valid) block (life_on block life) (lived.each block there) apart)

  are_lives : IsValid c → (life : List Moment) → IsLife c life → ((block : ℕ) → block < c.blocks → NoneClash c block life)
      → AreLives (setting c) (λ block. nobody) (λ block. life_on block life) (λ block k. k) (told life)
  are_lives valid life lived apart = record {
    few = λ block there. (let e = nobody_counts c.n in omega (arith, e));
    each = λ block there. record { there = (lived.each block there).there; takes = (lived.each block there).takes };
    apart = λ block there. apart block there;
    rises = λ block j k there less. less;
    inside = λ o there. on_blocks c life lived o there;
    of_lives = λ block there. told_on block c life lived ∙ same_told block 0 (turns_of (life_on block life));
  }

  pub as_one : InEachCluster LivesAreLinearAsOne → LivesAreLinearizableAsOne c
  as_one together valid life lived apart =
      together c nobody nobody (calm c valid) (λ block. nobody) (λ block. life_on block life) (λ block k. k) (told life)
      (are_lives valid life lived apart)

  pub durable : InEachCluster BlocksAreDurable → LivesAreDurable c
  durable together valid life crashes lived apart =
      together c nobody nobody (calm c valid) (λ block. nobody) (λ block. life_on block life) (λ block k. k) (told life) crashes
      (are_lives valid life lived apart)
