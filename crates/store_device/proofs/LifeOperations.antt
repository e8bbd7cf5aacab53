-- The operations that are told of a store's life are on each block those of the block's life.
use Rattle.std.proofs.Common.{◌≡◌, ◌≢◌, ℕ, suc, Bool, true, false, eqb, List, [], ◌∷◌, ◌++◌, length, Option, refl, sym, ap, subst, ◌∙◌, arith}
use Rattle.std.specs.Prelude.{if◌then◌else◌}
use Rattle.std.specs.declared.option.Option.TheVariants.{None, Some}
use Rattle.std.specs.List.{AllByRecursion, AllPairs}
use Rattle.std.proofs.lemmas.Bool.{eqb-true, eq-eqb}
use Rattle.std.proofs.lemmas.List.{append-nil}
use Rattle.std.proofs.lemmas.List.Elements.{filter-append}
use Rattle.lists.proofs.lemmas.Members.{all_from_members}
use Rattle.quorum_rules.specs.Limits.{Numbers}
use Rattle.wire_forms.specs.declared.op.Op.{Op}
use Rattle.protocol.specs.Operations.{Work, Outcome}
use Rattle.protocol.specs.Seen.{block_of, work_of}
use Rattle.linear_runs.specs.Linear.{Act, Operation, on_block}
use Rattle.block_phases.specs.Executions.{StampedValue}
use Rattle.block_turns.specs.Turns.{Turn as BlockTurn, operation, act_of, act_left, told_by as told_there, told as told_of, turns_of}
use Rattle.block_turns.specs.Turns.Turn.{Pruned as PrunedThere, Changed as ChangedThere, Lost as LostThere, Failed as FailedThere, Renewed as RenewedThere}
use Rattle.version_disk.specs.declared.prune.Prune.{Prune}
use Rattle.store_device.specs.Told.{AreApart}
use Rattle.store_device.specs.Lives.{Turn, Moment, turn_of, batch_on, prune_on, turn_on, life_on, told_one, told_by, told_at, told_from, told, IsWhole, IsLife}
use Rattle.store_device.specs.Lives.Turn.{Performed, Pruned, Changed, Gone, Back, Lost, Damaged, Failed, Renewed}

-- ---- operations on blocks of their own

module _ {X : Type 0} (of : X → ℕ) (x : X) (xs : List X) (apart : AllPairs (λ y other. of y ≢ of other) (x ∷ xs)) where
  pub apart_first : AllByRecursion (λ other. of other ≢ of x) xs
  apart_first =
      all_from_members (λ (other : X). of other ≢ of x) xs
      (λ other there same. apart 0 (suc there.0) other (omega arith) (omega (arith, there.1)) (sym same ∙ ap of (sym there.2)))

  pub apart_rest : AllPairs (λ y other. of y ≢ of other) xs
  apart_rest = λ i j d less within. apart (suc i) (suc j) d (omega (arith, less)) (omega (arith, within))

module _ (block : ℕ) where
  -- ---- one batch

  both : (xs ys us vs : List Operation) → on_block block xs ≡ us → on_block block ys ≡ vs → on_block block (xs ++ ys) ≡ us ++ vs
  both xs ys us vs a b =
      filter-append (λ (o : Operation). eqb o.block block) xs ys
      ∙ ap (λ (os : List Operation). os ++ on_block block ys) a ∙ ap (λ (os : List Operation). us ++ os) b

  own : (client start : ℕ) (end : Option ℕ) (act : Option Act)
      → on_block block (operation block client start end act) ≡ operation block client start end act
  own client start end None = refl
  own client start end (Some act) = rw (eq-eqb block block refl) refl

  foreign : (other client start : ℕ) (end : Option ℕ) (act : Option Act) → eqb other block ≡ false
      → on_block block (operation other client start end act) ≡ []
  foreign other client start end None e = refl
  foreign other client start end (Some act) e = rw e refl

  one_own : (k client : ℕ) (work : Work) (outcome : Option Outcome)
      → on_block block (told_there block k (turn_of client work outcome None)) ≡ told_there block k (turn_of client work outcome None)
  one_own k client work None = own client k None (act_left work)
  one_own k client work (Some outcome) = own client k (Some k) (act_of work outcome)

  one_foreign : (other k client : ℕ) (work : Work) (outcome : Option Outcome) → eqb other block ≡ false
      → on_block block (told_there other k (turn_of client work outcome None)) ≡ []
  one_foreign other k client work None e = foreign other client k None (act_left work) e
  one_foreign other k client work (Some outcome) e = foreign other client k (Some k) (act_of work outcome) e

  not_on : (other : ℕ) → other ≢ block → eqb other block ≡ false
  not_on other apart = at (eqb other block) refl
    where
      at : (b : Bool) → eqb other block ≡ b → b ≡ false
      at true e = absurd (apart (eqb-true other block e))
      at false e = refl

  none_on : (k client : ℕ) (ops : List Op) (outcomes : List (Option Outcome)) → AllByRecursion (λ op. block_of op ≢ block) ops
      → on_block block (told_by k client ops outcomes) ≡ []
  none_on k client [] outcomes all = refl
  none_on k client (op ∷ ops) [] all = refl
  none_on k client (op ∷ ops) (outcome ∷ outcomes) all =
      both (told_one k client op outcome) (told_by k (suc client) ops outcomes) [] []
      (one_foreign (block_of op) k client (work_of op) outcome (not_on (block_of op) all.0)) (none_on k (suc client) ops outcomes all.1)

  one_is : (k client : ℕ) (work : Work) (outcome : Option Outcome) (stored : Option StampedValue)
      → told_there block k (turn_of client work outcome None) ≡ told_there block k (turn_of client work outcome stored)
  one_is k client work None stored = refl
  one_is k client work (Some outcome) stored = refl

  batch_told : (k client : ℕ) (ops : List Op) (outcomes : List (Option Outcome)) (stored : List (Option StampedValue)) → AreApart ops
      → length outcomes ≡ length ops → length stored ≡ length ops
      → on_block block (told_by k client ops outcomes) ≡ told_there block k (batch_on block client ops outcomes stored)
  batch_told k client [] outcomes stored apart long wide = refl
  batch_told k client (op ∷ ops) [] stored apart long wide = absurd (omega (arith, long))
  batch_told k client (op ∷ ops) (outcome ∷ outcomes) [] apart long wide = absurd (omega (arith, wide))
  batch_told k client (op ∷ ops) (outcome ∷ outcomes) (value ∷ stored) apart long wide =
      at (eqb (block_of op) block) refl
      (batch_told k (suc client) ops outcomes stored (apart_rest block_of op ops apart) (omega (arith, long)) (omega (arith, wide)))
    where
      here : block_of op ≡ block
          → on_block block (told_one k client op outcome ++ told_by k (suc client) ops outcomes)
          ≡ told_there block k (turn_of client (work_of op) outcome value)
      here e =
          both (told_one k client op outcome) (told_by k (suc client) ops outcomes)
          (told_there block k (turn_of client (work_of op) outcome None)) []
          (ap (λ (b : ℕ). on_block block (told_there b k (turn_of client (work_of op) outcome None))) e
          ∙ one_own k client (work_of op) outcome)
          (none_on k (suc client) ops outcomes
          (subst (λ (b : ℕ). AllByRecursion (λ other. block_of other ≢ b) ops) e (apart_first block_of op ops apart)))
          ∙ append-nil (told_there block k (turn_of client (work_of op) outcome None))
          ∙ one_is k client (work_of op) outcome value

      at : (b : Bool) → eqb (block_of op) block ≡ b
          → on_block block (told_by k (suc client) ops outcomes) ≡ told_there block k (batch_on block (suc client) ops outcomes stored)
          → on_block block (told_one k client op outcome ++ told_by k (suc client) ops outcomes)
          ≡ told_there block k (if b then turn_of client (work_of op) outcome value else batch_on block (suc client) ops outcomes stored)
      at true e rest = here (eqb-true (block_of op) block e)
      at false e rest =
          both (told_one k client op outcome) (told_by k (suc client) ops outcomes) []
          (told_there block k (batch_on block (suc client) ops outcomes stored))
          (one_foreign (block_of op) k client (work_of op) outcome e) rest

  -- ---- one turn

  -- nothing is told of other turns
  none_told : (k : ℕ) (prunes : List Prune) → [] ≡ told_there block k (prune_on block prunes)
  none_told k [] = refl
  none_told k (p ∷ prunes) = at (eqb p.block block) (none_told k prunes)
    where
      at : (b : Bool) → [] ≡ told_there block k (prune_on block prunes)
          → [] ≡ told_there block k (if b then PrunedThere p.stamp else prune_on block prunes)
      at true rest = refl
      at false rest = rest

  none_here : (k : ℕ) (turn : BlockTurn) (b : Bool) → [] ≡ told_there block k turn → [] ≡ told_there block k (if b then turn else ChangedThere)
  none_here k turn true none = none
  none_here k turn false none = refl

  module _ (c : Numbers) where
    turn_told : (k : ℕ) (t : Turn) → IsWhole c t → on_block block (told_at k t) ≡ told_there block k (turn_on block t)
    turn_told k (Performed ops outcomes stored) is = batch_told k 1 ops outcomes stored is.0.apart is.1 is.2
    turn_told k (Pruned prunes) is = none_told k prunes
    turn_told k Changed is = refl
    turn_told k (Gone node) is = refl
    turn_told k (Back node) is = refl
    turn_told k (Lost node) is = refl
    turn_told k (Damaged other node) is = none_here k (LostThere node) (eqb other block) refl
    turn_told k (Failed other node) is = none_here k (FailedThere node) (eqb other block) refl
    turn_told k (Renewed other node) is = none_here k (RenewedThere node) (eqb other block) refl

    -- ---- a life

    turns_told : (life : List Moment) (k : ℕ) → AllByRecursion (λ (m : Moment). IsWhole c m.turn) life
        → on_block block (told_from k life) ≡ told_of block k (turns_of (life_on block life))
    turns_told [] k whole = refl
    turns_told (m ∷ life) k whole =
        both (told_at k m.turn) (told_from (suc k) life) (told_there block k (turn_on block m.turn))
        (told_of block (suc k) (turns_of (life_on block life))) (turn_told k m.turn whole.0) (turns_told life (suc k) whole.1)

    pub told_on : (life : List Moment) → IsLife c life → on_block block (told life) ≡ told_of block 0 (turns_of (life_on block life))
    told_on life is = turns_told life 0 is.whole
