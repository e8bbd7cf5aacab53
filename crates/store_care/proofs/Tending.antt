-- Prunes by the stamps that reads gave may be done at any time.
use Rattle.std.proofs.Common.{◌≡◌, ◌≢◌, ℕ, suc, Bool, List, [], ◌∷◌, ◌++◌, Option, None, Some, refl, sym, ◌∙◌, ap, subst}
use Rattle.std.specs.Prelude.{if◌then◌else◌}
use Rattle.std.specs.List.{AllByRecursion}
use Rattle.std.proofs.lemmas.Bool.{eq-eqb, ne_eqb}
use Rattle.std.proofs.lemmas.List.Elements.{recursion_from_All}
use Rattle.wire_forms.specs.declared.op.Op.{Op}
use Rattle.wire_forms.specs.declared.op.Op.TheVariants.{Read, Write}
use Rattle.run_words.specs.declared.outcome.Outcome.TheVariants.{Gave, Outvoted, Spent, Wrote}
use Rattle.protocol.specs.Operations.{Outcome}
use Rattle.protocol.specs.Seen.{block_of, work_of}
use Rattle.disk_model.specs.Crash.{Pending}
use Rattle.version_disk.specs.declared.prune.Prune.{Prune}
use Rattle.block_phases.specs.Executions.{StampedValue}
use Rattle.block_turns.specs.Turns.{with_one}
use Rattle.store_device.specs.Stores.{SeenStore}
use Rattle.store_device.specs.Told.{AreApart}
use Rattle.store_device.specs.Calls.{Acknowledged, Deed, Call, HasDone, IsStampOf, Leads, MayDo, given_after, given_by, given_on}
use Rattle.store_device.specs.Calls.Deed.{Performs, Prunes}
use Rattle.store_device.specs.Steps.{IsRead, WritesNone, IsTended}
use Rattle.store_device.proofs.lemmas.Steps.{calls_tend, none_tended}
use Rattle.lists.proofs.lemmas.Members.{Contains-head}
use Rattle.store_care.specs.Prunes.{prune_by, prunes_by}
use Rattle.store_care.specs.Pruning.{ArePruning, overfull}
use Rattle.store_care.proofs.Apart.{of_blocks}
use Rattle.store_care.proofs.Overfull.{only_reads}
use Rattle.store_care.proofs.Rising.{rest_apart, first_apart}

module _ (given : Acknowledged) where
  -- by the stamp of what the batch acknowledged on its block
  abbrev IsBy : List Op → List (Option Outcome) → Prune → Type 0
  IsBy reads outcomes p = IsStampOf (given_on p.block reads outcomes (given p.block)) p.stamp

  abbrev Branches : ℕ → Op → Option Outcome → List Op → List (Option Outcome) → Bool → List StampedValue
  Branches block op outcome reads outcomes b =
      if b then with_one (given_by op outcome) (given block) else given_on block reads outcomes (given block)

  -- a batch with one read more before the others, of another block
  on_others : (op : Op) (outcome : Option Outcome) (reads : List Op) (outcomes : List (Option Outcome)) (prunes : List Prune)
      → AllByRecursion (λ p. block_of op ≢ p.block) prunes → AllByRecursion (IsBy reads outcomes) prunes
      → AllByRecursion (IsBy (op ∷ reads) (outcome ∷ outcomes)) prunes
  on_others op outcome reads outcomes [] differ by = tt
  on_others op outcome reads outcomes (p ∷ prunes) differ by = (
    subst (λ (b : Bool). IsStampOf (Branches p.block op outcome reads outcomes b) p.stamp) (sym (ne_eqb (block_of op) p.block differ.0)) by.0,
    on_others op outcome reads outcomes prunes differ.1 by.1,
  )

  by_reads : (reads : List Op) (outcomes : List (Option Outcome)) → AllByRecursion IsRead reads → AreApart reads
      → AllByRecursion (IsBy reads outcomes) (prunes_by reads outcomes)
  by_reads [] outcomes only apart = tt
  by_reads (op ∷ reads) [] only apart = tt
  by_reads (Write block value ∷ reads) (outcome ∷ outcomes) only apart = absurd only.0
  by_reads (Read block ∷ reads) (outcome ∷ outcomes) only apart =
      at outcome (on_others (Read block) outcome reads outcomes (prunes_by reads outcomes)
      (recursion_from_All (λ (p : Prune). block ≢ p.block) (prunes_by reads outcomes)
      (of_blocks (λ b. block ≢ b) reads outcomes (first_apart (Read block) reads apart)))
      (by_reads reads outcomes only.1 (rest_apart (Read block) reads apart)))
    where
      at : (o : Option Outcome) → AllByRecursion (IsBy (Read block ∷ reads) (o ∷ outcomes)) (prunes_by reads outcomes)
          → AllByRecursion (IsBy (Read block ∷ reads) (o ∷ outcomes)) (prune_by (Read block) o ++ prunes_by reads outcomes)
      at None rest = rest
      at (Some (Wrote stamp)) rest = rest
      at (Some Spent) rest = rest
      at (Some (Outvoted nodes)) rest = rest
      at (Some (Gave stamp value how rounds)) rest =
          let x : StampedValue = record { stamp = stamp; value = value } in (
            subst (λ (b : Bool). IsStampOf (Branches block (Read block) (Some (Gave stamp value how rounds)) reads outcomes b) stamp)
                (sym (eq-eqb block block refl)) (x, Contains-head x (given block), refl),
            rest,
          )

module _ {D : Type 0} (pending : D → Pending) (seen : D → List ℕ) (capacity : D → ℕ) (moment : D → ℕ) (left_since : D → ℕ → List ℕ → Type 0) where
  abbrev Lead : SeenStore D → List (Call D) → SeenStore D → Type 0
  Lead old calls new = Leads pending seen capacity moment left_since old calls new

  abbrev Done : Deed → SeenStore D → SeenStore D → Type 0
  Done deed old new = HasDone pending seen capacity moment left_since deed old new

  apart_in : (deed : Deed) (old new : SeenStore D) → Done deed old new → (reads : List Op) (told : Option (List (Option Outcome))) → deed ≡ Performs reads told → AreApart reads
  apart_in deed old new done reads told is = (subst (λ (d : Deed). Done d old new) is done).batch.apart

  any_read : (deed : Deed) (given : Acknowledged) (reads : List Op) (told : Option (List (Option Outcome))) → deed ≡ Performs reads told → MayDo given deed
  any_read deed given reads told is = subst (MayDo given) (sym is) tt

  none_written : (deed : Deed) (reads : List Op) (told : Option (List (Option Outcome))) → deed ≡ Performs reads told → AllByRecursion IsRead reads → WritesNone deed
  none_written deed reads told is only = subst WritesNone (sym is) only

  module _ (first count most : ℕ) where
    -- what pruning does to a store is to look after it
    pub pruning_tends : (old new : SeenStore D) (calls : List (Call D)) → Lead old calls new → ArePruning first count most old calls
        → IsTended pending seen capacity moment left_since old new
    pruning_tends old new [] led are = none_tended pending seen capacity moment left_since old new led
    pruning_tends old new (read ∷ []) led are =
        let reads = overfull old first count most in
        calls_tend pending seen capacity moment left_since old new (read ∷ []) led
        (λ given knows. (any_read read.deed given reads are.told are.is, tt))
        (none_written read.deed reads are.told are.is (only_reads old most first count), tt)
    pruning_tends old new (read ∷ prune ∷ []) led are =
        let reads = overfull old first count most in
        let only = only_reads old most first count in
        let apart = apart_in read.deed old read.store led.0 reads (Some are.outcomes) are.is in
        calls_tend pending seen capacity moment left_since old new (read ∷ prune ∷ []) led
        (λ given knows. (
          any_read read.deed given reads (Some are.outcomes) are.is,
          (
            subst (λ (d : Deed). MayDo (given_after given read.deed) d) (sym are.by_reads)
                (subst (λ (d : Deed). MayDo (given_after given d) (Prunes (prunes_by reads are.outcomes))) (sym are.is)
                (by_reads given reads are.outcomes only apart)),
            tt,
          ),
        )) (
          none_written read.deed reads (Some are.outcomes) are.is only,
          (subst WritesNone (sym are.by_reads) tt, tt),
        )
    pruning_tends old new (read ∷ prune ∷ more ∷ calls) led are = absurd are
