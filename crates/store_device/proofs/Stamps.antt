-- What a store remembers of acknowledged operations, and by which stamps blocks may be pruned.
use Rattle.std.proofs.Common.{◌≡◌, ◌≢◌, ◌⊎◌, inl, inr, ℕ, zero, suc, ◌+◌, ◌<◌, Bool, true, false, eqb, List, [], ◌∷◌, ◌++◌, length, take, Option, None, Some, Result, Ok, Err, refl, sym, ◌∙◌, ap, subst, arith, append_assoc}
use Rattle.std.specs.Prelude.{All, nat_le, slice_index_or, unwrap_or, if◌then◌else◌}
use Rattle.std.specs.List.{AllByRecursion, Contains, slice_get}
use Rattle.std.specs.Option.{option_map}
use Rattle.std.specs.Result.{IsErr, result_ok}
use Rattle.std.proofs.lemmas.Bool.{eq-eqb, ne_eqb}
use Rattle.std.proofs.lemmas.List.{append-nil}
use Rattle.std.proofs.lemmas.List.Elements.{recursion_from_All}
use Rattle.std.proofs.lemmas.Option.{unwrap_or-slice_get}
use Rattle.lists.proofs.lemmas.Members.{Contains-head, Contains-rest}
use Rattle.quorum_rules.specs.Limits.{Numbers}
use Rattle.wire_forms.specs.declared.op.Op.{Op}
use Rattle.protocol.specs.Operations.{Outcome}
use Rattle.protocol.specs.Seen.{block_of}
use Rattle.disk_model.specs.Crash.{Pending}
use Rattle.version_disk.specs.declared.prune.Prune.{Prune}
use Rattle.block_phases.specs.Executions.{StampedValue}
use Rattle.block_turns.specs.Turns.{with_one}
use Rattle.store_device.specs.Stores.{SeenStore, AreOfDevice}
use Rattle.store_device.specs.Told.{AreApart, untold}
use Rattle.store_device.specs.Going.{MayBegin}
use Rattle.store_device.specs.Calls.{Acknowledged, Deed, Call, HasDone, IsStampOf, MayPrune, RemembersOnly, given_after, given_by, given_on, given_through, most_remembered, prune_of, prunes_of, told_each, with_room}
use Rattle.store_device.specs.Calls.Deed.{Performs, Prunes}
use Rattle.store_device.specs.Steps.{Step, StepsLead, StepsRemember, calls_among}
use Rattle.store_device.specs.Steps.Step.{Called, Reseated}
use Rattle.store_device.proofs.LifeOperations.{apart_first, apart_rest}

-- ---- lists

all_then : {X : Type 0} (P : X → Type 0) (xs ys : List X) → AllByRecursion P xs → AllByRecursion P ys → AllByRecursion P (xs ++ ys)
all_then P [] ys h k = k
all_then P (x ∷ xs) ys h k = (h.0, all_then P xs ys h.1 k)

all_as : {X : Type 0} (P Q : X → Type 0) → ((x : X) → P x → Q x) → (xs : List X) → AllByRecursion P xs → AllByRecursion Q xs
all_as P Q f [] h = tt
all_as P Q f (x ∷ xs) h = (f x h.0, all_as P Q f xs h.1)

-- what holds of all that is remembered holds of what is remembered still
all_with_room : (P : Prune → Type 0) (more : ℕ) (old : List Prune) → AllByRecursion P old → AllByRecursion P (with_room more old)
all_with_room P more old all = at (nat_le (length old + more) most_remembered)
  where
    at : (b : Bool) → AllByRecursion P (if b then old else [])
    at true = all
    at false = tt

-- ---- what operations let blocks be pruned by

-- of operations of which nothing was told
none_of : (ops : List Op) → prunes_of ops (untold ops) ≡ []
none_of [] = refl
none_of (op ∷ ops) = none_of ops

none_more : (old new : List Prune) (ops : List Op) → new ≡ old → new ≡ old ++ prunes_of ops (untold ops)
none_more old new ops is = is ∙ sym (append-nil old) ∙ ap (λ (l : List Prune). old ++ l) (sym (none_of ops))

-- where a call gives an error, nothing was told
pub none_told : {V E : Type 0} (items : V → List (Option Outcome)) (result : Result V E) → IsErr result → (old new : List Prune) (ops : List Op) → new ≡ old
    → new ≡ old ++ prunes_of ops (told_each ops (option_map items (result_ok result)))
none_told items (Ok v) err old new ops is = absurd cc
none_told items (Err e) err old new ops is = none_more old new ops is

-- what is so of each operation's block is so of what it lets be pruned
of_blocks : (P : ℕ → Type 0) (ops : List Op) (outcomes : List (Option Outcome)) → AllByRecursion (λ op. P (block_of op)) ops
    → AllByRecursion (λ (p : Prune). P p.block) (prunes_of ops outcomes)
of_blocks P [] outcomes all = tt
of_blocks P (op ∷ ops) [] all = tt
of_blocks P (op ∷ ops) (outcome ∷ outcomes) all = at (given_by op outcome) all.0 (of_blocks P ops outcomes all.1)
  where
    at : (x : Option StampedValue) → P (block_of op) → AllByRecursion (λ (p : Prune). P p.block) (prunes_of ops outcomes)
        → AllByRecursion (λ (p : Prune). P p.block) (prune_of (block_of op) x ++ prunes_of ops outcomes)
    at None here rest = rest
    at (Some x) here rest = (here, rest)

pub of_device : (c : Numbers) (more : ℕ) (old new : List Prune) (ops : List Op) (outcomes : List (Option Outcome)) → All (MayBegin c) ops
    → AreOfDevice c old → new ≡ with_room more old ++ prunes_of ops outcomes → AreOfDevice c new
of_device c more old new ops outcomes may there is =
    subst (AreOfDevice c) (sym is)
    (all_then (λ (p : Prune). p.block < c.blocks) (with_room more old) (prunes_of ops outcomes)
    (all_with_room (λ (p : Prune). p.block < c.blocks) more old there)
    (of_blocks (λ (b : ℕ). b < c.blocks) ops outcomes
    (all_as (MayBegin c) (λ (op : Op). block_of op < c.blocks) (λ op begin. begin.there) ops (recursion_from_All (MayBegin c) ops may))))

-- one operation more
abbrev prune_at : Op → Option (Option Outcome) → List Prune
prune_at op None = []
prune_at op (Some outcome) = prune_of (block_of op) (given_by op outcome)

one_more : (ops : List Op) (outcomes : List (Option Outcome)) (k : ℕ) (op : Op) → slice_get ops k ≡ Some op
    → prunes_of (take (suc k) ops) outcomes ≡ prunes_of (take k ops) outcomes ++ prune_at op (slice_get outcomes k)
one_more [] outcomes k op is = absurd cc
one_more (x ∷ ops) [] zero op is = refl
one_more (x ∷ ops) [] (suc k) op is = refl
one_more (x ∷ ops) (o ∷ outcomes) zero op is =
    let same : x ≡ op = cc in
    append-nil (prune_of (block_of x) (given_by x o)) ∙ ap (λ (y : Op). prune_of (block_of y) (given_by y o)) same
one_more (x ∷ ops) (o ∷ outcomes) (suc k) op is =
    ap (λ (l : List Prune). prune_of (block_of x) (given_by x o) ++ l) (one_more ops outcomes k op is)
    ∙ sym (append_assoc (prune_of (block_of x) (given_by x o)) (prunes_of (take k ops) outcomes) (prune_at op (slice_get outcomes k)))

at_place : (op : Op) (o : Option (Option Outcome)) → prune_at op o ≡ prune_of (block_of op) (given_by op (unwrap_or o None))
at_place op None = refl
at_place op (Some o) = refl

-- and what is remembered then
pub remembered_more : (old now new : List Prune) (ops : List Op) (outcomes : List (Option Outcome)) (k : ℕ) (op : Op) (outcome : Option Outcome)
    → slice_get ops k ≡ Some op → outcome ≡ slice_index_or outcomes k None → now ≡ old ++ prunes_of (take k ops) outcomes
    → new ≡ now ++ prune_of (block_of op) (given_by op outcome) → new ≡ old ++ prunes_of (take (k + 1) ops) outcomes
remembered_more old now new ops outcomes k op outcome is told so_far more =
    let next : suc k ≡ k + 1 = omega arith in
    let so_many : List Prune = prunes_of (take k ops) outcomes in
    more ∙ ap (λ (l : List Prune). l ++ prune_of (block_of op) (given_by op outcome)) so_far
    ∙ append_assoc old so_many (prune_of (block_of op) (given_by op outcome))
    ∙ ap (λ (o : Option Outcome). old ++ (so_many ++ prune_of (block_of op) (given_by op o))) (told ∙ sym (unwrap_or-slice_get outcomes k None))
    ∙ ap (λ (l : List Prune). old ++ (so_many ++ l)) (sym (at_place op (slice_get outcomes k)))
    ∙ ap (λ (l : List Prune). old ++ l) (sym (one_more ops outcomes k op is))
    ∙ ap (λ (n : ℕ). old ++ prunes_of (take n ops) outcomes) next

-- ---- by which stamps blocks may be pruned

pub may_alike : (given other : Acknowledged) (prunes : List Prune) → ((block : ℕ) → given block ≡ other block) → MayPrune given prunes → MayPrune other prunes
may_alike given other prunes same may =
    all_as (λ (p : Prune). IsStampOf (given p.block) p.stamp) (λ (p : Prune). IsStampOf (other p.block) p.stamp)
    (λ p is. subst (λ (xs : List StampedValue). IsStampOf xs p.stamp) (same p.block) is) prunes may

-- what was acknowledged stays so
still_given : (block : ℕ) (ops : List Op) (outcomes : List (Option Outcome)) (xs : List StampedValue) (x : StampedValue) → Contains xs x
    → Contains (given_on block ops outcomes xs) x
still_given block [] outcomes xs x there = there
still_given block (op ∷ ops) [] xs x there = there
still_given block (op ∷ ops) (outcome ∷ outcomes) xs x there = at (eqb (block_of op) block) (still_given block ops outcomes xs x there)
  where
    one : (y : Option StampedValue) → Contains (with_one y xs) x
    one None = there
    one (Some y) = Contains-rest x y xs there

    at : (b : Bool) → Contains (given_on block ops outcomes xs) x → Contains (if b then with_one (given_by op outcome) xs else given_on block ops outcomes xs) x
    at true rest = one (given_by op outcome)
    at false rest = rest

pub may_still : (given : Acknowledged) (deed : Deed) (prunes : List Prune) → MayPrune given prunes → MayPrune (given_after given deed) prunes
may_still given (Performs ops told) prunes may =
    all_as (λ (p : Prune). IsStampOf (given p.block) p.stamp) (λ (p : Prune). IsStampOf (given_on p.block ops (told_each ops told) (given p.block)) p.stamp)
    (λ p is. (is.0, still_given p.block ops (told_each ops told) (given p.block) is.0 is.1, is.2)) prunes may
may_still given (Prunes done) prunes may = may

module _ (given : Acknowledged) where
  -- by the stamp of what the batch acknowledged on its block
  abbrev IsBy : List Op → List (Option Outcome) → Prune → Type 0
  IsBy ops outcomes p = IsStampOf (given_on p.block ops outcomes (given p.block)) p.stamp

  abbrev Branches : ℕ → Op → Option Outcome → List Op → List (Option Outcome) → Bool → List StampedValue
  Branches block op outcome ops outcomes b = if b then with_one (given_by op outcome) (given block) else given_on block ops outcomes (given block)

  -- a batch with one operation more before the others, of another block
  on_others : (op : Op) (outcome : Option Outcome) (ops : List Op) (outcomes : List (Option Outcome)) (prunes : List Prune)
      → AllByRecursion (λ p. p.block ≢ block_of op) prunes → AllByRecursion (IsBy ops outcomes) prunes
      → AllByRecursion (IsBy (op ∷ ops) (outcome ∷ outcomes)) prunes
  on_others op outcome ops outcomes [] differ by = tt
  on_others op outcome ops outcomes (p ∷ prunes) differ by = (
    subst (λ (b : Bool). IsStampOf (Branches p.block op outcome ops outcomes b) p.stamp) (sym (ne_eqb (block_of op) p.block (λ same. differ.0 (sym same)))) by.0,
    on_others op outcome ops outcomes prunes differ.1 by.1,
  )

  by_batch : (ops : List Op) (outcomes : List (Option Outcome)) → AreApart ops → AllByRecursion (IsBy ops outcomes) (prunes_of ops outcomes)
  by_batch [] outcomes apart = tt
  by_batch (op ∷ ops) [] apart = tt
  by_batch (op ∷ ops) (outcome ∷ outcomes) apart =
      at (given_by op outcome) refl
      (on_others op outcome ops outcomes (prunes_of ops outcomes)
      (of_blocks (λ b. b ≢ block_of op) ops outcomes (apart_first block_of op ops apart))
      (by_batch ops outcomes (apart_rest block_of op ops apart)))
    where
      at : (x : Option StampedValue) → given_by op outcome ≡ x → AllByRecursion (IsBy (op ∷ ops) (outcome ∷ outcomes)) (prunes_of ops outcomes)
          → AllByRecursion (IsBy (op ∷ ops) (outcome ∷ outcomes)) (prune_of (block_of op) x ++ prunes_of ops outcomes)
      at None is rest = rest
      at (Some x) is rest = (
        subst (λ (b : Bool). IsStampOf (Branches (block_of op) op outcome ops outcomes b) x.stamp) (sym (eq-eqb (block_of op) (block_of op) refl))
            (subst (λ (y : Option StampedValue). IsStampOf (with_one y (given (block_of op))) x.stamp) (sym is) (x, Contains-head x (given (block_of op)), refl)),
        rest,
      )

  -- what a call leaves remembered may be pruned by, if what was remembered before it might
  pub may_after : (ops : List Op) (told : Option (List (Option Outcome))) (more : ℕ) (old new : List Prune) → AreApart ops → MayPrune given old
      → new ≡ with_room more old ++ prunes_of ops (told_each ops told) → MayPrune (given_after given (Performs ops told)) new
  may_after ops told more old new apart may is =
      let outcomes : List (Option Outcome) = told_each ops told in
      subst (MayPrune (given_after given (Performs ops told))) (sym is)
      (all_then (IsBy ops outcomes) (with_room more old) (prunes_of ops outcomes)
      (may_still given (Performs ops told) (with_room more old) (all_with_room (λ (p : Prune). IsStampOf (given p.block) p.stamp) more old may))
      (by_batch ops outcomes apart))

module _ {D : Type 0} (pending : D → Pending) (seen : D → List ℕ) (most : D → ℕ) (moment : D → ℕ) (left_since : D → ℕ → List ℕ → Type 0) where
  pub call_remembers : (given : Acknowledged) (deed : Deed) (old new : SeenStore D) → HasDone pending seen most moment left_since deed old new
      → RemembersOnly given old → RemembersOnly (given_after given deed) new
  call_remembers given (Performs ops told) old new done knows =
      may_after given ops told (length ops) old.acknowledged new.acknowledged done.batch.apart knows done.acknowledged
  call_remembers given (Prunes prunes) old new done knows = subst (MayPrune given) (sym done.acknowledged) knows

  pub steps_remember : StepsRemember pending seen most moment left_since
  steps_remember given [] old new led knows = subst (λ (s : SeenStore D). RemembersOnly given s) (sym led) knows
  steps_remember given (Called call ∷ steps) old new led knows =
      steps_remember (given_after given call.deed) steps call.store new led.1 (call_remembers given call.deed old call.store led.0 knows)
  steps_remember given (Reseated store ∷ steps) old new led knows =
      steps_remember given steps store new led.1 (elim led.0.acknowledged [
        | inl same ↦ subst (MayPrune given) (sym same) knows
        | inr none ↦ subst (MayPrune given) (sym none) tt
      ])
