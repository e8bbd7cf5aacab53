-- The uses of blocks, when a client's slot and its record change.
use Rattle.std.proofs.Common.{◌≡◌, ℕ, zero, suc, ◌+◌, ◌<◌, ◌≤◌, Bool, true, false, cond, eqb, not, ◌&&◌, List, [], length, map, get_or, take, replicate, Option, refl, sym, ◌∙◌, ap, inl, inr, arith}
use Rattle.std.specs.Prelude.{slice_get, slice_set, slice_index_or}
use Rattle.std.specs.List.{count_by}
use Rattle.std.specs.declared.option.Option.TheVariants.{None, Some}
use Rattle.std.proofs.lemmas.Bool.{cases_lt}
use Rattle.std.proofs.lemmas.Bool.Decides.{eqb_tells}
use Rattle.std.proofs.lemmas.List.{length-set, length-replicate, get_or-set_same, get_or-set_other, get_or_default, get_or-replicate, get_or_past, take_all}
use Rattle.std.proofs.lemmas.List.Sums.{count_by-le-length, sum_by-set, get_or-le-sum_by, count_by_more_yes, count_by_more_no}
use Rattle.std.proofs.lemmas.Option.{slice_get_cases}
use Rattle.stamp_order.specs.declared.Stamp.{Stamp}
use Rattle.quorum_rules.specs.Limits.{Numbers}
use Rattle.run_words.specs.declared.record.Record.{Record as Told}
use Rattle.protocol.specs.Count.{count}
use Rattle.protocol.specs.World.{greatest_given}
use Rattle.protocol.specs.Seen.{SeenTask, record_of}
use Rattle.world_state.specs.declared.block_use.BlockUse.{BlockUse}
use Rattle.world_state.specs.declared.client_slot.ClientSlot.{ClientSlot}
use Rattle.world_state.specs.BlockUses.{is_on, works_at, use_of, unused, AreUses}

-- ---- numbers that are the same

-- ---- counts

-- how many numbers pass is how many items pass
pub count_items : {X : Type 0} (p : X → Bool) (xs : List X) (f : ℕ → Bool) → ((k : ℕ) (x : X) → slice_get xs k ≡ Some x → k < length xs → x ≡ get_or xs k x → f k ≡ p x) → (n : ℕ) → n ≤ length xs → count n f ≡ count_by p (take n xs)
count_items p xs f h zero l = refl
count_items {X} p xs f h (suc k) l = elim (slice_get_cases xs k).1 [
  | inl g ↦
      ap (λ (b : Bool). count k f + cond b 1 0) (h k g.0 g.2 g.1 (sym g.3))
      ∙ ap (λ (n : ℕ). n + cond (p g.0) 1 0) (count_items p xs f h k (omega (arith, l)))
      ∙ more g.0 g.1 g.3 (p g.0) refl
  | inr g ↦ absurd (let m = g.0 in omega (arith, l, m))
]
  where
    one_more : {n : ℕ} → count_by p (take (k + 1) xs) ≡ n → count_by p (take (suc k) xs) ≡ n
    one_more e = let same : suc k ≡ k + 1 = omega arith in ap (λ (j : ℕ). count_by p (take j xs)) same ∙ e

    more : (x : X) → k < length xs → get_or xs k x ≡ x → (b : Bool) → p x ≡ b → count_by p (take k xs) + cond b 1 0 ≡ count_by p (take (suc k) xs)
    more x m e true f = sym (one_more (count_by_more_yes p xs k x m (ap p e ∙ f)))
    more x m e false f = (let same : count_by p (take k xs) + 0 ≡ count_by p (take k xs) = omega arith in same ∙ sym (one_more (count_by_more_no p xs k x m (ap p e ∙ f))))

-- the count when one item is another one
pub count_set : {X : Type 0} (p : X → Bool) (xs : List X) (k : ℕ) (old new : X) → k < length xs → old ≡ get_or xs k old → count_by p (slice_set xs k new) + cond (p old) 1 0 ≡ count_by p xs + cond (p new) 1 0
count_set p xs k old new l e = ap (λ x. count_by p (slice_set xs k new) + cond (p x) 1 0) e ∙ sum_by-set (λ x. cond (p x) 1 0) xs k new old l

-- ---- who works where

pub works_on_task : (block : ℕ) (x : ClientSlot) (t : SeenTask) → x.crashed ≡ false → x.client.seen.task ≡ Some t → works_at block x ≡ eqb t.block block
works_on_task block x t awake busy i = not (awake i) && is_on block (busy i)

pub idle_works_nowhere : (block : ℕ) (x : ClientSlot) → x.client.seen.task ≡ None → works_at block x ≡ false
idle_works_nowhere block x idle = ap (λ (o : Option SeenTask). not x.crashed && is_on block o) idle ∙ none x.crashed
  where
    none : (b : Bool) → not b && false ≡ false
    none true = refl
    none false = refl

pub crashed_works_nowhere : (block : ℕ) (x : ClientSlot) → x.crashed ≡ true → works_at block x ≡ false
crashed_works_nowhere block x crashed i = not (crashed i) && is_on block x.client.seen.task

-- ---- uses

use_is : (a b : ℕ) (g h : Option Stamp) → a ≡ b → g ≡ h → ◌≡◌ {A = BlockUse} (record { at_work = a; given = g }) (record { at_work = b; given = h })
use_is a b g h e f i = record { at_work = e i; given = f i }

-- before anything took place
pub uses_begin : (c : Numbers) (slots : List ClientSlot) → ((k : ℕ) (x : ClientSlot) → slice_get slots k ≡ Some x → x.client.seen.task ≡ None) → AreUses c slots [] (replicate c.blocks unused)
uses_begin c slots idle = record { count = length-replicate c.blocks unused; each = λ block. same block ∙ use_is 0 (count_by (works_at block) slots) None None (sym (nobody block)) refl }
  where
    same : (block : ℕ) → slice_index_or (replicate c.blocks unused) block unused ≡ unused
    same block = elim (cases_lt block c.blocks) [
      | inl l ↦ get_or-replicate c.blocks block unused unused l
      | inr l ↦ get_or_past (replicate c.blocks unused) block unused (let e = length-replicate c.blocks unused in omega (arith, e, l))
    ]

    none : (n : ℕ) → count n (λ k. false) ≡ 0
    none zero = refl
    none (suc n) = ap (λ (m : ℕ). m + 0) (none n)

    nobody : (block : ℕ) → count_by (works_at block) slots ≡ 0
    nobody block =
        sym (count_items (works_at block) slots (λ k. false) (λ k x e l there. sym (idle_works_nowhere block x (idle k x e))) (length slots) (omega arith) ∙ ap (count_by (works_at block)) (take_all (length slots) slots (omega arith)))
        ∙ none (length slots)

module _ (c : Numbers) (slots : List ClientSlot) (records : List Told) (uses : List BlockUse) (are : AreUses c slots records uses) where
  -- a block on which someone works is one of the cluster's
  pub used-there : (block : ℕ) → 0 < count_by (works_at block) slots → block < length uses
  used-there block l = elim (cases_lt block (length uses)) [
    | inl h ↦ h
    | inr h ↦ absurd (let e = ap (λ (u : BlockUse). u.at_work) (sym (get_or_past uses block unused h) ∙ are.each block) in omega (arith, e, l))
  ]

  -- the use that is kept of a block
  pub use-there : (block : ℕ) (u : BlockUse) → block < length uses → u ≡ get_or uses block u → u ≡ use_of slots records block
  use-there block u l e = e ∙ get_or_default uses block u unused l ∙ are.each block

  -- no more clients work on it than there are
  pub use-few : (block : ℕ) (u : BlockUse) → block < length uses → u ≡ get_or uses block u → u.at_work ≤ length slots
  use-few block u l e =
      let same = ap (λ (x : BlockUse). x.at_work) (use-there block u l e) in
      let few = count_by-le-length (works_at block) slots in
      omega (arith, same, few)

  -- what counts stays
  pub uses-kept : (others : List ClientSlot) (more : List Told) → ((block : ℕ) → count_by (works_at block) others ≡ count_by (works_at block) slots)
      → ((block : ℕ) → greatest_given block (map record_of more) ≡ greatest_given block (map record_of records)) → AreUses c others more uses
  uses-kept others more counts gives = record { count = are.count; each = λ block. are.each block ∙ use_is _ _ _ _ (sym (counts block)) (sym (gives block)) }

  module _ (k : ℕ) (inside : k < length slots) (old new : ClientSlot) (there : old ≡ get_or slots k old) where
    -- a client that works where it did counts as it did
    pub count-kept : (block : ℕ) → works_at block new ≡ works_at block old → count_by (works_at block) (slice_set slots k new) ≡ count_by (works_at block) slots
    count-kept block same =
        let e = count_set (works_at block) slots k old new inside there in
        let f = ap {B = ℕ} (λ (b : Bool). cond b 1 0) same in
        omega (arith, e, f)

    -- whoever works on a block counts there
    pub works-there : (block : ℕ) → works_at block old ≡ true → 0 < count_by (works_at block) slots
    works-there block works =
        let e = get_or-le-sum_by (λ (x : ClientSlot). cond (works_at block x) 1 0) slots k old inside in
        let f = ap {B = ℕ} (λ (x : ClientSlot). cond (works_at block x) 1 0) there in
        let g = ap {B = ℕ} (λ (b : Bool). cond b 1 0) works in
        omega (arith, e, f, g)

    -- what counts changes at one block
    pub uses-set : (more : List Told) (b : ℕ) (u next : BlockUse) → b < length uses → u ≡ get_or uses b u
        → next.at_work + cond (works_at b old) 1 0 ≡ u.at_work + cond (works_at b new) 1 0 → next.given ≡ greatest_given b (map record_of more)
        → ((block : ℕ) → (block ≡ b → ⊥) → works_at block new ≡ works_at block old)
        → ((block : ℕ) → (block ≡ b → ⊥) → greatest_given block (map record_of more) ≡ greatest_given block (map record_of records))
        → AreUses c (slice_set slots k new) more (slice_set uses b next)
    uses-set more b u next l e works gives elsewhere others = record {
      count = length-set uses b next ∙ are.count;
      each = λ block. elim (eqb_tells block b) [
        | inl h ↦ ap (λ (j : ℕ). slice_index_or (slice_set uses b next) j unused) h.1 ∙ get_or-set_same uses b next unused l ∙ here ∙ ap (use_of (slice_set slots k new) more) (sym h.1)
        | inr h ↦ get_or-set_other uses b block next unused h.1 ∙ are.each block ∙ use_is _ _ _ _ (sym (count-kept block (elsewhere block h.1))) (sym (others block h.1))
      ];
    }
      where
        here : next ≡ use_of (slice_set slots k new) more b
        here =
            let f = count_set (works_at b) slots k old new inside there in
            let g = ap (λ (x : BlockUse). x.at_work) (use-there b u l e) in
            use_is _ _ _ _ (omega (arith, f, g, works)) gives
