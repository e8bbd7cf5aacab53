-- What the node remembers once a batch is written and the marks of what left are taken away.
use Rattle.std.proofs.Common.{◌≡◌, ◌⊎◌, inl, inr, ℕ, zero, suc, ◌+◌, ◌<◌, ◌≤◌, ◌==◌, ◌||◌, ◌++◌, ◌∷◌, [], Bool, true, false, not, List, length, get_or, refl, sym, ◌∙◌, ap, subst, arith, eqb-true, eq-eqb}
use Rattle.std.specs.Prelude.{Contains, All}
use Rattle.std.specs.List.{AllByRecursion}
use Rattle.std.proofs.lemmas.Bool.{cases_Bool, false≢true, or_left, or_right}
use Rattle.std.proofs.lemmas.List.{get_or_default}
use Rattle.quorum_rules.specs.Limits.{Numbers}
use Rattle.protocol.specs.Messages.{Version, Ask}
use Rattle.slab_layout.specs.declared.shape.Shape.{Shape}
use Rattle.slab_layout.specs.Shapes.{is_marked, shape_of, slab_len}
use Rattle.slab_layout.specs.Heads.{head_in}
use Rattle.slab_node.specs.declared.batch.Fresh.{Fresh}
use Rattle.slab_node.specs.Batches.{IsThere as HasFresh, is_in}
use Rattle.slab_index.specs.declared.kept.Kept.{Kept}
use Rattle.slab_index.specs.Kept.{kept_in, put_kept}
use Rattle.slab_index.specs.Slots.{head_of, slots_by, kept_of, IsIndexBy}
use Rattle.slab_engine.specs.declared.batch.NewSlots.{NewSlots}
use Rattle.slab_engine.specs.declared.batch.Batch.{Batch}
use Rattle.slab_engine.specs.declared.plan.Plan.{Plan}
use Rattle.slab_engine.specs.Seen.{Leaving, listed, counted, has_slot}
use Rattle.slab_engine.specs.Whole.{Tells, IsItsHead, IsThere}
use Rattle.slab_engine.specs.Batches.{IsAddedBy, head_for}
use Rattle.slab_engine.specs.Moves.{with_new, without_new}
use Rattle.slab_engine.specs.Written.{IsStep, IsPlannedBatch}
use Rattle.slab_engine.proofs.Lists.{has_append, all_append}
use Rattle.slab_engine.proofs.Filtered.{new_in, free_in, length_new}
use Rattle.slab_engine.proofs.Adding.{fresh_of, fresh_at, head_then, number_then}
use Rattle.slab_engine.proofs.Facts.{added_low}
use Rattle.slab_engine.proofs.Writing.{slots_grown, slots_as_before}

-- of versions that are in a list, with what is known of their slots there
pub all_in : (P Q : Leaving → Type 0) (ls : List Leaving) → ((l : Leaving) → has_slot ls l.slot ≡ true → P l → Q l) → AllByRecursion P ls → AllByRecursion Q ls
all_in P Q [] f all = tt
all_in P Q (l ∷ ls) f all =
    (f l (or_left _ _ (eq-eqb l.slot l.slot refl)) all.0, all_in P Q ls (λ x has p. f x (or_right _ _ has) p) all.1)

pub all_both : (P Q : Leaving → Type 0) (ls : List Leaving) → AllByRecursion P ls → AllByRecursion Q ls → AllByRecursion (λ l. P l × Q l) ls
all_both P Q [] ps qs = tt
all_both P Q (l ∷ ls) ps qs = ((ps.0, qs.0), all_both P Q ls ps.1 qs.1)

module _ (c : Numbers) (number key : ℕ) (old : List ℕ) (index : List (List Kept)) (free : List Bool) (next : ℕ) (leaving cleared : List Leaving)
    (answers : List Bool) (asks : List Ask) (plans : List Plan) (added slots : List ℕ) (batch : Batch)
    (f : IsPlannedBatch c number key old index free next leaving cleared answers asks plans added slots batch)
    (some_ask : Ask) (some_fresh : Fresh) (some_new : NewSlots)
    (new : List ℕ) (there : All (λ x. HasFresh (shape_of c) new x) batch.fresh.items)
    (step : IsStep (shape_of c) old new (counted c cleared old) (counted c (cleared ++ leaving) new) (is_in batch.fresh.items))
    (all_count : (j : ℕ) → j < (shape_of c).count → is_in batch.fresh.items j ≡ true → counted c (cleared ++ leaving) new j ≡ true)
    (long : slab_len (shape_of c) ≤ length new)
    (unmarked : (j : ℕ) → j < (shape_of c).count → has_slot (cleared ++ leaving) j ≡ true → is_marked (shape_of c) new j ≡ false)
    (leaving_there : AllByRecursion (IsThere c) leaving) (cleared_there : AllByRecursion (IsThere c) cleared) where
  abbrev s : Shape
  s = shape_of c

  abbrev was : ℕ → Bool
  was = counted c cleared old

  abbrev now : ℕ → Bool
  now = counted c (cleared ++ leaving) new

  abbrev fresh : ℕ → Bool
  fresh = is_in batch.fresh.items

  abbrev ask_at : ℕ → Ask
  ask_at k = get_or asks (get_or added k 0) some_ask

  abbrev slot_at : ℕ → ℕ
  slot_at k = get_or slots k 0

  abbrev new_at : ℕ → NewSlots
  new_at k = get_or batch.new.items k some_new

  abbrev its : (k : ℕ) → k < length added → IsAddedBy c key index (ask_at k) (slot_at k) (next + k) (get_or batch.fresh.items k some_fresh) (new_at k)
  its k lt = f.made.each k some_ask some_fresh some_new lt

  low : (k : ℕ) → k < length added → get_or added k 0 < length asks
  low k lt = added_low c number key old index free next leaving cleared answers asks plans added slots batch f k lt

  from : (j : ℕ) → fresh j ≡ true → (k : ℕ) × (k < length added) × (slot_at k ≡ j)
  from = fresh_of c key index asks added slots next batch free f.made f.picked some_ask some_fresh some_new

  fresh_k : (k : ℕ) → k < length added → fresh (slot_at k) ≡ true
  fresh_k = fresh_at c key index asks added slots next batch free f.made f.picked some_ask some_fresh some_new

  slot_low : (k : ℕ) → k < length added → slot_at k < s.count
  slot_low k lt = (let a = (its k lt).fresh.sizes.slot in let b = (its k lt).fresh.slot in omega (arith, a, b))

  slot_counts : (k : ℕ) → k < length added → now (slot_at k) ≡ true
  slot_counts k lt = all_count (slot_at k) (slot_low k lt) (fresh_k k lt)

  -- a new entry is that of one of the asks
  entry : (n : NewSlots) → Contains batch.new.items n → (k : ℕ) × (k < length added) × (new_at k ≡ n)
  entry n has = (has.0, (let a = has.1 in let b = f.made.new_count in omega (arith, a, b)), get_or_default batch.new.items has.0 some_new n has.1 ∙ has.2)

  has_entry : (k : ℕ) → k < length added → Contains batch.new.items (new_at k)
  has_entry k lt = (let here : k < length batch.new.items = omega (arith, lt, f.made.new_count) in (k, here, get_or_default batch.new.items k (new_at k) some_new here))

  of_block : (block : ℕ) → block < c.blocks → kept_in (with_new batch.new.items index) block ≡ slots_by s now new block
  of_block block lt =
      let below : block < length index = (let a = f.tells.index.blocks in omega (arith, a, lt)) in
      elim (new_in batch.new.items index block below) [
        | inr found ↦
            let at = entry found.0 found.1 in
            let k : ℕ = at.0 in
            let it = its k at.1 in
            let here : (ask_at k).block ≡ block = sym it.new.block ∙ ap (λ n. n.block) at.2 ∙ found.2 in
            let grown = slots_grown c number key old index free next leaving cleared answers asks plans added slots batch f some_ask some_fresh some_new new there was now old step f.tells.below k at.1 (slot_counts k at.1) in
            let same : kept_in index (ask_at k).block ≡ slots_by s was old (ask_at k).block = f.tells.index.each (ask_at k).block (let a = f.tells.index.blocks in omega (arith, here, lt)) in
            found.3 ∙ sym (ap (λ n. n.list) at.2) ∙ it.new.list
            ∙ ap (put_kept (kept_of (slot_at k) (head_for key (ask_at k).block it.version (next + k)))) same
            ∙ sym grown ∙ ap (slots_by s now new) here
        | inl rest ↦
            rest.0 ∙ f.tells.index.each block lt
            ∙ sym (slots_as_before c number key old index free next leaving cleared answers asks plans added slots batch f some_ask some_fresh some_new new there was now old step f.tells.below block
            (λ k low here. rest.1 (new_at k) (has_entry k low) ((its k low).new.block ∙ here)))
      ]

  of_slot : (i : ℕ) → i < s.count → listed (without_new batch.new.items free) i ≡ not (now i)
  of_slot i lt = elim (free_in batch.new.items free i) [
    | inr found ↦
        let at = entry found.0 found.1 in
        let here : slot_at at.0 ≡ i = sym (its at.0 at.1).new.slot ∙ ap (λ n. n.slot) at.2 ∙ found.2 in
        found.3 ∙ ap not (sym (ap now (sym here) ∙ slot_counts at.0 at.1))
    | inl rest ↦ elim (cases_Bool (fresh i)) [
      | inl is ↦ (let at = from i is in absurd (rest.1 (new_at at.0) (has_entry at.0 at.1) ((its at.0 at.1).new.slot ∙ at.2)))
      | inr firm ↦ rest.0 ∙ f.tells.free i lt ∙ ap not (sym (step.firm i lt firm))
    ]
  ]

  number_of : (i : ℕ) → i < s.count → now i ≡ true → (head_of s new i).number < next + length added
  number_of i lt counts = elim (cases_Bool (fresh i)) [
    | inl is ↦
        let at = from i is in
        let number_is = number_then c key index asks added slots next batch free f.made f.picked some_ask some_fresh some_new f.apart f.adding.ascend low new there at.0 at.1 in
        let here : (head_of s new i).number ≡ next + at.0 = ap (λ j. (head_of s new j).number) (sym at.2) ∙ number_is in
        let below = at.1 in
        omega (arith, here, below)
    | inr firm ↦
        let counted_then : was i ≡ true = sym (step.firm i lt firm) ∙ counts in
        let less = f.tells.below i lt counted_then in
        let same : (head_of s new i).number ≡ (head_of s old i).number = ap (λ h. (head_in h).number) (step.heads i lt counted_then) in
        omega (arith, less, same)
  ]

  -- a version whose slot counted has the same head
  its_head : (l : Leaving) → l.slot < s.count → was l.slot ≡ true → IsItsHead c old l → IsItsHead c new l
  its_head l lt counts is = record {
    block = ap (λ h. (head_in h).block) (step.heads l.slot lt counts) ∙ is.block;
    stamp = ap (λ h. (head_in h).stamp) (step.heads l.slot lt counts) ∙ is.stamp;
  }

  pub tells_then : Tells c new (with_new batch.new.items index) (without_new batch.new.items free) (next + length added) [] (cleared ++ leaving)
  tells_then = record {
    long = long;
    index = record { blocks = length_new batch.new.items index ∙ f.tells.index.blocks; each = of_block };
    free = of_slot;
    below = number_of;
    marked = tt;
    cleared = all_append (λ l. IsItsHead c new l × (is_marked s new l.slot ≡ false)) cleared leaving
        (all_in (λ l. IsThere c l × (IsItsHead c old l × (is_marked s old l.slot ≡ false))) (λ l. IsItsHead c new l × (is_marked s new l.slot ≡ false)) cleared
        (λ l has p. (its_head l p.0.slot (rw has refl) p.1.0, unmarked l.slot p.0.slot (has_append cleared leaving l.slot ∙ or_left _ _ has)))
        (all_both (IsThere c) (λ l. IsItsHead c old l × (is_marked s old l.slot ≡ false)) cleared cleared_there f.tells.cleared))
        (all_in (λ l. IsThere c l × (IsItsHead c old l × (is_marked s old l.slot ≡ true))) (λ l. IsItsHead c new l × (is_marked s new l.slot ≡ false)) leaving
        (λ l has p. (its_head l p.0.slot (marked_counts l.slot p.1.1) p.1.0, unmarked l.slot p.0.slot (has_append cleared leaving l.slot ∙ or_right _ _ has)))
        (all_both (IsThere c) (λ l. IsItsHead c old l × (is_marked s old l.slot ≡ true)) leaving leaving_there f.tells.marked));
  }
    where
      marked_counts : (k : ℕ) → is_marked s old k ≡ true → was k ≡ true
      marked_counts k is = elim (cases_Bool (has_slot cleared k)) [ inl held ↦ rw held refl | inr other ↦ rw other is ]
