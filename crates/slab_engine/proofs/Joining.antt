-- A batch that is written while marks are taken away is a step of what counts.
use Rattle.std.proofs.Common.{◌≡◌, inl, inr, ℕ, ◌<◌, ◌≤◌, ◌||◌, ◌++◌, Bool, true, false, List, length, refl, sym, ◌∙◌, ap, subst, arith, get_or, if◌then◌else◌}
use Rattle.std.specs.Prelude.{All}
use Rattle.std.specs.List.{AllByRecursion}
use Rattle.std.proofs.lemmas.Bool.{cases_Bool, false≢true}
use Rattle.quorum_rules.specs.Limits.{Numbers}
use Rattle.protocol.specs.Messages.{Ask}
use Rattle.slab_layout.specs.declared.shape.Shape.{Shape}
use Rattle.slab_layout.specs.Shapes.{is_marked, shape_of, slab_len, part, head_at, data_at, data_len}
use Rattle.slab_node.specs.declared.batch.Fresh.{Fresh}
use Rattle.slab_node.specs.Left.{nothing}
use Rattle.slab_node.specs.Batches.{IsThere as HasFresh, is_in, IsWritten}
use Rattle.slab_node.proofs.lemmas.Batching.{in_batch}
use Rattle.slab_node.proofs.lemmas.Changing.{mark_same, head_same, data_same}
use Rattle.slab_index.specs.declared.kept.Kept.{Kept}
use Rattle.slab_engine.specs.declared.batch.NewSlots.{NewSlots}
use Rattle.slab_engine.specs.declared.batch.Batch.{Batch}
use Rattle.slab_engine.specs.declared.plan.Plan.{Plan}
use Rattle.slab_engine.specs.Seen.{Leaving, counted, has_slot}
use Rattle.slab_engine.specs.Whole.{IsThere}
use Rattle.slab_engine.specs.Written.{IsStep, IsPlannedBatch, IsDone}
use Rattle.slab_engine.proofs.Lists.{has_append, slot_of}
use Rattle.slab_engine.proofs.Adding.{fresh_uncounted, below_count}
use Rattle.slab_engine.proofs.Writing.{all_answered, unmarked_fresh, not_leaving}
use Rattle.slab_engine.proofs.Ending.{tells_then}

module _ (c : Numbers) (number key : ℕ) (old : List ℕ) (index : List (List Kept)) (free : List Bool) (next : ℕ) (leaving cleared : List Leaving)
    (answers : List Bool) (asks : List Ask) (plans : List Plan) (added slots : List ℕ) (batch : Batch)
    (f : IsPlannedBatch c number key old index free next leaving cleared answers asks plans added slots batch)
    (some_ask : Ask) (some_fresh : Fresh) (some_new : NewSlots)
    (new : List ℕ) (w : IsWritten (shape_of c) (has_slot leaving) batch.fresh.items old new)
    (leaving_there : AllByRecursion (IsThere c) leaving) (cleared_there : AllByRecursion (IsThere c) cleared) where
  abbrev s : Shape
  s = shape_of c

  abbrev was : ℕ → Bool
  was = counted c cleared old

  abbrev now : ℕ → Bool
  now = counted c (cleared ++ leaving) new

  abbrev fresh : ℕ → Bool
  fresh = is_in batch.fresh.items

  abbrev mid : List ℕ
  mid = w.half.mid

  mid_long : slab_len s ≤ length mid
  mid_long = (let a = f.tells.long in let b = w.half.before.no_shorter in omega (arith, a, b))

  new_long : slab_len s ≤ length new
  new_long = (let a = mid_long in let b = w.half.marks.no_shorter in omega (arith, a, b))

  -- marks that aren't fresh are as they were in the middle, and those that don't leave are as they were
  mark_then : (k : ℕ) → k < s.count → fresh k ≡ false → is_marked s new k ≡ is_marked s mid k
  mark_then k lt firm = mark_same s nothing fresh nothing mid new w.half.marks mid_long k lt firm

  mark_before : (k : ℕ) → k < s.count → has_slot leaving k ≡ false → is_marked s mid k ≡ is_marked s old k
  mark_before k lt stays = mark_same s fresh (has_slot leaving) nothing old mid w.half.before f.tells.long k lt stays

  head_then : (k : ℕ) → k < s.count → part new (head_at s k) 72 ≡ part mid (head_at s k) 72
  head_then k lt = head_same s nothing fresh nothing mid new w.half.marks mid_long k lt refl

  body_then : (k : ℕ) → k < s.count → part new (data_at s k) (data_len s) ≡ part mid (data_at s k) (data_len s)
  body_then k lt = data_same s nothing fresh nothing mid new w.half.marks mid_long k lt refl

  head_before : (k : ℕ) → k < s.count → fresh k ≡ false → part mid (head_at s k) 72 ≡ part old (head_at s k) 72
  head_before k lt firm = head_same s fresh (has_slot leaving) nothing old mid w.half.before f.tells.long k lt firm

  body_before : (k : ℕ) → k < s.count → fresh k ≡ false → part mid (data_at s k) (data_len s) ≡ part old (data_at s k) (data_len s)
  body_before k lt firm = data_same s fresh (has_slot leaving) nothing old mid w.half.before f.tells.long k lt firm

  uncounted : (j : ℕ) → j < s.count → fresh j ≡ true → was j ≡ false
  uncounted = fresh_uncounted c key index asks added slots next batch free f.made f.picked some_ask some_fresh some_new old leaving cleared f.tells

  firm_of : (k : ℕ) → k < s.count → was k ≡ true → fresh k ≡ false
  firm_of k lt counts = elim (cases_Bool (fresh k)) [ inl is ↦ absurd (false≢true (sym (uncounted k lt is) ∙ counts)) | inr firm ↦ firm ]

  leaving_counts : (k : ℕ) → has_slot leaving k ≡ true → is_marked s old k ≡ true
  leaving_counts k goes = (let found = slot_of _ leaving k f.tells.marked goes in subst (λ (j : ℕ). is_marked s old j ≡ true) found.2 found.3.1)

  cleared_unmarked : (k : ℕ) → has_slot cleared k ≡ true → is_marked s old k ≡ false
  cleared_unmarked k held = (let found = slot_of _ cleared k f.tells.cleared held in subst (λ (j : ℕ). is_marked s old j ≡ false) found.2 found.3.1)

  firm_counts : (k : ℕ) → k < s.count → fresh k ≡ false → now k ≡ was k
  firm_counts k lt firm =
      let both = has_append cleared leaving k in
      elim (cases_Bool (has_slot cleared k)) [
        | inl held ↦ (let in_both : has_slot (cleared ++ leaving) k ≡ true = rw held at both in rw in_both (rw held refl))
        | inr other ↦ elim (cases_Bool (has_slot leaving k)) [
          | inl goes ↦ (let in_both : has_slot (cleared ++ leaving) k ≡ true = both ∙ (rw other goes) in rw in_both (rw other (sym (leaving_counts k goes))))
          | inr stays ↦ (let in_none : has_slot (cleared ++ leaving) k ≡ false = both ∙ (rw other stays) in rw in_none (rw other (mark_then k lt firm ∙ mark_before k lt stays)))
        ]
      ]

  pub step : IsStep s old new was now fresh
  step = record {
    firm = firm_counts;
    free = uncounted;
    heads = λ k lt counts. head_then k lt ∙ head_before k lt (firm_of k lt counts);
    bodies = λ k lt counts. body_then k lt ∙ body_before k lt (firm_of k lt counts);
  }

  true_set : (set : Bool) (m : Bool) → m ≡ true → (if set then true else m) ≡ true
  true_set true m is = refl
  true_set false m is = is

  all_count : (j : ℕ) → j < s.count → fresh j ≡ true → now j ≡ true
  all_count j lt is = true_set (has_slot (cleared ++ leaving) j) (is_marked s new j) (in_batch s new batch.fresh.items j is w.marked)

  there : All (λ x. HasFresh s new x) batch.fresh.items
  there k d lt =
      let was_there = w.half.there k d lt in
      let slot_low = (slot_of_size k d lt) in record {
        head = head_then (get_or batch.fresh.items k d).slot slot_low ∙ was_there.head;
        body = body_then (get_or batch.fresh.items k d).slot slot_low ∙ was_there.body;
      }
    where
      slot_of_size : (k : ℕ) (d : Fresh) → k < length batch.fresh.items → (get_or batch.fresh.items k d).slot < s.count
      slot_of_size k d lt = (f.made.each k some_ask d some_new (omega (arith, lt, f.made.fresh_count))).fresh.sizes.slot

  counts_of : (k : ℕ) → has_slot (cleared ++ leaving) k ≡ true → was k ≡ true
  counts_of k has = elim (cases_Bool (has_slot cleared k)) [
    | inl held ↦ rw held refl
    | inr other ↦ (let goes : has_slot leaving k ≡ true = (let both = sym (has_append cleared leaving k) ∙ has in rw other at both) in rw other (leaving_counts k goes))
  ]

  unmarked : (j : ℕ) → j < s.count → has_slot (cleared ++ leaving) j ≡ true → is_marked s new j ≡ false
  unmarked j lt has = mark_then j lt (firm_of j lt (counts_of j has)) ∙ (elim (cases_Bool (has_slot leaving j)) [
    | inl goes ↦ w.half.unmarked j lt goes
    | inr stays ↦ (let held : has_slot cleared j ≡ true = right_false (has_slot cleared j) (has_slot leaving j) stays (sym (has_append cleared leaving j) ∙ has) in mark_before j lt stays ∙ cleared_unmarked j held)
  ])
    where
      right_false : (a b : Bool) → b ≡ false → (a || b) ≡ true → a ≡ true
      right_false true b no_b h = refl
      right_false false b no_b h = absurd (false≢true (sym no_b ∙ h))

  pub done : IsDone c number old index free next leaving cleared answers asks added batch new
  done = record {
    state = all_answered c number key old index free next leaving cleared answers asks plans added slots batch f some_ask some_fresh some_new new now there step all_count;
    tells = tells_then c number key old index free next leaving cleared answers asks plans added slots batch f some_ask some_fresh some_new new there step all_count new_long unmarked leaving_there cleared_there;
  }
