-- Replies come one by one.
use Rattle.std.proofs.Common.{◌≡◌, inl, inr, ℕ, ◌+◌, ◌≤◌, ◌==◌, eqb-true, Bool, true, false, List, [], ◌∷◌, ◌++◌, get_or, refl, sym, ◌∙◌, ap, subst, arith}
use Rattle.std.specs.Prelude.{Option, IfSome, IfNone, slice_set}
use Rattle.std.specs.declared.option.Option.TheVariants.{None, Some}
use Rattle.std.proofs.lemmas.Bool.{cases_Bool, cases_lt, false≢true, eqb-false}
use Rattle.std.proofs.lemmas.List.{get_or_append_left, get_or_push, length_push}
use Rattle.protocol.specs.Messages.{Version, Ask, Reply}
use Rattle.slab_index.specs.declared.kept.Kept.{Kept}
use Rattle.slab_engine.specs.declared.plan.Plan.{Plan}
use Rattle.slab_engine.specs.Plans.{IsUnsaid}
use Rattle.slab_engine.specs.Seen.{listed}
use Rattle.slab_engine.proofs.Filtered.{listed_set, listed_other}
use Rattle.slab_engine.specs.Replies.{IsSaid, AreSaidBelow, AreLostBelow}

pub said_none : (first : Version) (version : Kept → Version) (answers : ℕ → Bool) (asks : List Ask) (plans : List Plan) → AreSaidBelow first version answers asks plans 0 []
said_none first version answers asks plans = record { count = refl; each = λ i a p r lt. absurd (omega (arith, lt)) }

pub lost_none : (asks : List Ask) (plans : List Plan) (answers : ℕ → Bool) → AreLostBelow asks plans 0 answers answers
lost_none asks plans answers = record { fewer = λ b is. is; by = λ b is not_so. absurd (false≢true (sym not_so ∙ is)) }

none_stays : (old new : ℕ → Bool) → ((b : ℕ) → new b ≡ true → old b ≡ true) → (b : ℕ) (r : Option Reply) → IfNone r (old b ≡ false) → IfNone r (new b ≡ false)
none_stays old new fewer b (Some r) h = tt
none_stays old new fewer b None h = elim (cases_Bool (new b)) [ inl is ↦ absurd (false≢true (sym h ∙ fewer b is)) | inr gone ↦ gone ]

module _ (first : Version) (version : Kept → Version) (old new : ℕ → Bool) (fewer : (b : ℕ) → new b ≡ true → old b ≡ true) (asks : List Ask) (plans : List Plan) (n : ℕ) where
  pub said_more : (replies : List (Option Reply)) (r : Option Reply) → AreSaidBelow first version old asks plans n replies
      → ((a : Ask) (p : Plan) → IsSaid first version new (get_or asks n a) (get_or plans n p) r)
      → AreSaidBelow first version new asks plans (n + 1) (replies ++ r ∷ [])
  said_more replies r so_far it = record {
    count = (let a = so_far.count in omega (arith, a, length_push replies r));
    each = λ i a p x lt. elim (cases_lt i n) [
      | inl below ↦
          let is : get_or (replies ++ r ∷ []) i x ≡ get_or replies i x = get_or_append_left replies (r ∷ []) x i (omega (arith, below, so_far.count)) in
          let was = so_far.each i a p x below in
          subst (λ (y : Option Reply). IsSaid first version new (get_or asks i a) (get_or plans i p) y) (sym is)
          (record { some = was.some; none = none_stays old new fewer (get_or asks i a).block (get_or replies i x) was.none })
      | inr ge ↦
          let top : n ≡ i = omega (arith, ge, lt) in
          let is : get_or (replies ++ r ∷ []) i x ≡ r = get_or_push replies r x i (so_far.count ∙ top) in
          subst (λ (y : Option Reply). IsSaid first version new (get_or asks i a) (get_or plans i p) y) (sym is)
          (subst (λ (j : ℕ). IsSaid first version new (get_or asks j a) (get_or plans j p) r) top (it a p))
    ];
  }

  pub lost_more : (before : ℕ → Bool) → AreLostBelow asks plans n before old
      → ((b : ℕ) → old b ≡ true → new b ≡ false → ((a : Ask) → (get_or asks n a).block ≡ b) × ((p : Plan) → IsUnsaid (get_or plans n p)))
      → AreLostBelow asks plans (n + 1) before new
  lost_more before so_far it = record {
    fewer = λ b is. so_far.fewer b (fewer b is);
    by = λ b was gone. elim (cases_Bool (old b)) [
      | inl still ↦ (let its = it b still gone in (n, omega arith, its.0, its.1))
      | inr already ↦ (let found = so_far.by b was already in (found.0, omega (arith, found.1), found.2, found.3))
    ];
  }

-- ---- a block of which nothing came

pub forget_fewer : (r : Option Reply) (old new : List Bool) (block : ℕ) → IfNone r (new ≡ slice_set old block false) → IfSome r (λ _. new ≡ old) → (b : ℕ) → listed new b ≡ true → listed old b ≡ true
forget_fewer (Some r) old new block none some b is = sym (ap (λ (xs : List Bool). listed xs b) some) ∙ is
forget_fewer None old new block none some b is = elim (cases_Bool (b == block)) [
  | inl it ↦
      let here : b ≡ block = eqb-true _ _ it in
      absurd (false≢true (sym (listed_set old block) ∙ sym (ap (listed (slice_set old block false)) here) ∙ sym (ap (λ (xs : List Bool). listed xs b) none) ∙ is))
  | inr other ↦ sym (listed_other old block b (λ e. eqb-false _ _ other e)) ∙ sym (ap (λ (xs : List Bool). listed xs b) none) ∙ is
]

pub forget_none : (r : Option Reply) (old new : List Bool) (block : ℕ) → IfNone r (new ≡ slice_set old block false) → IfNone r (listed new block ≡ false)
forget_none (Some r) old new block none = tt
forget_none None old new block none = ap (λ (xs : List Bool). listed xs block) none ∙ listed_set old block

pub forget_lost : (U : Type 0) (r : Option Reply) (old new : List Bool) (block : ℕ) → IfNone r U → IfNone r (new ≡ slice_set old block false) → IfSome r (λ _. new ≡ old)
    → (b : ℕ) → listed old b ≡ true → listed new b ≡ false → (block ≡ b) × U
forget_lost U (Some r) old new block u none some b was gone = absurd (false≢true (sym gone ∙ ap (λ (xs : List Bool). listed xs b) some ∙ was))
forget_lost U None old new block u none some b was gone = elim (cases_Bool (b == block)) [
  | inl it ↦ (sym (eqb-true _ _ it), u)
  | inr other ↦ absurd (false≢true (sym gone ∙ ap (λ (xs : List Bool). listed xs b) none ∙ listed_other old block b (λ e. eqb-false _ _ other e) ∙ was))
]

pub some_map : (P Q : Reply → Type 0) (r : Option Reply) → ((x : Reply) → P x → Q x) → IfSome r P → IfSome r Q
some_map P Q (Some r) f p = f r p
some_map P Q None f p = tt

pub none_block : (r : Option Reply) (new : List Bool) (b block : ℕ) → block ≡ b → IfNone r (listed new block ≡ false) → IfNone r (listed new b ≡ false)
none_block (Some r) new b block is none = tt
none_block None new b block is none = ap (listed new) (sym is) ∙ none

pub lost_wider : (asks : List Ask) (plans : List Plan) (n m : ℕ) (before after : ℕ → Bool) → n ≤ m → AreLostBelow asks plans n before after → AreLostBelow asks plans m before after
lost_wider asks plans n m before after le lost = record {
  fewer = lost.fewer;
  by = λ b was gone. (let found = lost.by b was gone in (found.0, omega (arith, found.1, le), found.2, found.3));
}
