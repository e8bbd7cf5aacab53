-- How the slots and the versions of a block change as marks and free slots do.
use Rattle.std.proofs.Common.{◌≡◌, inl, inr, ℕ, ◌<◌, ◌==◌, ◌&&◌, Bool, true, false, List, [], ◌∷◌, ◌++◌, map, refl, sym, ◌∙◌, ap, eqb-true, eq-eqb}
use Rattle.std.proofs.lemmas.Bool.{cases_Bool, and_parts, and_from}
use Rattle.std.proofs.lemmas.List.{map-append}
use Rattle.slab_layout.specs.declared.shape.Shape.{Shape}
use Rattle.slab_layout.specs.Heads.{head_in}
use Rattle.slab_layout.specs.Data.{version_in}
use Rattle.slab_node.specs.Held.{versions}
use Rattle.slab_node.specs.Answers.{AtMostOne}
use Rattle.slab_index.specs.declared.kept.Kept.{Kept}
use Rattle.slab_index.specs.Kept.{stamp_of, put_kept}
use Rattle.slab_index.specs.Slots.{head_of, kept_of, is_of, slots_by, version_at, AreCounted}
use Rattle.slab_engine.specs.Written.{IsStep}
use Rattle.slab_index.proofs.lemmas.Holding.{slots_hold}
use Rattle.slab_index.proofs.lemmas.Changing.{same_slots, one_more, put_last, below_slots, are_counted}

both_false : (a b : Bool) → (a && false) ≡ (b && false)
both_false true true = refl
both_false true false = refl
both_false false true = refl
both_false false false = refl

module _ (s : Shape) (old new : List ℕ) (m m' fresh : ℕ → Bool) (step : IsStep s old new m m' fresh) where
  heads_same : (k : ℕ) → k < s.count → m k ≡ true → head_of s new k ≡ head_of s old k
  heads_same k lt counts = ap head_in (step.heads k lt counts)

  -- a slot that isn't fresh counts as it did
  of_firm : (block k : ℕ) → k < s.count → fresh k ≡ false → is_of m' (head_of s new) block k ≡ is_of m (head_of s old) block k
  of_firm block k lt firm = elim (cases_Bool (m k)) [
    | inl counts ↦ (λ i. step.firm k lt firm i && ((heads_same k lt counts i).block == block))
    | inr not ↦ rw (step.firm k lt firm) (rw not refl)
  ]

  -- a fresh one didn't count
  of_fresh : (block k : ℕ) → k < s.count → fresh k ≡ true → is_of m (head_of s old) block k ≡ false
  of_fresh block k lt is = rw (step.free k lt is) refl

  same_heads : (block k : ℕ) → k < s.count → is_of m (head_of s old) block k ≡ true → head_of s new k ≡ head_of s old k
  same_heads block k lt hit = heads_same k lt (and_parts _ _ hit).0

  -- the same slots have the same versions
  same_versions : (block : ℕ) (ks : List Kept) → AreCounted s m old block ks → map (version_at s new) ks ≡ map (version_at s old) ks
  same_versions block [] all = refl
  same_versions block (k ∷ ks) all =
      let its = step.bodies k.slot all.0.0 (and_parts _ _ all.0.1).0 in
      λ i. version_in s.nodes (stamp_of k) (its i) ∷ same_versions block ks all.1 i

  versions_told : (block : ℕ) → map (version_at s new) (slots_by s m old block) ≡ versions s m old block
  versions_told block = same_versions block (slots_by s m old block) (are_counted s m old block) ∙ slots_hold s m old block

  module _ (block : ℕ) (none : (k : ℕ) → k < s.count → fresh k ≡ true → m' k ≡ true → (head_of s new k).block ≡ block → ⊥) where
    of_all : (k : ℕ) → k < s.count → is_of m' (head_of s new) block k ≡ is_of m (head_of s old) block k
    of_all k lt = elim (cases_Bool (fresh k)) [
      | inr firm ↦ of_firm block k lt firm
      | inl is ↦ elim (cases_Bool (is_of m' (head_of s new) block k)) [
        | inl hit ↦ (let parts = and_parts _ _ hit in absurd (none k lt is parts.0 (eqb-true _ _ parts.1)))
        | inr miss ↦ miss ∙ sym (of_fresh block k lt is)
      ]
    ]

    -- where no slot of a block comes to count, its slots and versions stay
    pub slots_stay : slots_by s m' new block ≡ slots_by s m old block
    slots_stay = same_slots s m m' old new block of_all (same_heads block)

    pub versions_stay : versions s m' new block ≡ versions s m old block
    versions_stay = sym (slots_hold s m' new block) ∙ ap (map (version_at s new)) slots_stay ∙ versions_told block

  module _ (block j : ℕ) (lt : j < s.count) (is : fresh j ≡ true) (now : m' j ≡ true) (here : (head_of s new j).block ≡ block) (distinct : AtMostOne s fresh new block)
      (greater : (k : ℕ) → k < s.count → m k ≡ true → (head_of s old k).block ≡ block → (head_of s old k).number < (head_of s new j).number) where
    of_others : (k : ℕ) → k < s.count → (k ≡ j → ⊥) → is_of m' (head_of s new) block k ≡ is_of m (head_of s old) block k
    of_others k low other = elim (cases_Bool (fresh k)) [
      | inr firm ↦ of_firm block k low firm
      | inl also ↦ elim (cases_Bool (is_of m' (head_of s new) block k)) [
        | inl hit ↦ absurd (other (distinct k j low lt also is (eqb-true _ _ (and_parts _ _ hit).1) here))
        | inr miss ↦ miss ∙ sym (of_fresh block k low also)
      ]
    ]

    new_of : is_of m' (head_of s new) block j ≡ true
    new_of = and_from _ _ now (eq-eqb _ _ here)

    all_less : (k : ℕ) → k < s.count → is_of m (head_of s old) block k ≡ true → (head_of s old k).number < (head_of s new j).number
    all_less k low hit = (let parts = and_parts _ _ hit in greater k low parts.0 (eqb-true _ _ parts.1))

    abbrev it : Kept
    it = kept_of j (head_of s new j)

    -- where one comes to count, it comes last
    pub slots_grow : slots_by s m' new block ≡ put_kept it (slots_by s m old block)
    slots_grow = one_more s m m' old new block j lt new_of (of_fresh block j lt is) of_others (same_heads block) all_less

    slots_then : slots_by s m' new block ≡ slots_by s m old block ++ it ∷ []
    slots_then = slots_grow ∙ put_last it (slots_by s m old block) (below_slots s m old block (head_of s new j).number all_less)

    pub versions_grow : versions s m' new block ≡ versions s m old block ++ version_at s new it ∷ []
    versions_grow =
        sym (slots_hold s m' new block) ∙ ap (map (version_at s new)) slots_then ∙ map-append (version_at s new) (slots_by s m old block) (it ∷ [])
        ∙ ap (λ vs. vs ++ version_at s new it ∷ []) (versions_told block)
