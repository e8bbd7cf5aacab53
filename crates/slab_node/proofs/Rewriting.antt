-- What becomes of blocks that are renewed.
use Rattle.std.proofs.Common.{◌≡◌, ◌⊎◌, inl, inr, ℕ, zero, suc, ◌+◌, ◌<◌, ◌≤◌, ◌==◌, ◌&&◌, Bool, true, false, List, [], ◌∷◌, length, get_or, refl, sym, ◌∙◌, ap, subst, arith, eqb-true, eq-eqb}
use Rattle.std.specs.Prelude.{Contains, All}
use Rattle.std.proofs.lemmas.Bool.{cases_Bool, cases_lt, false≢true, and_parts, and_from}
use Rattle.quorum_rules.specs.Limits.{Numbers}
use Rattle.protocol.specs.Nodes.{first_version}
use Rattle.protocol.specs.Instance.{setting}
use Rattle.node_core.specs.Seen.{versions_in}
use Rattle.slab_layout.specs.Shapes.{slab_len, is_marked, answers_for, shape_of}
use Rattle.slab_layout.specs.Heads.{head_in}
use Rattle.slab_node.specs.declared.batch.Fresh.{Fresh}
use Rattle.slab_node.specs.Held.{Entry, entry_at, entry_version, counts, entries_from, versions_of, held}
use Rattle.slab_node.specs.Left.{nothing}
use Rattle.slab_node.specs.Changes.{ChangesOnly}
use Rattle.slab_node.specs.Batches.{IsThere, IsHalfway, IsMidwayOver, is_in}
use Rattle.slab_node.specs.Answers.{entry_of}
use Rattle.slab_node.specs.Renewals.{IsSilenced, IsRewritten, IsRenewalOf, AreRenewed, AreAsBefore, RenewalsRenew, WrittenRenewalsRenew}
use Rattle.slab_node.proofs.Entries.{entries_same}
use Rattle.slab_node.proofs.lemmas.Changing.{itself_within, mark_same, answer_same}
use Rattle.slab_node.proofs.lemmas.Node.{versions_at}
use Rattle.slab_node.proofs.Overs.{found_in, all_at, entry_kept, uncounted}

other_block : (blocks : ℕ → Bool) (b block : ℕ) → blocks b ≡ true → blocks block ≡ false → (b == block) ≡ false
other_block blocks b block is is_not = elim (cases_Bool (b == block)) [
  | inl same ↦ absurd (false≢true (sym is_not ∙ ap blocks (sym (eqb-true b block same)) ∙ is))
  | inr differs ↦ differs
]

count_none : (mark : Bool) (e : Entry) (block : ℕ) → (e.head.block == block) ≡ false → (mark && (e.head.block == block)) ≡ false
count_none true e block other = other
count_none false e block other = refl

none_from : (m : ℕ → Bool) (e : ℕ → Entry) (block i n : ℕ) → ((k : ℕ) → i ≤ k → k < i + n → counts m e block k ≡ false) → entries_from m e block i n ≡ []
none_from m e block i zero none = refl
none_from m e block i (suc n) none = rw (none i (omega arith) (omega arith)) (none_from m e block (suc i) n (λ k low high. none k (omega (arith, low)) (omega (arith, high))))

no_counts : (m : ℕ → Bool) (e : ℕ → Entry) (block n : ℕ) → ((k : ℕ) → k < n → counts m e block k ≡ false) → entries_from m e block 0 n ≡ []
no_counts m e block n none = none_from m e block 0 n (λ k low high. none k (omega (arith, high)))

not_there : (f : Fresh) (fs : List Fresh) (block : ℕ) → ((entry_of f).head.block == block) ≡ false → ((g : Fresh) → Contains fs g → (entry_of g).head.block ≡ block → ⊥)
    → (g : Fresh) (k : ℕ) → k < length (f ∷ fs) → get_or (f ∷ fs) k g ≡ g → (entry_of g).head.block ≡ block → ⊥
not_there f fs block differs none g zero lt is same = false≢true (sym differs ∙ eq-eqb _ _ (ap (λ (x : Fresh). (entry_of x).head.block) is ∙ same))
not_there f fs block differs none g (suc k) lt is same = none g (k, omega (arith, lt), is) same

only_one : (m : ℕ → Bool) (e : ℕ → Entry) (block j i n : ℕ) → i ≤ j → j < i + n → counts m e block j ≡ true → ((k : ℕ) → i ≤ k → k < i + n → (k ≡ j → ⊥) → counts m e block k ≡ false) → entries_from m e block i n ≡ e j ∷ []
only_one m e block j i zero low high hit others = absurd (omega (arith, low, high))
only_one m e block j i (suc n) low high hit others = elim (cases_lt i j) [
  | inl before ↦ rw (others i (omega arith) (omega arith) (λ same. omega (arith, same, before))) (only_one m e block j (suc i) n (omega (arith, before)) (omega (arith, high)) hit (λ k from to. others k (omega (arith, from)) (omega (arith, to))))
  | inr from ↦
      let here : i ≡ j = omega (arith, from, low) in
      let rest : entries_from m e block (suc i) n ≡ [] = none_from m e block (suc i) n (λ k low_k high_k. others k (omega (arith, low_k)) (omega (arith, high_k)) (λ same. omega (arith, same, here, low_k))) in
      rw (ap (counts m e block) here ∙ hit) (ap (λ es. e i ∷ es) rest ∙ ap (λ (k : ℕ). e k ∷ []) here)
]

-- the version of a batch that is of a block, if there is one
of_block : (fs : List Fresh) (block : ℕ) → ((f : Fresh) × Contains fs f × ((entry_of f).head.block ≡ block)) ⊎ ((f : Fresh) → Contains fs f → (entry_of f).head.block ≡ block → ⊥)
of_block [] block = inr (λ f at same. absurd (omega (arith, at.1)))
of_block (f ∷ fs) block = elim (cases_Bool ((entry_of f).head.block == block)) [
  | inl same ↦ inl (f, (0, omega arith, refl), eqb-true _ _ same)
  | inr differs ↦ elim (of_block fs block) [
    | inl rest ↦ inl (rest.0, (suc rest.1.0, omega (arith, rest.1.1), rest.1.2), rest.2)
    | inr none ↦ inr (λ g at same. not_there f fs block differs none g at.0 at.1 at.2 same)
  ]
]

module _ (c : Numbers) (number : ℕ) (blocks going : ℕ → Bool) (batch : List Fresh) where
  -- ---- where only answers changed

  module _ (old mid : List ℕ) (changes : ChangesOnly (shape_of c) nothing nothing blocks old mid) (long : slab_len (shape_of c) ≤ length old) where
    pub told_mark : (k : ℕ) → k < (shape_of c).count → is_marked (shape_of c) mid k ≡ is_marked (shape_of c) old k
    told_mark k lt = mark_same (shape_of c) nothing nothing blocks old mid changes long k lt refl

    told_entry : (k : ℕ) → k < (shape_of c).count → entry_at (shape_of c) mid k ≡ entry_at (shape_of c) old k
    told_entry k lt = entry_kept c number nothing nothing blocks old mid changes long k lt refl

    pub told_held : held c number mid ≡ held c number old
    told_held = uncounted c number nothing nothing blocks old mid changes long nothing (itself_within nothing) (λ i lt never. absurd (false≢true never))

    pub renewal_at : IsRenewalOf c old blocks going batch → IsRenewalOf c mid blocks going batch
    renewal_at is = record {
      below = is.below;
      free = λ f at. told_mark f.slot (is.below f at) ∙ is.free f at;
      distinct = is.distinct;
      among = is.among;
      marked = λ k lt goes. told_mark k lt ∙ is.marked k lt goes;
      theirs = λ k lt goes. ap (λ (e : Entry). blocks e.head.block) (told_entry k lt) ∙ is.theirs k lt goes;
      all = λ k lt mark its. is.all k lt (sym (told_mark k lt) ∙ mark) (ap (λ (e : Entry). blocks e.head.block) (sym (told_entry k lt)) ∙ its);
    }

  -- ---- where marks go and a batch is written

  versions_alike : (base left : List ℕ) (block : ℕ) → block < c.blocks
      → ((k : ℕ) → k < (shape_of c).count → counts (is_marked (shape_of c) left) (entry_at (shape_of c) left) block k ≡ counts (is_marked (shape_of c) base) (entry_at (shape_of c) base) block k)
      → ((k : ℕ) → k < (shape_of c).count → counts (is_marked (shape_of c) base) (entry_at (shape_of c) base) block k ≡ true → entry_at (shape_of c) left k ≡ entry_at (shape_of c) base k)
      → AreAsBefore c number base left block
  versions_alike base left block lt alike same =
      versions_at c number (is_marked (shape_of c) left) left block lt
      ∙ ap (λ es. first_version (setting c) number ∷ versions_of c.n es)
      (entries_same (is_marked (shape_of c) base) (is_marked (shape_of c) left) (entry_at (shape_of c) base) (entry_at (shape_of c) left) block 0 (shape_of c).count
      (λ k low high. alike k (omega (arith, high))) (λ k low high hit. same k (omega (arith, high)) hit))
      ∙ sym (versions_at c number (is_marked (shape_of c) base) base block lt)

  module _ (base : List ℕ) (is : IsRenewalOf c base blocks going batch) (long : slab_len (shape_of c) ≤ length base) where
    free_at : (k : ℕ) → is_in batch k ≡ true → is_marked (shape_of c) base k ≡ false
    free_at k its = (let f = found_in batch k its in ap (is_marked (shape_of c) base) (sym f.2) ∙ is.free f.0 f.1)

    stays_at : (k : ℕ) → k < (shape_of c).count → is_in batch k ≡ true → going k ≡ false
    stays_at k lt its = elim (cases_Bool (going k)) [ inl goes ↦ absurd (false≢true (sym (free_at k its) ∙ is.marked k lt goes)) | inr stays ↦ stays ]

    module _ (left : List ℕ) (changes : ChangesOnly (shape_of c) (is_in batch) going nothing base left) where
      bodies_entry : (k : ℕ) → k < (shape_of c).count → is_in batch k ≡ false → entry_at (shape_of c) left k ≡ entry_at (shape_of c) base k
      bodies_entry k lt firm = entry_kept c number (is_in batch) going nothing base left changes long k lt firm

      bodies_mark : (k : ℕ) → k < (shape_of c).count → going k ≡ false → is_marked (shape_of c) left k ≡ is_marked (shape_of c) base k
      bodies_mark k lt stays = mark_same (shape_of c) (is_in batch) going nothing base left changes long k lt stays

      bodies_answer : (block : ℕ) → block < c.blocks → answers_for (shape_of c) left block ≡ answers_for (shape_of c) base block
      bodies_answer block lt = answer_same (shape_of c) (is_in batch) going nothing base left changes long block lt refl

      -- a block that is none of them
      pub others_alike : (block : ℕ) → block < c.blocks → blocks block ≡ false → AreAsBefore c number base left block
      others_alike block low is_not =
          versions_alike base left block low
          (λ k lt. elim (cases_Bool (is_in batch k)) [
            | inl its ↦ (let unmarked = free_at k its in rw (bodies_mark k lt (stays_at k lt its) ∙ unmarked) (rw unmarked refl))
            | inr firm ↦ elim (cases_Bool (going k)) [
              | inl goes ↦
                  let other : ((entry_at (shape_of c) base k).head.block == block) ≡ false = other_block blocks _ block (is.theirs k lt goes) is_not in
                  let other_left : ((entry_at (shape_of c) left k).head.block == block) ≡ false = ap (λ (e : Entry). e.head.block == block) (bodies_entry k lt firm) ∙ other in
                  count_none (is_marked (shape_of c) left k) (entry_at (shape_of c) left k) block other_left ∙ sym (count_none (is_marked (shape_of c) base k) (entry_at (shape_of c) base k) block other)
              | inr stays ↦
                  ap (λ m. m && ((entry_at (shape_of c) left k).head.block == block)) (bodies_mark k lt stays)
                  ∙ ap (λ (e : Entry). is_marked (shape_of c) base k && (e.head.block == block)) (bodies_entry k lt firm)
            ]
          ])
          (λ k lt hit. elim (cases_Bool (is_in batch k)) [
            | inl its ↦ absurd (false≢true (sym (free_at k its) ∙ (and_parts _ _ hit).0))
            | inr firm ↦ bodies_entry k lt firm
          ])

    -- and then marks of the batch
    module _ (left : List ℕ) (half : IsHalfway (shape_of c) going batch base left) where
      long_half : slab_len (shape_of c) ≤ length half.mid
      long_half = omega (arith, long, half.before.no_shorter)

      same_entry : (k : ℕ) → k < (shape_of c).count → entry_at (shape_of c) left k ≡ entry_at (shape_of c) half.mid k
      same_entry k lt = entry_kept c number nothing (is_in batch) nothing half.mid left half.marks long_half k lt refl

      same_mark : (k : ℕ) → k < (shape_of c).count → is_in batch k ≡ false → is_marked (shape_of c) left k ≡ is_marked (shape_of c) half.mid k
      same_mark k lt firm = mark_same (shape_of c) nothing (is_in batch) nothing half.mid left half.marks long_half k lt firm

      pub half_answer : (block : ℕ) → block < c.blocks → answers_for (shape_of c) left block ≡ answers_for (shape_of c) base block
      half_answer block lt = answer_same (shape_of c) nothing (is_in batch) nothing half.mid left half.marks long_half block lt refl ∙ bodies_answer half.mid half.before block lt

      its_entry : (f : Fresh) → Contains batch f → entry_at (shape_of c) half.mid f.slot ≡ entry_of f
      its_entry f at = (let there = all_at (λ f. IsThere (shape_of c) half.mid f) batch f half.there at in λ j. record { head = head_in (there.head j); bytes = there.body j })

      batch_entry : (k : ℕ) (f : Fresh) → Contains batch f → f.slot ≡ k → entry_at (shape_of c) half.mid k ≡ entry_of f
      batch_entry k f at here = ap (entry_at (shape_of c) half.mid) (sym here) ∙ its_entry f at

      pub half_alike : (block : ℕ) → block < c.blocks → blocks block ≡ false → AreAsBefore c number base left block
      half_alike block low is_not =
          versions_alike half.mid left block low
          (λ k lt. elim (cases_Bool (is_in batch k)) [
            | inl its ↦
                let f = found_in batch k its in
                let other : ((entry_at (shape_of c) half.mid k).head.block == block) ≡ false =
                ap (λ (e : Entry). e.head.block == block) (batch_entry k f.0 f.1 f.2) ∙ other_block blocks _ block (is.among f.0 f.1) is_not in
                let other_left : ((entry_at (shape_of c) left k).head.block == block) ≡ false = ap (λ (e : Entry). e.head.block == block) (same_entry k lt) ∙ other in
                count_none (is_marked (shape_of c) left k) (entry_at (shape_of c) left k) block other_left ∙ sym (count_none (is_marked (shape_of c) half.mid k) (entry_at (shape_of c) half.mid k) block other)
            | inr firm ↦
                ap (λ m. m && ((entry_at (shape_of c) left k).head.block == block)) (same_mark k lt firm)
                ∙ ap (λ (e : Entry). is_marked (shape_of c) half.mid k && (e.head.block == block)) (same_entry k lt)
          ])
          (λ k lt hit. same_entry k lt)
          ∙ others_alike half.mid half.before block low is_not

      -- of a block that is renewed the slots of the batch alone count
      counts_new : (block k : ℕ) → blocks block ≡ true → k < (shape_of c).count → counts (is_marked (shape_of c) left) (entry_at (shape_of c) left) block k ≡ true
          → (f : Fresh) × Contains batch f × (f.slot ≡ k) × ((entry_of f).head.block ≡ block)
      counts_new block k its lt hit =
          let parts = and_parts _ _ hit in
          let here : (entry_at (shape_of c) half.mid k).head.block ≡ block = ap (λ (e : Entry). e.head.block) (sym (same_entry k lt)) ∙ eqb-true _ _ parts.1 in
          elim (cases_Bool (is_in batch k)) [
            | inl new_one ↦ (let f = found_in batch k new_one in (f.0, f.1, f.2, ap (λ (e : Entry). e.head.block) (sym (batch_entry k f.0 f.1 f.2)) ∙ here))
            | inr firm ↦
                let mark_half : is_marked (shape_of c) half.mid k ≡ true = sym (same_mark k lt firm) ∙ parts.0 in
                elim (cases_Bool (going k)) [
                  | inl goes ↦ absurd (false≢true (sym (half.unmarked k lt goes) ∙ mark_half))
                  | inr stays ↦
                      let mark_base : is_marked (shape_of c) base k ≡ true = sym (bodies_mark half.mid half.before k lt stays) ∙ mark_half in
                      let of_blocks : blocks (entry_at (shape_of c) base k).head.block ≡ true =
                      ap blocks (ap (λ (e : Entry). e.head.block) (sym (bodies_entry half.mid half.before k lt firm)) ∙ here) ∙ its in
                      absurd (false≢true (sym stays ∙ is.all k lt mark_base of_blocks))
                ]
          ]

      module _ (marked : All (λ f. is_marked (shape_of c) left f.slot ≡ true) batch) (block : ℕ) (low : block < c.blocks) (its : blocks block ≡ true) where
        abbrev now : ℕ → Bool
        now = is_marked (shape_of c) left

        abbrev has : ℕ → Entry
        has = entry_at (shape_of c) left

        renewed_with : (f : Fresh) → Contains batch f → (entry_of f).head.block ≡ block → versions_of c.n (entries_from now has block 0 (shape_of c).count) ≡ entry_version c.n (entry_of f) ∷ []
        renewed_with f at here =
            let lt = is.below f at in
            let entry_is : has f.slot ≡ entry_of f = same_entry f.slot lt ∙ its_entry f at in
            let counted : counts now has block f.slot ≡ true =
            and_from _ _ (all_at (λ f. is_marked (shape_of c) left f.slot ≡ true) batch f marked at) (eq-eqb _ _ (ap (λ (e : Entry). e.head.block) entry_is ∙ here)) in
            let others : (k : ℕ) → k < (shape_of c).count → (k ≡ f.slot → ⊥) → counts now has block k ≡ false = λ k below differs. elim (cases_Bool (counts now has block k)) [
              | inl hit ↦ (let g = counts_new block k its below hit in absurd (differs (sym g.2 ∙ is.distinct g.0 f g.1 at (g.3 ∙ sym here))))
              | inr miss ↦ miss
            ] in
            let one : entries_from now has block 0 (shape_of c).count ≡ has f.slot ∷ [] = only_one now has block f.slot 0 (shape_of c).count (omega arith) (omega (arith, lt)) counted (λ k from to. others k (omega (arith, to))) in
            ap (versions_of c.n) one ∙ ap (λ (e : Entry). entry_version c.n e ∷ []) entry_is

        pub renewed_block : AreRenewed c number batch block (versions_in (held c number left) block)
        renewed_block = elim (of_block batch block) [
          | inl found ↦ inl (found.0, found.1, found.2, versions_at c number now left block low ∙ ap (λ vs. first_version (setting c) number ∷ vs) (renewed_with found.0 found.1 found.2))
          | inr none ↦ inr (
            none,
            versions_at c number now left block low
                ∙ ap (λ es. first_version (setting c) number ∷ versions_of c.n es) (no_counts now has block (shape_of c).count (λ k lt. elim (cases_Bool (counts now has block k)) [
                  | inl hit ↦ (let g = counts_new block k its (omega (arith, lt)) hit in absurd (none g.0 g.1 g.3))
                  | inr miss ↦ miss
                ])),
          )
        ]

  -- ---- the laws

  module _ (old left : List ℕ) (is : IsRenewalOf c old blocks going batch) (long : slab_len (shape_of c) ≤ length old) where
    long_mid : (mid : List ℕ) → IsSilenced (shape_of c) blocks old mid → slab_len (shape_of c) ≤ length mid
    long_mid mid silenced = omega (arith, long, silenced.bytes.no_shorter)

    is_mid : (mid : List ℕ) → IsSilenced (shape_of c) blocks old mid → IsRenewalOf c mid blocks going batch
    is_mid mid silenced = renewal_at old mid silenced.bytes long is

    mid_same : (mid : List ℕ) → IsSilenced (shape_of c) blocks old mid → (block : ℕ) → AreAsBefore c number old mid block
    mid_same mid silenced block = ap (λ n. versions_in n block) (told_held old mid silenced.bytes long)

    other_answer : (mid : List ℕ) → IsSilenced (shape_of c) blocks old mid → (block : ℕ) → block < c.blocks → blocks block ≡ false → answers_for (shape_of c) mid block ≡ answers_for (shape_of c) old block
    other_answer mid silenced block lt is_not = answer_same (shape_of c) nothing nothing blocks old mid silenced.bytes long block lt is_not

    midway_answer : (mid : List ℕ) → IsSilenced (shape_of c) blocks old mid → IsMidwayOver (shape_of c) going batch mid left → (block : ℕ) → block < c.blocks → answers_for (shape_of c) left block ≡ answers_for (shape_of c) mid block
    midway_answer mid silenced (inl changes) block lt = bodies_answer mid (is_mid mid silenced) (long_mid mid silenced) left changes block lt
    midway_answer mid silenced (inr half) block lt = half_answer mid (is_mid mid silenced) (long_mid mid silenced) left half block lt

    midway_alike : (mid : List ℕ) → IsSilenced (shape_of c) blocks old mid → IsMidwayOver (shape_of c) going batch mid left → (block : ℕ) → block < c.blocks → blocks block ≡ false → AreAsBefore c number mid left block
    midway_alike mid silenced (inl changes) block lt is_not = others_alike mid (is_mid mid silenced) (long_mid mid silenced) left changes block lt is_not
    midway_alike mid silenced (inr half) block lt is_not = half_alike mid (is_mid mid silenced) (long_mid mid silenced) left half block lt is_not

    module _ (done : IsRewritten (shape_of c) blocks going batch old left) where
      long_last : slab_len (shape_of c) ≤ length done.last
      long_last = omega (arith, long_mid done.mid done.silenced, done.written.half.before.no_shorter, done.written.half.marks.no_shorter)

      last_same : (block : ℕ) → AreAsBefore c number done.last left block
      last_same block = ap (λ n. versions_in n block) (told_held done.last left done.answers long_last)

      pub done_renewed : (block : ℕ) → block < c.blocks → blocks block ≡ true → AreRenewed c number batch block (versions_in (held c number left) block)
      done_renewed block lt its =
          subst (AreRenewed c number batch block) (sym (last_same block))
          (renewed_block done.mid (is_mid done.mid done.silenced) (long_mid done.mid done.silenced) done.last done.written.half done.written.marked block lt its)

      pub done_others : (block : ℕ) → block < c.blocks → blocks block ≡ false → AreAsBefore c number old left block × (answers_for (shape_of c) left block ≡ answers_for (shape_of c) old block)
      done_others block lt is_not = (
        last_same block ∙ half_alike done.mid (is_mid done.mid done.silenced) (long_mid done.mid done.silenced) done.last done.written.half block lt is_not ∙ mid_same done.mid done.silenced block,
        answer_same (shape_of c) nothing nothing blocks done.last left done.answers long_last block lt is_not
            ∙ half_answer done.mid (is_mid done.mid done.silenced) (long_mid done.mid done.silenced) done.last done.written.half block lt ∙ other_answer done.mid done.silenced block lt is_not,
      )

pub renewals : (c : Numbers) (number : ℕ) (old left : List ℕ) → RenewalsRenew c number old left
renewals c number old left blocks going batch is long (inl changes) block lt = (
  λ its. inl (ap (λ n. versions_in n block) (told_held c number blocks going batch old left changes long)),
  λ is_not. (ap (λ n. versions_in n block) (told_held c number blocks going batch old left changes long), answer_same (shape_of c) nothing nothing blocks old left changes long block lt is_not),
)
renewals c number old left blocks going batch is long (inr (inl silent)) block lt = (
  λ its. inr (inl (midway_answer c number blocks going batch old left is long silent.mid silent.silenced silent.midway block lt ∙ silent.silenced.unanswered block lt its)),
  λ is_not. (
    midway_alike c number blocks going batch old left is long silent.mid silent.silenced silent.midway block lt is_not ∙ mid_same c number blocks going batch old left is long silent.mid silent.silenced block,
    midway_answer c number blocks going batch old left is long silent.mid silent.silenced silent.midway block lt ∙ other_answer c number blocks going batch old left is long silent.mid silent.silenced block lt is_not,
  ),
)
renewals c number old left blocks going batch is long (inr (inr done)) block lt =
    (λ its. inr (inr (done_renewed c number blocks going batch old left is long done block lt its)), λ is_not. done_others c number blocks going batch old left is long done block lt is_not)

pub written_renewals : (c : Numbers) (number : ℕ) (old left : List ℕ) → WrittenRenewalsRenew c number old left
written_renewals c number old left blocks going batch is long done block lt its = done_renewed c number blocks going batch old left is long done block lt its
