-- What is known of a block after a turn.
use Rattle.std.proofs.Common.{◌≡◌, ◌⊎◌, ℕ, suc, ◌+◌, ◌<◌, ◌≤◌, Bool, true, false, cond, ◌&&◌, ◌||◌, List, [], ◌∷◌, refl, sym, ◌∙◌, ap, subst, inl, inr, arith}
use Rattle.std.specs.List.{Contains}
use Rattle.std.proofs.lemmas.Bool.{cases_eq}
use Rattle.lists.proofs.lemmas.Members.{Contains-head, Contains-rest, Contains-one, Contains-cons_cases}
use Rattle.stamp_order.specs.declared.Stamp.{Stamp}
use Rattle.stamp_order.specs.Stamps.{before, same_stamp, ◌≼◌}
use Rattle.protocol.specs.Count.{count, update}
use Rattle.protocol.specs.Messages.{flat, Version}
use Rattle.protocol.specs.Nodes.{keeps, first_version, pruned}
use Rattle.protocol.specs.Setting.{Setting, IsValid, first_stamp}
use Rattle.protocol.specs.Operations.{is_whole}
use Rattle.protocol.proofs.lemmas.Counting.{count_within, update-cases}
use Rattle.protocol.proofs.lemmas.Keeping.{keeps-Contains, keeps_is, pruned_first, pruned_above, pruned_greatest}
use Rattle.protocol.proofs.lemmas.Order.{≼-refl, ≼-cases, ≼-antisym, same_stamp-≡}
use Rattle.block_phases.specs.Phases.{Keeps}
use Rattle.block_phases.specs.Executions.{StampedValue}
use Rattle.block_turns.specs.Lives.{version_of, renewed, HasTaken, AreSomeOf, KeepsSome}
use Rattle.block_turns.specs.Lives.AreSomeOf.{none, stays, goes}
use Rattle.block_turns.proofs.KnownValues.{first_of, IsKnown, AreApart, IsState}
use Rattle.block_turns.proofs.Judging.{or_kept}
use Rattle.block_turns.proofs.Working.{IsStoring}

both : (a c : Bool) → a ≡ true → c ≡ true → a && c ≡ true
both a c p q = rw (p, q) refl

-- what is some of a list is in it
some_were : {these those : List Version} (v : Version) → AreSomeOf these those → Contains these v → Contains those v
some_were v none h = h
some_were v (stays {v = x} {these = these} {those = those} some) h =
    let rest = some_were v some in
    elim (Contains-cons_cases v x these h) [
      | inl e ↦ subst (λ (y : Version). Contains (x ∷ those) y) (sym e) (Contains-head x those)
      | inr k ↦ Contains-rest v x those (rest k)
    ]
some_were v (goes {v = x} {those = those} some) h = Contains-rest v x those (some_were v some h)

-- what has all of a list keeps what it keeps
keeps_more : (vs us : List Version) → ((v : Version) → Contains vs v → Contains us v) → (stamp : Stamp) → keeps vs stamp ≡ true → keeps us stamp ≡ true
keeps_more vs us among stamp k =
    let v = keeps_is vs stamp k in
    subst (λ (t : Stamp). keeps us t ≡ true) v.2 (keeps-Contains us v.0 (among v.0 v.1))

module _ (s : Setting) (good : IsValid s) (Seen : List ℕ → Type 0) (Ever : ℕ → Type 0) where
  -- the strings that nodes keep that ever lie were seen
  abbrev pub LyingSeen : Keeps → Type 0
  LyingSeen kept =
      (i : ℕ) (v : Version) → i < s.n → Ever i → Contains (kept i) v → is_whole s i v ≡ true
      → Seen (flat v.sum) × Seen v.fragment

  module _ (apart : AreApart s Seen) (known : List StampedValue) (top : StampedValue) (away lies : ℕ → Bool) (limit : ℕ) (old : Keeps)
      (state : IsState s Seen Ever known top away lies limit old) (new : Keeps) (lying : LyingSeen new) where
    abbrev many : Keeps → Stamp → ℕ
    many kept p = count s.n (λ i. lies i || (away i || keeps (kept i) p))

    -- ---- an operation stored something

    -- that was known
    pub stored_known : (x : StampedValue) → Contains known x → IsStoring s good Seen Ever apart known top away lies limit old state x new → (to : StampedValue)
        → Contains known to → s.qc + s.b ≤ many new to.stamp → IsState s Seen Ever known to away lies (suc limit) new
    stored_known x there h to to_known enough = record {
      of_known = state.of_known;
      first_known = state.first_known;
      top_known = to_known;
      low = λ y known_too. (let l = state.low y known_too in omega (arith, l));
      few = state.few;
      ever = state.ever;
      grounded = λ i v l upright here k. elim (h.was i v l k) [ inl g ↦ state.grounded i v l upright here g | inr e ↦ (x, there, e) ];
      first = λ i l upright here. h.still i (first_stamp s) l (state.first i l upright here);
      complete = enough;
      lying = lying;
    }

    -- that wasn't
    pub stored_new : (x : StampedValue) → IsKnown s Seen x → x.stamp.time ≤ limit + 1 → IsStoring s good Seen Ever apart known top away lies limit old state x new → (to : StampedValue)
        → Contains (x ∷ known) to → s.qc + s.b ≤ many new to.stamp → IsState s Seen Ever (x ∷ known) to away lies (suc limit) new
    stored_new x is next h to to_known enough = record {
      of_known = λ y there. elim (Contains-cons_cases y x known there) [
        | inl e ↦ subst (λ (z : StampedValue). IsKnown s Seen z) (sym e) is
        | inr k ↦ state.of_known y k
      ];
      first_known = Contains-rest (first_of s) x known state.first_known;
      top_known = to_known;
      low = λ y there. elim (Contains-cons_cases y x known there) [
        | inl e ↦ (let same : y.stamp.time ≡ x.stamp.time = ap (λ (z : StampedValue). z.stamp.time) e in omega (arith, same, next))
        | inr k ↦ (let l = state.low y k in omega (arith, l))
      ];
      few = state.few;
      ever = state.ever;
      grounded = λ i v l upright here k. elim (h.was i v l k) [
        | inl g ↦ (let r = state.grounded i v l upright here g in (r.0, Contains-rest r.0 x known r.1, r.2))
        | inr e ↦ (x, Contains-head x known, e)
      ];
      first = λ i l upright here. h.still i (first_stamp s) l (state.first i l upright here);
      complete = enough;
      lying = lying;
    }

    -- as many lie, are away or keep it as did or were
    still_many : (gone fails : ℕ → Bool)
        → ((i : ℕ) → i < s.n → lies i || (away i || keeps (old i) top.stamp) ≡ true → fails i || (gone i || keeps (new i) top.stamp) ≡ true)
        → s.qc + s.b ≤ count s.n (λ i. fails i || (gone i || keeps (new i) top.stamp))
    still_many gone fails still =
        let within = count_within s.n (λ i. lies i || (away i || keeps (old i) top.stamp)) (λ i. fails i || (gone i || keeps (new i) top.stamp)) still in
        let enough = state.complete in
        omega (arith, within, enough)

    -- where none of the two tests passes, a third one may
    same_for : (a b c d : Bool) → (a ≡ false → b ≡ false → c ≡ true → d ≡ true) → a || (b || c) ≡ true → a || (b || d) ≡ true
    same_for true b c d h k = refl
    same_for false true c d h k = refl
    same_for false false c d h k = h refl refl k

    -- and is kept by as many as before, where the greatest stamp that ended is the same
    pub stored_still : (x : StampedValue) → IsStoring s good Seen Ever apart known top away lies limit old state x new → s.qc + s.b ≤ many new top.stamp
    stored_still x h = still_many away lies (λ i l k. same_for (lies i) (away i) _ _ (λ upright here. h.still i top.stamp l) k)

    -- ---- nodes keep what they kept, or less

    less_kept : (gone fails : ℕ → Bool) → count s.n fails ≤ s.b → ((i : ℕ) → fails i ≡ true → Ever i)
        → ((i : ℕ) (v : Version) → i < s.n → fails i ≡ false → gone i ≡ false → Contains (new i) v → (x : StampedValue) × Contains known x × (v ≡ version_of s x i))
        → ((i : ℕ) → i < s.n → fails i ≡ false → gone i ≡ false → keeps (new i) (first_stamp s) ≡ true)
        → ((i : ℕ) → i < s.n → lies i || (away i || keeps (old i) top.stamp) ≡ true → fails i || (gone i || keeps (new i) top.stamp) ≡ true)
        → IsState s Seen Ever known top gone fails (suc limit) new
    less_kept gone fails few ever was first still = record {
      of_known = state.of_known;
      first_known = state.first_known;
      top_known = state.top_known;
      low = λ y there. (let l = state.low y there in omega (arith, l));
      few = few;
      ever = ever;
      grounded = was;
      first = first;
      complete = still_many gone fails still;
      lying = lying;
    }

    -- nodes were pruned by a stamp that isn't above the greatest that ended
    pub pruned_state : (stamp : Stamp) → stamp ≼ top.stamp → ((i : ℕ) → i < s.n → KeepsSome s stamp (old i) (new i))
        → IsState s Seen Ever known top away lies (suc limit) new
    pruned_state stamp low h =
        less_kept away lies state.few state.ever
        (λ i v l upright here k. state.grounded i v l upright here (some_were v (h i l).some k))
        (λ i l upright here. still i l (first_stamp s) (pruned_first s stamp (old i) (state.first i l upright here)))
        (λ i l k. same_for (lies i) (away i) _ _ (λ upright here q. still i l top.stamp (at_top i q)) k)
      where
        still : (i : ℕ) → i < s.n → (p : Stamp) → keeps (pruned s stamp (old i)) p ≡ true → keeps (new i) p ≡ true
        still i l p k = keeps_more (pruned s stamp (old i)) (new i) (h i l).among p k

        at_top : (i : ℕ) → keeps (old i) top.stamp ≡ true → keeps (pruned s stamp (old i)) top.stamp ≡ true
        at_top i k =
            let v = keeps_is (old i) top.stamp k in
            elim (≼-cases stamp top.stamp low) [
              | inl above ↦ (
                  let there = pruned_above s stamp (old i) v.0 v.1 (subst (λ (t : Stamp). before stamp t ≡ true) (sym v.2) above) in
                  subst (λ (t : Stamp). keeps (pruned s stamp (old i)) t ≡ true) v.2 (keeps-Contains (pruned s stamp (old i)) v.0 there))
              | inr same ↦ (
                  let to : v.0.stamp ≡ stamp = v.2 ∙ sym same in
                  let g = pruned_greatest s stamp (old i) v.0 v.1 (subst (λ (t : Stamp). t ≼ stamp) (sym to) (≼-refl stamp)) in
                  let e : g.0.stamp ≡ v.0.stamp = ≼-antisym g.0.stamp v.0.stamp (subst (λ (t : Stamp). g.0.stamp ≼ t) (sym to) g.3) g.2 in
                  subst (λ (t : Stamp). keeps (pruned s stamp (old i)) t ≡ true) (e ∙ v.2) (keeps-Contains (pruned s stamp (old i)) g.0 g.1))
            ]

    -- only nodes that lie or are away were changed
    pub changed_state : ((i : ℕ) → i < s.n → (lies i ≡ true) ⊎ (away i ≡ true) ⊎ (new i ≡ old i)) → IsState s Seen Ever known top away lies (suc limit) new
    changed_state h =
        less_kept away lies state.few state.ever
        (λ i v l upright here k. state.grounded i v l upright here (subst (λ (vs : List Version). Contains vs v) (same i l upright here) k))
        (λ i l upright here. subst (λ (vs : List Version). keeps vs (first_stamp s) ≡ true) (sym (same i l upright here)) (state.first i l upright here))
        (λ i l k. same_at i l (lies i) (away i) refl refl k)
      where
        same : (i : ℕ) → i < s.n → lies i ≡ false → away i ≡ false → new i ≡ old i
        same i l upright here = elim (h i l) [ inl lying ↦ absurd cc | inr r ↦ elim r [ inl gone ↦ absurd cc | inr e ↦ e ] ]

        same_at : (i : ℕ) → i < s.n → (a b : Bool) → lies i ≡ a → away i ≡ b → a || (b || keeps (old i) top.stamp) ≡ true
            → a || (b || keeps (new i) top.stamp) ≡ true
        same_at i l true b e f k = refl
        same_at i l false true e f k = refl
        same_at i l false false e f k = subst (λ (vs : List Version). keeps vs top.stamp ≡ true) (sym (same i l e f)) k

    -- a node came back, with what it kept and maybe versions that are known
    pub back_state : (node : ℕ) (late : List StampedValue) → ((x : StampedValue) → Contains late x → Contains known x)
        → HasTaken s late node (old node) (new node) → ((i : ℕ) → i < s.n → (i ≡ node → ⊥) → new i ≡ old i)
        → IsState s Seen Ever known top away lies (suc limit) new
    back_state node late are_known taken others =
        less_kept away lies state.few state.ever
        (λ i v l upright here k. elim (cases_eq i node) [
          | inl e ↦ back_was i v l upright here e k
          | inr other ↦ state.grounded i v l upright here (subst (λ (vs : List Version). Contains vs v) (others i l other) k)
        ])
        (λ i l upright here. still i (first_stamp s) l (state.first i l upright here))
        (λ i l k. same_for (lies i) (away i) _ _ (λ upright here. still i top.stamp l) k)
      where
        back_was : (i : ℕ) (v : Version) → i < s.n → lies i ≡ false → away i ≡ false → i ≡ node → Contains (new i) v
            → (x : StampedValue) × Contains known x × (v ≡ version_of s x i)
        back_was i v l upright here e k =
            elim (taken.was v (subst (λ (j : ℕ). Contains (new j) v) e k)) [
              | inl o ↦ state.grounded i v l upright here (subst (λ (j : ℕ). Contains (old j) v) (sym e) o)
              | inr r ↦ (r.0, are_known r.0 r.1, subst (λ (j : ℕ). v ≡ version_of s r.0 j) (sym e) r.2)
            ]

        still : (i : ℕ) (stamp : Stamp) → i < s.n → keeps (old i) stamp ≡ true → keeps (new i) stamp ≡ true
        still i stamp l k = elim (cases_eq i node) [
          | inl e ↦ (
              let v = keeps_is (old i) stamp k in
              let there = taken.still v.0 (subst (λ (j : ℕ). Contains (old j) v.0) e v.1) in
              subst (λ (t : Stamp). keeps (new i) t ≡ true) v.2 (keeps-Contains (new i) v.0 (subst (λ (j : ℕ). Contains (new j) v.0) (sym e) there)))
          | inr other ↦ subst (λ (vs : List Version). keeps vs stamp ≡ true) (sym (others i l other)) k
        ]

    -- a node was lost
    pub lost_state : (node : ℕ) → ((i : ℕ) → i < s.n → (i ≡ node → ⊥) → new i ≡ old i)
        → IsState s Seen Ever known top (update away node true) lies (suc limit) new
    lost_state node others =
        less_kept (update away node true) lies state.few state.ever
        (λ i v l upright here k. elim (update-cases away node true i) [
          | inl e ↦ absurd (let f = e.1 in cc)
          | inr e ↦ state.grounded i v l upright (sym e.1 ∙ here) (subst (λ (vs : List Version). Contains vs v) (others i l e.0) k)
        ])
        (λ i l upright here. elim (update-cases away node true i) [
          | inl e ↦ absurd (let f = e.1 in cc)
          | inr e ↦ subst (λ (vs : List Version). keeps vs (first_stamp s) ≡ true) (sym (others i l e.0)) (state.first i l upright (sym e.1 ∙ here))
        ])
        (λ i l k. elim (update-cases away node true i) [
          | inl e ↦ or_kept (lies i) _ (ap (λ (a : Bool). a || keeps (new i) top.stamp) e.1)
          | inr e ↦ ap (λ (a : Bool). lies i || (a || keeps (new i) top.stamp)) e.1
              ∙ ap (λ (vs : List Version). lies i || (away i || keeps vs top.stamp)) (others i l e.0) ∙ k
        ])

    -- a node failed
    pub failed_state : (node : ℕ) → count s.n (update lies node true) ≤ s.b → Ever node → ((i : ℕ) → i < s.n → (i ≡ node → ⊥) → new i ≡ old i)
        → IsState s Seen Ever known top away (update lies node true) (suc limit) new
    failed_state node few ever others =
        less_kept away (update lies node true) few
        (λ i lying. elim (update-cases lies node true i) [
          | inl e ↦ subst Ever (sym e.0) ever
          | inr e ↦ state.ever i (sym e.1 ∙ lying)
        ])
        (λ i v l upright here k. elim (update-cases lies node true i) [
          | inl e ↦ absurd (let f = e.1 in cc)
          | inr e ↦ state.grounded i v l (sym e.1 ∙ upright) here (subst (λ (vs : List Version). Contains vs v) (others i l e.0) k)
        ])
        (λ i l upright here. elim (update-cases lies node true i) [
          | inl e ↦ absurd (let f = e.1 in cc)
          | inr e ↦ subst (λ (vs : List Version). keeps vs (first_stamp s) ≡ true) (sym (others i l e.0)) (state.first i l (sym e.1 ∙ upright) here)
        ])
        (λ i l k. elim (update-cases lies node true i) [
          | inl e ↦ ap (λ (a : Bool). a || (away i || keeps (new i) top.stamp)) e.1
          | inr e ↦ ap (λ (a : Bool). a || (away i || keeps (new i) top.stamp)) e.1
              ∙ ap (λ (vs : List Version). lies i || (away i || keeps vs top.stamp)) (others i l e.0) ∙ k
        ])

    -- a node was made anew from what ended last
    pub renewed_state : (node : ℕ) → new node ≡ renewed s top node → ((i : ℕ) → i < s.n → (i ≡ node → ⊥) → new i ≡ old i)
        → IsState s Seen Ever known top (update away node false) (update lies node false) (suc limit) new
    renewed_state node is others =
        less_kept (update away node false) (update lies node false)
        (let fewer = count_within s.n (update lies node false) lies (λ i l lying. elim (update-cases lies node false i) [
          | inl e ↦ absurd (let f = e.1 in cc)
          | inr e ↦ sym e.1 ∙ lying
        ]) in
        let few = state.few in
        omega (arith, fewer, few))
        (λ i lying. elim (update-cases lies node false i) [
          | inl e ↦ absurd (let f = e.1 in cc)
          | inr e ↦ state.ever i (sym e.1 ∙ lying)
        ])
        (λ i v l upright here k. elim (update-cases away node false i) [
          | inl e ↦ made_was i v (subst (λ (vs : List Version). Contains vs v) (made i e.0) k)
          | inr e ↦ state.grounded i v l (lies_as i e.0 upright) (sym e.1 ∙ here) (subst (λ (vs : List Version). Contains vs v) (others i l e.0) k)
        ])
        (λ i l upright here. elim (update-cases away node false i) [
          | inl e ↦ subst (λ (vs : List Version). keeps vs (first_stamp s) ≡ true) (sym (made i e.0)) (made_keeps i (first_stamp s) (inl refl))
          | inr e ↦ subst (λ (vs : List Version). keeps vs (first_stamp s) ≡ true) (sym (others i l e.0))
              (state.first i l (lies_as i e.0 upright) (sym e.1 ∙ here))
        ])
        (λ i l k. elim (update-cases away node false i) [
          | inl e ↦ or_kept (update lies node false i) _ (or_kept (update away node false i) _
              (subst (λ (vs : List Version). keeps vs top.stamp ≡ true) (sym (made i e.0)) (made_keeps i top.stamp (inr refl))))
          | inr e ↦ ap (λ (a : Bool). a || (update away node false i || keeps (new i) top.stamp)) (lies_same i e.0)
              ∙ ap (λ (a : Bool). lies i || (a || keeps (new i) top.stamp)) e.1
              ∙ ap (λ (vs : List Version). lies i || (away i || keeps vs top.stamp)) (others i l e.0) ∙ k
        ])
      where
        lies_same : (i : ℕ) → (i ≡ node → ⊥) → update lies node false i ≡ lies i
        lies_same i other = elim (update-cases lies node false i) [ inl e ↦ absurd (other e.0) | inr e ↦ e.1 ]

        lies_as : (i : ℕ) → (i ≡ node → ⊥) → update lies node false i ≡ false → lies i ≡ false
        lies_as i other h = sym (lies_same i other) ∙ h

        made : (i : ℕ) → i ≡ node → new i ≡ renewed s top i
        made i e = ap new e ∙ is ∙ ap (renewed s top) (sym e)

        made_was : (i : ℕ) (v : Version) → Contains (renewed s top i) v → (x : StampedValue) × Contains known x × (v ≡ version_of s x i)
        made_was i v k = at (same_stamp top.stamp (first_stamp s)) k
          where
            first : v ≡ first_version s i → (x : StampedValue) × Contains known x × (v ≡ version_of s x i)
            first e = (first_of s, state.first_known, e)

            at : (b : Bool) → Contains (cond b (first_version s i ∷ []) (first_version s i ∷ version_of s top i ∷ [])) v
                → (x : StampedValue) × Contains known x × (v ≡ version_of s x i)
            at true k = first (Contains-one v (first_version s i) k)
            at false k = elim (Contains-cons_cases v (first_version s i) (version_of s top i ∷ []) k) [
              | inl e ↦ first e
              | inr r ↦ (top, state.top_known, Contains-one v (version_of s top i) r)
            ]

        made_keeps : (i : ℕ) (p : Stamp) → (p ≡ first_stamp s) ⊎ (p ≡ top.stamp) → keeps (renewed s top i) p ≡ true
        made_keeps i p which = at (same_stamp top.stamp (first_stamp s)) refl
          where
            at : (b : Bool) → same_stamp top.stamp (first_stamp s) ≡ b
                → keeps (cond b (first_version s i ∷ []) (first_version s i ∷ version_of s top i ∷ [])) p ≡ true
            at true e =
                let is_first : p ≡ first_stamp s = elim which [ inl f ↦ f | inr f ↦ f ∙ same_stamp-≡ top.stamp (first_stamp s) e ] in
                subst (λ (t : Stamp). keeps (first_version s i ∷ []) t ≡ true) (sym is_first)
                (keeps-Contains (first_version s i ∷ []) (first_version s i) (Contains-head (first_version s i) []))
            at false e = elim which [
              | inl f ↦ subst (λ (t : Stamp). keeps (first_version s i ∷ version_of s top i ∷ []) t ≡ true) (sym f)
                  (keeps-Contains (first_version s i ∷ version_of s top i ∷ []) (first_version s i) (Contains-head (first_version s i) (version_of s top i ∷ [])))
              | inr f ↦ subst (λ (t : Stamp). keeps (first_version s i ∷ version_of s top i ∷ []) t ≡ true) (sym f)
                  (keeps-Contains (first_version s i ∷ version_of s top i ∷ []) (version_of s top i)
                  (Contains-rest (version_of s top i) (first_version s i) (version_of s top i ∷ []) (Contains-head (version_of s top i) [])))
            ]
