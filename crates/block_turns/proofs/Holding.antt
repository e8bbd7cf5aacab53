-- Where a stamp is held, the next acknowledged operation settles the block: it reads or writes nothing below that stamp.
use Rattle.std.proofs.Common.{◌≡◌, ◌⊎◌, ℕ, ◌+◌, ◌<◌, ◌≤◌, Bool, true, false, not, ◌&&◌, ◌||◌, List, [], ◌∷◌, ◌++◌, refl, sym, ◌∙◌, ap, subst, inl, inr, arith}
use Rattle.std.specs.declared.option.Option.TheVariants.{Some}
use Rattle.std.specs.List.{Contains}
use Rattle.std.proofs.lemmas.List.{append-nil}
use Rattle.stamp_order.specs.declared.Stamp.{Stamp}
use Rattle.stamp_order.specs.Stamps.{◌≼◌}
use Rattle.run_words.specs.declared.outcome.Outcome.TheVariants.{Wrote, Spent, Gave, Outvoted}
use Rattle.protocol.specs.Count.{count}
use Rattle.protocol.specs.Messages.{Version}
use Rattle.protocol.specs.Nodes.{keeps}
use Rattle.protocol.specs.Operations.{Work, Outcome}
use Rattle.protocol.specs.Operations.Work.{Reads, Writes}
use Rattle.protocol.specs.Setting.{Setting, IsValid, IsBlock, first_stamp}
use Rattle.protocol.proofs.lemmas.Counting.{count_within, some_passes, both_true}
use Rattle.protocol.proofs.lemmas.Keeping.{keeps_is}
use Rattle.protocol.proofs.lemmas.Order.{≼-refl, ≼-trans, before-≼}
use Rattle.protocol.proofs.lemmas.Tests.{not_true}
use Rattle.block_phases.specs.Phases.{Keeps}
use Rattle.block_phases.specs.Executions.{StampedValue, IsCompleted}
use Rattle.block_phases.proofs.lemmas.Executing.{comes_fewer}
use Rattle.block_turns.specs.Turns.{Turn, Moment, Standing, away_in, first_standing, standing_after, standing_at, kept_at, stamped_by}
use Rattle.block_turns.specs.Turns.Turn.{Did}
use Rattle.block_turns.specs.Lives.{Takes, IsLife, first_kept}
use Rattle.block_turns.specs.Strings.{NoClash}
use Rattle.block_turns.specs.Laws.{LatestAreBlocks}
use Rattle.block_turns.specs.Settled.{IsSettled, IsHeld, HeldBlocksSettle, HeldBlocksStay}
use Rattle.block_turns.proofs.KnownValues.{AreApart, IsState}
use Rattle.block_turns.proofs.Judging.{count_or}
use Rattle.block_turns.proofs.Working.{IsStoring, IsEnd, comes_to}
use Rattle.block_turns.proofs.Linear.{Waiting, IsStanding, neither}
use Rattle.block_turns.proofs.Settling.{Seen, Ever, number_after, parts, stands_then}

standing_last : (b : Standing) (life : List Moment) (m : Moment) → standing_at b (life ++ m ∷ []) ≡ standing_after (standing_at b life) m.turn
standing_last b [] m = refl
standing_last b (x ∷ life) m = standing_last (standing_after b x.turn) life m

kept_last : (old : Keeps) (life : List Moment) (m : Moment) → kept_at old (life ++ m ∷ []) ≡ m.kept
kept_last old [] m = refl
kept_last old (x ∷ life) m = kept_last x.kept life m

still_held : (lies lost keeps : Bool) → lies || (not lost && keeps) ≡ true → lies || (lost || keeps) ≡ true
still_held true lost keeps h = refl
still_held false true keeps h = refl
still_held false false keeps h = h

module _ (s : Setting) (good : IsValid s) (block : ℕ) (inside : block < s.blocks) (SeenOf : List ℕ → Type 0) (EverOf : ℕ → Type 0)
    (apart : AreApart s SeenOf) (k : ℕ) (known : List StampedValue) (top : StampedValue) (waiting : List Waiting) (b : Standing) (old : Keeps)
    (st : IsStanding s good block inside SeenOf EverOf apart k known top waiting b old) (stamp : Stamp) (held : IsHeld s stamp b old) where
  -- a node that doesn't lie and isn't lost keeps it
  keeper : (i : ℕ) × (i < s.n) × (b.lies i ≡ false) × (b.lost i ≡ false) × (keeps (old i) stamp ≡ true)
  keeper =
      let parts = count_or s.n b.lies (λ i. not (b.lost i) && keeps (old i) stamp) in
      let i = some_passes s.n (λ i. not (b.lies i) && (not (b.lost i) && keeps (old i) stamp))
      (omega (arith, held.many, parts, st.state.few, good.quorum_low, good.quorum_high)) in
      let outer = both_true _ _ i.2 in
      let inner = both_true _ _ outer.1 in
      (i.0, i.1, not_true (b.lies i.0) outer.0, not_true (b.lost i.0) inner.0, inner.1)

  -- so its value is known
  pub held_known : (x : StampedValue) × Contains known x × (x.stamp ≡ stamp)
  held_known =
      let i = keeper in
      let v = keeps_is (old i.0) stamp i.4 in
      let g = st.state.grounded i.0 v.0 i.1 i.2 i.3 v.1 in
      (g.0, g.1, sym (ap (λ (u : Version). u.stamp) g.2) ∙ v.2)

  -- and may stand for the greatest that ended
  pub held_state : IsState s SeenOf EverOf known held_known.0 b.lost b.lies k old
  held_state = record {
    of_known = st.state.of_known;
    first_known = st.state.first_known;
    top_known = held_known.1;
    low = st.state.low;
    few = st.state.few;
    ever = st.state.ever;
    grounded = st.state.grounded;
    first = st.state.first;
    complete =
        subst (λ (p : Stamp). s.qc + s.b ≤ count s.n (λ i. b.lies i || (b.lost i || keeps (old i) p))) (sym held_known.2)
        (let within = count_within s.n (λ i. b.lies i || (not (b.lost i) && keeps (old i) stamp)) (λ i. b.lies i || (b.lost i || keeps (old i) stamp))
        (λ i l h. still_held (b.lies i) (b.lost i) (keeps (old i) stamp) h) in
        omega (arith, held.many, within, good.quorum_high));
    lying = st.state.lying;
  }

  settled_with : (new : Keeps) (x : StampedValue) → stamp ≼ x.stamp
      → IsStoring s good SeenOf EverOf apart known held_known.0 b.lost b.lies k old held_state x new
      → IsSettled s x (record b { ended = x ∷ b.ended; asked = Some x }) new
  settled_with new x above storing = record {
    earlier = b.ended;
    latest = refl;
    kept_low = λ i v l upright here there. elim (storing.was i v l there) [
      | inl was ↦ ≼-trans v.stamp stamp x.stamp (held.kept_low i v l upright here was) above
      | inr is ↦ subst (λ (u : Version). u.stamp ≼ x.stamp) (sym is) (≼-refl x.stamp)
    ];
    late_low = λ i y there. ≼-trans y.stamp stamp x.stamp (held.late_low i y there) above;
    asked_low = λ y e. (let same : x ≡ y = cc in subst (λ (z : StampedValue). z.stamp ≼ x.stamp) same (≼-refl x.stamp));
  }

  -- what was read or written isn't below it
  settled_after : (new : Keeps) (client : ℕ) (work : Work) (outcome : Outcome) (x : StampedValue) → stamped_by work outcome ≡ Some x
      → IsEnd s good SeenOf EverOf apart known held_known.0 b.lost b.lies k old held_state work outcome new
      → IsSettled s x (standing_after b (Did client work outcome)) new
  settled_after new client Reads (Gave p v how rounds) x e h =
      let same : ◌≡◌ {A = StampedValue} (record { stamp = p; value = v }) x = cc in
      subst (λ (y : StampedValue). IsSettled s y (standing_after b (Did client Reads (Gave p v how rounds))) new) same
      (settled_with new (record { stamp = p; value = v }) (subst (λ (q : Stamp). q ≼ p) held_known.2 h.0) h.2)
  settled_after new client Reads (Outvoted nodes) x e h = absurd h
  settled_after new client Reads (Wrote p) x e h = absurd h
  settled_after new client Reads Spent x e h = absurd h
  settled_after new client (Writes value) (Wrote p) x e h =
      let same : ◌≡◌ {A = StampedValue} (record { stamp = p; value = value }) x = cc in
      subst (λ (y : StampedValue). IsSettled s y (standing_after b (Did client (Writes value) (Wrote p))) new) same
      (settled_with new (record { stamp = p; value = value })
      (subst (λ (q : Stamp). q ≼ p) held_known.2 (before-≼ held_known.0.stamp p h.0.later)) h.1)
  settled_after new client (Writes value) Spent x e h = absurd cc
  settled_after new client (Writes value) (Gave p v how rounds) x e h = absurd h
  settled_after new client (Writes value) (Outvoted nodes) x e h = absurd h

  pub settled_by : (new : Keeps) (client : ℕ) (work : Work) (outcome : Outcome) (x : StampedValue) → stamped_by work outcome ≡ Some x
      → IsCompleted s (away_in b) block client work outcome old new → IsSettled s x (standing_after b (Did client work outcome)) new
  settled_by new client work outcome x e done =
      settled_after new client work outcome x e
      (comes_to s good SeenOf EverOf apart known held_known.0 b.lost b.lies k old held_state block inside client work outcome new
      (comes_fewer s (away_in b) b.lost (λ i there. neither (b.gone i) (b.lost i) there) block client work outcome old new done))

pub held_blocks_settle : (s : Setting) → IsValid s → HeldBlocksSettle s
held_blocks_settle s good block before m stamp is apart held client work outcome x turn e =
    subst (λ (b : Standing). IsSettled s x b (kept_at (first_kept s) (before ++ m ∷ []))) (sym (standing_last (first_standing s) before m))
    (subst (λ (kept : Keeps). IsSettled s x (standing_after (standing_at (first_standing s) before) m.turn) kept) (sym (kept_last (first_kept s) before m))
    (subst (λ (t : Turn). IsSettled s x (standing_after (standing_at (first_standing s) before) t) m.kept) (sym turn)
    (stands_then s good block before (m ∷ []) is apart
    (IsSettled s x (standing_after (standing_at (first_standing s) before) (Did client work outcome)) m.kept) (λ known top waiting st.
    settled_by s good block is.there (Seen s good block before (m ∷ []) is apart) (Ever s good block before (m ∷ []) is apart) apart (number_after 0 before) known top waiting
    (standing_at (first_standing s) before) (kept_at (first_kept s) before) st stamp held m.kept client work outcome x e done))))
  where
    done : IsCompleted s (away_in (standing_at (first_standing s) before)) block client work outcome (kept_at (first_kept s) before) m.kept
    done =
        (subst (λ (t : Turn). Takes s block (standing_at (first_standing s) before) (kept_at (first_kept s) before) t m.kept) turn
        (parts s good block before (m ∷ []) is apart).1.0).1

pub held_blocks_stay : (s : Setting) → HeldBlocksStay s
held_blocks_stay s block b stamp old new held takes = record {
  kept_low = λ i v l upright here there. elim (takes i l) [
    | inl lies ↦ absurd (let e : true ≡ false = sym lies ∙ upright in cc)
    | inr rest ↦ elim rest [
      | inl lost ↦ absurd (let e : true ≡ false = sym lost ∙ here in cc)
      | inr same ↦ held.kept_low i v l upright here (subst (λ (vs : List Version). Contains vs v) same there)
    ]
  ];
  late_low = held.late_low;
  many =
      (let within = count_within s.n (λ i. b.lies i || (not (b.lost i) && keeps (old i) stamp)) (λ i. b.lies i || (not (b.lost i) && keeps (new i) stamp)) each in
      omega (arith, held.many, within));
}
  where
    by : (lies lost was is : Bool) → (lies ≡ true) ⊎ (lost ≡ true) ⊎ (is ≡ was) → lies || (not lost && was) ≡ true → lies || (not lost && is) ≡ true
    by true lost was is how h = refl
    by false true was is how h = absurd cc
    by false false was is (inl e) h = absurd cc
    by false false was is (inr (inl e)) h = absurd cc
    by false false was is (inr (inr e)) h = e ∙ h

    each : (i : ℕ) → i < s.n → b.lies i || (not (b.lost i) && keeps (old i) stamp) ≡ true → b.lies i || (not (b.lost i) && keeps (new i) stamp) ≡ true
    each i l h =
        by (b.lies i) (b.lost i) (keeps (old i) stamp) (keeps (new i) stamp) (elim (takes i l) [
          | inl e ↦ inl e
          | inr rest ↦ elim rest [ inl e ↦ inr (inl e) | inr same ↦ inr (inr (ap (λ (vs : List Version). keeps vs stamp) same)) ]
        ]) h

-- the latest that was read or written is known
pub latest_are_blocks : (s : Setting) → IsValid s → LatestAreBlocks s
latest_are_blocks s good block life is apart x earlier latest =
    stands_then s good block life [] (subst (IsLife s block) (sym (append-nil life)) is) none
    (IsBlock s x.value × ((0 < x.stamp.time) ⊎ (x.stamp ≡ first_stamp s))) (λ known top waiting st.
    let same : x ≡ top = st.renews x earlier latest in
    let known = st.state.of_known top st.state.top_known in (
      subst (λ (y : StampedValue). IsBlock s y.value) (sym same) known.block,
      subst (λ (y : StampedValue). (0 < y.stamp.time) ⊎ (y.stamp ≡ first_stamp s)) (sym same) known.time,
    ))
  where
    none : NoClash s (life ++ [])
    none = subst (NoClash s) (sym (append-nil life)) apart
