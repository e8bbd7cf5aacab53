-- Where a stamp is held, operations begin anew with its value, also where some are cut off before one is acknowledged.
use Rattle.std.proofs.Common.{◌≡◌, ◌⊎◌, ℕ, ◌<◌, Bool, true, false, not, ◌&&◌, ◌||◌, List, [], ◌∷◌, ◌++◌, length, Option, refl, sym, ap, subst, inl, inr, arith}
use Rattle.std.specs.declared.option.Option.TheVariants.{None, Some}
use Rattle.std.specs.List.{Contains}
use Rattle.lists.proofs.lemmas.Members.{Contains-rest, Contains-cons_cases}
use Rattle.stamp_order.specs.declared.Stamp.{Stamp}
use Rattle.stamp_order.specs.Stamps.{◌≼◌}
use Rattle.protocol.specs.Nodes.{keeps}
use Rattle.protocol.specs.Setting.{Setting, IsValid, Sound}
use Rattle.protocol.proofs.lemmas.Counting.{count_shared, some_passes, both_true}
use Rattle.protocol.proofs.lemmas.Keeping.{keeps_is}
use Rattle.protocol.proofs.lemmas.Order.{≼-refl, ≼-trans}
use Rattle.protocol.proofs.lemmas.Tests.{not_true}
use Rattle.linear_runs.specs.Linear.{Operation, IsLinear}
use Rattle.linear_runs.specs.Meaning.{ReadsAreWritten}
use Rattle.block_phases.specs.Phases.{Keeps}
use Rattle.block_phases.specs.Executions.{StampedValue}
use Rattle.block_turns.specs.Turns.{Moment, Standing, first_standing, standing_at, kept_at, told, turns_of}
use Rattle.block_turns.specs.Lives.{IsLife, first_kept}
use Rattle.block_turns.specs.Strings.{NoClash}
use Rattle.block_turns.specs.Settled.{IsSettled, IsHeld, AllUntil, SendsNoneAway, HasOperation, StaysHeld, HeldLivesBeginAnew, HeldLivesForget}
use Rattle.block_turns.proofs.KnownValues.{AreApart}
use Rattle.block_turns.proofs.Judging.{upright_many, kept_there}
use Rattle.block_turns.proofs.Linear.{Waiting, IsStanding}
use Rattle.block_turns.proofs.Settling.{Seen, Ever, number_after, parts, stands_then, low_known, settled_standing, anew_from, forgets_from}
use Rattle.block_turns.proofs.Holding.{held_known, held_state}
use Rattle.block_turns.proofs.TakenAlike.{with_these, all_taken}

heads : (x y : StampedValue) (xs ys : List StampedValue) → x ∷ xs ≡ y ∷ ys → x ≡ y
heads x y xs ys e = cc

module _ (s : Setting) (good : IsValid s) (block : ℕ) (inside : block < s.blocks) (SeenOf : List ℕ → Type 0) (EverOf : ℕ → Type 0)
    (apart : AreApart s SeenOf) (k : ℕ) (known : List StampedValue) (top : StampedValue) (waiting : List Waiting) (b : Standing) (old : Keeps)
    (st : IsStanding s good block inside SeenOf EverOf apart k known top waiting b old) (stamp : Stamp) (held : IsHeld s stamp b old) where
  -- the value that is held
  abbrev pub value_held : StampedValue
  value_held = (held_known s good block inside SeenOf EverOf apart k known top waiting b old st stamp held).0

  stamp_is : value_held.stamp ≡ stamp
  stamp_is = (held_known s good block inside SeenOf EverOf apart k known top waiting b old st stamp held).2

  abbrev keeps_both : ℕ → Bool
  keeps_both i = (b.lies i || (b.lost i || keeps (old i) top.stamp)) && (b.lies i || (not (b.lost i) && keeps (old i) stamp))

  -- some node that doesn't lie and isn't lost keeps both the greatest that ended and the stamp that is held
  keeper : (i : ℕ) × (i < s.n) × (keeps_both i && not (b.lies i) ≡ true)
  keeper =
      some_passes s.n (λ i. keeps_both i && not (b.lies i))
      (omega (
        arith,
        st.state.complete,
        held.many,
        good.quorum_low,
        good.quorum_high,
        upright_many s good SeenOf EverOf apart known top b.lost b.lies k old st.state,
        count_shared s.n (λ i. b.lies i || (b.lost i || keeps (old i) top.stamp)) (λ i. b.lies i || (not (b.lost i) && keeps (old i) stamp)),
        count_shared s.n keeps_both (λ i. not (b.lies i)),
      ))

  -- so the greatest that ended isn't above what is held
  top_low : top.stamp ≼ stamp
  top_low =
      let i = keeper in
      let c = both_true _ _ i.2 in
      let d = both_true _ _ c.0 in
      let upright : b.lies i.0 ≡ false = not_true (b.lies i.0) c.1 in
      let e = both_true _ _ (kept_there (b.lies i.0) _ upright d.1) in
      let here : b.lost i.0 ≡ false = not_true (b.lost i.0) e.0 in
      let v = keeps_is (old i.0) top.stamp (kept_there (b.lost i.0) _ here (kept_there (b.lies i.0) _ upright d.0)) in
      subst (λ (t : Stamp). t ≼ stamp) v.2 (held.kept_low i.0 v.0 i.1 upright here v.1)

  as_held : (t : Stamp) → t ≼ stamp → t ≼ value_held.stamp
  as_held t low = subst (λ (p : Stamp). t ≼ p) (sym stamp_is) low

  -- it may be taken as if a read of what is held had just been acknowledged
  module _ (asked : Option StampedValue) (asked_known : (x : StampedValue) → asked ≡ Some x → Contains known x)
      (asked_low : (x : StampedValue) → asked ≡ Some x → x.stamp ≼ stamp) where
    abbrev pub as_read : Standing
    as_read = with_these b (value_held ∷ b.ended) asked

    pub read_standing : IsStanding s good block inside SeenOf EverOf apart k known value_held waiting as_read old
    read_standing = record {
      state = held_state s good block inside SeenOf EverOf apart k known top waiting b old st stamp held;
      prunes = λ x there. elim (Contains-cons_cases x value_held b.ended there) [
        | inl e ↦ subst (λ (t : Stamp). t ≼ value_held.stamp) (ap (λ (y : StampedValue). y.stamp) (sym e)) (≼-refl value_held.stamp)
        | inr ended ↦ as_held x.stamp (≼-trans x.stamp top.stamp stamp (st.prunes x ended) top_low)
      ];
      renews = λ x earlier e. sym (heads value_held x b.ended earlier e);
      asks = asked_known;
      lates = st.lates;
      waits = st.waits;
      due = λ x there. elim (st.due x there) [ inl low ↦ inl (as_held x.stamp (≼-trans x.stamp top.stamp stamp low top_low)) | inr w ↦ inr w ];
    }

    pub read_settled : IsSettled s value_held as_read old
    read_settled = record {
      earlier = b.ended;
      latest = refl;
      kept_low = λ i v l upright here there. as_held v.stamp (held.kept_low i v l upright here there);
      late_low = λ i y there. as_held y.stamp (held.late_low i y there);
      asked_low = λ y e. as_held y.stamp (asked_low y e);
    }

    abbrev pub known_then : List StampedValue
    known_then = low_known s good block inside SeenOf EverOf apart k known value_held waiting as_read old read_standing value_held read_settled

    pub held_standing : IsStanding s good block inside SeenOf EverOf apart k known_then value_held [] as_read old
    held_standing =
        settled_standing s good block inside SeenOf EverOf apart k known value_held waiting as_read old read_standing value_held read_settled

  held_sound : Sound s stamp value_held.value
  held_sound =
      subst (λ (t : Stamp). Sound s t value_held.value) stamp_is
      (st.state.of_known value_held (held_known s good block inside SeenOf EverOf apart k known top waiting b old st stamp held).1).sound

module _ (s : Setting) (good : IsValid s) (block : ℕ) (before after : List Moment) (is : IsLife s block (before ++ after))
    (apart : NoClash s (before ++ after)) (stamp : Stamp) where
  abbrev b : Standing
  b = standing_at (first_standing s) before

  abbrev old : Keeps
  old = kept_at (first_kept s) before

  abbrev SeenHere : List ℕ → Type 0
  SeenHere = Seen s good block before after is apart

  abbrev EverHere : ℕ → Type 0
  EverHere = Ever s good block before after is apart

  abbrev k : ℕ
  k = number_after 0 before

  module _ (held : IsHeld s stamp b old) (stays : StaysHeld s stamp b (turns_of after)) where
    abbrev Anew : Type 0
    Anew = (value : List ℕ) × Sound s stamp value × IsLinear value (told block (length before) (turns_of after))

    module _ (known : List StampedValue) (top : StampedValue) (waiting : List Waiting)
        (st : IsStanding s good block is.there SeenHere EverHere apart k known top waiting b old) where
      abbrev x : StampedValue
      x = value_held s good block is.there SeenHere EverHere apart k known top waiting b old st stamp held

      asking : (asked : Option StampedValue) → ((y : StampedValue) → asked ≡ Some y → Contains known y)
          → ((y : StampedValue) → asked ≡ Some y → y.stamp ≼ stamp)
          → (asked ≡ b.asked) ⊎ AllUntil SendsNoneAway HasOperation (turns_of after)
          → Anew
      asking asked is_known is_low asks = (
        x.value,
        held_sound s good block is.there SeenHere EverHere apart k known top waiting b old st stamp held,
        anew_from s good block before after is apart
            (known_then s good block is.there SeenHere EverHere apart k known top waiting b old st stamp held asked is_known is_low)
            x (with_these b (x ∷ b.ended) asked) old
            (held_standing s good block is.there SeenHere EverHere apart k known top waiting b old st stamp held asked is_known is_low)
            (all_taken s block after old b (x ∷ b.ended) asked
            (record { more = λ y there. Contains-rest y x b.ended there; first = inr stays.rebuilt_late; asks = asks })
            (parts s good block before after is apart).1),
      )

      anew : Anew
      anew = elim stays.asked_low [
        | inl low ↦ asking b.asked st.asks low (inl refl)
        | inr until ↦ asking None (λ y e. absurd cc) (λ y e. absurd cc) (inr until)
      ]

    pub held_anew : Anew
    held_anew = stands_then s good block before after is apart Anew (λ known top waiting st. anew known top waiting st)

pub held_lives_begin_anew : (s : Setting) → IsValid s → HeldLivesBeginAnew s
held_lives_begin_anew s good block before after stamp is apart held stays =
    held_anew s good block before after is apart stamp held stays

pub held_lives_forget : (s : Setting) → IsValid s → ((first : List ℕ) (ops : List Operation) → ReadsAreWritten first ops)
    → HeldLivesForget s
held_lives_forget s good written block before after stamp is apart held stays =
    let anew = held_lives_begin_anew s good block before after stamp is apart held stays in (
      anew.0,
      anew.1,
      λ m client rounds at given how there e.
          forgets_from written block before after anew.0 anew.2 m client rounds at given how there e,
    )
