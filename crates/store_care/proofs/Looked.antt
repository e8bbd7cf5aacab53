-- A block more that was looked at, and what is noted of it.
use Rattle.std.proofs.Common.{◌≡◌, ℕ, zero, suc, ◌+◌, ◌-◌, ◌<◌, ◌≤◌, ◌==◌, Bool, inl, inr, List, [], ◌∷◌, ◌++◌, map, length, get_or, Option, None, Some, is_none, add-one, refl, sym, ap, subst, ◌∙◌, arith}
use Rattle.std.specs.List.{All, range_with_len}
use Rattle.std.proofs.lemmas.Bool.{cases_Bool}
use Rattle.std.proofs.lemmas.Bool.Decides.{nat_tests}
use Rattle.std.proofs.lemmas.List.{map_push, length_push}
use Rattle.std.proofs.lemmas.List.Elements.{All-push}
use Rattle.std.proofs.lemmas.List.FromFn.{get_or-map-range_with_len, length-map-range_with_len}
use Rattle.quorum_rules.specs.Limits.{Numbers}
use Rattle.wire_forms.specs.declared.op.Op.{Op}
use Rattle.wire_forms.specs.declared.op.Op.TheVariants.{Write}
use Rattle.run_words.specs.declared.outcome.Outcome.TheVariants.{Wrote, Spent, Gave, Outvoted}
use Rattle.protocol.specs.Messages.{Version}
use Rattle.protocol.specs.Operations.{Outcome, How}
use Rattle.protocol.specs.Seen.{block_of}
use Rattle.store_device.specs.Stores.{SeenStore}
use Rattle.store_care.specs.Batches.{AreBelow}
use Rattle.store_care.specs.Given.{Given, given, outcome_at, reads_from, IsWrittenBack}
use Rattle.store_care.specs.Holdings.{newest_at, newest_of}
use Rattle.store_care.specs.Tallies.{AreChanged, one_more, one_more_if, with_block, with_blocks, failed_reads, given_at, lacks_still, still_lacks}
use Rattle.store_care.specs.Steps.{AreLacking, IsNoted, HasLooked, HasLookedAt, by_seat}
use Rattle.store_care.specs.declared.care.Care.{Care}
use Rattle.store_care.specs.declared.care.Lacking.{Lacking}
use Rattle.store_care.specs.declared.tally.NodeTally.{NodeTally}
use Rattle.store_care.proofs.Changing.{then_changed, changed_alike, same_changed}
use Rattle.store_care.proofs.Reading.{read_at}
use Rattle.store_care.proofs.Rising.{one_above, below_later, none_below}

-- the way back from a block to its place
back : (first k : ℕ) → first + k - first ≡ k
back first k = omega arith

-- what is known where something was given
pub record WasGiven (size : ℕ) (o : Option Outcome) (gave : Given) : Type 0 where
  pub block : length gave.value ≡ size
  pub how : How
  pub rounds : ℕ
  pub is : o ≡ Some (Gave gave.stamp gave.value how rounds)

pub was_given : (size : ℕ) (o : Option Outcome) (gave : Given) → given size o ≡ Some gave → WasGiven size o gave
was_given size None gave e = cc
was_given size (Some (Wrote stamp)) gave e = cc
was_given size (Some Spent) gave e = cc
was_given size (Some (Outvoted nodes)) gave e = cc
was_given size (Some (Gave stamp value how rounds)) gave e = elim (cases_Bool (length value == size)) [
  | inl is ↦
      let same : Some (record { stamp = stamp; value = value }) ≡ Some gave = sym (rw is) ∙ e in
      let here : record { stamp = stamp; value = value } ≡ gave = cc in
      subst (WasGiven size (Some (Gave stamp value how rounds))) here (record { block = grind (arith, nat_tests); how = how; rounds = rounds; is = refl })
  | inr not_so ↦
      let none : None ≡ Some gave = sym (rw not_so) ∙ e in
      cc
]

-- by seat, where two tests agree
pub by_seat_alike : (f g : ℕ → Bool) (a n : ℕ) → ((i : ℕ) → a ≤ i → i < a + n → f i ≡ g i) → map f (range_with_len a n) ≡ map g (range_with_len a n)
by_seat_alike f g a zero same = refl
by_seat_alike f g a (suc n) same =
    ap (λ (b : Bool). b ∷ map f (range_with_len (a + 1) n)) (same a (omega arith) (omega arith))
    ∙ ap (λ (bs : List Bool). g a ∷ bs) (by_seat_alike f g (a + 1) n (λ i le lt. same i (omega arith) (omega arith)))

-- nothing was looked at yet
pub none_lacking : (c : Numbers) (first count : ℕ) (outcomes : List (Option Outcome)) (lacking : Lacking) → lacking.again.items ≡ [] → lacking.seats.items ≡ [] → AreLacking c first count outcomes 0 lacking
none_lacking c first count outcomes lacking again seats = record {
  batch = subst (λ (ops : List Op). AreBelow c (first + 0) ops) (sym again) (none_below c (first + 0));
  few = rw again (omega arith);
  paired = ap length seats ∙ sym (ap length again);
  written_back = subst (All (IsWrittenBack (reads_from first count) outcomes)) (sym again) (λ k d lt. absurd (omega arith));
}

module _ (c : Numbers) (first count : ℕ) (outcomes : List (Option Outcome)) where
  module _ (k : ℕ) (lt : k < count) (there : first + count ≤ c.blocks) where
    -- what was given of a block is written back
    given_back : (gave : Given) → given c.size (outcome_at outcomes k) ≡ Some gave → IsWrittenBack (reads_from first count) outcomes (Write (first + k) gave.value)
    given_back gave e =
        let was = was_given c.size (outcome_at outcomes k) gave e in
        (gave.stamp, record { number = k; read = read_at first count k lt; how = was.how; rounds = was.rounds; gave = was.is })

    pub one_more_lacking : (seats : List Bool) (old new : Lacking) → AreLacking c first count outcomes k old → IsNoted (first + k) (given c.size (outcome_at outcomes k)) seats old new → AreLacking c first count outcomes (k + 1) new
    one_more_lacking seats old new h (inl same) =
        subst (AreLacking c first count outcomes (k + 1)) (sym same) (record {
          batch = below_later c old.again.items (first + k) (first + (k + 1)) (omega arith) h.batch;
          few = omega (arith, h.few);
          paired = h.paired;
          written_back = h.written_back;
        })
    one_more_lacking seats old new h (inr noted) =
        let gave = noted.0 in
        let op = Write (first + k) gave.value in
        let was = was_given c.size (outcome_at outcomes k) gave noted.1 in
        let above : AreBelow c (first + k + 1) (old.again.items ++ op ∷ []) = one_above c old.again.items op h.batch (omega arith, was.block) in
        record {
          batch = subst (λ (ops : List Op). AreBelow c (first + (k + 1)) ops) (sym noted.2)
              (below_later c (old.again.items ++ op ∷ []) (first + k + 1) (first + (k + 1)) (omega arith) above);
          few = omega (arith, h.few, ap length noted.2, length_push old.again.items op);
          paired = omega (arith, h.paired, noted.3, ap length noted.2, length_push old.again.items op);
          written_back = subst (All (IsWrittenBack (reads_from first count) outcomes)) (sym noted.2)
              (All-push (IsWrittenBack (reads_from first count) outcomes) old.again.items op h.written_back (given_back gave noted.1));
        }

module _ {D : Type 0} (old after : SeenStore D) (first : ℕ) (outcomes : List (Option Outcome)) where
  -- nothing was counted yet
  pub none_looked : (care : Care) (lacking : Lacking) → lacking.again.items ≡ [] → lacking.seats.items ≡ [] → HasLooked old after first outcomes 0 care care lacking
  none_looked care lacking again seats = record {
    tallies = same_changed (λ seat. with_blocks old after first outcomes seat 0) old.config.n care.tallies.items (λ seat t lt. refl);
    failed = refl;
    seats = ap (map (λ s. s.items)) seats ∙ sym (ap (map (λ op. by_seat old.config.n (λ seat. still_lacks old after first outcomes seat (block_of op)))) again);
  }

  module _ (k : ℕ) where
    -- what the read at this place gave, and the test by seat of its block
    abbrev gave_here : Option Given
    gave_here = given_at old.config.size outcomes k

    abbrev was_at : ℕ → Option Version
    was_at seat = newest_at old (first + k) seat

    abbrev is_at : ℕ → Option Version
    is_at seat = newest_at after (first + k) seat

    newest_here : (seat : ℕ) → seat < old.config.n → get_or (newest_of old (first + k)) seat None ≡ was_at seat
    newest_here seat lt = get_or-map-range_with_len (newest_at old (first + k)) 0 old.config.n seat seat None lt (omega arith)

    newest_count : length (newest_of old (first + k)) ≡ old.config.n
    newest_count = length-map-range_with_len (newest_at old (first + k)) 0 old.config.n

    with_blocks_more : (seat : ℕ) (t : NodeTally) → with_blocks old after first outcomes seat (k + 1) t
        ≡ with_block old.config seat gave_here (was_at seat) (is_at seat) (with_blocks old after first outcomes seat k t)
    with_blocks_more seat t = ap (λ (n : ℕ). with_blocks old after first outcomes seat n t) (add-one k)

    abbrev seats_of : Op → List Bool
    seats_of op = by_seat old.config.n (λ seat. still_lacks old after first outcomes seat (block_of op))

    -- the seats that are noted of the block are those that are meant
    seats_here : (value : List ℕ)
        → by_seat old.config.n (λ seat. lacks_still old.config seat gave_here (get_or (newest_of old (first + k)) seat None) (is_at seat)) ≡ seats_of (Write (first + k) value)
    seats_here value = by_seat_alike
        (λ seat. lacks_still old.config seat gave_here (get_or (newest_of old (first + k)) seat None) (is_at seat))
        (λ seat. still_lacks old after first outcomes seat (first + k)) 0 old.config.n
        (λ seat le lt. ap (λ (v : Option Version). lacks_still old.config seat gave_here v (is_at seat)) (newest_here seat (omega arith))
        ∙ ap (λ (j : ℕ). lacks_still old.config seat (given_at old.config.size outcomes j) (was_at seat) (is_at seat)) (sym (back first k)))

    seats_more : (seats : List Bool) (lacking noted : Lacking) → seats ≡ seats_of (Write (first + k) []) → IsNoted (first + k) gave_here seats lacking noted
        → map (λ s. s.items) lacking.seats.items ≡ map seats_of lacking.again.items
        → map (λ s. s.items) noted.seats.items ≡ map seats_of noted.again.items
    seats_more seats lacking noted are (inl same) h = subst (λ (l : Lacking). map (λ s. s.items) l.seats.items ≡ map seats_of l.again.items) (sym same) h
    seats_more seats lacking noted are (inr more) h =
        more.4 ∙ ap (λ (ss : List (List Bool)). ss ++ seats ∷ []) h ∙ ap (λ (s : List Bool). map seats_of lacking.again.items ++ s ∷ []) are
        ∙ sym (map_push seats_of lacking.again.items (Write (first + k) more.0.value)) ∙ ap (map seats_of) (sym more.2)

    -- a block more
    pub one_more_looked : (newest : List (Option Version)) (start mid new : Care) (lacking noted : Lacking)
        → old.config ≡ after.config → newest ≡ newest_of old (first + k)
        → HasLooked old after first outcomes k start mid lacking
        → HasLookedAt after.config newest after (first + k) (given after.config.size (outcome_at outcomes k)) mid new lacking noted
        → HasLooked old after first outcomes (k + 1) start new noted
    one_more_looked newest start mid new lacking noted cfg are h at =
        let here : HasLookedAt old.config (newest_of old (first + k)) after (first + k) gave_here mid new lacking noted =
        subst (λ (ns : List (Option Version)). HasLookedAt old.config ns after (first + k) gave_here mid new lacking noted) are
        (subst (λ (c : Numbers). HasLookedAt c newest after (first + k) (given c.size (outcome_at outcomes k)) mid new lacking noted) (sym cfg) at) in
        let f = λ (seat : ℕ). with_blocks old after first outcomes seat k in
        let g = λ (seat : ℕ). with_block old.config seat gave_here (was_at seat) (is_at seat) in
        let changed : AreChanged g old.config.n mid.tallies.items new.tallies.items =
        changed_alike (λ seat. with_block old.config seat gave_here (get_or (newest_of old (first + k)) seat None) (is_at seat)) g old.config.n mid.tallies.items new.tallies.items
        (λ seat t lt. ap (λ (v : Option Version). with_block old.config seat gave_here v (is_at seat) t) (newest_here seat lt))
        (subst (λ (n : ℕ). AreChanged (λ seat. with_block old.config seat gave_here (get_or (newest_of old (first + k)) seat None) (is_at seat)) n mid.tallies.items new.tallies.items) newest_count here.tallies) in
        record {
          tallies = changed_alike (λ seat t. g seat (f seat t)) (λ seat. with_blocks old after first outcomes seat (k + 1)) old.config.n start.tallies.items new.tallies.items
              (λ seat t lt. sym (with_blocks_more seat t))
              (then_changed f g old.config.n start.tallies.items mid.tallies.items new.tallies.items h.tallies changed);
          failed = here.failed ∙ ap (one_more_if (is_none gave_here)) h.failed
              ∙ sym (ap (λ (n : ℕ). failed_reads old.config.size outcomes n start.failed) (add-one k));
          seats = seats_more _ lacking noted
              (ap (λ (n : ℕ). by_seat n (λ seat. lacks_still old.config seat gave_here (get_or (newest_of old (first + k)) seat None) (is_at seat))) newest_count ∙ seats_here [])
              here.seats h.seats;
        }

-- a block was looked at of whose read nothing was given
pub nothing_given : {D : Type 0} (c : Numbers) (newest : List (Option Version)) (after : SeenStore D) (block : ℕ) (old new : Care) (lacking : Lacking)
    → new.tallies.items ≡ old.tallies.items → new.failed ≡ one_more old.failed → HasLookedAt c newest after block None old new lacking lacking
nothing_given c newest after block old new lacking tallies failed = record {
  tallies = subst (λ (ts : List NodeTally). AreChanged (λ seat. with_block c seat None (get_or newest seat None) (newest_at after block seat)) (length newest) old.tallies.items ts) (sym tallies)
      (same_changed (λ seat. with_block c seat None (get_or newest seat None) (newest_at after block seat)) (length newest) old.tallies.items (λ seat t lt. refl));
  failed = failed;
  seats = inl refl;
}
