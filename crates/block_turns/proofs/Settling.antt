-- Where a block was settled, its life begins anew: what is known of it may be cut down to what isn't above the latest.
use Rattle.std.proofs.Common.{◌≡◌, ◌⊎◌, ℕ, suc, ◌+◌, ◌<◌, List, [], ◌∷◌, ◌++◌, length, filter, sym, ◌∙◌, ap, subst, inl, inr, arith}
use Rattle.std.specs.declared.option.Option.TheVariants.{Some}
use Rattle.std.specs.List.{Contains}
use Rattle.std.proofs.lemmas.List.Elements.{Contains-append_left, Contains-append_right}
use Rattle.lists.proofs.lemmas.Members.{Contains-head, Contains-none, Contains-rest, Contains-map_cases, filter_is, filter_has}
use Rattle.stamp_order.specs.declared.Stamp.{Stamp}
use Rattle.stamp_order.specs.Stamps.{up_to, ◌≼◌}
use Rattle.protocol.specs.Messages.{Version}
use Rattle.protocol.specs.Setting.{Setting, IsValid, first_stamp}
use Rattle.protocol.proofs.lemmas.Order.{≼-refl, before-≼, lower_time}
use Rattle.linear_runs.specs.Linear.{Operation, IsLinear}
use Rattle.linear_runs.specs.Meaning.{ReadsAreWritten}
use Rattle.block_turns.proofs.lemmas.TurnsTold.{told_linear, read_told, written_told}
use Rattle.run_words.specs.declared.outcome.How.{How}
use Rattle.run_words.specs.declared.outcome.Outcome.TheVariants.{Gave}
use Rattle.protocol.specs.Operations.Work.{Reads}
use Rattle.block_phases.specs.Phases.{Keeps}
use Rattle.block_phases.specs.Executions.{StampedValue}
use Rattle.block_turns.specs.Turns.{Moment, Standing, first_standing, standing_after, told, turns_of, written_in}
use Rattle.block_turns.specs.Strings.{LiesOnce, HasKept, IsSeen, NoClash}
use Rattle.block_turns.specs.Lives.{TakesAll, IsLife, first_kept}
use Rattle.block_turns.specs.Turns.Turn.{Did, Failed}
use Rattle.block_turns.specs.Strings.IsValue.{zeros_value, to_be_written}
use Rattle.block_turns.specs.Strings.IsSeen.{sum_seen, fragment_seen, sum_kept, fragment_kept}
use Rattle.block_turns.specs.Turns.{standing_at, kept_at}
use Rattle.block_turns.specs.Settled.{IsSettled, SettledLivesBeginAnew, SettledLivesForget}
use Rattle.block_turns.proofs.KnownValues.{first_of, AreApart, IsState}
use Rattle.block_turns.proofs.NextStates.{LyingSeen}
use Rattle.block_turns.proofs.Placing.{none_placed, placed_linear}
use Rattle.block_turns.proofs.Linear.{Waiting, ops, IsStanding, ValueSeen, turn_placed, rest_placed, stands_first}

-- the number of the turn after these
abbrev pub number_after : ℕ → List Moment → ℕ
number_after k [] = k
number_after k (m ∷ life) = number_after (suc k) life

number_is : (k : ℕ) (life : List Moment) → number_after k life ≡ k + length life
number_is k [] = omega arith
number_is k (m ∷ life) = let e = number_is (suc k) life in omega (arith, e)

-- turns that may be taken one after the other, in two parts
pub takes_parts : (s : Setting) (block : ℕ) (before after : List Moment) (b : Standing) (old : Keeps) → TakesAll s block b old (before ++ after)
    → TakesAll s block b old before × TakesAll s block (standing_at b before) (kept_at old before) after
takes_parts s block [] after b old takes = (tt, takes)
takes_parts s block (m ∷ before) after b old takes =
    let r = takes_parts s block before after (standing_after b m.turn) m.kept takes.1 in
    ((takes.0, r.0), r.1)

module _ (s : Setting) (good : IsValid s) (block : ℕ) (inside : block < s.blocks) (Seen : List ℕ → Type 0) (Ever : ℕ → Type 0)
    (apart : AreApart s Seen) where
  abbrev Stands : ℕ → List StampedValue → StampedValue → List Waiting → Standing → Keeps → Type 0
  Stands k known top waiting b old = IsStanding s good block inside Seen Ever apart k known top waiting b old

  -- what is known after turns
  stands_after : (Further : Type 0) (life : List Moment) (k : ℕ) (known : List StampedValue) (top : StampedValue) (waiting : List Waiting) (b : Standing) (old : Keeps)
      → ((m : Moment) (value : List ℕ) → Contains life m → written_in m.turn ≡ Some value → ValueSeen s good block inside Seen Ever apart value)
      → ((m : Moment) → Contains life m → LyingSeen s good Seen Ever m.kept)
      → ((m : Moment) (node : ℕ) → Contains life m → m.turn ≡ Failed node → Ever node)
      → Stands k known top waiting b old → TakesAll s block b old life
      → ((known' : List StampedValue) (top' : StampedValue) (waiting' : List Waiting)
      → Stands (number_after k life) known' top' waiting' (standing_at b life) (kept_at old life) → Further)
      → Further
  stands_after Further [] k known top waiting b old values keeping failing st takes go = go known top waiting st
  stands_after Further (m ∷ life) k known top waiting b old values keeping failing st takes go =
      (turn_placed s good block inside Seen Ever apart k [] (λ o there e f. absurd (Contains-none o there))
      known top waiting b old st m.kept (keeping m (Contains-head m life)) Further m.turn takes.0 (λ value e. values m value (Contains-head m life) e)
      (λ node e. failing m node (Contains-head m life) e)
      (λ known' top' waiting' st'. (
        none_placed top'.value (ops waiting') (λ o there.
            let w = Contains-map_cases (λ (x : Waiting). x.op) waiting' o there in
            ap (λ (q : Operation). q.end) w.2 ∙ (st'.waits w.0 w.1).0),
        stands_after Further life (suc k) known' top' waiting' (standing_after b m.turn) m.kept
            (λ x value there e. values x value (Contains-rest x m life there) e) (λ x there. keeping x (Contains-rest x m life there))
            (λ x node there e. failing x node (Contains-rest x m life there) e) st' takes.1 go,
      ))).1

  -- what is known where the block is settled
  module _ (k : ℕ) (known : List StampedValue) (top : StampedValue) (waiting : List Waiting) (b : Standing) (old : Keeps)
      (st : Stands k known top waiting b old) (x : StampedValue) (is : IsSettled s x b old) where
    abbrev pub low_known : List StampedValue
    low_known = filter (λ y. up_to y.stamp top.stamp) known

    low_is : (y : StampedValue) → Contains known y → y.stamp ≼ top.stamp → Contains low_known y
    low_is y there low = filter_has (λ (z : StampedValue). up_to z.stamp top.stamp) known y there low

    pub is_top : x ≡ top
    is_top = st.renews x is.earlier is.latest

    as_top : (stamp : Stamp) → stamp ≼ x.stamp → stamp ≼ top.stamp
    as_top stamp low = subst (λ (y : StampedValue). stamp ≼ y.stamp) is_top low

    first_low : first_stamp s ≼ top.stamp
    first_low = elim (st.state.of_known top st.state.top_known).time [
      | inl l ↦ before-≼ (first_stamp s) top.stamp (lower_time (first_stamp s) top.stamp l)
      | inr e ↦ subst (λ (t : Stamp). first_stamp s ≼ t) (sym e) (≼-refl (first_stamp s))
    ]

    settled_state : IsState s Seen Ever low_known top b.lost b.lies k old
    settled_state =
        let was = λ (y : StampedValue) (there : Contains low_known y). (filter_is (λ (z : StampedValue). up_to z.stamp top.stamp) known y there).0 in
        record {
          of_known = λ y there. st.state.of_known y (was y there);
          first_known = low_is (first_of s) st.state.first_known first_low;
          top_known = low_is top st.state.top_known (≼-refl top.stamp);
          low = λ y there. st.state.low y (was y there);
          few = st.state.few;
          ever = st.state.ever;
          grounded = λ i v l upright here there.
              let r = st.state.grounded i v l upright here there in
              (r.0, low_is r.0 r.1 (subst (λ (u : Version). u.stamp ≼ top.stamp) r.2 (as_top v.stamp (is.kept_low i v l upright here there))), r.2);
          first = st.state.first;
          complete = st.state.complete;
          lying = st.state.lying;
        }

    pub settled_standing : Stands k low_known top [] b old
    settled_standing = record {
      state = settled_state;
      prunes = st.prunes;
      renews = st.renews;
      asks = λ y e. low_is y (st.asks y e) (as_top y.stamp (is.asked_low y e));
      lates = λ i y there. low_is y (st.lates i y there) (as_top y.stamp (is.late_low i y there));
      waits = λ w there. absurd (Contains-none w there);
      due = λ y there. inl (filter_is (λ (z : StampedValue). up_to z.stamp top.stamp) known y there).1;
    }

module _ (s : Setting) (good : IsValid s) (block : ℕ) (before after : List Moment) (is : IsLife s block (before ++ after))
    (apart : NoClash s (before ++ after)) where
  abbrev life : List Moment
  life = before ++ after

  abbrev pub Seen : List ℕ → Type 0
  Seen = IsSeen s life

  abbrev pub Ever : ℕ → Type 0
  Ever = LiesOnce s life

  pub parts : TakesAll s block (first_standing s) (first_kept s) before
      × TakesAll s block (standing_at (first_standing s) before) (kept_at (first_kept s) before) after
  parts = takes_parts s block before after (first_standing s) (first_kept s) is.takes

  in_before : (m : Moment) → Contains before m → Contains life m
  in_before m there = Contains-append_left before after m there

  in_after : (m : Moment) → Contains after m → Contains life m
  in_after m there = Contains-append_right before after m there

  values : (m : Moment) (value : List ℕ) → Contains life m → written_in m.turn ≡ Some value
      → ValueSeen s good block is.there Seen Ever apart value
  values m value there e = (sum_seen (to_be_written there e), λ i l. fragment_seen (to_be_written there e) l)

  keeping : (m : Moment) → Contains life m → LyingSeen s good Seen Ever m.kept
  keeping m there i v l lies k whole =
      let has : HasKept s life i v = record { moment = m; there = there; below = l; lies = lies; kept = k; whole = whole } in
      (sum_kept has, fragment_kept has)

  failing : (m : Moment) (node : ℕ) → Contains life m → m.turn ≡ Failed node → Ever node
  failing m node there e = inr (m, there, e)

  -- what is known when the first turns are over
  abbrev pub StandsThen : List StampedValue → StampedValue → List Waiting → Type 0
  StandsThen known top waiting =
      IsStanding s good block is.there Seen Ever apart (number_after 0 before) known top waiting (standing_at (first_standing s) before) (kept_at (first_kept s) before)

  pub stands_then : (Further : Type 0)
      → ((known : List StampedValue) (top : StampedValue) (waiting : List Waiting) → StandsThen known top waiting → Further) → Further
  stands_then Further go =
      stands_after s good block is.there Seen Ever apart Further before 0 (first_of s ∷ []) (first_of s) [] (first_standing s) (first_kept s)
      (λ m value there e. values m value (in_before m there) e) (λ m there. keeping m (in_before m there))
      (λ m node there e. failing m node (in_before m there) e)
      (stands_first s good block is.there Seen Ever apart (sum_seen zeros_value, λ i l. fragment_seen zeros_value l) (λ i lies. inl lies))
      parts.0 go

  -- from where nothing is known but what isn't above the greatest that ended, the operations are linearizable by themselves
  pub anew_from : (known : List StampedValue) (top : StampedValue) (b : Standing) (old : Keeps)
      → IsStanding s good block is.there Seen Ever apart (number_after 0 before) known top [] b old
      → TakesAll s block b old after
      → IsLinear top.value (told block (length before) (turns_of after))
  anew_from known top b old st takes =
      let placed = rest_placed s good block is.there Seen Ever apart after (number_after 0 before) known top [] b old
      (λ m value there e. values m value (in_after m there) e) (λ m there. keeping m (in_after m there))
      (λ m node there e. failing m node (in_after m there) e) st takes in
      subst (λ (k : ℕ). IsLinear top.value (told block k (turns_of after))) (let e = number_is 0 before in let f : number_after 0 before ≡ length before = omega (arith, e) in f)
      (placed_linear top.value (told block (number_after 0 before) (turns_of after)) placed.0)

  module _ (x : StampedValue) (settled : IsSettled s x (standing_at (first_standing s) before) (kept_at (first_kept s) before)) where
    abbrev Goal : Type 0
    Goal = IsLinear x.value (told block (length before) (turns_of after))

    done : (known : List StampedValue) (top : StampedValue) (waiting : List Waiting) → StandsThen known top waiting → Goal
    done known top waiting st =
        let st' = settled_standing s good block is.there Seen Ever apart (number_after 0 before) known top waiting (standing_at (first_standing s) before) (kept_at (first_kept s) before) st x settled in
        let same = is_top s good block is.there Seen Ever apart (number_after 0 before) known top waiting (standing_at (first_standing s) before) (kept_at (first_kept s) before) st x settled in
        subst (λ (y : StampedValue). IsLinear y.value (told block (length before) (turns_of after))) (sym same)
        (anew_from (low_known s good block is.there Seen Ever apart (number_after 0 before) known top waiting (standing_at (first_standing s) before) (kept_at (first_kept s) before) st x settled)
        top (standing_at (first_standing s) before) (kept_at (first_kept s) before) st' parts.1)

    begins_anew : Goal
    begins_anew = stands_then Goal (λ known top waiting st. done known top waiting st)

pub settled_lives_begin_anew : (s : Setting) → IsValid s → SettledLivesBeginAnew s
settled_lives_begin_anew s good block before after x is apart settled = begins_anew s good block before after is apart x settled

-- where later operations are linearizable by themselves, a later read gives the first value, or one that was to be written later
pub forgets_from : ((first : List ℕ) (ops : List Operation) → ReadsAreWritten first ops) → (block : ℕ) (before after : List Moment) (first : List ℕ)
    → IsLinear first (told block (length before) (turns_of after))
    → (m : Moment) (client rounds : ℕ) (stamp : Stamp) (value : List ℕ) (how : How) → Contains after m → m.turn ≡ Did client Reads (Gave stamp value how rounds)
    → (value ≡ first) ⊎ ((w : Moment) × Contains after w × (written_in w.turn ≡ Some value))
forgets_from written block before after first linear m client rounds stamp value how there e =
    let o = read_told block (length before) after m client rounds stamp value how there e in
    elim (written first (told block (length before) (turns_of after)) o.0 value (told_linear block (length before) (turns_of after) first linear)
    (record { there = o.1; gave = o.2; end = o.3; ended = o.4 })) [
      | inl same ↦ inl same
      | inr w ↦ inr (written_told block (length before) after w.0 value w.1.there w.1.wrote)
    ]

pub settled_lives_forget : (s : Setting) → IsValid s → ((first : List ℕ) (ops : List Operation) → ReadsAreWritten first ops) → SettledLivesForget s
settled_lives_forget s good written block before after x is apart settled m client rounds stamp value how there e =
    forgets_from written block before after x.value (settled_lives_begin_anew s good block before after x is apart settled) m client rounds stamp value how there e
