-- The operations of a life are linearizable, in the order of its turns, also where nodes were made anew.
use Rattle.std.proofs.Common.{◌≡◌, ◌⊎◌, ℕ, suc, ◌^◌, ◌-◌, ◌+◌, ◌<◌, ◌≤◌, Bool, true, false, ◌||◌, List, [], ◌∷◌, ◌++◌, length, map, Option, refl, sym, ap, subst, ◌∙◌, inl, inr, arith}
use Rattle.std.specs.declared.option.Option.TheVariants.{None, Some}
use Rattle.std.specs.List.{Contains}
use Rattle.std.proofs.lemmas.List.{map-append}
use Rattle.std.proofs.lemmas.List.Elements.{Contains-append_cases, Contains-append_left, Contains-append_right}
use Rattle.lists.proofs.lemmas.Members.{Contains-head, Contains-none, Contains-rest, Contains-one, Contains-cons_cases, Contains-map_cases}
use Rattle.stamp_order.specs.declared.Stamp.{Stamp}
use Rattle.stamp_order.specs.Stamps.{before, ◌≼◌}
use Rattle.run_words.specs.declared.outcome.Outcome.TheVariants.{Wrote, Spent, Gave, Outvoted}
use Rattle.protocol.specs.Count.{update}
use Rattle.protocol.specs.Messages.{flat, Version}
use Rattle.protocol.specs.Nodes.{keeps, first_version}
use Rattle.protocol.specs.Setting.{Setting, IsValid, IsBlock, zeros, first_stamp}
use Rattle.protocol.specs.Operations.{Work, Stage, Outcome}
use Rattle.protocol.specs.Operations.Work.{Reads, Writes}
use Rattle.protocol.specs.Operations.Stage.{Times, Versions, Storing}
use Rattle.protocol.specs.World.{Fits}
use Rattle.protocol.proofs.lemmas.Forming.{zeros_block}
use Rattle.protocol.proofs.lemmas.Counting.{update-cases}
use Rattle.protocol.proofs.lemmas.Keeping.{keeps-Contains}
use Rattle.protocol.proofs.lemmas.Order.{≼-refl, ≼-trans, ≼-cases, before-≼, not_both}
use Rattle.linear_runs.specs.Linear.{Act, Operation, IsBefore, gives, value_after}
use Rattle.linear_runs.specs.Linear.Act.{Read, Write}
use Rattle.block_phases.specs.Phases.{Keeps}
use Rattle.block_turns.specs.Turns.{operation, act_of, act_left}
use Rattle.block_turns.specs.Turns.{Turn, Moment, Standing, away_in, with_one, first_standing, standing_after, told_by, told, turns_of, to_write, written_in}
use Rattle.block_turns.specs.Strings.{LiesOnce, HasKept, IsSeen, NoClash}
use Rattle.block_turns.specs.Lives.{Takes, TakesAll, IsLife, renewed, first_kept}
use Rattle.block_phases.specs.Executions.{StampedValue, value_stored}
use Rattle.block_turns.specs.Turns.Turn.{Did, Left, Pruned, Changed, Gone, Back, Lost, Failed, Renewed}
use Rattle.block_turns.specs.Strings.IsValue.{zeros_value, to_be_written}
use Rattle.block_turns.specs.Strings.IsSeen.{sum_seen, fragment_seen, sum_kept, fragment_kept}
use Rattle.block_turns.specs.Laws.{LivesAreLinearizable, IsDone, AcknowledgedAreDone}
use Rattle.block_turns.proofs.KnownValues.{first_of, IsKnown, AreApart, IsState, one_value}
use Rattle.block_turns.proofs.Judging.{count_all, or_kept}
use Rattle.block_turns.proofs.Working.{IsSame, IsStoring, IsFresh, IsStage, IsEnd, comes_to, left_at}
use Rattle.block_turns.proofs.NextStates.{LyingSeen, stored_known, stored_new, stored_still, pruned_state, changed_state, lost_state, failed_state, renewed_state, back_state}
use Rattle.block_phases.proofs.lemmas.Executing.{comes_fewer, given_up_fewer}
use Rattle.block_turns.proofs.Placing.{IsPlaced, none_placed, placed_pending, placed_next, placed_then, placed_linear, parted}

-- a write that was never acknowledged, and the stamp that it stored, if it came to that
pub record Waiting : Type 0 where
  pub tag : Option Stamp
  pub op : Operation

heads : (x y : StampedValue) (xs ys : List StampedValue) → x ∷ xs ≡ y ∷ ys → x ≡ y
heads x y xs ys e = cc

left_same : (p : Stamp) (v value : List ℕ) → v ≡ value → (x : StampedValue) → Some (record { stamp = p; value = v }) ≡ Some x
    → ◌≡◌ {A = StampedValue} (record { stamp = p; value = value }) x
left_same p v value e x f =
    let g : ◌≡◌ {A = StampedValue} (record { stamp = p; value = v }) x = cc in
    ap (λ (u : List ℕ). record { stamp = p; value = u }) (sym e) ∙ g

pub neither : (a c : Bool) → a || c ≡ false → c ≡ false
neither true c h = absurd cc
neither false c h = h

first_of_two : {A B C : Type 0} → (A → B) → A × C → B × C
first_of_two f p = (f p.0, p.1)

abbrev pub ops : List Waiting → List Operation
ops ws = map (λ w. w.op) ws

-- the operation of the turn, if it was acknowledged, was done
abbrev pub IsDoneIn : Turn → Type 0
IsDoneIn (Did client work outcome) = IsDone work outcome
IsDoneIn _ = Unit {0}

-- so it is with turns from number k on, where there aren't too many
abbrev pub AreDone : ℕ → List Moment → Type 0
AreDone k life = k + length life < 2 ^ 64 - 1 → (m : Moment) → Contains life m → IsDoneIn m.turn

-- the operations from turn k on end no earlier
operation_ends : (block client start : ℕ) (end : Option ℕ) (act : Option Act) (o : Operation) → Contains (operation block client start end act) o
    → o.end ≡ end
operation_ends block client start end None o h = absurd (Contains-none o h)
operation_ends block client start end (Some act) o h =
    ap (λ (p : Operation). p.end) (Contains-one o (record { block = block; act = act; client = Some client; start = Some start; end = end }) h)

turn_later : (block k : ℕ) (turn : Turn) (o : Operation) → Contains (told_by block k turn) o → (e : ℕ) → o.end ≡ Some e → k ≤ e
turn_later block k (Did client work outcome) o h e f =
    let g : Some k ≡ Some e = sym (operation_ends block client k (Some k) (act_of work outcome) o h) ∙ f in
    let same : k ≡ e = cc in
    omega (arith, same)
turn_later block k (Left client work stored) o h e f =
    absurd (let g : None ≡ Some e = sym (operation_ends block client k None (act_left work) o h) ∙ f in cc)
turn_later block k (Pruned stamp) o h e f = absurd (Contains-none o h)
turn_later block k Changed o h e f = absurd (Contains-none o h)
turn_later block k (Gone node) o h e f = absurd (Contains-none o h)
turn_later block k (Back node) o h e f = absurd (Contains-none o h)
turn_later block k (Lost node) o h e f = absurd (Contains-none o h)
turn_later block k (Failed node) o h e f = absurd (Contains-none o h)
turn_later block k (Renewed node) o h e f = absurd (Contains-none o h)

told_later : (block : ℕ) (turns : List Turn) (k : ℕ) (o : Operation) → Contains (told block k turns) o → (e : ℕ) → o.end ≡ Some e → k ≤ e
told_later block [] k o h e f = absurd (Contains-none o h)
told_later block (turn ∷ turns) k o h e f =
    let rest = λ (there : Contains (told block (suc k) turns) o). (let l = told_later block turns (suc k) o there e f in let m : k ≤ e = omega (arith, l) in m) in
    elim (Contains-append_cases (told_by block k turn) (told block (suc k) turns) o h) [ inl a ↦ turn_later block k turn o a e f | inr a ↦ rest a ]

module _ (s : Setting) (good : IsValid s) (block : ℕ) (inside : block < s.blocks) (Seen : List ℕ → Type 0) (Ever : ℕ → Type 0)
    (apart : AreApart s Seen) where
  -- what is known before turn k
  pub record IsStanding (k : ℕ) (known : List StampedValue) (top : StampedValue) (waiting : List Waiting) (b : Standing) (old : Keeps) : Type 0 where
    pub state : IsState s Seen Ever known top b.lost b.lies k old
    pub prunes : (x : StampedValue) → Contains b.ended x → x.stamp ≼ top.stamp
    pub renews : (x : StampedValue) (earlier : List StampedValue) → b.ended ≡ x ∷ earlier → x ≡ top
    pub asks : (x : StampedValue) → b.asked ≡ Some x → Contains known x
    pub lates : (i : ℕ) (x : StampedValue) → Contains (b.late i) x → Contains known x
    pub waits : (w : Waiting) → Contains waiting w → (w.op.end ≡ None) × (j : ℕ) × (w.op.start ≡ Some j) × (j < k)
    pub due : (x : StampedValue) → Contains known x
        → (x.stamp ≼ top.stamp) ⊎ ((w : Waiting) × Contains waiting w × (w.tag ≡ Some x.stamp) × (w.op.act ≡ Write x.value))

  -- the strings of a value were seen
  abbrev pub ValueSeen : List ℕ → Type 0
  ValueSeen value = Seen (flat (s.sum_of value)) × ((i : ℕ) → i < s.n → Seen (s.fragment_of value i))

  -- ---- one turn, number k, and the operations after it

  module _ (k : ℕ) (rest : List Operation) (later : (o : Operation) → Contains rest o → (e : ℕ) → o.end ≡ Some e → k ≤ e)
      (known : List StampedValue) (top : StampedValue) (waiting : List Waiting) (b : Standing)
      (old : Keeps) (st : IsStanding k known top waiting b old) (new : Keeps) (lying : LyingSeen s good Seen Ever new) (Further : Type 0) where
    abbrev Again : Standing → Type 0
    Again b' =
        (known' : List StampedValue) (top' : StampedValue) (waiting' : List Waiting) → IsStanding (suc k) known' top' waiting' b' new
        → IsPlaced top'.value (ops waiting') rest × Further

    abbrev Placed : List Operation → Type 0
    Placed more = IsPlaced top.value (ops waiting) (more ++ rest) × Further

    there : (i : ℕ) → away_in b i ≡ false → b.lost i ≡ false
    there i h = neither (b.gone i) (b.lost i) h

    waits_on : (w : Waiting) → Contains waiting w → (w.op.end ≡ None) × (j : ℕ) × (w.op.start ≡ Some j) × (j < suc k)
    waits_on w there = let h = st.waits w there in (h.0, h.1, h.2, (let l = h.3 in omega (arith, l)))

    -- nothing that is to come ended before it
    not_before : (ws : List Waiting) → ((w : Waiting) → Contains ws w → w.op.end ≡ None)
        → (more : List Operation) → ((o : Operation) → Contains more o → (e : ℕ) → o.end ≡ Some e → k ≤ e)
        → (o : Operation) (j : ℕ) → o.start ≡ Some j → j ≤ k → (p : Operation) → Contains (ops ws ++ more) p → IsBefore p o → ⊥
    not_before ws unended more after o j starts low p there x =
        elim (Contains-append_cases (ops ws) more p there) [
          | inl h ↦ (
              let w = Contains-map_cases (λ (x : Waiting). x.op) ws p h in
              let e : None ≡ Some x.end = sym (unended w.0 w.1) ∙ ap (λ (q : Operation). q.end) (sym w.2) ∙ x.ended in
              absurd cc)
          | inr h ↦ (
              let l = after p h x.end x.ended in
              let f : Some j ≡ Some x.start = sym starts ∙ x.began in
              let same : j ≡ x.start = cc in
              let m = x.earlier in
              absurd (omega (arith, l, same, m, low)))
        ]

    ended_at : (o : Operation) → o.end ≡ Some k → (p : Operation) → Contains (o ∷ rest) p → (e : ℕ) → p.end ≡ Some e → k ≤ e
    ended_at o ends p there e f = elim (Contains-cons_cases p o rest there) [
      | inl same ↦ (
          let g : Some k ≡ Some e = sym ends ∙ ap (λ (q : Operation). q.end) (sym same) ∙ f in
          let h : k ≡ e = cc in
          omega (arith, h))
      | inr h ↦ later p h e f
    ]

    -- ---- nothing was done

    abbrev known_asked : Option StampedValue → Type 0
    known_asked asked = (x : StampedValue) → asked ≡ Some x → Contains known x

    abbrev known_late : (ℕ → List StampedValue) → Type 0
    known_late late = (i : ℕ) (x : StampedValue) → Contains (late i) x → Contains known x

    abbrev same_standing : (asked : Option StampedValue) (gone : ℕ → Bool) (late : ℕ → List StampedValue) (lost lies : ℕ → Bool)
        → known_asked asked → known_late late → IsState s Seen Ever known top lost lies (suc k) new
        → IsStanding (suc k) known top waiting (record b { asked = asked; gone = gone; late = late; lost = lost; lies = lies }) new
    same_standing asked gone late lost lies asks lates state =
        record { state = state; prunes = st.prunes; renews = st.renews; asks = asks; lates = lates; waits = waits_on; due = st.due }

    -- where only the state is another
    abbrev as_stands : IsState s Seen Ever known top b.lost b.lies (suc k) new → IsStanding (suc k) known top waiting b new
    as_stands state = same_standing b.asked b.gone b.late b.lost b.lies st.asks st.lates state

    -- what a node may take late is known, where it is nothing, or what the latest operation had stored as well
    no_late : (node : ℕ) → known_late (update b.late node [])
    no_late node i x there = elim (update-cases b.late node [] i) [
      | inl e ↦ absurd (Contains-none x (subst (λ (xs : List StampedValue). Contains xs x) e.1 there))
      | inr e ↦ st.lates i x (subst (λ (xs : List StampedValue). Contains xs x) e.1 there)
    ]

    more_late : (node : ℕ) → known_late (update b.late node (with_one b.asked (b.late node)))
    more_late node i x there = elim (update-cases b.late node (with_one b.asked (b.late node)) i) [
      | inl e ↦ at b.asked refl (subst (λ (xs : List StampedValue). Contains xs x) e.1 there)
      | inr e ↦ st.lates i x (subst (λ (xs : List StampedValue). Contains xs x) e.1 there)
    ]
      where
        at : (o : Option StampedValue) → b.asked ≡ o → Contains (with_one o (b.late node)) x → Contains known x
        at None f h = st.lates node x h
        at (Some y) f h = elim (Contains-cons_cases x y (b.late node) h) [
          | inl e ↦ subst (λ (z : StampedValue). Contains known z) (sym e) (st.asks y f)
          | inr a ↦ st.lates node x a
        ]

    none_asked : known_asked None
    none_asked x e = absurd cc

    same_state : IsSame s good Seen Ever apart known top b.lost b.lies k old st.state new → IsState s Seen Ever known top b.lost b.lies (suc k) new
    same_state same = changed_state s good Seen Ever apart known top b.lost b.lies k old st.state new lying (λ i l. inr (inr (same i l)))

    -- ---- a read gave this

    module _ (client : ℕ) (p : Stamp) (v : List ℕ) (h : IsEnd s good Seen Ever apart known top b.lost b.lies k old st.state Reads (Gave p v Rattle.run_words.specs.declared.outcome.How.TheVariants.Plain 0) new)
        (again : Again (record b { ended = record { stamp = p; value = v } ∷ b.ended; asked = Some (record { stamp = p; value = v }) })) where
      abbrev given : StampedValue
      given = record { stamp = p; value = v }

      abbrev reading : Operation
      reading = record { block = block; act = Read v; client = Some client; start = Some k; end = Some k }

      given_state : IsState s Seen Ever known given b.lost b.lies (suc k) new
      given_state = stored_known s good Seen Ever apart known top b.lost b.lies k old st.state new lying given h.1 h.2 given h.1 h.3

      given_standing : (ws : List Waiting) → ((w : Waiting) → Contains ws w → Contains waiting w)
          → ((x : StampedValue) → Contains known x
          → (x.stamp ≼ p) ⊎ ((w : Waiting) × Contains ws w × (w.tag ≡ Some x.stamp) × (w.op.act ≡ Write x.value)))
          → IsStanding (suc k) known given ws (record b { ended = given ∷ b.ended; asked = Some given }) new
      given_standing ws fewer due = record {
        state = given_state;
        prunes = λ x there. elim (Contains-cons_cases x given b.ended there) [
          | inl e ↦ subst (λ (t : Stamp). t ≼ p) (ap (λ (y : StampedValue). y.stamp) (sym e)) (≼-refl p)
          | inr a ↦ ≼-trans x.stamp top.stamp p (st.prunes x a) h.0
        ];
        renews = λ x earlier e. sym (heads given x b.ended earlier e);
        asks = λ x e. (let f : given ≡ x = cc in subst (λ (y : StampedValue). Contains known y) f h.1);
        lates = st.lates;
        waits = λ w there. waits_on w (fewer w there);
        due = due;
      }

      -- it is what ended last
      read_again : top.stamp ≡ p → Placed (reading ∷ [])
      read_again same =
          let value : top.value ≡ v =
          one_value s good Seen apart top given (st.state.of_known top st.state.top_known) (st.state.of_known given h.1) same in
          first_of_two (placed_next reading top.value v (ops waiting) rest (sym value) value
          (not_before waiting (λ w there. (st.waits w there).0) rest later reading k refl (let l : k ≤ k = omega arith in l)))
          (again known given waiting (given_standing waiting (λ w there. there) (λ x there. elim (st.due x there) [
            | inl low ↦ inl (subst (λ (t : Stamp). x.stamp ≼ t) same low)
            | inr w ↦ inr w
          ])))

      -- it is a write that hadn't ended
      read_first : before top.stamp p ≡ true → Placed (reading ∷ [])
      read_first above = elim (st.due given h.1) [
        | inl low ↦ absurd (not_both top.stamp p above low)
        | inr w ↦ (
            let r = parted waiting w.0 w.1 in
            by w.0 w.1 w.2 w.3 r.0 r.1 r.2)
      ]
        where
          by : (w : Waiting) → Contains waiting w → w.tag ≡ Some p → w.op.act ≡ Write v → (front back : List Waiting) → waiting ≡ front ++ w ∷ back
              → Placed (reading ∷ [])
          by w there tag act front back e =
              let r = again known given (front ++ back) (given_standing (front ++ back) fewer still_due) in (
                subst (λ (os : List Operation). IsPlaced top.value os (reading ∷ rest))
                    (sym (map-append (λ (x : Waiting). x.op) front (w ∷ back)) ∙ sym (ap ops e))
                    (placed_then w.op top.value v (ops front) (ops back) (reading ∷ rest)
                    (subst (λ (a : Act). gives a top.value) (sym act) tt)
                    (subst (λ (a : Act). value_after a top.value ≡ v) (sym act) refl)
                    (λ q in_rest. not_before (front ++ back) (λ x y. (st.waits x (fewer x y)).0) (reading ∷ rest) (ended_at reading refl) w.op begun.1 begun.2
                    (let l = begun.3 in omega (arith, l)) q
                    (subst (λ (os : List Operation). Contains (os ++ reading ∷ rest) q) (sym both_parts) in_rest))
                    (placed_next reading v v (ops front ++ ops back) rest refl refl
                    (λ q in_rest. not_before (front ++ back) (λ x y. (st.waits x (fewer x y)).0) rest later reading k refl (let l : k ≤ k = omega arith in l) q
                    (subst (λ (os : List Operation). Contains (os ++ rest) q) (sym both_parts) in_rest))
                    (subst (λ (os : List Operation). IsPlaced v os rest) both_parts
                    r.0))),
                r.1,
              )
            where
              begun : (w.op.end ≡ None) × (j : ℕ) × (w.op.start ≡ Some j) × (j < k)
              begun = st.waits w there

              both_parts : ops (front ++ back) ≡ ops front ++ ops back
              both_parts = map-append (λ (x : Waiting). x.op) front back

              fewer : (x : Waiting) → Contains (front ++ back) x → Contains waiting x
              fewer x y = subst (λ (ws : List Waiting). Contains ws x) (sym e) (elim (Contains-append_cases front back x y) [
                | inl a ↦ Contains-append_left front (w ∷ back) x a
                | inr a ↦ Contains-append_right front (w ∷ back) x (Contains-rest x w back a)
              ])

              still_due : (x : StampedValue) → Contains known x
                  → (x.stamp ≼ p) ⊎ ((z : Waiting) × Contains (front ++ back) z × (z.tag ≡ Some x.stamp) × (z.op.act ≡ Write x.value))
              still_due x is_known = elim (st.due x is_known) [
                | inl low ↦ inl (≼-trans x.stamp top.stamp p low h.0)
                | inr z ↦ elim (Contains-append_cases front (w ∷ back) z.0 (subst (λ (ws : List Waiting). Contains ws z.0) e z.1)) [
                  | inl a ↦ inr (z.0, Contains-append_left front back z.0 a, z.2, z.3)
                  | inr a ↦ elim (Contains-cons_cases z.0 w back a) [
                    | inl same ↦ inl (
                        let f : Some p ≡ Some x.stamp = sym tag ∙ ap (λ (y : Waiting). y.tag) (sym same) ∙ z.2 in
                        let g : p ≡ x.stamp = cc in
                        subst (λ (t : Stamp). t ≼ p) g (≼-refl p))
                    | inr a ↦ inr (z.0, Contains-append_right front back z.0 a, z.2, z.3)
                  ]
                ]
              ]

      read_placed : Placed (reading ∷ [])
      read_placed = elim (≼-cases top.stamp p h.0) [ inl above ↦ read_first above | inr same ↦ read_again same ]

    -- ---- a write

    module _ (client : ℕ) (value : List ℕ) (fits : IsBlock s value) (seen : ValueSeen value) where
      abbrev written : Stamp → StampedValue
      written p = record { stamp = p; value = value }

      written_known : (p : Stamp) → IsFresh s good Seen Ever apart known top b.lost b.lies k old st.state value p value → IsKnown s Seen (written p)
      written_known p h = record { block = fits; sound = h.sound; time = inl h.time; sum = seen.0; fragments = seen.1 }

      -- it ended
      write_placed : (p : Stamp) → IsEnd s good Seen Ever apart known top b.lost b.lies k old st.state (Writes value) (Wrote p) new
          → Again (record b { ended = written p ∷ b.ended; asked = Some (written p) })
          → Placed (record { block = block; act = Write value; client = Some client; start = Some k; end = Some k } ∷ [])
      write_placed p h again =
          first_of_two (placed_next (record { block = block; act = Write value; client = Some client; start = Some k; end = Some k }) top.value value (ops waiting) rest tt refl
          (not_before waiting (λ w there. (st.waits w there).0) rest later
          (record { block = block; act = Write value; client = Some client; start = Some k; end = Some k }) k refl (let l : k ≤ k = omega arith in l)))
          (again (written p ∷ known) (written p) waiting (record {
            state = stored_new s good Seen Ever apart known top b.lost b.lies k old st.state new lying (written p) (written_known p h.0) h.0.low h.1 (written p)
                (Contains-head (written p) known) h.2;
            prunes = λ x there. elim (Contains-cons_cases x (written p) b.ended there) [
              | inl e ↦ subst (λ (t : Stamp). t ≼ p) (ap (λ (y : StampedValue). y.stamp) (sym e)) (≼-refl p)
              | inr a ↦ ≼-trans x.stamp top.stamp p (st.prunes x a) (before-≼ top.stamp p h.0.later)
            ];
            renews = λ x earlier e. sym (heads (written p) x b.ended earlier e);
            asks = λ x e. (let f : written p ≡ x = cc in subst (λ (y : StampedValue). Contains (written p ∷ known) y) f (Contains-head (written p) known));
            lates = λ i x there. Contains-rest x (written p) known (st.lates i x there);
            waits = waits_on;
            due = λ x there. elim (Contains-cons_cases x (written p) known there) [
              | inl e ↦ inl (subst (λ (t : Stamp). t ≼ p) (ap (λ (y : StampedValue). y.stamp) (sym e)) (≼-refl p))
              | inr a ↦ elim (st.due x a) [
                | inl low ↦ inl (≼-trans x.stamp top.stamp p low (before-≼ top.stamp p h.0.later))
                | inr w ↦ inr w
              ]
            ];
          }))

      -- it was never acknowledged
      abbrev writing : Operation
      writing = record { block = block; act = Write value; client = Some client; start = Some k; end = None }

      abbrev waiting_with : Option Stamp → List Waiting
      waiting_with tag = record { tag = tag; op = writing } ∷ waiting

      waits_with : (tag : Option Stamp) (w : Waiting) → Contains (waiting_with tag) w
          → (w.op.end ≡ None) × (j : ℕ) × (w.op.start ≡ Some j) × (j < suc k)
      waits_with tag w there = elim (Contains-cons_cases w (record { tag = tag; op = writing }) waiting there) [
        | inl e ↦ (ap (λ (x : Waiting). x.op.end) e, k, ap (λ (x : Waiting). x.op.start) e, omega arith)
        | inr a ↦ waits_on w a
      ]

      due_with : (tag : Option Stamp) (x : StampedValue) → Contains known x
          → (x.stamp ≼ top.stamp) ⊎ ((w : Waiting) × Contains (waiting_with tag) w × (w.tag ≡ Some x.stamp) × (w.op.act ≡ Write x.value))
      due_with tag x there = elim (st.due x there) [
        | inl low ↦ inl low
        | inr w ↦ inr (w.0, Contains-rest w.0 (record { tag = tag; op = writing }) waiting w.1, w.2, w.3)
      ]

      left_placed : (stage : Stage) → IsStage s good Seen Ever apart known top b.lost b.lies k old st.state (Writes value) stage new → Again (record b { asked = value_stored stage }) → Placed (writing ∷ [])
      left_placed Times h again =
          first_of_two (placed_pending writing top.value (ops waiting) rest) (again known top (waiting_with None) (record {
            state = same_state h;
            prunes = st.prunes;
            renews = st.renews;
            asks = none_asked;
            lates = st.lates;
            waits = waits_with None;
            due = due_with None;
          }))
      left_placed (Storing p v) h again =
          let fresh = subst (λ (u : List ℕ). IsFresh s good Seen Ever apart known top b.lost b.lies k old st.state value p u) h.0.same h.0 in
          let stored = subst (λ (u : List ℕ). IsStoring s good Seen Ever apart known top b.lost b.lies k old st.state (record { stamp = p; value = u }) new) h.0.same h.1 in
          first_of_two (placed_pending writing top.value (ops waiting) rest) (again (written p ∷ known) top (waiting_with (Some p)) (record {
            state = stored_new s good Seen Ever apart known top b.lost b.lies k old st.state new lying (written p) (written_known p fresh) fresh.low stored top
                (Contains-rest top (written p) known st.state.top_known)
                (stored_still s good Seen Ever apart known top b.lost b.lies k old st.state new lying (written p) stored);
            prunes = st.prunes;
            renews = st.renews;
            asks = λ x e. (let f : written p ≡ x = left_same p v value h.0.same x e in
                subst (λ (y : StampedValue). Contains (written p ∷ known) y) f (Contains-head (written p) known));
            lates = λ i x there. Contains-rest x (written p) known (st.lates i x there);
            waits = waits_with (Some p);
            due = λ x there. elim (Contains-cons_cases x (written p) known there) [
              | inl e ↦ inr (
                record { tag = Some p; op = writing },
                Contains-head (record { tag = Some p; op = writing }) waiting,
                ap (λ (y : StampedValue). Some y.stamp) (sym e),
                ap (λ (y : StampedValue). Write y.value) (sym e),
              )
              | inr a ↦ due_with (Some p) x a
            ];
          }))
      left_placed (Versions bound) h again = absurd h

    left_read : (stage : Stage) → IsStage s good Seen Ever apart known top b.lost b.lies k old st.state Reads stage new → Again (record b { asked = value_stored stage }) → Placed []
    left_read Times h again = absurd h
    left_read (Versions bound) h again = again known top waiting (same_standing None b.gone b.late b.lost b.lies none_asked st.lates (same_state h.0))
    left_read (Storing p v) h again =
        again known top waiting (same_standing (Some (record { stamp = p; value = v })) b.gone b.late b.lost b.lies
        (λ x e. (let f : ◌≡◌ {A = StampedValue} (record { stamp = p; value = v }) x = cc in subst (λ (y : StampedValue). Contains known y) f h.1)) st.lates
        (stored_known s good Seen Ever apart known top b.lost b.lies k old st.state new lying (record { stamp = p; value = v }) h.1 h.2 top
        st.state.top_known (stored_still s good Seen Ever apart known top b.lost b.lies k old st.state new lying (record { stamp = p; value = v }) h.2)))

    did_placed : (client : ℕ) (work : Work) (outcome : Outcome) → Fits s work → ((value : List ℕ) → to_write work ≡ Some value → ValueSeen value)
        → IsEnd s good Seen Ever apart known top b.lost b.lies k old st.state work outcome new
        → Again (standing_after b (Did client work outcome)) → Placed (told_by block k (Did client work outcome))
    did_placed client Reads (Gave p v how rounds) fits seen h again = read_placed client p v h again
    did_placed client Reads (Outvoted nodes) fits seen h again = absurd h
    did_placed client Reads (Wrote p) fits seen h again = absurd h
    did_placed client Reads Spent fits seen h again = absurd h
    did_placed client (Writes value) (Wrote p) fits seen h again = write_placed client value fits (seen value refl) p h again
    did_placed client (Writes value) Spent fits seen h again =
        again known top waiting (same_standing None b.gone b.late b.lost b.lies none_asked st.lates (same_state h.0))
    did_placed client (Writes value) (Gave p v how rounds) fits seen h again = absurd h
    did_placed client (Writes value) (Outvoted nodes) fits seen h again = absurd h

    pub turn_placed : (turn : Turn) → Takes s block b old turn new → ((value : List ℕ) → written_in turn ≡ Some value → ValueSeen value)
        → ((node : ℕ) → turn ≡ Failed node → Ever node) → Again (standing_after b turn) → Placed (told_by block k turn)
    turn_placed (Did client work outcome) takes seen fails again =
        did_placed client work outcome takes.0 seen
        (comes_to s good Seen Ever apart known top b.lost b.lies k old st.state block inside client work outcome new
        (comes_fewer s (away_in b) b.lost there block client work outcome old new takes.1)) again
    turn_placed (Left client Reads stored) takes seen fails again =
        let h = left_at s good Seen Ever apart known top b.lost b.lies k old st.state block inside client Reads stored new
        (given_up_fewer s (away_in b) b.lost there block client Reads stored old new takes.1) in
        left_read h.0 h.1 (subst (λ (o : Option StampedValue). Again (record b { asked = o })) (sym h.2) again)
    turn_placed (Left client (Writes value) stored) takes seen fails again =
        let h = left_at s good Seen Ever apart known top b.lost b.lies k old st.state block inside client (Writes value) stored new
        (given_up_fewer s (away_in b) b.lost there block client (Writes value) stored old new takes.1) in
        left_placed client value takes.0 (seen value refl) h.0 h.1 (subst (λ (o : Option StampedValue). Again (record b { asked = o })) (sym h.2) again)
    turn_placed (Pruned stamp) takes seen fails again =
        again known top waiting (as_stands (pruned_state s good Seen Ever apart known top b.lost b.lies k old st.state new lying stamp
        (subst (λ (t : Stamp). t ≼ top.stamp) takes.2 (st.prunes takes.0 takes.1)) takes.3))
    turn_placed Changed takes seen fails again =
        again known top waiting (as_stands (changed_state s good Seen Ever apart known top b.lost b.lies k old st.state new lying takes))
    turn_placed (Gone node) takes seen fails again =
        again known top waiting (same_standing b.asked (update b.gone node true) (update b.late node (with_one b.asked (b.late node))) b.lost b.lies
        st.asks (more_late node) (same_state takes))
    turn_placed (Back node) takes seen fails again =
        again known top waiting (same_standing b.asked (update b.gone node false) (update b.late node []) b.lost b.lies st.asks (no_late node)
        (back_state s good Seen Ever apart known top b.lost b.lies k old st.state new lying node (b.late node) (st.lates node) takes.1 takes.2))
    turn_placed (Lost node) takes seen fails again =
        again known top waiting (same_standing b.asked (update b.gone node false) (update b.late node []) (update b.lost node true) b.lies st.asks (no_late node)
        (lost_state s good Seen Ever apart known top b.lost b.lies k old st.state new lying node takes))
    turn_placed (Failed node) takes seen fails again =
        again known top waiting (same_standing b.asked b.gone b.late b.lost (update b.lies node true) st.asks st.lates (failed_state s good Seen Ever apart known top b.lost b.lies k old st.state
        new lying node takes.0 (fails node refl) takes.1))
    turn_placed (Renewed node) takes seen fails again =
        again known top waiting (same_standing b.asked (update b.gone node false) (update b.late node []) (update b.lost node false) (update b.lies node false) st.asks (no_late node)
        (renewed_state s good Seen Ever apart known top b.lost b.lies k old st.state new lying node
        (subst (λ (x : StampedValue). new node ≡ renewed s x node) (st.renews takes.0 takes.1 takes.2) takes.3) takes.4))

    -- what was acknowledged was done
    outcome_done : (work : Work) (outcome : Outcome) → IsEnd s good Seen Ever apart known top b.lost b.lies k old st.state work outcome new
        → k < 2 ^ 64 - 1 → IsDone work outcome
    outcome_done Reads (Gave p v how rounds) h few = tt
    outcome_done Reads (Outvoted nodes) h few = absurd h
    outcome_done Reads (Wrote p) h few = absurd h
    outcome_done Reads Spent h few = absurd h
    outcome_done (Writes value) (Wrote p) h few = tt
    outcome_done (Writes value) Spent h few = absurd (let l = h.1 in omega (arith, l, few))
    outcome_done (Writes value) (Gave p v how rounds) h few = absurd h
    outcome_done (Writes value) (Outvoted nodes) h few = absurd h

    turn_done : (turn : Turn) → Takes s block b old turn new → k < 2 ^ 64 - 1 → IsDoneIn turn
    turn_done (Did client work outcome) takes few =
        outcome_done work outcome (comes_to s good Seen Ever apart known top b.lost b.lies k old st.state block inside client work outcome new
        (comes_fewer s (away_in b) b.lost there block client work outcome old new takes.1)) few
    turn_done (Left client work stored) takes few = tt
    turn_done (Pruned stamp) takes few = tt
    turn_done Changed takes few = tt
    turn_done (Gone node) takes few = tt
    turn_done (Back node) takes few = tt
    turn_done (Lost node) takes few = tt
    turn_done (Failed node) takes few = tt
    turn_done (Renewed node) takes few = tt

  -- ---- all turns

  pub rest_placed : (life : List Moment) (k : ℕ) (known : List StampedValue) (top : StampedValue) (waiting : List Waiting) (b : Standing) (old : Keeps)
      → ((m : Moment) (value : List ℕ) → Contains life m → written_in m.turn ≡ Some value → ValueSeen value)
      → ((m : Moment) → Contains life m → LyingSeen s good Seen Ever m.kept)
      → ((m : Moment) (node : ℕ) → Contains life m → m.turn ≡ Failed node → Ever node)
      → IsStanding k known top waiting b old → TakesAll s block b old life
      → IsPlaced top.value (ops waiting) (told block k (turns_of life)) × AreDone k life
  rest_placed [] k known top waiting b old values keeping failing st takes = (
    none_placed top.value (ops waiting) (λ o there.
        let w = Contains-map_cases (λ (x : Waiting). x.op) waiting o there in
        ap (λ (q : Operation). q.end) w.2 ∙ (st.waits w.0 w.1).0),
    λ few m there. absurd (Contains-none m there),
  )
  rest_placed (m ∷ life) k known top waiting b old values keeping failing st takes =
      let later = λ (o : Operation) (there : Contains (told block (suc k) (turns_of life)) o) (e : ℕ) (f : o.end ≡ Some e).
      (let l = told_later block (turns_of life) (suc k) o there e f in let n : k ≤ e = omega (arith, l) in n) in
      let r = turn_placed k (told block (suc k) (turns_of life)) later
      known top waiting b old st m.kept (keeping m (Contains-head m life)) (AreDone (suc k) life) m.turn takes.0 (λ value e. values m value (Contains-head m life) e)
      (λ node e. failing m node (Contains-head m life) e)
      (λ known' top' waiting' st'.
      rest_placed life (suc k) known' top' waiting' (standing_after b m.turn) m.kept
      (λ x value there e. values x value (Contains-rest x m life there) e) (λ x there. keeping x (Contains-rest x m life there))
      (λ x node there e. failing x node (Contains-rest x m life there) e) st' takes.1) in (
        r.0,
        λ few x there. elim (Contains-cons_cases x m life there) [
          | inl e ↦ subst (λ (y : Moment). IsDoneIn y.turn) (sym e)
              (turn_done k (told block (suc k) (turns_of life)) later known top waiting b old st m.kept (keeping m (Contains-head m life))
              (AreDone (suc k) life) m.turn takes.0 (omega (arith, few)))
          | inr a ↦ r.1 (omega (arith, few)) x a
        ],
      )

  -- ---- before anything was done

  module _ (seen : ValueSeen (zeros s)) (declared : (i : ℕ) → s.lying_node i ≡ true → Ever i) where
    first_known : IsKnown s Seen (first_of s)
    first_known = record { block = zeros_block s; sound = refl; time = inr refl; sum = seen.0; fragments = seen.1 }

    first_state : IsState s Seen Ever (first_of s ∷ []) (first_of s) (λ i. false) s.lying_node 0 (first_kept s)
    first_state = record {
      of_known = λ x there. subst (λ (y : StampedValue). IsKnown s Seen y) (sym (Contains-one x (first_of s) there)) first_known;
      first_known = Contains-head (first_of s) [];
      top_known = Contains-head (first_of s) [];
      low = λ x there. (let e : x.stamp.time ≡ 0 = ap (λ (y : StampedValue). y.stamp.time) (Contains-one x (first_of s) there) in omega (arith, e));
      few = good.liars;
      ever = declared;
      grounded = λ i v l h here k. (first_of s, Contains-head (first_of s) [], Contains-one v (first_version s i) k);
      first = λ i l h here. keeps-Contains (first_version s i ∷ []) (first_version s i) (Contains-head (first_version s i) []);
      complete = (
          let all = count_all s.n (λ i. s.lying_node i || (false || keeps (first_version s i ∷ []) (first_stamp s))) each in
          omega (arith, all, good.quorum_high));
      lying = λ i v l lies k whole. (
          let e = Contains-one v (first_version s i) k in
          (subst (λ (u : Version). Seen (flat u.sum)) (sym e) seen.0, subst (λ (u : Version). Seen u.fragment) (sym e) (seen.1 i l)));
    }
      where
        each : (i : ℕ) → i < s.n → s.lying_node i || (false || keeps (first_version s i ∷ []) (first_stamp s)) ≡ true
        each i l =
            or_kept (s.lying_node i) _ (keeps-Contains (first_version s i ∷ []) (first_version s i) (Contains-head (first_version s i) []))

    pub stands_first : IsStanding 0 (first_of s ∷ []) (first_of s) [] (first_standing s) (first_kept s)
    stands_first = record {
      state = first_state;
      prunes = λ x there. absurd (Contains-none x there);
      renews = λ x earlier e. absurd cc;
      asks = λ x e. absurd cc;
      lates = λ i x there. absurd (Contains-none x there);
      waits = λ w there. absurd (Contains-none w there);
      due = λ x there. inl (
          let e : first_stamp s ≡ x.stamp = ap (λ (y : StampedValue). y.stamp) (sym (Contains-one x (first_of s) there)) in
          subst (λ (t : Stamp). t ≼ first_stamp s) e (≼-refl (first_stamp s)));
    }

module _ (s : Setting) (good : IsValid s) (block : ℕ) (life : List Moment) (is : IsLife s block life) (apart : NoClash s life) where
  whole_placed : IsPlaced (zeros s) [] (told block 0 (turns_of life)) × AreDone 0 life
  whole_placed =
      rest_placed s good block is.there (IsSeen s life) (LiesOnce s life) apart life 0 (first_of s ∷ []) (first_of s) [] (first_standing s)
      (first_kept s)
      (λ m value there e. (sum_seen (to_be_written there e), λ i l. fragment_seen (to_be_written there e) l))
      (λ m there i v l lies k whole.
      let has : HasKept s life i v = record { moment = m; there = there; below = l; lies = lies; kept = k; whole = whole } in
      (sum_kept has, fragment_kept has))
      (λ m node there e. inr (m, there, e))
      (stands_first s good block is.there (IsSeen s life) (LiesOnce s life) apart (sum_seen zeros_value, λ i l. fragment_seen zeros_value l)
      (λ i lies. inl lies))
      is.takes

pub lives_linear : (s : Setting) → IsValid s → LivesAreLinearizable s
lives_linear s good block life is apart = placed_linear (zeros s) (told block 0 (turns_of life)) (whole_placed s good block life is apart).0

pub acknowledged_done : (s : Setting) → IsValid s → AcknowledgedAreDone s
acknowledged_done s good block life is apart few m there client work outcome e =
    subst IsDoneIn e ((whole_placed s good block life is apart).1 (omega (arith, few)) m there)
