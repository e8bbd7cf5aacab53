-- A store's life goes on: over calls, crashes, lost and rebuilt nodes, and from one session to the next.
use Rattle.std.proofs.Common.{◌≡◌, inl, inr, ℕ, ◌<◌, ◌≤◌, Bool, true, false, cond, not, eqb, List, [], ◌∷◌, ◌++◌, Option, Some, None, refl, sym, ◌∙◌, ap, subst, arith, append_assoc}
use Rattle.std.proofs.lemmas.Bool.{cases_Bool, cases_lt, cases_eq, eqb-true, eq-eqb}
use Rattle.std.proofs.lemmas.List.{append-nil, get_or_past}
use Rattle.quorum_rules.specs.Limits.{Numbers, IsValid}
use Rattle.protocol.specs.Count.{count, update}
use Rattle.protocol.specs.Instance.{setting}
use Rattle.protocol.specs.Messages.{Version}
use Rattle.disk_model.specs.Crash.{Pending}
use Rattle.node_core.specs.Seen.{SeenNode, versions_in}
use Rattle.version_disk.specs.Stored.{Stored}
use Rattle.version_disk.specs.declared.prune.Prune.{Prune}
use Rattle.block_phases.specs.Phases.{Keeps}
use Rattle.block_phases.specs.Executions.{StampedValue}
use Rattle.block_turns.specs.Turns.{Standing, away_in, standing_after}
use Rattle.block_turns.specs.Turns.Turn.{Changed as ChangedThere, Failed as FailedThere, Renewed as RenewedThere}
use Rattle.block_turns.specs.Lives.{Takes as TakesThere, HasTaken, renewed}
use Rattle.store_device.specs.Stores.{SeenStore, Nodes, IsSound, IsStore, IsFound, IsLeft, kept_at, kept_in, seat_at, down_in, is_up}
use Rattle.store_device.specs.Told.{IsTold, kept_of, untold}
use Rattle.store_device.specs.Lives.{Turn, Moment, IsBatch, IsWhole, KeepAlike, turn_on, nodes_of, first_nodes, standing_on}
use Rattle.store_device.specs.Lives.Turn.{Performed, Pruned, Changed, Gone, Back, Lost, Failed, Renewed}
use Rattle.store_device.specs.Calls.{Deed, Acknowledged, ArePruned, HasDone, StaysStore, MayDo, MayDoAll, MayPrune, RemembersOnly, AreTurnsBy, IsTurnBy, IsTurnCut, given_after, given_on, told_each}
use Rattle.store_device.specs.Calls.Deed.{Performs, Prunes}
use Rattle.store_device.specs.Seating.{IsReseatedAt, IsReseated}
use Rattle.store_device.specs.Steps.{Step, StepsLead, AreFound, calls_among, gone_after}
use Rattle.store_device.specs.Steps.Step.{Called, Reseated}
use Rattle.store_device.specs.Sessions.{given_in, IsPresent, HasLived, LivesBegin, NodesAreLost, NodesAreRebuilt, NodesAreGone, NodesAreBack, NodesFail, NodesAreChanged, HasComeTo, StoresOpen, StoresAreLeft, StepsAreLives, CrashesAreLives, CallsKeepPresent}
use Rattle.store_device.proofs.Stamps.{call_remembers, may_alike}
use Rattle.store_device.proofs.Calling.{alike_back, alike_on, found_is_kept, found_same}
use Rattle.store_device.proofs.LifeOnBlocks.{KeptOf, kept_end, kept_is, nodes_append, one_more, standing_more, batch, prune, given_batch, given_prune, away_batch, away_prune, lengths}

module _ (c : Numbers) where
  -- one moment more: where nodes kept what the life had come to, and each block may take the turn
  pub lived_more : (life : List Moment) (old : Nodes) (m : Moment) → HasLived c life old → IsWhole c m.turn
      → ((block : ℕ) → block < c.blocks → (kept : Keeps) → KeptOf c block kept old
      → TakesThere (setting c) block (standing_on c block life) kept (turn_on block m.turn) (kept_of m.nodes block))
      → HasLived c (life ++ m ∷ []) m.nodes
  lived_more life old m has whole takes = record {
    lived = one_more c life m has.lived whole
        (λ block there. takes block there (kept_end c block life)
        (λ i l. kept_is c block there life i l ∙ has.alike i block l));
    alike = subst (λ (nodes : Nodes). KeepAlike c nodes m.nodes) (sym (nodes_append (first_nodes c) life (m ∷ []))) (λ i block l. refl);
  }

  pub lives_begin : LivesBegin c
  lives_begin first alike = record {
    lived = record { whole = tt; each = λ block there. record { there = there; takes = tt } };
    alike = alike;
  }

  -- nodes that keep the same
  pub lived_alike : (life : List Moment) (old new : Nodes) → HasLived c life old → KeepAlike c old new → HasLived c life new
  lived_alike life old new has same = record { lived = has.lived; alike = alike_on c (nodes_of c life) old new has.alike same }

  pub nodes_lost : NodesAreLost c
  nodes_lost life old new node has others =
      lived_more life old (record { turn = Lost node; nodes = new }) has tt
      (λ block there kept same i l other. others i block l other ∙ sym (same i l))

  pub nodes_rebuilt : NodesAreRebuilt c
  nodes_rebuilt life old new block node x earlier has there given is rest others =
      let m : Moment = record { turn = Renewed block node; nodes = new } in (
        lived_more life old m has tt takes,
        ap (λ (b : Standing). away_in b node) (standing_more c block life (m ∷ [])) ∙ present (standing_on c block life),
      )
    where
      present : (b : Standing) → away_in (standing_after b (turn_on block (Renewed block node))) node ≡ false
      present b =
          ap (λ (t : Bool). away_in (standing_after b (cond t (RenewedThere node) ChangedThere)) node) (eq-eqb block block refl)
          ∙ there_again (eqb node node) (eq-eqb node node refl)
        where
          there_again : (t : Bool) → t ≡ true → away_in (standing_after b (RenewedThere node)) node ≡ false
          there_again t e = renewed_here b
            where
              renewed_here : (b : Standing) → away_in (standing_after b (RenewedThere node)) node ≡ false
              renewed_here b = rw (eq-eqb node node refl) refl

      here : (other : ℕ) → block ≡ other → other < c.blocks → (kept : Keeps) → KeptOf c other kept old
          → TakesThere (setting c) other (standing_on c other life) kept (RenewedThere node) (kept_of new other)
      here other e below kept same = (
        x,
        earlier,
        subst (λ (b : ℕ). given_in c life b ≡ x ∷ earlier) e given,
        subst (λ (b : ℕ). versions_in (new node) b ≡ renewed (setting c) x node) e is,
        λ i l apart. others i other l apart ∙ sym (same i l),
      )

      elsewhere : (other : ℕ) → (other ≡ block → ⊥) → (kept : Keeps) → KeptOf c other kept old
          → TakesThere (setting c) other (standing_on c other life) kept ChangedThere (kept_of new other)
      elsewhere other apart kept same i l = inr (inr (elim (cases_eq i node) [
        | inl e ↦ subst (λ (j : ℕ). versions_in (new j) other ≡ versions_in (old j) other) (sym e) (rest other apart) ∙ sym (same i l)
        | inr n ↦ others i other l n ∙ sym (same i l)
      ]))

      takes : (other : ℕ) → other < c.blocks → (kept : Keeps) → KeptOf c other kept old
          → TakesThere (setting c) other (standing_on c other life) kept (turn_on other (Renewed block node)) (kept_of new other)
      takes other below kept same = at (eqb block other) refl
        where
          at : (t : Bool) → eqb block other ≡ t
              → TakesThere (setting c) other (standing_on c other life) kept (cond t (RenewedThere node) ChangedThere) (kept_of new other)
          at true e = here other (eqb-true block other e) below kept same
          at false e = elsewhere other (λ q. let k = eq-eqb block other (sym q) in cc) kept same

  pub nodes_gone : NodesAreGone c
  nodes_gone life kept node has =
      lived_more life kept (record { turn = Gone node; nodes = kept }) has tt (λ block there now same i l. sym (same i l))

  pub nodes_back : NodesAreBack c
  nodes_back life old new node has below taken others =
      lived_more life old (record { turn = Back node; nodes = new }) has tt (λ block there now same.
      (let h = taken block there in (
        h.0,
        subst (λ (vs : List Version). HasTaken (setting c) ((standing_on c block life).late node) node vs (versions_in (new node) block)) (sym (same node below)) h.1,
        λ i l other. others i block l other ∙ sym (same i l),
      )))

  pub nodes_fail : NodesFail c
  nodes_fail life kept block node has there few =
      lived_more life kept (record { turn = Failed block node; nodes = kept }) has tt takes
    where
      here : (other : ℕ) → block ≡ other → (now : Keeps) → KeptOf c other now kept
          → TakesThere (setting c) other (standing_on c other life) now (FailedThere node) (kept_of kept other)
      here other e now same = (
        subst (λ (b : ℕ). count c.n (update (standing_on c b life).lies node true) ≤ c.b) e few,
        λ i l apart. sym (same i l),
      )

      takes : (other : ℕ) → other < c.blocks → (now : Keeps) → KeptOf c other now kept
          → TakesThere (setting c) other (standing_on c other life) now (turn_on other (Failed block node)) (kept_of kept other)
      takes other below now same = at (eqb block other) refl
        where
          at : (t : Bool) → eqb block other ≡ t
              → TakesThere (setting c) other (standing_on c other life) now (cond t (FailedThere node) ChangedThere) (kept_of kept other)
          at true e = here other (eqb-true block other e) now same
          at false e = λ i l. inr (inr (sym (same i l)))

  pub nodes_changed : NodesAreChanged c
  nodes_changed life old new has changed =
      lived_more life old (record { turn = Changed; nodes = new }) has tt
      (λ block there now same i l. elim (changed block i there l) [
        | inl lies ↦ inl lies
        | inr rest ↦ elim rest [ inl lost ↦ inr (inl lost) | inr stays ↦ inr (inr (stays ∙ sym (same i l))) ]
      ])

module _ {D : Type 0} (pending : D → Pending) (seen : D → List ℕ) where
  abbrev On : List Moment → SeenStore D → Nodes → Type 0
  On life store gone = HasComeTo pending seen life store gone

  past : (store : SeenStore D) (i : ℕ) → IsStore pending seen store → store.config.n ≤ i → seat_at store i ≡ None
  past store i has l = get_or_past store.seats i None (let e = has.count in omega (arith, e, l))

  pub stores_open : StoresOpen pending seen
  stores_open life kept store has sound nothing up = record {
    lived = lived_alike store.config life kept (kept_in store kept) has (λ i block l. alike i block l (seat_at store i) refl);
    present = λ i is. present i is (seat_at store i) refl;
    sound = sound;
    remembered = subst (MayPrune (given_in store.config life)) (sym nothing) tt;
  }
    where
      alike : (i block : ℕ) → i < store.config.n → (seat : Option (Stored D)) → seat_at store i ≡ seat
          → versions_in (kept i) block ≡ versions_in (kept_at seat (kept i)) block
      alike i block l None e = refl
      alike i block l (Some n) e = elim (cases_Bool n.broken) [
        | inl broken ↦ sym (ap (λ (b : Bool). versions_in (cond b (kept i) n.node) block) broken)
        | inr whole ↦
            sym ((up i n l e (ap is_up e ∙ ap not whole)).0 block)
            ∙ sym (ap (λ (b : Bool). versions_in (cond b (kept i) n.node) block) whole)
      ]

      present : (i : ℕ) → is_up (seat_at store i) ≡ true → (seat : Option (Stored D)) → seat_at store i ≡ seat → IsPresent store.config life i
      present i is None e = absurd (let f : is_up (seat_at store i) ≡ false = ap is_up e in cc)
      present i is (Some n) e = elim (cases_lt i store.config.n) [
        | inl l ↦ (up i n l e is).1
        | inr p ↦ absurd (let f = past store i sound p in cc)
      ]

  pub stores_left : StoresAreLeft pending seen
  stores_left life store gone kept has found =
      lived_alike store.config life (kept_in store gone) kept has.lived
      (λ i block l. ap (λ (n : SeenNode). versions_in n block)
      (found_same pending seen store.config i (seat_at store i) (gone i) (kept i) (has.sound.sound i) (found i l)))

  -- ---- others sit on the seats

  -- where a node that isn't up keeps what it kept, that is said twice of no other one
  kept_twice : (seat : Option (Stored D)) (gone : SeenNode) → kept_at seat (kept_at seat gone) ≡ kept_at seat gone
  kept_twice None gone = refl
  kept_twice (Some n) gone = elim (cases_Bool n.broken) [
    | inl broken ↦ ap (λ (b : Bool). cond b (cond b gone n.node) n.node) broken ∙ sym (ap (λ (b : Bool). cond b gone n.node) broken)
    | inr whole ↦ ap (λ (b : Bool). cond b (cond b gone n.node) n.node) whole ∙ sym (ap (λ (b : Bool). cond b gone n.node) whole)
  ]

  -- the node of the seat keeps what it kept
  still_keeps : (c : Numbers) (i : ℕ) (old new : Option (Stored D)) (gone : SeenNode) → IsReseatedAt pending seen c i old new
      → kept_at new (kept_at old gone) ≡ kept_at old gone
  still_keeps c i old new gone (inl same) = ap (λ (s : Option (Stored D)). kept_at s (kept_at old gone)) same ∙ kept_twice old gone
  still_keeps c i old new gone (inr (inl other)) =
      let on = other.4 in
      ap (λ (s : Option (Stored D)). kept_at s (kept_at old gone)) other.3
      ∙ ap (λ (b : Bool). cond b (kept_at old gone) other.1.node) on.whole
      ∙ on.same
      ∙ sym (ap (λ (b : Bool). cond b gone other.0.node) on.up)
      ∙ sym (ap (λ (s : Option (Stored D)). kept_at s gone) other.2)
  still_keeps c i old new gone (inr (inr none)) = ap (λ (s : Option (Stored D)). kept_at s (kept_at old gone)) none

  -- one that is up is sound
  still_sound : (c : Numbers) (i : ℕ) (old new : Option (Stored D)) → ((n : Stored D) → old ≡ Some n → n.broken ≡ false → IsSound pending seen c i n)
      → IsReseatedAt pending seen c i old new → (n : Stored D) → new ≡ Some n → n.broken ≡ false → IsSound pending seen c i n
  still_sound c i old new sound (inl same) n there whole = sound n (sym same ∙ there) whole
  still_sound c i old new sound (inr (inl other)) n there whole =
      let same : other.1 ≡ n = (let e : new ≡ Some other.1 = other.3 in cc) in
      subst (IsSound pending seen c i) same other.4.sound
  still_sound c i old new sound (inr (inr none)) n there whole = absurd (let e : new ≡ None = none in cc)

  seat_down : (c : Numbers) (i : ℕ) (old new : Option (Stored D)) → IsReseatedAt pending seen c i old new → is_up new ≡ true → is_up old ≡ true
  seat_down c i old new (inl same) up = sym (ap is_up same) ∙ up
  seat_down c i old new (inr (inl other)) up = ap is_up other.2 ∙ ap not other.4.up
  seat_down c i old new (inr (inr none)) up = absurd (let f : is_up new ≡ false = ap is_up none in cc)

  reseated_on : (life : List Moment) (old new : SeenStore D) (gone : Nodes) → On life old gone → IsReseated pending seen old new
      → On life new (kept_in old gone)
  reseated_on life old new gone has is = record {
    lived = subst (λ (c : Numbers). HasLived c life (kept_in new (kept_in old gone))) (sym is.config)
        (lived_alike old.config life (kept_in old gone) (kept_in new (kept_in old gone)) has.lived
        (λ i block l. ap (λ (n : SeenNode). versions_in n block)
        (sym (still_keeps old.config i (seat_at old i) (seat_at new i) (gone i) (is.each i)))));
    present = λ i up. subst (λ (c : Numbers). IsPresent c life i) (sym is.config)
        (has.present i (seat_down old.config i (seat_at old i) (seat_at new i) (is.each i) up));
    sound = record {
      valid = subst IsValid (sym is.config) has.sound.valid;
      count = is.count ∙ has.sound.count ∙ sym (ap (λ (c : Numbers). c.n) is.config);
      sound = λ i n there whole. subst (λ (c : Numbers). IsSound pending seen c i n) (sym is.config)
          (still_sound old.config i (seat_at old i) (seat_at new i) (has.sound.sound i) (is.each i) n there whole);
    };
    remembered = subst (λ (c : Numbers). RemembersOnly (given_in c life) new) (sym is.config) (elim is.acknowledged [
      | inl same ↦ subst (MayPrune (given_in old.config life)) (sym same) has.remembered
      | inr none ↦ subst (MayPrune (given_in old.config life)) (sym none) tt
    ]);
  }

  -- ---- who is present stays so

  present_turn : (c : Numbers) (life : List Moment) (deed : Deed) (m : Moment) (i : ℕ) → IsTurnBy deed m.turn → IsPresent c life i
      → IsPresent c (life ++ m ∷ []) i
  present_turn c life (Performs ops told) m i is present block there =
      ap (λ (b : Standing). away_in b i) (standing_more c block life (m ∷ []))
      ∙ ap (λ (t : Turn). away_in (standing_after (standing_on c block life) (turn_on block t)) i) is.1
      ∙ away_batch c block (standing_on c block life) 1 i ops (told_each ops told) is.0 ∙ present block there
  present_turn c life (Prunes prunes) m i is present block there =
      ap (λ (b : Standing). away_in b i) (standing_more c block life (m ∷ []))
      ∙ ap (λ (t : Turn). away_in (standing_after (standing_on c block life) (turn_on block t)) i) is
      ∙ away_prune c block (standing_on c block life) i prunes ∙ present block there

  present_cut : (c : Numbers) (life : List Moment) (deed : Deed) (m : Moment) (i : ℕ) → IsTurnCut deed m.turn → IsPresent c life i
      → IsPresent c (life ++ m ∷ []) i
  present_cut c life (Performs ops told) m i is present = present_turn c life (Performs ops None) m i is present
  present_cut c life (Prunes prunes) m i is present = present_turn c life (Prunes prunes) m i is present

  pub calls_keep_present : CallsKeepPresent pending seen
  calls_keep_present c life [] [] i are present = subst (λ (l : List Moment). IsPresent c l i) (sym (append-nil life)) present
  calls_keep_present c life [] (call ∷ calls) i are present = absurd are
  calls_keep_present c life (m ∷ more) [] i are present = absurd are
  calls_keep_present c life (m ∷ more) (call ∷ calls) i are present =
      subst (λ (l : List Moment). IsPresent c l i) (append_assoc life (m ∷ []) more)
      (calls_keep_present c (life ++ m ∷ []) more calls i are.1 (present_turn c life call.deed m i are.0 present))

  module _ (most : D → ℕ) (moment : D → ℕ) (left_since : D → ℕ → List ℕ → Type 0) where
    abbrev Does : Deed → SeenStore D → SeenStore D → Type 0
    Does deed old new = HasDone pending seen most moment left_since deed old new

    -- ---- a call

    module _ (life : List Moment) (old : SeenStore D) (gone : Nodes) (has : On life old gone) (given : Acknowledged)
        (known : (block : ℕ) → given block ≡ given_in old.config life block) where
      abbrev c : Numbers
      c = old.config

      -- who answers is present on each block
      fewer : (block : ℕ) → block < c.blocks → (i : ℕ) → down_in old i ≡ false → away_in (standing_on c block life) i ≡ false
      fewer block there i up = has.present i (at (is_up (seat_at old i)) up) block there
        where
          at : (b : Bool) → not b ≡ false → b ≡ true
          at true e = refl
          at false e = absurd cc

      -- what a batch leaves
      performed : (ops : List _) (outcomes : List _) (stored : List (Option StampedValue)) (kept : Nodes) → IsBatch c ops
          → IsTold c (down_in old) ops outcomes stored (kept_in old gone) kept
          → HasLived c (life ++ record { turn = Performed ops outcomes stored; nodes = kept } ∷ []) kept
      performed ops outcomes stored kept is told =
          lived_more c life (kept_in old gone) (record { turn = Performed ops outcomes stored; nodes = kept }) has.lived
          (is, (lengths c (down_in old) 1 ops outcomes stored (kept_in old gone) kept told.done).0, (lengths c (down_in old) 1 ops outcomes stored (kept_in old gone) kept told.done).1)
          (λ block there now same. batch c block (standing_on c block life) (down_in old) (fewer block there) 1 ops outcomes stored now
          (kept_in old gone) kept same is.fit told.done (λ all i l. told.others block i all l))

      -- and prunes
      pruned_then : (prunes : List Prune) (kept : Nodes) → MayDo given (Prunes prunes) → ArePruned c prunes (kept_in old gone) kept
          → HasLived c (life ++ record { turn = Pruned prunes; nodes = kept } ∷ []) kept
      pruned_then prunes kept may are =
          lived_more c life (kept_in old gone) (record { turn = Pruned prunes; nodes = kept }) has.lived tt
          (λ block there now same. prune c block (standing_on c block life) given (sym (known block)) prunes now (kept_in old gone) kept same
          may are.there (λ all i l. are.others block i all l))

      -- a call that returned
      record IsOver (deed : Deed) (new : SeenStore D) (kept : Nodes) : Type 0 where
        pub then : Moment
        pub turn : IsTurnBy deed then.turn
        pub on : On (life ++ then ∷ []) new kept
        pub agrees : (block : ℕ) → given_after given deed block ≡ given_in new.config (life ++ then ∷ []) block

      come : (deed : Deed) (new : SeenStore D) (kept : Nodes) (m : Moment) → StaysStore pending seen old new
          → IsFound pending old new gone kept → IsTurnBy deed m.turn → RemembersOnly (given_in new.config (life ++ m ∷ [])) new
          → HasLived c (life ++ m ∷ []) kept → On (life ++ m ∷ []) new kept
      come deed new kept m stays found is remembered lived = record {
        lived = subst (λ (d : Numbers). HasLived d (life ++ m ∷ []) (kept_in new kept)) (sym stays.config)
            (lived_alike c (life ++ m ∷ []) kept (kept_in new kept) lived
            (subst (λ (d : Numbers). KeepAlike d kept (kept_in new kept)) stays.config
            (alike_back new.config (kept_in new kept) kept
            (found_is_kept pending seen old new gone kept stays.store stays.config (λ i down. ap is_up (stays.down i down) ∙ down) found))));
        present = λ i up. subst (λ (d : Numbers). IsPresent d (life ++ m ∷ []) i) (sym stays.config)
            (present_turn c life deed m i is (has.present i (was_up i up)));
        sound = stays.store;
        remembered = remembered;
      }
        where
          was_up : (i : ℕ) → is_up (seat_at new i) ≡ true → is_up (seat_at old i) ≡ true
          was_up i up = elim (cases_Bool (is_up (seat_at old i))) [
            | inl is_so ↦ is_so
            | inr down ↦ absurd (let f : is_up (seat_at new i) ≡ false = ap is_up (stays.down i down) ∙ down in cc)
          ]

      -- what is remembered then is acknowledged
      remembers : (deed : Deed) (new : SeenStore D) (other : Acknowledged) → Does deed old new → ((block : ℕ) → given_after given deed block ≡ other block)
          → RemembersOnly other new
      remembers deed new other done same =
          may_alike (given_after given deed) other new.acknowledged same
          (call_remembers pending seen most moment left_since given deed old new done
          (may_alike (given_in c life) given old.acknowledged (λ block. sym (known block)) has.remembered))

      call_over : (deed : Deed) (new : SeenStore D) (kept : Nodes) → MayDo given deed → Does deed old new → IsFound pending old new gone kept
          → IsOver deed new kept
      call_over (Performs ops told) new kept may done found =
          let outcomes = told_each ops told in
          let m : Moment = record { turn = Performed ops outcomes done.stored; nodes = kept } in
          let is = done.told gone kept found in
          let long = lengths c (down_in old) 1 ops outcomes done.stored (kept_in old gone) kept is.done in
          let agrees : (block : ℕ) → given_after given (Performs ops told) block ≡ given_in new.config (life ++ m ∷ []) block = λ block. (
          ap (given_on block ops outcomes) (known block)
          ∙ sym (given_batch c block (standing_on c block life) 1 ops outcomes done.stored long.0 long.1)
          ∙ sym (ap (λ (b : Standing). b.ended) (standing_more c block life (m ∷ [])))
          ∙ ap (λ (d : Numbers). given_in d (life ++ m ∷ []) block) (sym done.stays.config)) in
          record {
            then = m;
            turn = (done.stored, refl);
            on = come (Performs ops told) new kept m done.stays found (done.stored, refl)
                (remembers (Performs ops told) new (given_in new.config (life ++ m ∷ [])) done agrees)
                (performed ops outcomes done.stored kept done.batch is);
            agrees = agrees;
          }
      call_over (Prunes prunes) new kept may done found =
          let m : Moment = record { turn = Pruned prunes; nodes = kept } in
          let agrees : (block : ℕ) → given_after given (Prunes prunes) block ≡ given_in new.config (life ++ m ∷ []) block = λ block. (
          known block ∙ sym (given_prune c block (standing_on c block life) prunes)
          ∙ sym (ap (λ (b : Standing). b.ended) (standing_more c block life (m ∷ [])))
          ∙ ap (λ (d : Numbers). given_in d (life ++ m ∷ []) block) (sym done.stays.config)) in
          record {
            then = m;
            turn = refl;
            on = come (Prunes prunes) new kept m done.stays found refl
                (remembers (Prunes prunes) new (given_in new.config (life ++ m ∷ [])) done agrees)
                (pruned_then prunes kept may (done.done gone kept found));
            agrees = agrees;
          }

      -- a call that a crash cut off
      call_cut : (deed : Deed) (new : SeenStore D) (kept : Nodes) → MayDo given deed → Does deed old new
          → IsLeft moment left_since old new gone kept
          → (m : Moment) × IsTurnCut deed m.turn × HasLived c (life ++ m ∷ []) kept
          × ((i : ℕ) → IsPresent c life i → IsPresent c (life ++ m ∷ []) i)
      call_cut (Performs ops told) new kept may done left =
          let m : Moment = record { turn = Performed ops (untold ops) done.stored; nodes = kept } in (
            m,
            (done.stored, refl),
            performed ops (untold ops) done.stored kept done.batch (done.any_moment gone kept left),
            λ i present. present_cut c life (Performs ops told) m i (done.stored, refl) present,
          )
      call_cut (Prunes prunes) new kept may done left =
          let m : Moment = record { turn = Pruned prunes; nodes = kept } in (
            m,
            refl,
            pruned_then prunes kept may (done.any_moment gone kept left),
            λ i present. present_cut c life (Prunes prunes) m i refl present,
          )

    -- ---- steps

    abbrev GoesOn : List Moment → List (Step D) → SeenStore D → Nodes → Type 0
    GoesOn life steps new gone = (more : List Moment) × AreTurnsBy (calls_among steps) more × On (life ++ more) new gone

    steps_on : (life : List Moment) (steps : List (Step D)) (old new : SeenStore D) (gone : Nodes) (found : List Nodes) (given : Acknowledged)
        → On life old gone → ((block : ℕ) → given block ≡ given_in old.config life block)
        → StepsLead pending seen most moment left_since old steps new → MayDoAll given (calls_among steps)
        → AreFound pending old gone steps found → GoesOn life steps new (gone_after old gone steps found)
    steps_on life [] old new gone [] given has known led may are = (
      [],
      tt,
      subst (λ (l : List Moment). On l new gone) (sym (append-nil life)) (subst (λ (s : SeenStore D). On life s gone) (sym led) has),
    )
    steps_on life [] old new gone (kept ∷ found) given has known led may are = absurd are
    steps_on life (Called call ∷ steps) old new gone [] given has known led may are = absurd are
    steps_on life (Called call ∷ steps) old new gone (kept ∷ found) given has known led may are =
        let one = call_over life old gone has given known call.deed call.store kept may.0 led.0 are.0 in
        let rest = steps_on (life ++ one.then ∷ []) steps call.store new kept found (given_after given call.deed) one.on one.agrees led.1 may.1
        are.1 in (
          one.then ∷ rest.0,
          (one.turn, rest.1),
          subst (λ (l : List Moment). On l new (gone_after call.store kept steps found)) (append_assoc life (one.then ∷ []) rest.0) rest.2,
        )
    steps_on life (Reseated store ∷ steps) old new gone found given has known led may are =
        steps_on life steps store new (kept_in old gone) found given (reseated_on life old store gone has led.0)
        (λ block. known block ∙ ap (λ (d : Numbers). given_in d life block) (sym led.0.config)) led.1 may are

    pub steps_are_lives : StepsAreLives pending seen most moment left_since
    steps_are_lives life steps old new gone found has led may are =
        steps_on life steps old new gone found (given_in old.config life) has (λ block. refl) led may are

    pub crashes_are_lives : CrashesAreLives pending seen most moment left_since
    crashes_are_lives life call old gone kept has is may left =
        call_cut life old gone has (given_in old.config life) (λ block. refl) call.deed call.store kept may.0 is left
