-- After a block was settled, reads return what it held then, or what was written later, by the laws of the lives of blocks.
use Rattle.std.proofs.Common.{◌≡◌, ◌≢◌, ℕ, suc, ◌+◌, ◌<◌, ◌≤◌, Bool, true, false, cond, not, ◌&&◌, ◌||◌, eqb, List, [], ◌∷◌, ◌++◌, Option, refl, sym, ap, subst, ◌∙◌, inl, inr, arith, append_assoc}
use Rattle.std.specs.Prelude.{if◌then◌else◌, slice_get}
use Rattle.std.specs.declared.option.Option.TheVariants.{None, Some}
use Rattle.std.specs.List.{AllByRecursion, Contains}
use Rattle.std.proofs.lemmas.Bool.{cases_Bool, eqb-true}
use Rattle.std.proofs.lemmas.List.{map-append}
use Rattle.lists.proofs.lemmas.Members.{Contains-none, Contains-cons_cases, member_of_all}
use Rattle.quorum_rules.specs.Limits.{Numbers}
use Rattle.stamp_order.specs.declared.Stamp.{Stamp}
use Rattle.stamp_order.specs.Stamps.{◌≼◌}
use Rattle.wire_forms.specs.declared.op.Op.{Op}
use Rattle.wire_forms.specs.declared.op.Op.TheVariants.{Read as ReadOp, Write as WriteOp}
use Rattle.run_words.specs.declared.outcome.How.{How}
use Rattle.run_words.specs.declared.outcome.Outcome.TheVariants.{Gave}
use Rattle.protocol.specs.Count.{count, update}
use Rattle.protocol.specs.Messages.{Version}
use Rattle.protocol.specs.Nodes.{keeps}
use Rattle.protocol.specs.Instance.{setting, nobody}
use Rattle.protocol.specs.Laws.{InEachCluster}
use Rattle.protocol.specs.Operations.{Work, Outcome}
use Rattle.protocol.specs.Operations.Work.{Reads}
use Rattle.protocol.specs.Seen.{block_of, work_of}
use Rattle.protocol.proofs.lemmas.Counting.{count_within}
use Rattle.node_core.specs.Seen.{versions_in}
use Rattle.disk_model.specs.Crash.{Pending}
use Rattle.version_disk.specs.Stored.{Stored}
use Rattle.version_disk.specs.declared.prune.Prune.{Prune}
use Rattle.block_phases.specs.Executions.{StampedValue}
use Rattle.block_turns.specs.Turns.{Turn as BlockTurn, Moment as BlockMoment, Standing, first_standing, standing_after, standing_at, kept_at, written_in, to_write}
use Rattle.block_turns.specs.Turns.Turn.{Did, Left, Pruned as PrunedThere, Changed as ChangedThere, Gone as GoneThere, Back as BackThere, Lost as LostThere, Failed as FailedThere, Renewed as RenewedThere}
use Rattle.block_turns.specs.Lives.{Takes as TakesThere, TakesAll as TakesAllThere, IsLife as IsBlockLife, first_kept}
use Rattle.block_turns.specs.Strings.{NoClash}
use Rattle.block_turns.specs.Settled.{IsSettled, IsHeld, SettledLivesForget, HeldBlocksSettle as HeldSettleThere, HeldBlocksStay as HeldStayThere}
use Rattle.store_device.specs.Stores.{SeenStore, Nodes, kept_at as kept_seat, is_up, seat_at}
use Rattle.store_device.specs.Told.{kept_of}
use Rattle.store_device.specs.Sessions.{HasComeTo}
use Rattle.store_device.specs.Lives.{Turn, Moment, turn_of, batch_on, prune_on, turn_on, moment_on, life_on, IsWhole, WasTold, nodes_of, standing_on}
use Rattle.store_device.specs.Lives.Turn.{Performed, Pruned, Changed, Gone, Back, Lost, Damaged, Failed, Renewed}
use Rattle.store_device.specs.Settled.{LeavesAlone, IsSettledOn, SettledBlocksForget, IsHeldOn, HeldBlocksSettle, keeps_at, KeepsAtMost, AreDownBelow, StoresHold}
use Rattle.store_device.proofs.LifeDone.{batch_is, at_turn, on_moment}
use Rattle.store_device.proofs.LifeLaws.{calm}
use Rattle.store_device.proofs.LifeOnBlocks.{kept_end, kept_is, standing_append}

-- the later ones of turns that are whole
pub whole_after : (c : Numbers) (before after : List Moment) → AllByRecursion (λ (m : Moment). IsWhole c m.turn) (before ++ after)
    → AllByRecursion (λ (m : Moment). IsWhole c m.turn) after
whole_after c [] after all = all
whole_after c (m ∷ before) after all = whole_after c before after all.1

writes_of : (op : Op) (value : List ℕ) → to_write (work_of op) ≡ Some value → op ≡ WriteOp (block_of op) value
writes_of (ReadOp block) value e = absurd cc
writes_of (WriteOp block written) value e = let same : written ≡ value = cc in ap (λ (v : List ℕ). WriteOp block v) same

module _ (block : ℕ) (value : List ℕ) where
  -- a batch that writes the value on the block has that write
  record HasWrite (ops : List Op) (outcomes : List (Option Outcome)) : Type 0 where
    place : ℕ
    outcome : Option Outcome
    asked : slice_get ops place ≡ Some (WriteOp block value)
    told : slice_get outcomes place ≡ Some outcome

  written_one : (client : ℕ) (work : Work) (outcome : Option Outcome) (stored : Option StampedValue)
      → written_in (turn_of client work outcome stored) ≡ to_write work
  written_one client work None stored = refl
  written_one client work (Some outcome) stored = refl

  batch_wrote : (client : ℕ) (ops : List Op) (outcomes : List (Option Outcome)) (stored : List (Option StampedValue))
      → written_in (batch_on block client ops outcomes stored) ≡ Some value → HasWrite ops outcomes
  batch_wrote client [] outcomes stored e = absurd cc
  batch_wrote client (op ∷ ops) [] stored e = absurd cc
  batch_wrote client (op ∷ ops) (outcome ∷ outcomes) [] e = absurd cc
  batch_wrote client (op ∷ ops) (outcome ∷ outcomes) (given ∷ stored) e =
      at (eqb (block_of op) block) refl (batch_wrote (suc client) ops outcomes stored) e
    where
      at : (b : Bool) → eqb (block_of op) block ≡ b
          → (written_in (batch_on block (suc client) ops outcomes stored) ≡ Some value → HasWrite ops outcomes)
          → written_in (if b then turn_of client (work_of op) outcome given else batch_on block (suc client) ops outcomes stored) ≡ Some value
          → HasWrite (op ∷ ops) (outcome ∷ outcomes)
      at true same others is =
          let wrote : op ≡ WriteOp (block_of op) value = writes_of op value (sym (written_one client (work_of op) outcome given) ∙ is) in
          record {
            place = 0;
            outcome = outcome;
            asked = ap (λ (o : Op). Some o) (wrote ∙ ap (λ (b : ℕ). WriteOp b value) (eqb-true (block_of op) block same));
            told = refl;
          }
      at false other others is =
          let rest = others is in
          record { place = suc rest.place; outcome = rest.outcome; asked = rest.asked; told = rest.told }

  none_pruned : (prunes : List Prune) → written_in (prune_on block prunes) ≡ Some value → ⊥
  none_pruned [] e = absurd cc
  none_pruned (p ∷ prunes) e = at (eqb p.block block) (none_pruned prunes) e
    where
      at : (b : Bool) → (written_in (prune_on block prunes) ≡ Some value → ⊥)
          → written_in (if b then PrunedThere p.stamp else prune_on block prunes) ≡ Some value → ⊥
      at true others is = absurd cc
      at false others is = others is

  none_of : (turn : BlockTurn) (b : Bool) → written_in turn ≡ None → written_in (if b then turn else ChangedThere) ≡ Some value → ⊥
  none_of turn true none is = absurd cc
  none_of turn false none is = absurd cc

  -- a turn that writes the value on the block performed that write
  turn_wrote : (turn : Turn) → written_in (turn_on block turn) ≡ Some value
      → (ops : List Op) × (outcomes : List (Option Outcome)) × (stored : List (Option StampedValue)) × (turn ≡ Performed ops outcomes stored)
      × HasWrite ops outcomes
  turn_wrote (Performed ops outcomes stored) e = (ops, outcomes, stored, refl, batch_wrote 1 ops outcomes stored e)
  turn_wrote (Pruned prunes) e = absurd (none_pruned prunes e)
  turn_wrote Changed e = absurd cc
  turn_wrote (Gone node) e = absurd cc
  turn_wrote (Back node) e = absurd cc
  turn_wrote (Lost node) e = absurd cc
  turn_wrote (Damaged other node) e = absurd (none_of (LostThere node) (eqb other block) refl e)
  turn_wrote (Failed other node) e = absurd (none_of (FailedThere node) (eqb other block) refl e)
  turn_wrote (Renewed other node) e = absurd (none_of (RenewedThere node) (eqb other block) refl e)

  abbrev pub WasWritten : List Moment → Type 0
  WasWritten life = (j : ℕ) × (outcome : Option Outcome) × WasTold life j (WriteOp block value) outcome

  pub life_wrote : (life : List Moment) (w : BlockMoment) → Contains (life_on block life) w → written_in w.turn ≡ Some value → WasWritten life
  life_wrote [] w there e = absurd (Contains-none w there)
  life_wrote (m ∷ life) w there e =
      elim (Contains-cons_cases w (moment_on block m) (life_on block life) there) [
        | inl same ↦ here same
        | inr rest ↦ (
            let r = life_wrote life w rest e in
            let t = r.2 in
            (suc r.0, r.1, record { ops = t.ops; outcomes = t.outcomes; stored = t.stored; turn = t.turn; place = t.place; asked = t.asked; told = t.told }))
      ]
    where
      here : w ≡ moment_on block m → WasWritten (m ∷ life)
      here same =
          let t = turn_wrote m.turn (sym (ap (λ (x : BlockMoment). written_in x.turn) same) ∙ e) in (
            0,
            t.4.outcome,
            record {
              ops = t.0;
              outcomes = t.1;
              stored = t.2;
              turn = ap (λ (x : Turn). Some x) t.3;
              place = t.4.place;
              asked = t.4.asked;
              told = t.4.told;
            },
          )

module _ (c : Numbers) (block : ℕ) (there : block < c.blocks) (life : List Moment) (x : StampedValue) where
  -- what each node keeps of the block, said in two ways
  as_there : IsSettledOn c block life x → IsSettled (setting c) x (standing_on c block life) (kept_end c block life)
  as_there settled = record {
    earlier = settled.earlier;
    latest = settled.latest;
    kept_low = λ i v below honest found holds.
        settled.kept_low i v below honest found (subst (λ (vs : List Version). Contains vs v) (kept_is c block there life i below) holds);
    late_low = settled.late_low;
    asked_low = settled.asked_low;
  }

  from_there : IsSettled (setting c) x (standing_on c block life) (kept_end c block life) → IsSettledOn c block life x
  from_there settled = record {
    earlier = settled.earlier;
    latest = settled.latest;
    kept_low = λ i v below honest found holds.
        settled.kept_low i v below honest found (subst (λ (vs : List Version). Contains vs v) (sym (kept_is c block there life i below)) holds);
    late_low = settled.late_low;
    asked_low = settled.asked_low;
  }

-- a life in two parts is on the block a life in two parts
pub parted_on : (block : ℕ) (before after : List Moment) → life_on block (before ++ after) ≡ life_on block before ++ life_on block after
parted_on block before after = map-append (moment_on block) before after

module _ (c : Numbers) where
  -- a read that was told of is one of the block's life
  pub read_there : (after : List Moment) → AllByRecursion (λ (y : Moment). IsWhole c y.turn) after
      → (block k rounds : ℕ) (stamp : Stamp) (value : List ℕ) (how : How) → WasTold after k (ReadOp block) (Some (Gave stamp value how rounds))
      → (m : BlockMoment) × (client : ℕ) × Contains (life_on block after) m × (m.turn ≡ Did client Reads (Gave stamp value how rounds))
  read_there after all block k rounds stamp value how was =
      let m = at_turn after k (Performed was.ops was.outcomes was.stored) was.turn in
      let whole : IsWhole c (Performed was.ops was.outcomes was.stored) =
      subst (IsWhole c) m.2 (member_of_all (λ (y : Moment). IsWhole c y.turn) after all m.0 m.1) in
      let is = batch_is block 1 was.ops was.outcomes was.stored was.place (ReadOp block) (Gave stamp value how rounds) whole.0.apart whole.2
      was.asked was.told refl in
      (moment_on block m.0, is.0, on_moment block after m.0 m.1, ap (turn_on block) m.2 ∙ is.1)

  pub settled_forget : InEachCluster SettledLivesForget → SettledBlocksForget c
  settled_forget forget valid before after lived block there apart x settled k rounds stamp value how was =
      let m = read_there after (whole_after c before after lived.whole) block k rounds stamp value how was in
      elim (forget c nobody nobody (calm c valid) block (life_on block before) (life_on block after) x
      (subst (IsBlockLife (setting c) block) (parted_on block before after) (lived.each block there))
      (subst (NoClash (setting c)) (parted_on block before after) apart)
      (as_there c block there before x settled)
      m.0 m.1 rounds stamp value how m.2 m.3) [
        | inl same ↦ inl same
        | inr w ↦ inr (life_wrote block value after w.0 w.1 w.2)
      ]

-- ---- a stamp that is held

-- nothing is done on the block
alone_in_batch : (block client : ℕ) (ops : List Op) (outcomes : List (Option Outcome)) (stored : List (Option StampedValue))
    → AllByRecursion (λ (op : Op). block_of op ≢ block) ops → batch_on block client ops outcomes stored ≡ ChangedThere
alone_in_batch block client [] outcomes stored all = refl
alone_in_batch block client (op ∷ ops) [] stored all = refl
alone_in_batch block client (op ∷ ops) (outcome ∷ outcomes) [] all = refl
alone_in_batch block client (op ∷ ops) (outcome ∷ outcomes) (value ∷ stored) all =
    at (eqb (block_of op) block) refl (alone_in_batch block (suc client) ops outcomes stored all.1)
  where
    at : (b : Bool) → eqb (block_of op) block ≡ b → batch_on block (suc client) ops outcomes stored ≡ ChangedThere
        → (if b then turn_of client (work_of op) outcome value else batch_on block (suc client) ops outcomes stored) ≡ ChangedThere
    at true e rest = absurd (all.0 (eqb-true (block_of op) block e))
    at false e rest = rest

alone_in_prunes : (block : ℕ) (prunes : List Prune) → AllByRecursion (λ (p : Prune). p.block ≢ block) prunes → prune_on block prunes ≡ ChangedThere
alone_in_prunes block [] all = refl
alone_in_prunes block (p ∷ prunes) all = at (eqb p.block block) refl (alone_in_prunes block prunes all.1)
  where
    at : (b : Bool) → eqb p.block block ≡ b → prune_on block prunes ≡ ChangedThere
        → (if b then PrunedThere p.stamp else prune_on block prunes) ≡ ChangedThere
    at true e rest = absurd (all.0 (eqb-true p.block block e))
    at false e rest = rest

alone_is : (block : ℕ) (turn : Turn) → LeavesAlone block turn → turn_on block turn ≡ ChangedThere
alone_is block (Performed ops outcomes stored) alone = alone_in_batch block 1 ops outcomes stored alone
alone_is block (Pruned prunes) alone = alone_in_prunes block prunes alone
alone_is block Changed alone = absurd alone
alone_is block (Gone node) alone = absurd alone
alone_is block (Back node) alone = absurd alone
alone_is block (Lost node) alone = absurd alone
alone_is block (Damaged other node) alone = absurd alone
alone_is block (Failed other node) alone = absurd alone
alone_is block (Renewed other node) alone = absurd alone

module _ (c : Numbers) (block : ℕ) (stamp : Stamp) where
  abbrev Held : Standing → (ℕ → List Version) → Type 0
  Held b kept = IsHeld (setting c) stamp b kept

  -- it is held on while nothing is done on the block
  held_on : HeldStayThere (setting c) → (alone : List Moment) (b : Standing) (old : ℕ → List Version) (rest : List BlockMoment)
      → AllByRecursion (λ (one : Moment). LeavesAlone block one.turn) alone → TakesAllThere (setting c) block b old (life_on block alone ++ rest)
      → Held b old → Held (standing_at b (life_on block alone)) (kept_at old (life_on block alone))
  held_on stay [] b old rest all takes held = held
  held_on stay (m ∷ alone) b old rest all takes held =
      let is = alone_is block m.turn all.0 in
      let same : standing_after b (turn_on block m.turn) ≡ b = ap (λ (t : BlockTurn). standing_after b t) is in
      let now : Held b (λ i. kept_of m.nodes block i) =
      stay block b stamp old (kept_of m.nodes block) held
      (subst (λ (t : BlockTurn). TakesThere (setting c) block b old t (kept_of m.nodes block)) is takes.0) in
      held_on stay alone (standing_after b (turn_on block m.turn)) (kept_of m.nodes block) rest all.1 takes.1
      (subst (λ (s : Standing). Held s (kept_of m.nodes block)) (sym same) now)

-- what each node keeps of the block, said in two ways
module _ (c : Numbers) (block : ℕ) (there : block < c.blocks) (life : List Moment) (stamp : Stamp) where
  abbrev at_end : Standing
  at_end = standing_on c block life

  same_many : c.n ≤ count c.n (λ i. at_end.lies i || (not (at_end.lost i) && keeps (kept_of (nodes_of c life) block i) stamp)) + c.t
      → c.n ≤ count c.n (λ i. at_end.lies i || (not (at_end.lost i) && keeps (kept_end c block life i) stamp)) + c.t
  same_many many =
      let within = count_within c.n (λ i. at_end.lies i || (not (at_end.lost i) && keeps (kept_of (nodes_of c life) block i) stamp))
      (λ i. at_end.lies i || (not (at_end.lost i) && keeps (kept_end c block life i) stamp))
      (λ i l h. subst (λ (vs : List Version). at_end.lies i || (not (at_end.lost i) && keeps vs stamp) ≡ true) (sym (kept_is c block there life i l)) h) in
      omega (arith, within, many)

  pub held_there : IsHeldOn c block life stamp → IsHeld (setting c) stamp at_end (kept_end c block life)
  held_there held = record {
    kept_low = λ i v below honest found holds.
        held.kept_low i v below honest found (subst (λ (vs : List Version). Contains vs v) (kept_is c block there life i below) holds);
    late_low = held.late_low;
    many = same_many held.many;
  }

parts_of : (c : Numbers) (block : ℕ) (before after : List BlockMoment) (b : Standing) (old : ℕ → List Version)
    → TakesAllThere (setting c) block b old (before ++ after)
    → TakesAllThere (setting c) block (standing_at b before) (kept_at old before) after
parts_of c block [] after b old takes = takes
parts_of c block (m ∷ before) after b old takes = parts_of c block before after (standing_after b m.turn) m.kept takes.1

kept_on : (old : ℕ → List Version) (life more : List BlockMoment) → kept_at old (life ++ more) ≡ kept_at (kept_at old life) more
kept_on old [] more = refl
kept_on old (m ∷ life) more = kept_on m.kept life more

module _ (c : Numbers) where
  pub held_settle : InEachCluster HeldSettleThere → InEachCluster HeldStayThere → HeldBlocksSettle c
  held_settle settles stays valid before alone m lived block there apart stamp held quiet x told =
      from_there c block there (before ++ (alone ++ m ∷ [])) x
      (subst (λ (l : List BlockMoment). IsSettled (setting c) x (standing_at (first_standing (setting c)) l) (kept_at (first_kept (setting c)) l)) (sym whole)
      (settles c nobody nobody (calm c valid) block (life_on block before ++ life_on block alone) (moment_on block m) stamp
      (subst (IsBlockLife (setting c) block) whole (lived.each block there))
      (subst (NoClash (setting c)) whole apart)
      held_then did.0 (work_of told.op) told.outcome x (ap (turn_on block) told.is ∙ did.1) told.gave))
    where
      whole : life_on block (before ++ (alone ++ m ∷ [])) ≡ (life_on block before ++ life_on block alone) ++ moment_on block m ∷ []
      whole =
          map-append (moment_on block) before (alone ++ m ∷ [])
          ∙ ap (λ (l : List BlockMoment). life_on block before ++ l) (map-append (moment_on block) alone (m ∷ []))
          ∙ sym (append_assoc (life_on block before) (life_on block alone) (moment_on block m ∷ []))

      parts : life_on block (before ++ (alone ++ m ∷ [])) ≡ life_on block before ++ (life_on block alone ++ moment_on block m ∷ [])
      parts =
          map-append (moment_on block) before (alone ++ m ∷ [])
          ∙ ap (λ (l : List BlockMoment). life_on block before ++ l) (map-append (moment_on block) alone (m ∷ []))

      takes : TakesAllThere (setting c) block (standing_on c block before) (kept_end c block before) (life_on block alone ++ moment_on block m ∷ [])
      takes =
          parts_of c block (life_on block before) (life_on block alone ++ moment_on block m ∷ []) (first_standing (setting c)) (first_kept (setting c))
          (subst (TakesAllThere (setting c) block (first_standing (setting c)) (first_kept (setting c))) parts (lived.each block there).takes)

      held_first : IsHeld (setting c) stamp (standing_on c block before) (kept_end c block before)
      held_first = held_there c block there before stamp held

      held_then : IsHeld (setting c) stamp (standing_at (first_standing (setting c)) (life_on block before ++ life_on block alone))
          (kept_at (first_kept (setting c)) (life_on block before ++ life_on block alone))
      held_then =
          subst (λ (b : Standing). IsHeld (setting c) stamp b (kept_at (first_kept (setting c)) (life_on block before ++ life_on block alone)))
          (sym (standing_append (first_standing (setting c)) (life_on block before) (life_on block alone)))
          (subst (λ (kept : ℕ → List Version). IsHeld (setting c) stamp (standing_at (standing_on c block before) (life_on block alone)) kept)
          (sym (kept_on (first_kept (setting c)) (life_on block before) (life_on block alone)))
          (held_on c block stamp (stays c nobody nobody (calm c valid)) alone (standing_on c block before) (kept_end c block before) (moment_on block m ∷ []) quiet takes held_first))

      is_whole : IsWhole c (Performed told.ops told.outcomes told.stored)
      is_whole =
          subst (IsWhole c) told.is (whole_after c alone (m ∷ []) (whole_after c before (alone ++ m ∷ []) lived.whole)).0

      did : (other : ℕ) × (batch_on block 1 told.ops told.outcomes told.stored ≡ Did other (work_of told.op) told.outcome)
      did = batch_is block 1 told.ops told.outcomes told.stored told.place told.op told.outcome is_whole.0.apart is_whole.2 told.asked told.told told.on

-- ---- what a store keeps

-- a node may store something late only while it is out of reach
module _ (i : ℕ) where
  abbrev OnlyGone : Standing → Type 0
  OnlyGone b = b.gone i ≡ false → b.late i ≡ []

  on_one : (gone : ℕ → Bool) (late : ℕ → List StampedValue) (node : ℕ) (xs : List StampedValue) (is : Bool) → (is ≡ false → xs ≡ [])
      → (gone i ≡ false → late i ≡ []) → update gone node is i ≡ false → update late node xs i ≡ []
  on_one gone late node xs is here there e = at (eqb i node) e
    where
      at : (t : Bool) → cond t is (gone i) ≡ false → cond t xs (late i) ≡ []
      at true f = here f
      at false f = there f

  after_turn : (b : Standing) (turn : BlockTurn) → OnlyGone b → OnlyGone (standing_after b turn)
  after_turn b (Did client work outcome) h = h
  after_turn b (Left client work stored) h = h
  after_turn b (PrunedThere stamp) h = h
  after_turn b ChangedThere h = h
  after_turn b (GoneThere node) h = on_one b.gone b.late node _ true (λ e. absurd cc) h
  after_turn b (BackThere node) h = on_one b.gone b.late node [] false (λ e. refl) h
  after_turn b (LostThere node) h = on_one b.gone b.late node [] false (λ e. refl) h
  after_turn b (FailedThere node) h = h
  after_turn b (RenewedThere node) h = on_one b.gone b.late node [] false (λ e. refl) h

  only_gone : (b : Standing) (life : List BlockMoment) → OnlyGone b → OnlyGone (standing_at b life)
  only_gone b [] h = h
  only_gone b (m ∷ life) h = only_gone (standing_after b m.turn) life (after_turn b m.turn h)

both_false : (gone lost : Bool) → gone || lost ≡ false → (gone ≡ false) × (lost ≡ false)
both_false true lost e = absurd cc
both_false false lost e = (refl, e)

module _ {D : Type 0} (pending : D → Pending) (seen : D → List ℕ) (life : List Moment) (store : SeenStore D) (gone : Nodes)
    (has : HasComeTo pending seen life store gone) (block : ℕ) (there : block < store.config.blocks) (stamp : Stamp)
    (most : KeepsAtMost store block stamp) (down : AreDownBelow life store gone block stamp) where
  abbrev c : Numbers
  c = store.config

  abbrev b : Standing
  b = standing_on c block life

  -- what the node of a seat keeps, at the end of the life
  kept_there : (i : ℕ) → i < c.n → kept_of (nodes_of c life) block i ≡ versions_in (kept_seat (seat_at store i) (gone i)) block
  kept_there i below = has.lived.alike i block below

  there_if_up : (i : ℕ) → is_up (seat_at store i) ≡ true → (b.gone i ≡ false) × (b.lost i ≡ false)
  there_if_up i up = both_false (b.gone i) (b.lost i) (has.present i up block there)

  low : (i : ℕ) (v : Version) → i < c.n → b.lies i ≡ false → b.lost i ≡ false → Contains (kept_of (nodes_of c life) block i) v → v.stamp ≼ stamp
  low i v below upright here holds =
      at (seat_at store i) refl (subst (λ (vs : List Version). Contains vs v) (kept_there i below) holds)
    where
      away : is_up (seat_at store i) ≡ false → Contains (versions_in (gone i) block) v → v.stamp ≼ stamp
      away is k = elim (down.low i below is) [
        | inl lies ↦ absurd (let e : true ≡ false = sym lies ∙ upright in cc)
        | inr rest ↦ elim rest [ inl lost ↦ absurd (let e : true ≡ false = sym lost ∙ here in cc) | inr low ↦ low v k ]
      ]

      at : (seat : Option (Stored D)) → seat_at store i ≡ seat → Contains (versions_in (kept_seat seat (gone i)) block) v → v.stamp ≼ stamp
      at None e k = away (ap is_up e) k
      at (Some n) e k = elim (cases_Bool n.broken) [
        | inl broken ↦ away (ap is_up e ∙ ap not broken)
            (subst (λ (t : Bool). Contains (versions_in (cond t (gone i) n.node) block) v) broken k)
        | inr whole ↦ most.low i n v below e whole (subst (λ (t : Bool). Contains (versions_in (cond t (gone i) n.node) block) v) whole k)
      ]

  late : (i : ℕ) (y : StampedValue) → Contains (b.late i) y → y.stamp ≼ stamp
  late i y k = elim (cases_Bool (is_up (seat_at store i))) [
    | inl up ↦ absurd (Contains-none y (subst (λ (xs : List StampedValue). Contains xs y)
        (only_gone i (first_standing (setting c)) (life_on block life) (λ e. refl) (there_if_up i up).0) k))
    | inr is ↦ down.late i y is k
  ]

  counted : (lies lost keeps : Bool) → lost ≡ false → keeps ≡ true → lies || (not lost && keeps) ≡ true
  counted true lost keeps e k = refl
  counted false lost keeps e k = ap (λ (t : Bool). not t && keeps) e ∙ k

  counts : (i : ℕ) → i < c.n → keeps_at block stamp (seat_at store i) ≡ true
      → b.lies i || (not (b.lost i) && keeps (kept_of (nodes_of c life) block i) stamp) ≡ true
  counts i below k = at (seat_at store i) refl k
    where
      at : (seat : Option (Stored D)) → seat_at store i ≡ seat → keeps_at block stamp seat ≡ true
          → b.lies i || (not (b.lost i) && keeps (kept_of (nodes_of c life) block i) stamp) ≡ true
      at None e k = absurd cc
      at (Some n) e k = elim (cases_Bool n.broken) [
        | inl broken ↦ absurd (let f : false ≡ true = sym (ap (λ (t : Bool). not t && keeps (versions_in n.node block) stamp) broken) ∙ k in cc)
        | inr whole ↦ (
            let up : is_up (seat_at store i) ≡ true = ap is_up e ∙ ap not whole in
            let kept : keeps (versions_in n.node block) stamp ≡ true = sym (ap (λ (t : Bool). not t && keeps (versions_in n.node block) stamp) whole) ∙ k in
            let same : kept_of (nodes_of c life) block i ≡ versions_in n.node block =
            kept_there i below ∙ ap (λ (s : Option (Stored D)). versions_in (kept_seat s (gone i)) block) e
            ∙ ap (λ (t : Bool). versions_in (cond t (gone i) n.node) block) whole in
            counted (b.lies i) (b.lost i) (keeps (kept_of (nodes_of c life) block i) stamp) (there_if_up i up).1
            (ap (λ (vs : List Version). keeps vs stamp) same ∙ kept))
      ]

  held_now : IsHeldOn c block life stamp
  held_now = record {
    kept_low = low;
    late_low = late;
    many =
        (let within = count_within c.n (λ i. keeps_at block stamp (seat_at store i))
        (λ i. b.lies i || (not (b.lost i) && keeps (kept_of (nodes_of c life) block i) stamp)) counts in
        omega (arith, within, most.many));
  }

pub stores_hold : {D : Type 0} (pending : D → Pending) (seen : D → List ℕ) → StoresHold pending seen
stores_hold pending seen life store gone has block there stamp most down = held_now pending seen life store gone has block there stamp most down
